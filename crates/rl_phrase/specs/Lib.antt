-- What `phrase` means.
pub mod Terminals
pub mod Tree
pub mod Phr
pub mod LeftRecursion
pub mod Certificate
pub mod View
pub mod Depth
pub mod Answer
-- Inside: how it is found.
pub mod Firsts
pub mod Lookahead
pub mod Steps
pub mod Machine
pub mod Arena
pub mod Memory
pub mod Unfold
pub mod State
pub mod Awaits
pub mod Stands
pub mod Search
pub mod Build
