-- What phrases of expressions say.
pub mod Pair
pub mod Operation
pub mod Suffix
pub mod Chain
pub mod Literal
pub mod Argument
pub mod Visit
pub mod Parenthesized
pub mod Collection
pub mod Rule
