-- What operations on relations give.
pub mod Pairs
pub mod Relations
pub mod Closures
pub mod Laws
