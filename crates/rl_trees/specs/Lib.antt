-- What the library functions over syntax trees give.
pub mod Rows
pub mod Order
pub mod Walk
pub mod Standing
pub mod Counts
