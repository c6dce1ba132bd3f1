-- What the library functions over texts give.
pub mod Joining
pub mod Numbers
pub mod Parts
pub mod Pieces
pub mod Search
pub mod Trimming
