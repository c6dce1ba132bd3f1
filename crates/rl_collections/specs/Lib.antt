-- What the library functions over lists, sets and maps give.
pub mod Ends
pub mod Extremes
pub mod Lists
pub mod Maps
pub mod Repeats
pub mod Sizes
pub mod Sorting
pub mod Sums
