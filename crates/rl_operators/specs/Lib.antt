-- What operators give.
pub mod Apply
pub mod Arithmetic
pub mod Comparison
pub mod Lists
pub mod Locations
pub mod Logic
pub mod Maps
pub mod Membership
pub mod Operators
pub mod Sets
