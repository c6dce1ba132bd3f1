-- What the parts of values are.
pub mod Operands
pub mod Rows
pub mod Elements
pub mod Slices
pub mod Ranges
pub mod Fields
pub mod Changes
