-- How values are printed.
pub mod Printed
pub mod Escape
