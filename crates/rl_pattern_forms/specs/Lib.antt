-- Patterns, from what the parts of their phrases say.
pub mod Literals
pub mod Elements
pub mod Plain
pub mod Named
pub mod Rule
