-- Syntax definitions, from what the parts of their phrases say.
pub mod Atom
pub mod Symbol
pub mod Production
pub mod Definition
pub mod Rule
