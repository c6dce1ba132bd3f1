-- What a module sees of others, and the modules that are built in.
pub mod BuiltIn
pub mod Visible
-- Small modules, and what they see.
pub mod Examples
