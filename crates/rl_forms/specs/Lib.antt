-- What a part of a phrase is.
pub mod Part
pub mod Words
pub mod Names
pub mod Expressions
pub mod Patterns
pub mod Statements
pub mod Declarations
pub mod Productions
