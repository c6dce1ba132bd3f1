-- What the tokens of literals stand for.
pub mod Escape
pub mod Strings
pub mod Words
pub mod Integer
pub mod Location
pub mod Class
pub mod Fragment
