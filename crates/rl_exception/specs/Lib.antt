-- How operations end.
pub mod Answer
pub mod Exceptions
