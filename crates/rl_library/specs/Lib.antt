-- What library functions give, by their names.
pub mod Domains
pub mod Library
