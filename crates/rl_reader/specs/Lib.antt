-- What the bytes of a file are as a module.
pub mod Source
pub mod Token
pub mod Node
pub mod Phrase
pub mod Read
