pub mod Tokens
pub mod Phrases
pub mod Texts
pub mod Numbers
