-- What the words of the command mean, and what a run leaves behind.
pub mod Status
pub mod Lines
pub mod Meaning
pub mod Headline
pub mod Outside
