-- What the words of the command ask for.
pub mod Words
-- Inside: how `clap` reads them.
pub mod Reader
