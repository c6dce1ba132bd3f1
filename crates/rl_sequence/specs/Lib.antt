-- What the parts of a sequence hold, and how full they are.
pub mod Parts
pub mod Whole
-- Inside: a sequence as a type that may hold the type that holds it.
pub mod formers
