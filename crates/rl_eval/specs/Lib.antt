-- Which programs run, and what they do.
pub mod Preparation
pub mod Rule
pub mod Rules
pub mod Evaluation
pub mod Derivation
-- Inside: the frames of the machine, and how its loop ends.
pub mod Frames
pub mod Ending
