-- What phrases of statements say.
pub mod RightSide
pub mod Assignment
pub mod Case
pub mod Control
pub mod Trying
pub mod Simple
pub mod Rule
