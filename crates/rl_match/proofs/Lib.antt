pub mod Levels
pub mod Equations
pub mod Kids
mod Outside
