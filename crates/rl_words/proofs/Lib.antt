pub mod Command
pub mod Forms
pub mod Numbers
pub mod Rows
pub mod Simulation
pub mod State
pub mod Turns
