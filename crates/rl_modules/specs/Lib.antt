-- Which modules are loaded, which files are asked for, and what holds of loaded modules in any case.
pub mod Path
pub mod Load
pub mod Complete
-- Inside: what is left to do while modules are loaded.
pub mod Unfinished
