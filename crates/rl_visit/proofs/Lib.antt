mod Steps
mod Bounds
mod Breaks
mod Fields
