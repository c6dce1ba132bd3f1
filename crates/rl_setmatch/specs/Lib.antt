-- The divisions of the elements of a set among the stars of a pattern.
pub mod Divisions
-- What holds of them.
pub mod Laws
