-- Which types there are, which are below which, and which values have them.
pub mod PlainType
pub mod Declarations
pub mod Exceptions
pub mod Program
pub mod Types
pub mod Matchable
-- Inside: how declarations are kept, and how types are joined.
pub mod Joining
pub mod View
pub mod Codes
