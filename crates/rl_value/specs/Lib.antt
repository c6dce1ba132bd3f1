-- What values are, and what is asked of them.
pub mod Plain
pub mod Order
pub mod Rising
pub mod Kids
pub mod Built
pub mod Entries
pub mod Readers
pub mod Opened
pub mod Laws
-- Inside: how values are kept, and how proofs go through them.
pub mod View
pub mod Rose
pub mod Levels
pub mod Falls
