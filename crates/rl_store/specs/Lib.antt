-- What the store holds, and that it is one that copies.
pub mod Scope
pub mod Store
pub mod Copies
-- Inside: the journal and the rooms of variables.
pub mod View
pub mod Journal
pub mod Rooms
pub mod Slots
