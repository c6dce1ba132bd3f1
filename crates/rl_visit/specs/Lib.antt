-- Walks over the nodes of a value by the six strategies.
pub mod Walk
-- What holds of them.
pub mod Laws
-- Small values, walked.
pub mod Examples
