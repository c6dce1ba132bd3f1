pub mod Counts
pub mod Examples
pub mod FilesAt
pub mod Growth
pub mod LinesLemmas
