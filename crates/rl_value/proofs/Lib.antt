pub mod EntryLemmas
pub mod KidsLemmas
pub mod LevelsLemmas
pub mod OrderLemmas
pub mod RenewLemmas
pub mod RisingLemmas
pub mod SameLemmas
