pub mod ListLemmas
pub mod NumberLemmas
pub mod PlacedLemmas
pub mod QuotedLemmas
pub mod ScanLemmas
pub mod TableLemmas
pub mod WordLemmas
pub mod KindLemmas
