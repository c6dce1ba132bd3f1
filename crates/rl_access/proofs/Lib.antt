pub mod RowLemmas
pub mod EntryOrder
pub mod SliceLemmas
pub mod StepLemmas
