pub mod Laws
pub mod PreparationLemmas
pub mod Growth
pub mod StepLemmas
pub mod Whole
