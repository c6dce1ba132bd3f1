pub mod FlatLemmas
pub mod FullLemmas
pub mod PartsLemmas
pub mod ChildLemmas
pub mod LevelLemmas
pub mod WholeLemmas
