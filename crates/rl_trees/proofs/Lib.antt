mod OrderLemmas
mod RowsLemmas
mod WalkLemmas
