pub mod ArithmeticLemmas
pub mod ListLemmas
pub mod PairLemmas
pub mod ProductLemmas
pub mod SetLemmas
