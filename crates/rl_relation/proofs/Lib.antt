pub mod ClosureLemmas
pub mod LargeLemmas
pub mod MemberLemmas
pub mod PairLemmas
pub mod PathLemmas
