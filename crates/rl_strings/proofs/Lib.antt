mod JoiningLemmas
mod NumbersLemmas
mod PiecesLemmas
mod SearchLemmas
mod TrimmingLemmas
