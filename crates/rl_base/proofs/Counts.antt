-- Counts of faults over several calls.
use Rattle.std.proofs.Common.{ℕ, ◌≤◌, arith, inl, inr}
use Rattle.rl_base.specs.Faults.{Rose}

-- a rise since a later moment is one since an earlier moment
pub Rose-since : (before between after : ℕ) → before ≤ between → Rose between after → Rose before after
Rose-since before between after grows rise = elim rise [ inl more ↦ inl (omega arith) | inr last ↦ inr last ]
