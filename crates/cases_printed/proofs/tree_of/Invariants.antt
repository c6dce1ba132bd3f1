use Rattle.std.proofs.Common.{ℕ, ◌<◌, slice_index_or}
use Rattle.rl_value.specs.Plain.{Plain, IsPart}
use Rattle.cases_printed.proofs.tree_of.Given as goal

abbrev pub invariant-loop-part : goal.invariant-loop-part
invariant-loop-part l = (k : ℕ) (d : Plain) → k < l.part-index → IsPart (slice_index_or l.part-items k d)
