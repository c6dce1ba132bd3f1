use Rattle.std.proofs.Common.{ℕ, ◌<◌, slice_index_or}
use Rattle.rl_value.specs.Plain.{Plain, IsTree}
use Rattle.rl_value.proofs.tests.renewed.Given as goal

abbrev pub invariant-loop-kid : goal.invariant-loop-kid
invariant-loop-kid l = (k : ℕ) (d : Plain) → k < l.kid-index → IsTree (slice_index_or l.kid-items k d)
