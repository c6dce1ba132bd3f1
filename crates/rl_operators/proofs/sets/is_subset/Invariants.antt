use Rattle.std.proofs.Common.{◌≡◌, take, true}
use Rattle.rl_operators.specs.Sets.{is_subset}
use Rattle.rl_operators.proofs.sets.is_subset.Given as goal

abbrev pub invariant-loop-x : goal.invariant-loop-x
invariant-loop-x l = is_subset (take l.x-index l.a) l.b ≡ true
