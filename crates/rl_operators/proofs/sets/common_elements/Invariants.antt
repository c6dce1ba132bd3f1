use Rattle.std.proofs.Common.{◌≡◌, take}
use Rattle.rl_operators.specs.Sets.{common}
use Rattle.rl_operators.proofs.sets.common_elements.Given as goal

abbrev pub invariant-loop-x : goal.invariant-loop-x
invariant-loop-x l = l.elements.items ≡ common (take l.x-index l.a) l.b
