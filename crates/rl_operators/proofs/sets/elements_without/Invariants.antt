use Rattle.std.proofs.Common.{◌≡◌, take}
use Rattle.rl_operators.specs.Sets.{without_all}
use Rattle.rl_operators.proofs.sets.elements_without.Given as goal

abbrev pub invariant-loop-x : goal.invariant-loop-x
invariant-loop-x l = l.elements.items ≡ without_all (take l.x-index l.a) l.b
