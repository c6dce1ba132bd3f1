use Rattle.std.proofs.Common.{◌≡◌, drop}
use Rattle.rl_operators.specs.Lists.{without_each}
use Rattle.rl_operators.proofs.lists.take_out_each.Given as goal

abbrev pub invariant-loop-x : goal.invariant-loop-x
invariant-loop-x l = without_each (drop l.x-index l.xs) l.values.items ≡ without_each l.xs l.initial.values.items
