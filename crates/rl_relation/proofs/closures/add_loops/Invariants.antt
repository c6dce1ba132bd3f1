use Rattle.std.proofs.Common.{◌≡◌, ◌++◌, take, map}
use Rattle.rl_relation.specs.Pairs.{pair_of}
use Rattle.rl_relation.proofs.closures.add_loops.Given as goal

abbrev pub invariant-loop-value : goal.invariant-loop-value
invariant-loop-value l = l.found.items ≡ l.initial.found.items ++ map (λ x. pair_of x x) (take l.value-index l.values)
