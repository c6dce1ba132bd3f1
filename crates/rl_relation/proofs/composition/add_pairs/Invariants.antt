use Rattle.std.proofs.Common.{◌≡◌, ◌++◌, take, map}
use Rattle.rl_relation.specs.Pairs.{pair_of}
use Rattle.rl_relation.proofs.composition.add_pairs.Given as goal

abbrev pub invariant-loop-y : goal.invariant-loop-y
invariant-loop-y l = l.pairs.items ≡ l.initial.pairs.items ++ map (pair_of l.x) (take l.y-index l.ys)
