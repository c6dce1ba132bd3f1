use Rattle.std.proofs.Common.{◌≡◌, take, map}
use Rattle.rl_relation.specs.Pairs.{swapped}
use Rattle.rl_relation.proofs.projections.swaps.Given as goal

abbrev pub invariant-loop-pair : goal.invariant-loop-pair
invariant-loop-pair l = l.found.items ≡ map swapped (take l.pair-index l.pairs)
