use Rattle.std.proofs.Common.{◌≡◌, take, map}
use Rattle.rl_relation.specs.Pairs.{first_of}
use Rattle.rl_relation.proofs.projections.firsts.Given as goal

abbrev pub invariant-loop-pair : goal.invariant-loop-pair
invariant-loop-pair l = l.found.items ≡ map first_of (take l.pair-index l.pairs)
