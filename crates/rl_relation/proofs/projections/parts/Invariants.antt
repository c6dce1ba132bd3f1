use Rattle.std.proofs.Common.{◌≡◌, take}
use Rattle.rl_relation.specs.Pairs.{parts_in}
use Rattle.rl_relation.proofs.projections.parts.Given as goal

abbrev pub invariant-loop-pair : goal.invariant-loop-pair
invariant-loop-pair l = l.found.items ≡ parts_in (take l.pair-index l.pairs)
