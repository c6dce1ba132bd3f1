use Rattle.std.proofs.Common.{◌≡◌, take}
use Rattle.rl_relation.specs.Pairs.{kept}
use Rattle.rl_relation.proofs.restrictions.kept.Given as goal

abbrev pub invariant-loop-pair : goal.invariant-loop-pair
invariant-loop-pair l = l.found.items ≡ kept l.side l.wanted l.elements (take l.pair-index l.pairs)
