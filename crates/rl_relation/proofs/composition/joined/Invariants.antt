use Rattle.std.proofs.Common.{◌≡◌, take}
use Rattle.rl_relation.specs.Pairs.{joined}
use Rattle.rl_relation.proofs.composition.joined.Given as goal

abbrev pub invariant-loop-pair : goal.invariant-loop-pair
invariant-loop-pair l = l.found.items ≡ joined (take l.pair-index l.left) l.right
