use Rattle.std.proofs.Common.{◌≡◌, take}
use Rattle.rl_operators.specs.Sets.{all_pairs}
use Rattle.rl_operators.proofs.products.pairs.Given as goal

abbrev pub invariant-loop-x : goal.invariant-loop-x
invariant-loop-x l = l.pairs.items ≡ all_pairs (take l.x-index l.xs) l.ys
