use Rattle.std.proofs.Common.{◌≡◌, drop}
use Rattle.rl_collections.specs.Sums.{numbers_in}
use Rattle.rl_collections.proofs.SumsLemmas.{joined}
use Rattle.rl_collections.proofs.sums.numbers_in.Given as goal

abbrev pub invariant-loop-item : goal.invariant-loop-item
invariant-loop-item l = joined l.numbers.items (numbers_in (drop l.item-index l.items)) ≡ numbers_in l.items
