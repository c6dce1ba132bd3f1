use Rattle.std.proofs.Common.{◌≡◌, drop, pos}
use Rattle.rl_collections.specs.Sums.{added}
use Rattle.rl_collections.proofs.sums.added.Given as goal

abbrev pub invariant-loop-number : goal.invariant-loop-number
invariant-loop-number l = added l.total (drop l.number-index l.numbers) ≡ added (pos 0) l.numbers
