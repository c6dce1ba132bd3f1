use Rattle.std.proofs.Common.{◌≡◌, ℕ, ◌+◌}
use Rattle.rl_phrase.specs.Firsts.{first_of_parts}
use Rattle.rl_phrase.proofs.firsts.first_of_parts.Given as goal

abbrev pub invariant-loop-left : goal.invariant-loop-left
invariant-loop-left l = (done : ℕ) × (l.count ≡ l.left + done) × (l.found ≡ first_of_parts l.firsts (l.first + l.left) done)

abbrev pub decreases-loop-left : goal.decreases-loop-left
decreases-loop-left l = l.left
