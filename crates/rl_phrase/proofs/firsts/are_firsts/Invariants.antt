use Rattle.std.proofs.Common.{◌≡◌, ℕ, ◌-◌, ◌<◌, ◌≤◌, true, length}
use Rattle.rl_phrase.specs.Firsts.{is_covered}
use Rattle.rl_phrase.proofs.firsts.are_firsts.Given as goal

abbrev pub invariant-loop-row : goal.invariant-loop-row
invariant-loop-row l = record {
  within : l.row ≤ length l.firsts;
  covered : (row : ℕ) → row < l.row → is_covered l.rules l.firsts row ≡ true;
}

abbrev pub decreases-loop-row : goal.decreases-loop-row
decreases-loop-row l = length l.firsts - l.row
