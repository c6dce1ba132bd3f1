use Rattle.std.proofs.Common.{◌-◌, ℕ, ◌≤◌, ◌<◌, length, slice_index}
use Rattle.rl_base.proofs.text.count_between.Given as goal

-- the numbers below `low` are at most the bound, and those from `high` on are above it
abbrev pub invariant-loop-low : goal.invariant-loop-low
invariant-loop-low l = record {
  in_order : l.low ≤ l.high;
  within : l.high ≤ length l.numbers;
  below : (k : ℕ) → k < l.low → slice_index l.numbers k ≤ l.bound;
  above : (k : ℕ) → l.high ≤ k → k < length l.numbers → l.bound < slice_index l.numbers k;
}

abbrev pub decreases-loop-low : goal.decreases-loop-low
decreases-loop-low l = l.high - l.low
