use Rattle.std.proofs.Common.{◌<◌, ◌≤◌, ◌-◌, length, slice_index}
use Rattle.rl_value.proofs.kids.first_after.Given as goal

abbrev pub invariant-loop-low : goal.invariant-loop-low
invariant-loop-low l =
    record {
      ordered : l.low ≤ l.high;
      bound : l.high < length l.ends;
      after : l.i < slice_index l.ends l.high;
      before : 0 < l.low → slice_index l.ends (l.low - 1) ≤ l.i;
    }

abbrev pub decreases-loop-low : goal.decreases-loop-low
decreases-loop-low l = l.high - l.low
