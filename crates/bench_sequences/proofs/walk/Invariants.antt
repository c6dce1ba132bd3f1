use Rattle.std.proofs.Common.{◌≤◌, ◌-◌, length}
use Rattle.bench_sequences.proofs.walk.Given as goal

abbrev pub invariant-loop-at : goal.invariant-loop-at
invariant-loop-at l = l.at ≤ length l.all

abbrev pub decreases-loop-at : goal.decreases-loop-at
decreases-loop-at l = length l.all - l.at
