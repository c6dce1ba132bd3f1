use Rattle.std.proofs.Common.{◌≡◌, length}
use Rattle.rl_base.specs.Lines.{AreCounts}
use Rattle.rl_base.proofs.text.counts.Given as goal

-- the blocks so far are counted
abbrev pub invariant-loop-block : goal.invariant-loop-block
invariant-loop-block l = record {
  length_is : length l.counts.items ≡ l.block;
  counted : AreCounts l.numbers l.counts.items;
}
