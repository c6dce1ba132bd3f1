use Rattle.std.proofs.Common.{◌≡◌, ◌≤◌, ◌++◌, take}
use Rattle.rl_value.specs.Levels.{levels_text, LeavesRoom, levels_weight}
use Rattle.rl_value.proofs.leaves.next_byte.Given as goal

abbrev pub invariant-loop-at : goal.invariant-loop-at
invariant-loop-at l =
    record {
      full : l.at.depth ≤ 2000;
      room : LeavesRoom 0 (take l.at.depth l.at.levels);
      text : l.at.leaf.now ++ levels_text (take l.at.depth l.at.levels) ≡ l.fn.at.leaf.now ++ levels_text (take l.fn.at.depth l.fn.at.levels);
    }

abbrev pub decreases-loop-at : goal.decreases-loop-at
decreases-loop-at l = levels_weight (take l.at.depth l.at.levels)
