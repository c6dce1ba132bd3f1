use Rattle.std.proofs.Common.{◌≡◌, ◌≤◌, ◌++◌, take, length}
use Rattle.rl_value.specs.Order.{bytes_cmp}
use Rattle.rl_value.specs.Plain.{plains_of, plains_text}
use Rattle.rl_value.specs.Levels.{levels_text, LeavesRoom}
use Rattle.rl_value.proofs.leaves.compare_texts.Given as goal

abbrev pub invariant-loop-x : goal.invariant-loop-x
invariant-loop-x l =
    record {
      x_full : l.x.depth ≤ 2000;
      y_full : l.y.depth ≤ 2000;
      x_room : LeavesRoom 0 (take l.x.depth l.x.levels);
      y_room : LeavesRoom 0 (take l.y.depth l.y.levels);
      order : bytes_cmp (l.x.leaf.now ++ levels_text (take l.x.depth l.x.levels)) (l.y.leaf.now ++ levels_text (take l.y.depth l.y.levels))
          ≡ bytes_cmp (plains_text (plains_of l.fn.a)) (plains_text (plains_of l.fn.b));
    }

abbrev pub decreases-loop-x : goal.decreases-loop-x
decreases-loop-x l = length (l.x.leaf.now ++ levels_text (take l.x.depth l.x.levels))
