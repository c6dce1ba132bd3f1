use Rattle.std.proofs.Common.{◌≡◌, ◌+◌, ◌*◌, ◌≤◌, ◌++◌, drop, length, reverse}
use Rattle.rl_value.specs.Plain.{plain_size, plains_size, plains_of}
use Rattle.rl_trees.specs.Counts.{all_characters}
use Rattle.rl_trees.specs.Walk.{walk_all}
use Rattle.rl_trees.proofs.walk.+walk.Given as goal

abbrev pub decreases-walk_back : goal.decreases-walk_back
decreases-walk_back l = 2 * plain_size l.part.now

abbrev pub decreases-walk_back_all : goal.decreases-walk_back_all
decreases-walk_back_all l = 2 * plains_size (plains_of l.parts.now) + 1

abbrev pub decreases-walk_back_all-loop-left : goal.decreases-walk_back_all-loop-left
decreases-walk_back_all-loop-left l = l.left

abbrev pub invariant-walk_back_all-loop-left : goal.invariant-walk_back_all-loop-left
invariant-walk_back_all-loop-left l =
    record {
      within : l.left ≤ length l.parts;
      start : l.start + all_characters (plains_of (drop l.left l.parts)) ≡ l.end;
      found : l.found.items ≡ l.initial.found.items ++ reverse (walk_all l.sort l.start (plains_of (drop l.left l.parts)));
    }
