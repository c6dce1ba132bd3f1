use Rattle.std.proofs.Common.{◌≡◌, ◌+◌, ◌*◌, ◌≤◌, drop}
use Rattle.rl_value.specs.Plain.{plain_size, plains_size, plains_of}
use Rattle.rl_trees.specs.Counts.{all_characters}
use Rattle.rl_trees.proofs.counts.+count.Given as goal

abbrev pub decreases-characters : goal.decreases-characters
decreases-characters l = 2 * plain_size l.part.now

abbrev pub decreases-all_characters : goal.decreases-all_characters
decreases-all_characters l = 2 * plains_size (plains_of l.parts.now) + 1

abbrev pub invariant-all_characters-loop-part : goal.invariant-all_characters-loop-part
invariant-all_characters-loop-part l =
    record {
      count : l.count + all_characters (plains_of (drop l.part-index l.parts)) ≡ all_characters (plains_of l.parts);
      bound : l.count + plains_size (plains_of (drop l.part-index l.parts)) ≤ plains_size (plains_of l.parts);
    }
