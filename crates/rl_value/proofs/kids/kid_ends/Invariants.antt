use Rattle.std.proofs.Common.{◌≡◌, ◌+◌, ◌++◌, ◌≤◌, ◌^◌, drop}
use Rattle.rl_value.specs.Plain.{plains_of, plains_size}
use Rattle.rl_value.specs.Kids.{kid_ends}
use Rattle.rl_value.proofs.kids.kid_ends.Given as goal

abbrev pub invariant-loop-part : goal.invariant-loop-part
invariant-loop-part l =
    record {
      ends : l.ends.items ++ kid_ends l.count (drop l.part-index l.parts) ≡ kid_ends 0 l.parts;
      bound : l.count + plains_size (plains_of (drop l.part-index l.parts)) ≤ 2 ^ 24;
    }
