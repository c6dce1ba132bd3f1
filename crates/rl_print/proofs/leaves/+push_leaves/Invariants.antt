use Rattle.std.proofs.Common.{◌≡◌, ◌++◌, drop}
use Rattle.std.specs.String.{string_bytes}
use Rattle.rl_value.specs.Plain.{plain_size, plains_of, plains_text}
use Rattle.rl_value.specs.Readers.{parts_of}
use Rattle.rl_print.specs.Escape.{escaped}
use Rattle.rl_print.proofs.leaves.+push_leaves.Given as goal

abbrev pub decreases-push_leaves : goal.decreases-push_leaves
decreases-push_leaves l = plain_size l.part.now

abbrev pub invariant-loop-i : goal.invariant-loop-i
invariant-loop-i l =
    string_bytes l.out ++ escaped l.escapes (plains_text (plains_of (drop l.i (parts_of l.part))))
    ≡ string_bytes l.initial.out ++ escaped l.escapes (plains_text (plains_of (parts_of l.part)))
