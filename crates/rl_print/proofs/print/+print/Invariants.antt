use Rattle.std.proofs.Common.{◌≡◌, ◌++◌, ◌+◌, ◌*◌, drop}
use Rattle.std.specs.String.{string_bytes}
use Rattle.rl_value.specs.Plain.{plain_size}
use Rattle.rl_value.specs.Kids.{kids}
use Rattle.rl_print.proofs.PrintedLemmas.{printed_from, entries_from}
use Rattle.rl_print.proofs.print.+print.Given as goal

abbrev pub decreases-push_printed : goal.decreases-push_printed
decreases-push_printed l = 4 * plain_size l.value.now + 3

abbrev pub decreases-push_node : goal.decreases-push_node
decreases-push_node l = 4 * plain_size l.value.now + 2

abbrev pub decreases-push_map : goal.decreases-push_map
decreases-push_map l = 4 * plain_size l.value.now + 2

abbrev pub decreases-push_between : goal.decreases-push_between
decreases-push_between l = 4 * plain_size l.value.now + 1

abbrev pub decreases-push_all : goal.decreases-push_all
decreases-push_all l = 4 * plain_size l.value.now

abbrev pub decreases-push_entries : goal.decreases-push_entries
decreases-push_entries l = 4 * plain_size l.map.now

abbrev pub invariant-push_all-loop-i : goal.invariant-push_all-loop-i
invariant-push_all-loop-i l = string_bytes l.out ++ printed_from l.i (drop l.i (kids l.value)) ≡ string_bytes l.initial.out ++ printed_from 0 (kids l.value)

abbrev pub invariant-push_entries-loop-i : goal.invariant-push_entries-loop-i
invariant-push_entries-loop-i l = string_bytes l.out ++ entries_from l.i (drop (2 * l.i) (kids l.map)) ≡ string_bytes l.initial.out ++ entries_from 0 (kids l.map)
