use Rattle.std.proofs.Common.{◌∙◌, ◌++◌, ◌*◌, ◌+◌, sym, ap, arith, drop}
use Rattle.rl_print.proofs.PrintedLemmas.{kid_smaller, leaf_printed, tuple_printed, list_printed, set_printed, node_printed, map_printed, printed_at, printed_end, entries_at, entries_end}
use Rattle.std.proofs.lemmas.Grind.{common_steps}
use Rattle.std.specs.Option.{option_copied}
use Rattle.std.specs.String.{string_bytes}
use Rattle.rl_value.specs.Kids.{kids}
use Rattle.rl_print.proofs.EscapeLemmas.{append-nil}
use Rattle.rl_print.proofs.print.+print.Goals as goal

pub push_all-push_printed-requires : goal.push_all-push_printed-requires
push_all-push_printed-requires t c = (omega (arith, kid_smaller c.args.value.now c.loop-i.i c.child.result.now c.child.ensures.value), tt)

pub push_all-loop-i-preserved : goal.push_all-loop-i-preserved
push_all-loop-i-preserved t c =
    rw (c.in_ok-push_printed.ensures, c.in_ok-push_comma.ensures)
    (printed_at (kids c.args.value.now) (string_bytes c.loop-i.out) c.loop-i.i c.child.result.now c.child.ensures.value ∙ c.loop-i.invariant)

pub push_all-returns : goal.push_all-returns
push_all-returns t c = sym (append-nil _) ∙ (rw (printed_end (kids c.args.value.now) c.loop-i.i (omega arith)) at c.loop-i.invariant)

pub push_entries-push_printed-requires : goal.push_entries-push_printed-requires
push_entries-push_printed-requires t c = (omega (arith, kid_smaller c.args.map.now (2 * c.loop-i.i) c.child.result.now c.child.ensures.value), tt)

pub push_entries-push_printed-requires-in-loop-i : goal.push_entries-push_printed-requires-in-loop-i
push_entries-push_printed-requires-in-loop-i t c =
    (omega (arith, kid_smaller c.args.map.now (2 * c.loop-i.i + 1) c.child-in-loop-i.result.now c.child-in-loop-i.ensures.value), tt)

pub push_entries-loop-i-preserved : goal.push_entries-loop-i-preserved
push_entries-loop-i-preserved t c =
    rw (c.in_ok-push_printed-2.ensures, c.in_ok-push_str.ensures.bytes, c.in_ok-push_printed.ensures, c.in_ok-push_comma.ensures)
    (entries_at (kids c.args.map.now) (string_bytes c.loop-i.out) c.loop-i.i c.child.result.now c.child-in-loop-i.result.now c.child.ensures.value c.child-in-loop-i.ensures.value
    ∙ c.loop-i.invariant)

pub push_entries-returns : goal.push_entries-returns
push_entries-returns t c = sym (append-nil _) ∙ (rw (entries_end (kids c.args.map.now) c.loop-i.i (omega arith)) at c.loop-i.invariant)

pub push_map-returns : goal.push_map-returns
push_map-returns t c = let p = map_printed c.args.value.now c.requires in rw p (grind (arith, common_steps))

pub push_node-returns-in_ok-push_str-in-Some : goal.push_node-returns-in_ok-push_str-in-Some
push_node-returns-in_ok-push_str-in-Some t c = let p = node_printed c.args.value.now c.in-Some.name.now (sym c.name.ensures ∙ ap option_copied c.in-Some.is) in rw p (grind (arith, common_steps))

pub push_printed-returns-in-Tuple : goal.push_printed-returns-in-Tuple
push_printed-returns-in-Tuple t c = let p = tuple_printed c.args.value.now (sym c.kind.ensures ∙ c.in-Tuple.is) in rw p (grind (arith, common_steps))

pub push_printed-returns-in-List : goal.push_printed-returns-in-List
push_printed-returns-in-List t c = let p = list_printed c.args.value.now (sym c.kind.ensures ∙ c.in-List.is) in rw p (grind (arith, common_steps))

pub push_printed-returns-in-Set : goal.push_printed-returns-in-Set
push_printed-returns-in-Set t c = let p = set_printed c.args.value.now (sym c.kind.ensures ∙ c.in-Set.is) in rw p (grind (arith, common_steps))

pub push_printed-returns-in-Leaf : goal.push_printed-returns-in-Leaf
push_printed-returns-in-Leaf t c = let p = leaf_printed c.args.value.now (sym c.kind.ensures ∙ c.in-Leaf.is) in rw p (grind (arith, common_steps))
