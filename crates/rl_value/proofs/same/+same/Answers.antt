use Rattle.std.proofs.Common.{◌<◌, length, arith, sym, ap, ◌∙◌}
use Rattle.std.specs.Ordering.{is_eq}
use Rattle.rl_value.proofs.OrderLemmas.{item_size, plains_cmp_end}
use Rattle.rl_value.proofs.EntryLemmas.{entry_size, pairs_cmp_end}
use Rattle.rl_value.proofs.SameLemmas.{tree_same, tree_differs, value_differs}
use Rattle.rl_value.specs.Plain.{plains_of}
use Rattle.rl_value.specs.View.{shape_of}
use Rattle.rl_value.proofs.same.+same.Goals as goal

pub same_all-same-requires : goal.same_all-same-requires
same_all-same-requires t c =
    let h : c.loop-i.i < length c.args.a.now = omega arith in
    (omega (arith, item_size c.args.a.now c.loop-i.i c.index-a-i.result h c.index-a-i.is), tt)

pub same_all-returns : goal.same_all-returns
same_all-returns t c =
    c.is_eq.ensures ∙ ap is_eq (c.cmp.ensures ∙ sym (plains_cmp_end c.args.a.now c.args.b.now c.loop-i.i (omega arith))) ∙ c.loop-i.invariant

pub same_pairs-same-requires : goal.same_pairs-same-requires
same_pairs-same-requires t c =
    let h : c.loop-i.i < length c.args.a.now = omega arith in
    (omega (arith, entry_size c.args.a.now c.loop-i.i c.index-a-i.result h c.index-a-i.is), tt)

pub same_pairs-same-requires-in-loop-i : goal.same_pairs-same-requires-in-loop-i
same_pairs-same-requires-in-loop-i t c =
    let h : c.loop-i.i < length c.args.a.now = omega arith in
    (omega (arith, entry_size c.args.a.now c.loop-i.i c.index-a-i.result h c.index-a-i.is), tt)

pub same_pairs-returns-then-not-same-2 : goal.same_pairs-returns-then-not-same-2
same_pairs-returns-then-not-same-2 t c =
    value_differs c.args.a.now c.args.b.now c.loop-i.i c.index-a-i.result c.index-b-i.result (omega arith) (omega arith) c.index-a-i.is c.index-b-i.is
    c.if-not-same.ensures c.if-not-same-2.ensures
    ∙ c.loop-i.invariant

pub same_pairs-returns : goal.same_pairs-returns
same_pairs-returns t c =
    c.is_eq.ensures ∙ ap is_eq (c.cmp.ensures ∙ sym (pairs_cmp_end c.args.a.now c.args.b.now c.loop-i.i (omega arith))) ∙ c.loop-i.invariant

pub same_trees-returns-in-Equal : goal.same_trees-returns-in-Equal
same_trees-returns-in-Equal t c =
    let same = tree_same (shape_of c.args.a.now.shape) (shape_of c.args.b.now.shape)
    (plains_of c.args.a.now.parts.items.items) (plains_of c.args.b.now.parts.items.items) (sym c.compare_shapes.ensures ∙ c.in-Equal.is) in
    cc

pub same_trees-returns-in_default : goal.same_trees-returns-in_default
same_trees-returns-in_default t c =
    let differs = tree_differs (shape_of c.args.a.now.shape) (shape_of c.args.b.now.shape)
    (plains_of c.args.a.now.parts.items.items) (plains_of c.args.b.now.parts.items.items) (λ e. c.in_default.not-Equal (c.compare_shapes.ensures ∙ e)) in
    cc
