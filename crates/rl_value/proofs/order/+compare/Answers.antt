use Rattle.std.proofs.Common.{◌<◌, length, arith, sym, ◌∙◌}
use Rattle.rl_value.proofs.OrderLemmas.{item_size, plains_cmp_end}
use Rattle.rl_value.proofs.EntryLemmas.{entry_size, pairs_cmp_end}
use Rattle.rl_value.proofs.SameLemmas.{same_step, differ_step}
use Rattle.rl_value.proofs.order.+compare.Goals as goal

pub compare_all-compare-requires : goal.compare_all-compare-requires
compare_all-compare-requires t c =
    let h : c.loop-i.i < length c.args.left.now = omega arith in
    let le = item_size c.args.left.now c.loop-i.i c.index-left-i.result h c.index-left-i.is in
    (omega (arith, le), tt)

pub compare_all-returns : goal.compare_all-returns
compare_all-returns t c =
    c.cmp.ensures ∙ sym (plains_cmp_end c.args.left.now c.args.right.now c.loop-i.i (omega arith)) ∙ c.loop-i.invariant

pub compare_parts-compare-requires : goal.compare_parts-compare-requires
compare_parts-compare-requires t c =
    let h : c.loop-i.i < length c.args.a.now = omega arith in
    (omega (arith, item_size c.args.a.now c.loop-i.i c.index-a-i.result h c.index-a-i.is), tt)

pub compare_parts-returns-then-not-same : goal.compare_parts-returns-then-not-same
compare_parts-returns-then-not-same t c =
    c.compare.ensures
    ∙ differ_step c.args.a.now c.args.b.now c.loop-i.i c.index-a-i.result c.index-b-i.result (omega arith) (omega arith) c.index-a-i.is c.index-b-i.is c.if-not-same.ensures
    ∙ c.loop-i.invariant

pub compare_parts-loop-i-preserved : goal.compare_parts-loop-i-preserved
compare_parts-loop-i-preserved t c =
    same_step c.args.a.now c.args.b.now c.loop-i.i c.index-a-i.result c.index-b-i.result (omega arith) (omega arith) c.index-a-i.is c.index-b-i.is c.if-not-same.ensures
    ∙ c.loop-i.invariant

pub compare_parts-returns : goal.compare_parts-returns
compare_parts-returns t c =
    c.cmp.ensures ∙ sym (plains_cmp_end c.args.a.now c.args.b.now c.loop-i.i (omega arith)) ∙ c.loop-i.invariant

pub compare_pairs-compare-requires : goal.compare_pairs-compare-requires
compare_pairs-compare-requires t c =
    let h : c.loop-i.i < length c.args.a.now = omega arith in
    (omega (arith, entry_size c.args.a.now c.loop-i.i c.index-a-i.result h c.index-a-i.is), tt)

pub compare_pairs-compare-requires-in-loop-i : goal.compare_pairs-compare-requires-in-loop-i
compare_pairs-compare-requires-in-loop-i t c =
    let h : c.loop-i.i < length c.args.a.now = omega arith in
    (omega (arith, entry_size c.args.a.now c.loop-i.i c.index-a-i.result h c.index-a-i.is), tt)

pub compare_pairs-returns : goal.compare_pairs-returns
compare_pairs-returns t c =
    c.cmp.ensures ∙ sym (pairs_cmp_end c.args.a.now c.args.b.now c.loop-i.i (omega arith)) ∙ c.loop-i.invariant
