use Rattle.std.proofs.Common.{◌<◌, length, sym, ap, ◌∙◌, arith}
use Rattle.std.proofs.lemmas.List.Filters.{FiltersInPlace-more_no, FiltersInPlace-more_swap}
use Rattle.rl_store.specs.Journal.{is_taken}
use Rattle.rl_store.proofs.journal.settle.Goals as goal
use Rattle.rl_store.proofs.journal.settle.Goals.{then-is_taken, else-is_taken}

pub loop-i-preserved : goal.loop-i-preserved
loop-i-preserved c =
    let within : c.loop-i.i < length c.loop-i.back = omega (arith, c.loop-i.invariant.long) in
    elim c.if-is_taken.branch [
      | then-is_taken w ↦ rw (w.back-is, w.kept-is) (FiltersInPlace-more_swap {x = c.index-back-i.result} c.loop-i.invariant within (ap (is_taken c.args.front.now c.args.older) c.index-back-i.is ∙ sym c.is_taken.ensures ∙ w.if-is_taken.true) c.index-back-i.is w.swap.ensures.by_index)
      | else-is_taken w ↦ rw (w.back-is, w.kept-is) (FiltersInPlace-more_no {x = c.index-back-i.result} c.loop-i.invariant within (ap (is_taken c.args.front.now c.args.older) c.index-back-i.is ∙ sym c.is_taken.ensures ∙ w.if-is_taken.false) c.index-back-i.is)
    ]
