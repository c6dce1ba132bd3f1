use Rattle.std.proofs.Common.{◌≡◌, Err, ap, sym, subst, arith}
use Rattle.rl_value.specs.declared.build_end.BuildEnd.TheVariants.{TooLarge}
use Rattle.rl_value.specs.Rising.{In}
use Rattle.rl_relation.proofs.ClosureLemmas.{gathers_more, gathers_same, reached_large}
use Rattle.rl_relation.proofs.closures.joined_pairs.Goals as goal

pub returns-in-Err-clause-large : goal.returns-in-Err-clause-large
returns-in-Err-clause-large c =
    λ e.
    let same : c.in-Err.end ≡ TooLarge = cc in
    let r = c.in-Err.ensures.large (ap Err same) in
    reached_large c.args.pairs.now c.start-item.result r.0 c.requires.pairs r.1 r.2

pub loop-start-preserved : goal.loop-start-preserved
loop-start-preserved c =
    gathers_more c.args.pairs.now c.deref-start-items.result.now c.loop-start.found.items c.add_reached.new.found.items c.loop-start.start-index c.start-item.result
    c.requires.pairs (omega arith) c.start-item.is c.loop-start.invariant c.in-Ok.ensures.reached c.in-Ok.ensures.whole c.in-Ok.ensures.kept

pub returns-clause-same : goal.returns-clause-same
returns-clause-same c =
    gathers_same c.args.pairs.now c.deref-start-items.result.now c.loop-start.found.items c.loop-start.start-index c.requires.pairs (omega arith)
    (λ x h. subst (In x) (sym c.deref-start-items.ensures.value) (c.in_ok-starts.ensures x h)) c.loop-start.invariant
