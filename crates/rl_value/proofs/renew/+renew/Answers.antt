use Rattle.std.proofs.Common.{◌≡◌, drop, arith, Err, subst, length-drop}
use Rattle.rl_value.specs.Built.{Builds}
use Rattle.rl_value.specs.Kids.{renew_part}
use Rattle.rl_value.specs.declared.build_end.BuildEnd.TheVariants.{TooLarge}
use Rattle.std.proofs.lemmas.List.Elements.{All-drop}
use Rattle.rl_value.specs.Plain.{IsTree}
use Rattle.rl_value.proofs.OrderLemmas.{item_size}
use Rattle.rl_value.proofs.RenewLemmas.{rest_of, kids_at, renewed_all, spoils, not_fitting, part_at}
use Rattle.rl_value.proofs.renew.+renew.Goals as goal

pub renewed_parts-renewed_part-requires : goal.renewed_parts-renewed_part-requires
renewed_parts-renewed_part-requires t c =
    let rest = rest_of c.args.kids.now c.loop-part.used in (
      omega (arith, item_size c.args.parts.now c.loop-part.part-index c.part-item.result c.loop-part-test.true c.part-item.is),
      (
        part_at c.args.parts.now c.loop-part.part-index c.part-item.result c.requires.parts c.loop-part-test.true c.part-item.is,
        (
          rw rest (omega (
            arith,
            c.loop-part.invariant.enough,
            length-drop c.loop-part.used c.args.kids.now,
            kids_at c.args.parts.now c.loop-part.part-index c.part-item.result c.loop-part-test.true c.part-item.is,
          )),
          rw rest (All-drop IsTree c.loop-part.used c.args.kids.now c.requires.trees),
        ),
      ),
    )

pub renewed_parts-returns-in-Err-clause-large : goal.renewed_parts-returns-in-Err-clause-large
renewed_parts-returns-in-Err-clause-large t c =
    let rest = rest_of c.args.kids.now c.loop-part.used in
    let built = subst (λ us. Builds (renew_part c.part-item.result us) (Err c.in-Err.end)) rest c.in-Err.ensures.built in
    λ e. spoils c.loop-part.renewed.items c.args.parts.now c.args.kids.now (drop c.loop-part.used c.args.kids.now) c.loop-part.part-index c.part-item.result
    c.loop-part-test.true c.part-item.is c.loop-part.invariant.done
    (not_fitting c.in-Err.end (renew_part c.part-item.result (drop c.loop-part.used c.args.kids.now)) built (let same : c.in-Err.end ≡ TooLarge = cc in same))

pub renewed_parts-returns-clause-parts : goal.renewed_parts-returns-clause-parts
renewed_parts-returns-clause-parts t c =
    renewed_all c.loop-part.renewed.items c.args.parts.now c.args.kids.now _ c.loop-part.part-index (omega arith) c.loop-part.invariant.done
