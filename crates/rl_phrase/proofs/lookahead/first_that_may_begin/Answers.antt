use Rattle.std.proofs.Common.{◌≡◌, ◌<◌, ◌≤◌, subst, ⊎_elim, arith}
use Rattle.std.proofs.lemmas.Bool.{cases_lt}
use Rattle.rl_phrase.specs.Firsts.{CannotBegin}
use Rattle.rl_phrase.proofs.lookahead.first_that_may_begin.Goals as goal

pub loop-next-preserved : goal.loop-next-preserved
loop-next-preserved c =
    let next = c.loop-next.next in
    let end = c.args.rest.end in
    let before = c.loop-next.invariant.forward in
    let within : next < end = omega arith in
    record {
      forward = omega (arith, before);
      rows = λ row from lt. ⊎_elim
          (λ (l : row < next). c.loop-next.invariant.rows row from l)
          (λ (l : next ≤ row).
          let same : next ≡ row = omega arith in
          subst (λ r. (r < end) × CannotBegin c.args.tokens.now c.args.firsts.now r c.args.token) same (within, c.cannot_begin.ensures.0 c.if-cannot_begin.true))
          (cases_lt row next);
    }
