use Rattle.std.proofs.Common.{◌≡◌, suc, ◌+◌, ◌-◌, refl, ap, ◌∙◌, arith}
use Rattle.rl_phrase.specs.Firsts.{first_at, first_of_choice, either}
use Rattle.rl_phrase.proofs.firsts.first_of_choice.Goals as goal

pub loop-left-init : goal.loop-left-init
loop-left-init c = (0, omega arith, refl)

pub loop-left-preserved : goal.loop-left-preserved
loop-left-preserved c =
    let firsts = c.args.firsts.now in
    let left = c.loop-left.left in
    let invariant = c.loop-left.invariant in
    let count = invariant.1 in
    let more = c.loop-left-test.true in
    let back : c.args.first + left ≡ c.args.first + (left - 1) + 1 = omega (arith, more) in (
      suc invariant.0,
      omega (arith, more, count),
      c.either-found.ensures ∙ ap (λ part. either part c.loop-left.found) c.first_at.ensures
          ∙ ap (λ others. either (first_at firsts (c.args.first + (left - 1))) others) (invariant.2 ∙ ap (λ n. first_of_choice firsts n invariant.0) back),
    )

pub returns : goal.returns
returns c =
    let firsts = c.args.firsts.now in
    let invariant = c.loop-left.invariant in
    let count = invariant.1 in
    let ended = c.loop-left-test.false in
    let first : c.args.first + c.loop-left.left ≡ c.args.first = omega (arith, ended) in
    let all : invariant.0 ≡ c.args.count = omega (arith, ended, count) in
    invariant.2 ∙ ap (λ n. first_of_choice firsts n invariant.0) first ∙ ap (λ n. first_of_choice firsts c.args.first n) all
