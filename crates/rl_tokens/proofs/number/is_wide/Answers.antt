use Rattle.std.proofs.Common.{◌^◌, ◌∙◌, sym, ap, leb, arith}
use Rattle.std.proofs.lemmas.Bool.Decides.{nat_tests}
use Rattle.std.proofs.lemmas.List.{at_drop_all}
use Rattle.rl_tokens.specs.Number.{is_wide, number_from}
use Rattle.rl_tokens.proofs.NumberLemmas.{number_from_wide}
use Rattle.rl_tokens.proofs.number.is_wide.Goals as goal

pub returns-then-number : goal.returns-then-number
unfolding is_wide
returns-then-number c =
    let wide = number_from_wide c.args.digits.now c.loop-c.number c.loop-c.c-index (omega arith) (omega arith) in
    let same = c.loop-c.invariant in
    grind (arith, nat_tests)

pub returns : goal.returns
unfolding is_wide
returns c =
    ap (leb (2 ^ 127)) (sym (at_drop_all (number_from c.loop-c.number) c.args.digits.now c.loop-c.c-index (omega arith)) ∙ c.loop-c.invariant)
