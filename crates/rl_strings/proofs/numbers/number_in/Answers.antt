use Rattle.std.proofs.Common.{◌∙◌, sym, arith}
use Rattle.rl_strings.proofs.NumbersLemmas.{parsed}
use Rattle.rl_strings.proofs.numbers.number_in.Goals as goal

pub returns : goal.returns
returns c =
    c.ok.ensures.value
    ∙ parsed c.args.text.now c.parse.result (sym (c.starts_with.ensures.byte (omega arith) (omega arith) (λ w o h. h)) ∙ c.if-starts_with.false) c.parse.ensures.value.0
