use Rattle.std.proofs.Common.{◌≡◌, ◌∙◌, ap, sym, rules}
use Rattle.rl_value.specs.Plain.{int}
use Rattle.rl_exception.specs.Answer.{Gives}
use Rattle.rl_operators.proofs.ArithmeticLemmas.{some_whole, none_whole}
use Rattle.rl_operators.proofs.arithmetic.number.Goals as goal

pub returns-in-Some : goal.returns-in-Some
returns-in-Some c =
    let built : c.int.result ≡ int c.in-Some.n = search rules in
    λ n h. some_whole n c.in-Some.n c.args.checked c.in-Some.is h ∙ ap Gives (sym built)

pub returns-in-None : goal.returns-in-None
returns-in-None c = λ n h. none_whole n c.args.checked c.out_of_range.result c.in-None.is h c.out_of_range.ensures
