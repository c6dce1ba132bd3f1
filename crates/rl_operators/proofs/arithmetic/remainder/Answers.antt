use Rattle.std.proofs.Common.{◌≡◌, false, rules, FitsSigned, int_rem}
use Rattle.std.specs.Int.{w128}
use Rattle.rl_value.specs.Plain.{int}
use Rattle.rl_operators.specs.Arithmetic.{is_zero}
use Rattle.rl_operators.proofs.ArithmeticLemmas.{remainder_gives}
use Rattle.rl_operators.proofs.arithmetic.remainder.Goals as goal

pub returns-else-n-eq0 : goal.returns-else-n-eq0
returns-else-n-eq0 c =
    let nonzero : is_zero c.args.n ≡ false = search rules in
    let fits : FitsSigned w128 c.wrapping_rem.result = search rules in
    let is : c.wrapping_rem.result ≡ int_rem c.args.m c.args.n = search rules in
    let built : c.int.result ≡ int c.wrapping_rem.result = search rules in
    remainder_gives c.args.m c.args.n c.wrapping_rem.result c.int.result nonzero fits is built
