-- Numbers that fit, as results.
use Rattle.std.proofs.Common.{◌≡◌, ℤ, pos, negsuc, ◌<◌, ◌^◌, Bool, true, false, Option, Some, None, FitsSigned, int_rem, refl, ap, sym, ◌∙◌, subst, arith}
use Rattle.std.proofs.lemmas.Bool.Decides.{nat_tests}
use Rattle.std.specs.Int.{w128}
use Rattle.std.specs.Option.{SomeIff}
use Rattle.rl_value.specs.Plain.{Plain, int}
use Rattle.rl_exception.specs.Answer.{Gives, Throws, Ends}
use Rattle.rl_exception.specs.Exceptions.{out_of_range}
use Rattle.rl_exception.specs.declared.op_end.OpEnd.{OpEnd}
use Rattle.rl_operators.specs.Arithmetic.{is_in_range, whole, is_zero, remainder}

in_range-fits : (z : ℤ) → FitsSigned w128 z → is_in_range z ≡ true
in_range-fits (pos n) f = let h : n < 2 ^ 127 = f.sfits in grind (arith, nat_tests)
in_range-fits (negsuc n) f = let h : n < 2 ^ 127 = f.sfits in grind (arith, nat_tests)

fits_from : (z : ℤ) → is_in_range z ≡ true → FitsSigned w128 z
fits_from (pos n) e = let h : n < 2 ^ 127 = grind (arith, nat_tests) in record { sfits = h }
fits_from (negsuc n) e = let h : n < 2 ^ 127 = grind (arith, nat_tests) in record { sfits = h }

out-in_range : (z : ℤ) → ¬ FitsSigned w128 z → is_in_range z ≡ false
out-in_range z out = by (is_in_range z) refl
  where
    by : (b : Bool) → is_in_range z ≡ b → b ≡ false
    by false e = refl
    by true e = absurd (out (fits_from z e))

pub whole-fits : (z : ℤ) → FitsSigned w128 z → whole z ≡ Gives (int z)
unfolding whole
whole-fits z f = rw (in_range-fits z f) refl

pub whole-out : (z : ℤ) → ¬ FitsSigned w128 z → whole z ≡ Throws out_of_range
unfolding whole
whole-out z out = rw (out-in_range z out) refl

-- what a checked operation answers
pub some_whole : (n m : ℤ) (checked : Option ℤ) → checked ≡ Some m → SomeIff checked (FitsSigned w128 n) n → whole n ≡ Gives (int m)
some_whole n m checked is h =
    let some : SomeIff (Some m) (FitsSigned w128 n) n = subst (λ o. SomeIff o (FitsSigned w128 n) n) is h in
    whole-fits n some.0 ∙ ap (λ z. Gives (int z)) (sym some.1)

pub none_whole : (n : ℤ) (checked : Option ℤ) (end : OpEnd) → checked ≡ None → SomeIff checked (FitsSigned w128 n) n → Ends (Throws out_of_range) end → Ends (whole n) end
none_whole n checked end is h e =
    let none : SomeIff None (FitsSigned w128 n) n = subst (λ o. SomeIff o (FitsSigned w128 n) n) is h in
    subst (λ a. Ends a end) (sym (whole-out n none)) e

pub remainder_gives : (m n r : ℤ) (v : Plain) → is_zero n ≡ false → FitsSigned w128 r → r ≡ int_rem m n → v ≡ int r → remainder m n ≡ Gives v
remainder_gives m n r v nonzero f is e = rw (nonzero, ← is, e) (whole-fits r f)
