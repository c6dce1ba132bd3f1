-- Numbers that a text writes, by what the library reads.
use Rattle.std.proofs.Common.{◌≡◌, ◌≢◌, ℕ, ℤ, pos, negsuc, suc, ◌<◌, Bool, true, false, ◌&&◌, nat_lt, slice_index, ◌==◌, List, [], ◌∷◌, length, drop, Option, Some, None, Result, Ok, Err, refl, ap, sym, ◌∙◌, subst, arith, if◌then◌else◌}
use Rattle.std.specs.Int.{w128}
use Rattle.std.specs.Int.RustNames.{FitsSigned}
use Rattle.std.specs.Char.{digit_value}
use Rattle.std.specs.List.{list_all}
use Rattle.std.specs.Result.{result_ok}
use Rattle.std.specs.Str.Parse.{AllDigits, IsNumeral, ParsesSigned, without_leading_plus, without_leading_sign, signed_digits_value, starts_with_minus}
use Rattle.std.proofs.lemmas.Bool.Decides.{nat_tests}
use Rattle.rl_strings.specs.Numbers.{is_in_range, behind_minus, number_of, is_digit, is_number, number_in}

in_range : (z : ℤ) → FitsSigned w128 z → is_in_range z ≡ true
in_range (pos n) h = grind (arith, nat_tests)
in_range (negsuc n) h = grind (arith, nat_tests)

fits : (z : ℤ) → is_in_range z ≡ true → FitsSigned w128 z
fits (pos n) h = grind (arith, nat_tests)
fits (negsuc n) h = grind (arith, nat_tests)

both : (a b : Bool) → (a && b) ≡ true → (a ≡ true) × (b ≡ true)
both true b e = (refl, e)
both false b e = cc

digit : (c : ℕ) → digit_value c < 10 → is_digit c ≡ true
digit c h = grind (arith, nat_tests)

below_ten : (c : ℕ) → is_digit c ≡ true → digit_value c < 10
below_ten c e = grind (arith, nat_tests)

all_digits : (ds : List ℕ) → AllDigits 10 ds → list_all is_digit ds ≡ true
all_digits [] a = refl
all_digits (c ∷ cs) a = rw (digit c a.0) (all_digits cs a.1)

from_all : (ds : List ℕ) → list_all is_digit ds ≡ true → AllDigits 10 ds
from_all [] e = tt
from_all (c ∷ cs) e = let b = both (is_digit c) (list_all is_digit cs) e in (below_ten c b.0, from_all cs b.1)

some : (ds : List ℕ) → 0 < length ds → nat_lt 0 (length ds) ≡ true
some ds h = grind (arith, nat_tests)

some_from : (ds : List ℕ) → nat_lt 0 (length ds) ≡ true → 0 < length ds
some_from ds e = grind (arith, nat_tests)

numeral : (bs : List ℕ) → IsNumeral 10 (behind_minus bs) × FitsSigned w128 (number_of bs) → is_number bs ≡ true
numeral bs q = rw (some (behind_minus bs) q.0.0, all_digits (behind_minus bs) q.0.1, in_range (number_of bs) q.1) refl

from_test : (bs : List ℕ) → is_number bs ≡ true → IsNumeral 10 (behind_minus bs) × FitsSigned w128 (number_of bs)
from_test bs e =
    let a = both (nat_lt 0 (length (behind_minus bs))) (list_all is_digit (behind_minus bs) && is_in_range (number_of bs)) e in
    let b = both (list_all is_digit (behind_minus bs)) (is_in_range (number_of bs)) a.1 in
    ((some_from (behind_minus bs) a.0, from_all (behind_minus bs) b.0), fits (number_of bs) b.1)

no_plus : (bs : List ℕ) → (slice_index bs 0 == 43) ≡ false → without_leading_sign bs ≡ behind_minus bs
no_plus bs e = ap (λ (p : Bool). if starts_with_minus bs then drop 1 bs else drop (if p then 1 else 0) bs) e

same_number : (bs : List ℕ) → (slice_index bs 0 == 43) ≡ false → signed_digits_value 10 bs ≡ number_of bs
same_number bs e = rw (no_plus bs e) refl

pub parsed : {E : Type 0} (bs : List ℕ) (r : Result ℤ E) → (slice_index bs 0 == 43) ≡ false → ParsesSigned w128 10 bs r → result_ok r ≡ number_in bs
parsed bs (Ok n) e p =
    let q : IsNumeral 10 (behind_minus bs) × FitsSigned w128 (number_of bs) = (rw (no_plus bs e) at p.0.0, rw (same_number bs e) at p.0.1) in
    rw (numeral bs q) (ap Some (p.1 ∙ same_number bs e))
parsed bs (Err x) e p = by (is_number bs) refl
  where
    by : (b : Bool) → is_number bs ≡ b → None ≡ (if is_number bs then Some (number_of bs) else None)
    by false f = rw f refl
    by true f = let t = from_test bs f in absurd (p (rw (no_plus bs e) t.0, rw (same_number bs e) t.1))

and_false : (a : Bool) → (a && false) ≡ false
and_false true = refl
and_false false = refl

pub plus : (bs : List ℕ) → (slice_index bs 0 == 43) ≡ true → number_in bs ≡ None
plus [] e = cc
plus (c ∷ cs) e =
    let same : c ≡ 43 = grind (arith, nat_tests) in
    rw (same, and_false (nat_lt 0 (length (43 ∷ cs)))) refl
