-- Numbers in decimal digits.
use Rattle.std.proofs.Common.{◌≡◌, ℕ, ◌<◌, ◌^◌, ◌&&◌, Bool, true, false, cond, List, [], ◌∷◌, length, Some, None, Result, Ok, Err, refl, sym, ap, ◌∙◌, arith, rules, ltb}
use Rattle.std.specs.Char.{is_ascii_digit}
use Rattle.std.proofs.lemmas.Bool.Decides.{nat_tests}
use Rattle.std.proofs.lemmas.Str.Parse.{IsNumeralModel, numerals_by_value, parse_digits}
use Rattle.std.specs.List.{list_all}
use Rattle.std.specs.Result.{result_ok}
use Rattle.std.specs.Str.{all_ascii_digits}
use Rattle.std.specs.Str.Parse.{digits_value, ParsesUnsigned}
use Rattle.rl_words.specs.Words.{number_of}

all_digits : (ds : List ℕ) → list_all is_ascii_digit ds ≡ all_ascii_digits ds
all_digits [] = refl
all_digits (d ∷ ds) = ap (λ b. is_ascii_digit d && b) (all_digits ds)

own : IsNumeralModel (λ ds. all_ascii_digits ds ≡ true) (digits_value 10)
own = numerals_by_value _ (search rules)

no_number : (some few : Bool) (n v : ℕ) → ltb 0 n ≡ some → ltb v (2 ^ 64) ≡ few → ((0 < n) × (v < 2 ^ 64) → ⊥) → cond (some && few) (Some v) None ≡ None
no_number true true n v p q not = absurd (not (grind (arith, nat_tests), grind (arith, nat_tests)))
no_number true false n v p q not = refl
no_number false few n v p q not = refl

pub number-parsed : {E : Type 0} (bs : List ℕ) (r : Result ℕ E) → ParsesUnsigned 64 10 bs r → list_all is_ascii_digit bs ≡ true → result_ok r ≡ number_of bs
number-parsed {E} bs (Ok n) h digits =
    let k = parse_digits own {E = E} 64 bs (Ok n) h (sym (all_digits bs) ∙ digits) in
    let some : ltb 0 (length bs) ≡ true = let h0 : 0 < length bs = k.0.0 in grind (arith, nat_tests) in
    let few : ltb (digits_value 10 bs) (2 ^ 64) ≡ true = let h1 : digits_value 10 bs < 2 ^ 64 = k.0.1 in grind (arith, nat_tests) in
    rw (digits, some, few) (ap Some k.1)
number-parsed {E} bs (Err e) h digits =
    let none = parse_digits own {E = E} 64 bs (Err e) h (sym (all_digits bs) ∙ digits) in
    rw digits (sym (no_number (ltb 0 (length bs)) (ltb (digits_value 10 bs) (2 ^ 64)) (length bs) (digits_value 10 bs) refl refl none))
