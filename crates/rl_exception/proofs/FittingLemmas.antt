-- Which values fit, as a test.
use Rattle.std.proofs.Common.{◌≡◌, ℕ, ℤ, Result, Ok, Err, ◌≤◌, ◌^◌, Bool, true, false, ◌&&◌, List, [], ◌∷◌, nat_le, refl, ap, sym, ◌∙◌, subst, arith}
use Rattle.std.proofs.lemmas.Bool.Decides.{nat_tests}
use Rattle.rl_value.specs.Built.{Builds}
use Rattle.rl_value.specs.declared.build_end.BuildEnd.{BuildEnd}
use Rattle.rl_value.specs.declared.build_end.BuildEnd.TheVariants.{TooLarge}
use Rattle.rl_value.specs.Plain.{Plain, int, node, plains_of, plain_size, plain_height, Fits}
use Rattle.rl_exception.specs.Answer.{Gives, Throws, fits, fitting, throwing, Ends}
use Rattle.rl_exception.specs.Exceptions.{too_large}
use Rattle.rl_exception.specs.declared.op_end.OpEnd.{OpEnd}

test : (m n : ℕ) → m ≤ n → nat_le m n ≡ true
test m n h = grind (arith, nat_tests)

tested : (m n : ℕ) → nat_le m n ≡ true → m ≤ n
tested m n h = grind (arith, nat_tests)

both : (a b : Bool) → (a && b) ≡ true → (a ≡ true) × (b ≡ true)
both true true e = (refl, refl)
both true false e = cc
both false b e = cc

pub fits-true : (t : Plain) → Fits t → fits t ≡ true
unfolding fits
fits-true t f = rw (test (plain_size t) (2 ^ 24) f.size, test (plain_height t) 2000 f.height) refl

pub Fits-from_test : (t : Plain) → fits t ≡ true → Fits t
unfolding fits
Fits-from_test t e =
    let h = both (nat_le (plain_size t) (2 ^ 24)) (nat_le (plain_height t) 2000) e in
    record { size = tested (plain_size t) (2 ^ 24) h.0; height = tested (plain_height t) 2000 h.1 }

pub fits-false : (t : Plain) → ¬ Fits t → fits t ≡ false
fits-false t large = by (fits t) refl
  where
    by : (b : Bool) → fits t ≡ b → b ≡ false
    by false e = refl
    by true e = absurd (large (Fits-from_test t e))

-- ---- what fits is given, or thrown
pub fitting-fits : (t : Plain) → Fits t → fitting t ≡ Gives t
unfolding fitting
fitting-fits t f = rw (fits-true t f) refl

pub fitting-large : (t : Plain) → ¬ Fits t → fitting t ≡ Throws too_large
unfolding fitting
fitting-large t large = rw (fits-false t large) refl

pub throwing-fits : (t : Plain) → Fits t → throwing t ≡ Throws t
unfolding throwing
throwing-fits t f = rw (fits-true t f) refl

pub throwing-large : (t : Plain) → ¬ Fits t → throwing t ≡ Throws too_large
unfolding throwing
throwing-large t large = rw (fits-false t large) refl

-- ---- how building goes on
pub given : (t v : Plain) (built : Result Plain BuildEnd) → built ≡ Ok v → Builds t built → fitting t ≡ Gives v
given t v built is b = let h : Builds t (Ok v) = subst (Builds t) is b in fitting-fits t h.1 ∙ ap Gives (sym h.0)

pub large : (t : Plain) (built : Result Plain BuildEnd) (end : BuildEnd) → built ≡ Err end → end ≡ TooLarge → Builds t built → ¬ Fits t
large t built end is same b = subst (Builds t) (is ∙ ap Err same) b

pub thrown : (t v : Plain) → (v ≡ t) × Fits t → throwing t ≡ Throws v
thrown t v (e, f) = throwing-fits t f ∙ ap Throws (sym e)

pub ends_large : (t : Plain) (end : OpEnd) → ¬ Fits t → Ends (Throws too_large) end → Ends (fitting t) end
ends_large t end large e = subst (λ a. Ends a end) (sym (fitting-large t large)) e

pub throws_large : (t : Plain) (end : OpEnd) → ¬ Fits t → Ends (Throws too_large) end → Ends (throwing t) end
throws_large t end large e = subst (λ a. Ends a end) (sym (throwing-large t large)) e

-- an exception with a field that does not fit
pub first_large : (name : List ℕ) (t : Plain) (ts : List Plain) → ¬ Fits t → ¬ Fits (node name (plains_of (t ∷ ts)))
first_large name t ts large f = large (record { size = omega (arith, f.size); height = omega (arith, f.height) })

pub second_large : (name : List ℕ) (s t : Plain) (ts : List Plain) → ¬ Fits t → ¬ Fits (node name (plains_of (s ∷ t ∷ ts)))
second_large name s t ts large f = large (record { size = omega (arith, f.size); height = omega (arith, f.height) })

-- exceptions that always fit
pub bare : (name : List ℕ) (fields : List Plain) (end : OpEnd) → fields ≡ [] → Ends (throwing (node name (plains_of fields))) end → Ends (Throws (node name (plains_of []))) end
unfolding throwing fits
bare name fields end e h = subst (λ ts. Ends (throwing (node name (plains_of ts))) end) e h

pub numbered : (name : List ℕ) (n : ℤ) (fields : List Plain) (end : OpEnd) → fields ≡ int n ∷ [] → Ends (throwing (node name (plains_of fields))) end
    → Ends (Throws (node name (plains_of (int n ∷ [])))) end
unfolding throwing fits
numbered name n fields end e h = subst (λ ts. Ends (throwing (node name (plains_of ts))) end) e h
