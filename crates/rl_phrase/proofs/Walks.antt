-- Walks without a cycle are short.
use Rattle.std.proofs.Common.{◌≡◌, ℕ, zero, suc, ◌+◌, ◌<◌, ◌≤◌, nat_eq, Bool, true, false, cond, List, length, refl, sym, ap, ◌∙◌, subst, ⊎_elim, arith}
use Rattle.std.proofs.lemmas.Option.{slice_get_within}
use Rattle.std.proofs.lemmas.Bool.Decides.{eqb_tells}
use Rattle.rl_phrase.specs.declared.table.Rule.{Rule}
use Rattle.rl_phrase.specs.LeftRecursion.{Begins, Walk, HasNoLeftRecursion}

-- how many of the numbers below n pass
abbrev passing : ℕ → (ℕ → Bool) → ℕ
passing zero f = 0
passing (suc n) f = cond (f n) 1 0 + passing n f

abbrev without : (ℕ → Bool) → ℕ → ℕ → Bool
without f row x = cond (nat_eq x row) false (f x)

passing_all : (n : ℕ) (f : ℕ → Bool) → passing n f ≤ n
passing_all zero f = omega arith
passing_all (suc n) f = let e = passing_all n f in one (f n) e
  where
    one : (b : Bool) → passing n f ≤ n → cond b 1 0 + passing n f ≤ suc n
    one true e = omega arith
    one false e = omega arith

fewer_or_same : (n row : ℕ) (f : ℕ → Bool) → passing n (without f row) ≤ passing n f
fewer_or_same zero row f = omega arith
fewer_or_same (suc n) row f = let e = fewer_or_same n row f in one (nat_eq n row) (f n) e
  where
    one : (t b : Bool) → passing n (without f row) ≤ passing n f → cond (cond t false b) 1 0 + passing n (without f row) ≤ cond b 1 0 + passing n f
    one true true e = omega arith
    one true false e = omega arith
    one false true e = omega arith
    one false false e = omega arith

fewer : (n row : ℕ) (f : ℕ → Bool) → row < n → f row ≡ true → suc (passing n (without f row)) ≤ passing n f
fewer zero row f lt e = absurd (omega arith)
fewer (suc n) row f lt e = ⊎_elim
    (λ h. let s = fewer_or_same n row f in here (nat_eq n row) (f n) h.0 (subst (λ x. f x ≡ true) (sym h.1) e) s)
    (λ h. let s : suc (passing n (without f row)) ≤ passing n f = fewer n row f (omega arith) e in there (nat_eq n row) (f n) h.0 s)
    (eqb_tells n row)
  where
    here : (t b : Bool) → t ≡ true → b ≡ true → passing n (without f row) ≤ passing n f → suc (cond (cond t false b) 1 0 + passing n (without f row)) ≤ cond b 1 0 + passing n f
    here true true et eb s = omega arith
    here true false et eb s = cc
    here false b et eb s = cc

    there : (t b : Bool) → t ≡ false → suc (passing n (without f row)) ≤ passing n f → suc (cond (cond t false b) 1 0 + passing n (without f row)) ≤ cond b 1 0 + passing n f
    there false true et s = omega arith
    there false false et s = omega arith
    there true b et s = cc

module _ (rules : List Rule) (none : HasNoLeftRecursion rules) where
  -- each walk from the row has fewer than d steps
  abbrev pub IsShort : ℕ → ℕ → Type 0
  IsShort row d = (to n : ℕ) → Walk rules row to n → n < d

  short_from : (d : ℕ) (free : ℕ → Bool) → passing (length rules) free ≤ d → (row : ℕ) → ((to n : ℕ) → Walk rules row to n → free to ≡ true) → IsShort row (suc d)
  short_from d free le row h to zero w = omega arith
  short_from zero free le row h to (suc n) (mid, b, w) =
      let within : row < length rules = slice_get_within rules row b.0 b.1 in
      let s = fewer (length rules) row free within (h row 0 refl) in
      absurd (omega (arith, s))
  short_from (suc d) free le row h to (suc n) (mid, b, w) =
      let within : row < length rules = slice_get_within rules row b.0 b.1 in
      let s = fewer (length rules) row free within (h row 0 refl) in
      let rest : IsShort mid (suc d) = short_from d (without free row) (omega (arith, s)) mid
      (λ x k v. ⊎_elim
      (λ e. absurd (none row k (mid, b, subst (λ y. Walk rules mid y k) e.1 v)))
      (λ e. ap (λ t. cond t false (free x)) e.0 ∙ h x (suc k) (mid, b, v)) (eqb_tells x row)) in
      let lt = rest to n w in
      omega arith

  pub all_short : (row : ℕ) → IsShort row (suc (length rules))
  all_short row = short_from (length rules) (λ x. true) (passing_all (length rules) (λ x. true)) row (λ to n w. refl)

  pub short_next : (row mid d : ℕ) → IsShort row (suc d) → Begins rules row mid → IsShort mid d
  short_next row mid d s b to n w = let lt = s to (suc n) (mid, b, w) in omega arith
