-- Where a value first stands in a list.
use Rattle.std.proofs.Common.{◌≡◌, ℕ, zero, suc, ◌+◌, ◌<◌, ◌≤◌, Bool, true, false, cond, nat_lt, List, [], ◌∷◌, ◌++◌, Some, None, length, get_or, take, drop, refl, ap, sym, ◌∙◌, arith}
use Rattle.std.specs.List.{position, position_or_len}
use Rattle.std.proofs.lemmas.Bool.Decides.{nat_tests}
use Rattle.std.proofs.lemmas.List.Sums.{fails_before_first}
use Rattle.std.proofs.lemmas.List.Quantifiers.{position-Some}
use Rattle.rl_value.specs.Plain.{Plain}
use Rattle.rl_value.specs.Laws.{plain_eq}
use Rattle.rl_operators.specs.Lists.{without_first}

cut : (x d : Plain) (ys : List Plain) (i : ℕ) → i < length ys → plain_eq (get_or ys i d) x ≡ true → ((k : ℕ) → k < i → plain_eq (get_or ys k d) x ≡ false)
    → take i ys ++ drop (i + 1) ys ≡ without_first x ys
cut x d [] i h here before = absurd (omega arith)
cut x d (y ∷ ys) zero h here before = let same : plain_eq y x ≡ true = here in rw same refl
cut x d (y ∷ ys) (suc i) h here before =
    let other : plain_eq y x ≡ false = before zero (omega arith) in
    let next : suc i + 1 ≡ suc (i + 1) = omega arith in
    rw (next, other) (ap (λ zs. y ∷ zs) (cut x d ys i (omega arith) here (λ k l. before (suc k) (omega arith))))

pub cut_at : (x : Plain) (ys zs : List Plain) (i : ℕ) → Some i ≡ position (λ y. plain_eq y x) zs → zs ≡ ys → take i ys ++ drop (i + 1) ys ≡ without_first x ys
cut_at x ys zs i is same =
    let first : position (λ y. plain_eq y x) ys ≡ Some i = sym (is ∙ ap (position (λ y. plain_eq y x)) same) in
    let h = position-Some (λ y. plain_eq y x) ys i x first in
    cut x x ys i h.0 h.1 h.2

kept : (x : Plain) (ys : List Plain) → ((k : ℕ) (d : Plain) → k < length ys → plain_eq (get_or ys k d) x ≡ false) → without_first x ys ≡ ys
kept x [] none = refl
kept x (y ∷ ys) none =
    let other : plain_eq y x ≡ false = none zero x (omega arith) in
    rw other (ap (λ zs. y ∷ zs) (kept x ys (λ k d l. none (suc k) d (omega arith))))

at_the_end : (p : Plain → Bool) (ys : List Plain) → position p ys ≡ None → length ys ≤ position_or_len p ys
at_the_end p ys e = by (nat_lt (position_or_len p ys) (length ys)) refl e
  where
    by : (b : Bool) → nat_lt (position_or_len p ys) (length ys) ≡ b → cond b (Some (position_or_len p ys)) None ≡ None → length ys ≤ position_or_len p ys
    by true t h = cc
    by false t h = grind (arith, nat_tests)

pub not_there : (x : Plain) (ys zs : List Plain) → None ≡ position (λ y. plain_eq y x) zs → zs ≡ ys → ys ≡ without_first x ys
not_there x ys zs is same =
    let none : position (λ y. plain_eq y x) ys ≡ None = sym (is ∙ ap (position (λ y. plain_eq y x)) same) in
    let end = at_the_end (λ y. plain_eq y x) ys none in
    sym (kept x ys (λ k d l. fails_before_first (λ y. plain_eq y x) ys k d (omega arith)))
