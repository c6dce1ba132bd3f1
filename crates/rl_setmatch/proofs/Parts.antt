-- The parts that a choice makes hold all elements, each once.
use Rattle.std.proofs.lemmas.List.Recursion.{is_count_by}
use Rattle.std.proofs.lemmas.Bool.{eqb-true, eq-eqb}
use Rattle.std.proofs.lemmas.Bool.Decides.{eqb_tells}
use Rattle.std.specs.Prelude.{◌≢◌, ◌⊎◌}
use Rattle.std.proofs.Common.{inl, inr, ◌≡◌, ℕ, zero, suc, ◌+◌, ◌<◌, ◌≤◌, ◌==◌, Bool, true, false, List, [], ◌∷◌, ◌++◌, length, map, flat_map, refl, sym, ap, ◌∙◌, arith, if◌then◌else◌}
use Rattle.std.specs.Prelude.{filter}
use Rattle.std.specs.List.{count_by, range_with_len, zip}
use Rattle.rl_setmatch.specs.Divisions.{part, parts}
use Rattle.rl_setmatch.specs.Laws.{IsChoice}

module _ {A : Type 0} where
  abbrev numbered : List (A × ℕ) → ℕ → List A
  numbered pairs star = map (λ p. p.0) (filter (λ p. p.1 == star) pairs)

  numbered_step : (x : A) (s star : ℕ) (pairs : List (A × ℕ)) → numbered ((x, s) ∷ pairs) star ≡ (if s == star then x ∷ numbered pairs star else numbered pairs star)
  numbered_step x s star pairs = by (s == star)
    where
      by : (b : Bool) → map (λ p. p.0) (if b then (x, s) ∷ filter (λ p. p.1 == star) pairs else filter (λ p. p.1 == star) pairs) ≡ (if b then x ∷ numbered pairs star else numbered pairs star)
      by true = refl
      by false = refl

  pub by_numbers : (es : List A) (choice : List ℕ) (star : ℕ) → length choice ≡ length es → part es choice star ≡ numbered (zip es choice) star
  by_numbers [] choice star e = refl
  by_numbers (x ∷ es) [] star e = absurd cc
  by_numbers (x ∷ es) (s ∷ choice) star e =
      let shorter : length choice ≡ length es = omega (arith, e) in
      ap (λ xs. if s == star then x ∷ xs else xs) (by_numbers es choice star shorter) ∙ sym (numbered_step x s star (zip es choice))

  module _ (holds : A → Bool) where
    abbrev one : A → ℕ
    one x = if holds x then 1 else 0

    abbrev counted : List A → ℕ
    counted [] = 0
    counted (x ∷ xs) = one x + counted xs

    counted_append : (xs ys : List A) → counted (xs ++ ys) ≡ counted xs + counted ys
    counted_append [] ys =
        let same : counted ys ≡ 0 + counted ys = omega arith in
        same
    counted_append (x ∷ xs) ys = omega (arith, counted_append xs ys)

    counted_is : (xs : List A) → counted xs ≡ count_by holds xs
    counted_is xs = is_count_by counted holds refl step xs
      where
        step : (x : A) (xs : List A) → counted (x ∷ xs) ≡ (if holds x then 1 + counted xs else counted xs)
        step x xs = by (holds x)
          where
            by : (b : Bool) → (if b then 1 else 0) + counted xs ≡ (if b then 1 + counted xs else counted xs)
            by true = refl
            by false = omega arith

    -- the elements of m parts from star a on, and how many of them hold
    abbrev joined : List A → List ℕ → (a m : ℕ) → List A
    joined es choice a m = flat_map (λ xs. xs) (map (part es choice) (range_with_len a m))

    abbrev among : List A → List ℕ → (a m : ℕ) → ℕ
    among es choice a m = counted (joined es choice a m)

    among_step : (es : List A) (choice : List ℕ) (a m : ℕ) → among es choice a (suc m) ≡ counted (part es choice a) + among es choice (a + 1) m
    among_step es choice a m = counted_append (part es choice a) (joined es choice (a + 1) m)

    part_cons : (x : A) (s : ℕ) (es : List A) (choice : List ℕ) (star : ℕ) → counted (part (x ∷ es) (s ∷ choice) star) ≡ (if s == star then one x else 0) + counted (part es choice star)
    part_cons x s es choice star = by (s == star)
      where
        by : (b : Bool) → counted (if b then x ∷ part es choice star else part es choice star) ≡ (if b then one x else 0) + counted (part es choice star)
        by true = refl
        by false = omega arith

    other : (s star : ℕ) (n : ℕ) → s ≢ star → (if s == star then n else 0) ≡ 0
    other s star n ne = by (s == star) refl
      where
        by : (b : Bool) → (s == star) ≡ b → (if b then n else 0) ≡ 0
        by true e = absurd (ne (eqb-true s star e))
        by false e = refl

    own : (s n : ℕ) → (if s == s then n else 0) ≡ n
    own s n = ap (λ b. if b then n else 0) (eq-eqb s s refl)

    -- an element counts in the part of its star, and in no other
    among_past : (x : A) (s : ℕ) (es : List A) (choice : List ℕ) (a m : ℕ) → s < a → among (x ∷ es) (s ∷ choice) a m ≡ among es choice a m
    among_past x s es choice a zero l = refl
    among_past x s es choice a (suc m) l =
        let ne : s ≢ a = λ e. omega (arith, e) in
        omega (arith, among_step (x ∷ es) (s ∷ choice) a m, among_step es choice a m, part_cons x s es choice a, other s a (one x) ne, among_past x s es choice (a + 1) m (omega arith))

    among_cons : (x : A) (s : ℕ) (es : List A) (choice : List ℕ) (a m : ℕ) → a ≤ s → s < a + m → among (x ∷ es) (s ∷ choice) a m ≡ one x + among es choice a m
    among_cons x s es choice a zero l h = absurd (omega arith)
    among_cons x s es choice a (suc m) l h = by (eqb_tells s a) (among_cons x s es choice (a + 1) m)
      where
        by : ((s == a) ≡ true) × (s ≡ a) ⊎ ((s == a) ≡ false) × (s ≢ a) → (a + 1 ≤ s → s < a + 1 + m → among (x ∷ es) (s ∷ choice) (a + 1) m ≡ one x + among es choice (a + 1) m)
            → among (x ∷ es) (s ∷ choice) a (suc m) ≡ one x + among es choice a (suc m)
        by (inl found) later =
            let same : (if s == a then one x else 0) ≡ one x = ap (λ b. if b then one x else 0) found.0 in
            omega (arith, among_step (x ∷ es) (s ∷ choice) a m, among_step es choice a m, part_cons x s es choice a, same, among_past x s es choice (a + 1) m (omega (arith, found.1)))
        by (inr found) later =
            omega (arith, among_step (x ∷ es) (s ∷ choice) a m, among_step es choice a m, part_cons x s es choice a, other s a (one x) found.1, later (omega (arith, found.1)) (omega arith))

    among_none : (choice : List ℕ) (a m : ℕ) → among [] choice a m ≡ 0
    among_none choice a zero = refl
    among_none choice a (suc m) = among_none choice (a + 1) m

    all_counted : (es : List A) (k : ℕ) (choice : List ℕ) → IsChoice k (length es) choice → among es choice 0 k ≡ counted es
    all_counted [] k choice h = among_none choice 0 k
    all_counted (x ∷ es) k [] h = absurd (none_chosen h.0)
      where
        none_chosen : 0 ≡ suc (length es) → ⊥
        none_chosen e = omega (arith, e)
    all_counted (x ∷ es) k (s ∷ choice) h =
        let shorter : length choice ≡ length es = omega (arith, h.0) in
        omega (arith, among_cons x s es choice 0 k (omega arith) (omega (arith, h.1.0)), all_counted es k choice (shorter, h.1.1))

    pub holds_all : (es : List A) (k : ℕ) (choice : List ℕ) → IsChoice k (length es) choice → count_by holds (flat_map (λ part. part) (parts es k choice)) ≡ count_by holds es
    holds_all es k choice h = sym (counted_is (flat_map (λ part. part) (parts es k choice))) ∙ (all_counted es k choice h ∙ counted_is es)
