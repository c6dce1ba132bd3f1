-- A table with numbers that fall along each step has no left recursion.
use Rattle.std.proofs.Common.{◌≡◌, ℕ, zero, suc, ◌+◌, ◌<◌, ◌≤◌, Bool, true, false, nat_lt, ◌&&◌, List, [], ◌∷◌, Some, refl, sym, subst, arith, get_or}
use Rattle.std.proofs.lemmas.Bool.{and_parts, and_from, ltb-true}
use Rattle.std.proofs.lemmas.Option.{same_Some}
use Rattle.std.specs.Prelude.{slice_get}
use Rattle.rl_phrase.specs.declared.table.Rule.{Rule}
use Rattle.rl_phrase.specs.declared.table.Form.{Form}
use Rattle.rl_phrase.specs.declared.table.Form.TheVariants.{Term, Link, Named, Seq, Choice, Star, Plus, Opt, Not}
use Rattle.rl_phrase.specs.Certificate.{if_true, fronts_fall, all_empty, choices_fall, form_fits, table_fits, IsCertificate}
use Rattle.rl_phrase.specs.LeftRecursion.{CanBeEmpty, itself, link, choice, parts, TakesNothing, TakesParts, BeginsForm, IsReached, Walk, HasNoLeftRecursion}

module _ (empty : ℕ → Bool) (rank : ℕ → ℕ) where
  abbrev pub AllEmpty : (first count : ℕ) → Type 0
  AllEmpty first count = (i : ℕ) → i < count → empty (first + i) ≡ true

  abbrev pub Fronts : (row first count : ℕ) → Type 0
  Fronts row first count = (i : ℕ) → i < count → AllEmpty first i → rank (first + i) < rank row

  -- the numbers of a row fit those of its parts
  abbrev pub FitsForm : (row : ℕ) → Form → (first count : ℕ) → Type 0
  FitsForm row (Term kind) first count = Unit {0}
  FitsForm row Link first count = (rank first < rank row) × (empty first ≡ true → empty row ≡ true)
  FitsForm row Choice first count = (i : ℕ) → i < count → (rank (first + i) < rank row) × (empty (first + i) ≡ true → empty row ≡ true)
  FitsForm row Named first count = Fronts row first count × (AllEmpty first count → empty row ≡ true)
  FitsForm row Seq first count = Fronts row first count × (AllEmpty first count → empty row ≡ true)
  FitsForm row Plus first count = Fronts row first count × (AllEmpty first count → empty row ≡ true)
  FitsForm row Star first count = Fronts row first count × (empty row ≡ true)
  FitsForm row Opt first count = Fronts row first count × (empty row ≡ true)
  FitsForm row Not first count = Fronts row first count × (empty row ≡ true)

  module _ (rules : List Rule) (fits : (row first count : ℕ) (form : Form) → slice_get rules row ≡ Some (record { form = form; first = first; count = count }) → FitsForm row form first count) where
    by_itself : (row first count : ℕ) (form : Form) → TakesNothing form → FitsForm row form first count → empty row ≡ true
    by_itself row first count Star t f = f.1
    by_itself row first count Opt t f = f.1
    by_itself row first count Not t f = f.1
    by_itself row first count (Term kind) t f = absurd t
    by_itself row first count Link t f = absurd t
    by_itself row first count Named t f = absurd t
    by_itself row first count Seq t f = absurd t
    by_itself row first count Choice t f = absurd t
    by_itself row first count Plus t f = absurd t

    by_parts : (row first count : ℕ) (form : Form) → TakesParts form → FitsForm row form first count → AllEmpty first count → empty row ≡ true
    by_parts row first count Named t f h = f.1 h
    by_parts row first count Seq t f h = f.1 h
    by_parts row first count Plus t f h = f.1 h
    by_parts row first count (Term kind) t f h = absurd t
    by_parts row first count Link t f h = absurd t
    by_parts row first count Choice t f h = absurd t
    by_parts row first count Star t f h = absurd t
    by_parts row first count Opt t f h = absurd t
    by_parts row first count Not t f h = absurd t

    is_empty : (row : ℕ) → CanBeEmpty rules row → empty row ≡ true
    is_empty _ (itself row first count form e t) = by_itself row first count form t (fits row first count form e)
    is_empty _ (link row first count e c) = (fits row first count Link e).1 (is_empty first c)
    is_empty _ (choice row first count e i lt c) = (fits row first count Choice e i lt).1 (is_empty (first + i) c)
    is_empty _ (parts row first count form e t cs) = by_parts row first count form t (fits row first count form e) (λ i lt. is_empty (first + i) (cs i lt))

    falls_at : (row first count to : ℕ) → Fronts row first count → IsReached rules first count to → rank to < rank row
    falls_at row first count to f r = subst (λ x. rank x < rank row) (sym r.2) (f r.0 r.1 (λ j lt. is_empty (first + j) (r.3 j lt)))

    falls : (row first count to : ℕ) (form : Form) → FitsForm row form first count → BeginsForm rules form first count to → rank to < rank row
    falls row first count to (Term kind) f b = absurd b
    falls row first count to Link f b = subst (λ x. rank x < rank row) (sym b) f.0
    falls row first count to Choice f b = subst (λ x. rank x < rank row) (sym b.2) (f b.0 b.1).0
    falls row first count to Named f b = falls_at row first count to f.0 b
    falls row first count to Seq f b = falls_at row first count to f.0 b
    falls row first count to Star f b = falls_at row first count to f.0 b
    falls row first count to Plus f b = falls_at row first count to f.0 b
    falls row first count to Opt f b = falls_at row first count to f.0 b
    falls row first count to Not f b = falls_at row first count to f.0 b

    walk_falls : (from to n : ℕ) → Walk rules from to n → rank to + n ≤ rank from
    walk_falls from to zero w = subst (λ x. rank to + 0 ≤ rank x) (sym w) (omega arith)
    walk_falls from to (suc n) w =
        let mid = w.0 in
        let lt = falls from w.1.0.first w.1.0.count mid w.1.0.form (fits from w.1.0.first w.1.0.count w.1.0.form w.1.1) w.1.2 in
        let le = walk_falls mid to n w.2 in
        omega arith

    pub certified : HasNoLeftRecursion rules
    certified row n w = let le = walk_falls row row (suc n) w in absurd (omega arith)

-- The same by the test that computes.
module _ (empty : ℕ → Bool) (rank : ℕ → ℕ) where
  use_if : (a b : Bool) → if_true a b ≡ true → a ≡ true → b ≡ true
  use_if true b h e = h
  use_if false b h e = cc

  shift : (first i : ℕ) → first + suc i ≡ (first + 1) + i
  shift first i = omega arith

  empty_next : (first i : ℕ) → AllEmpty empty rank first (suc i) → AllEmpty empty rank (first + 1) i
  empty_next first i h j lt = subst (λ x. empty x ≡ true) (shift first j) (h (suc j) (omega arith))

  empty_first : (first i : ℕ) → AllEmpty empty rank first (suc i) → empty first ≡ true
  empty_first first i h = let z : first + 0 ≡ first = omega arith in subst (λ x. empty x ≡ true) z (h 0 (omega arith))

  fronts_sound : (row first count : ℕ) → fronts_fall empty rank row first count ≡ true → Fronts empty rank row first count
  fronts_sound row first zero e i lt h = absurd (omega arith)
  fronts_sound row first (suc count) e zero lt h =
      let p = and_parts (nat_lt (rank first) (rank row)) (if_true (empty first) (fronts_fall empty rank row (first + 1) count)) e in
      let z : first ≡ first + 0 = omega arith in
      subst (λ x. rank x < rank row) z (ltb-true (rank first) (rank row) p.0)
  fronts_sound row first (suc count) e (suc i) lt h =
      let p = and_parts (nat_lt (rank first) (rank row)) (if_true (empty first) (fronts_fall empty rank row (first + 1) count)) e in
      let rest = use_if (empty first) (fronts_fall empty rank row (first + 1) count) p.1 (empty_first first i h) in
      subst (λ x. rank x < rank row) (sym (shift first i)) (fronts_sound row (first + 1) count rest i (omega arith) (empty_next first i h))

  all_complete : (first count : ℕ) → AllEmpty empty rank first count → all_empty empty rank first count ≡ true
  all_complete first zero h = refl
  all_complete first (suc count) h = and_from _ _ (empty_first first count h) (all_complete (first + 1) count (empty_next first count h))

  choices_sound : (row first count : ℕ) → choices_fall empty rank row first count ≡ true → (i : ℕ) → i < count → (rank (first + i) < rank row) × (empty (first + i) ≡ true → empty row ≡ true)
  choices_sound row first zero e i lt = absurd (omega arith)
  choices_sound row first (suc count) e zero lt =
      let p = and_parts (nat_lt (rank first) (rank row) && if_true (empty first) (empty row)) (choices_fall empty rank row (first + 1) count) e in
      let q = and_parts (nat_lt (rank first) (rank row)) (if_true (empty first) (empty row)) p.0 in
      let z : first ≡ first + 0 = omega arith in
      subst (λ x. (rank x < rank row) × (empty x ≡ true → empty row ≡ true)) z (ltb-true (rank first) (rank row) q.0, use_if (empty first) (empty row) q.1)
  choices_sound row first (suc count) e (suc i) lt =
      let p = and_parts (nat_lt (rank first) (rank row) && if_true (empty first) (empty row)) (choices_fall empty rank row (first + 1) count) e in
      subst (λ x. (rank x < rank row) × (empty x ≡ true → empty row ≡ true)) (sym (shift first i)) (choices_sound row (first + 1) count p.1 i (omega arith))

  some_sound : (row first count : ℕ) → (fronts_fall empty rank row first count && empty row) ≡ true → Fronts empty rank row first count × (empty row ≡ true)
  some_sound row first count e = let p = and_parts (fronts_fall empty rank row first count) (empty row) e in (fronts_sound row first count p.0, p.1)

  all_sound : (row first count : ℕ) → (fronts_fall empty rank row first count && if_true (all_empty empty rank first count) (empty row)) ≡ true → Fronts empty rank row first count × (AllEmpty empty rank first count → empty row ≡ true)
  all_sound row first count e =
      let p = and_parts (fronts_fall empty rank row first count) (if_true (all_empty empty rank first count) (empty row)) e in
      (fronts_sound row first count p.0, λ h. use_if (all_empty empty rank first count) (empty row) p.1 (all_complete first count h))

  form_sound : (row : ℕ) (form : Form) (first count : ℕ) → form_fits empty rank row form first count ≡ true → FitsForm empty rank row form first count
  form_sound row (Term kind) first count e = tt
  form_sound row Link first count e = let p = and_parts (nat_lt (rank first) (rank row)) (if_true (empty first) (empty row)) e in (ltb-true (rank first) (rank row) p.0, use_if (empty first) (empty row) p.1)
  form_sound row Choice first count e = choices_sound row first count e
  form_sound row Named first count e = all_sound row first count e
  form_sound row Seq first count e = all_sound row first count e
  form_sound row Plus first count e = all_sound row first count e
  form_sound row Star first count e = some_sound row first count e
  form_sound row Opt first count e = some_sound row first count e
  form_sound row Not first count e = some_sound row first count e

  row_sound : (base : ℕ) (rules : List Rule) → table_fits empty rank base rules ≡ true → (i : ℕ) (rule : Rule) → slice_get rules i ≡ Some rule → form_fits empty rank (base + i) rule.form rule.first rule.count ≡ true
  row_sound base [] e i rule g = cc
  row_sound base (r ∷ rules) e zero rule g =
      let p = and_parts (form_fits empty rank base r.form r.first r.count) (table_fits empty rank (base + 1) rules) e in
      let z : base ≡ base + 0 = omega arith in
      subst (λ x. form_fits empty rank (base + 0) x.form x.first x.count ≡ true) (same_Some r rule g) (subst (λ b. form_fits empty rank b r.form r.first r.count ≡ true) z p.0)
  row_sound base (r ∷ rules) e (suc i) rule g =
      let p = and_parts (form_fits empty rank base r.form r.first r.count) (table_fits empty rank (base + 1) rules) e in
      subst (λ b. form_fits empty rank b rule.form rule.first rule.count ≡ true) (sym (shift base i)) (row_sound (base + 1) rules p.1 i rule g)

  pub tested : (rules : List Rule) → table_fits empty rank 0 rules ≡ true → HasNoLeftRecursion rules
  tested rules e = certified empty rank rules
      (λ row first count form g.
      let z : 0 + row ≡ row = omega arith in
      form_sound row form first count (subst (λ b. form_fits empty rank b form first count ≡ true) z (row_sound 0 rules e row (record { form = form; first = first; count = count }) g)))

pub certificate : (rules : List Rule) (empties : List Bool) (ranks : List ℕ) → IsCertificate rules empties ranks → HasNoLeftRecursion rules
certificate rules empties ranks = tested (λ row. get_or empties row false) (λ row. get_or ranks row 0) rules
