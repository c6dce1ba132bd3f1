-- Words and last parts where some parts stand any number of times.
use Rattle.std.specs.Prelude.{◌≡◌, ℕ, ◌-◌, ◌||◌, Bool, true, false, List, [], ◌∷◌, ◌++◌, length, flat_map, Some, refl, slice_get, ◌+◌, drop, not, if◌then◌else◌}
use Rattle.std.proofs.Common.{ap, sym, ◌∙◌, arith, suc, append_assoc}
use Rattle.std.specs.List.{position_or_len}
use Rattle.std.proofs.lemmas.List.{length-append, map-append}
use Rattle.std.proofs.lemmas.List.Folds.{list_any-append}
use Rattle.rl_forms.specs.declared.form.Form.{Form}
use Rattle.rl_forms.specs.Words.{is_word, has_word, behind_word}
use Rattle.rl_reading.proofs.Derivations.{Item, form_at, forms_in}

pub and_nothing : (xs : List Item) → xs ++ [] ≡ xs
and_nothing [] = refl
and_nothing (x ∷ xs) = ap (λ ys. x ∷ ys) (and_nothing xs)

pub and_nothing_thrice : (xs : List Item) → ((xs ++ []) ++ []) ++ [] ≡ xs
and_nothing_thrice xs = and_nothing ((xs ++ []) ++ []) ∙ (and_nothing (xs ++ []) ∙ and_nothing xs)

pub last_get : (xs : List Form) (y : Form) → slice_get (xs ++ y ∷ []) (length (xs ++ y ∷ []) - 1) ≡ Some y
last_get [] y = refl
last_get (x ∷ []) y = refl
last_get (x ∷ z ∷ xs) y =
    let step : length (x ∷ z ∷ xs ++ y ∷ []) - 1 ≡ suc (length (z ∷ xs ++ y ∷ []) - 1) = omega arith in
    ap (slice_get (x ∷ z ∷ xs ++ y ∷ [])) step ∙ last_get (z ∷ xs) y

pub last_but_one_get : (xs : List Form) (y z : Form) → slice_get (xs ++ y ∷ z ∷ []) (length (xs ++ y ∷ z ∷ []) - 2) ≡ Some y
last_but_one_get [] y z = refl
last_but_one_get (x ∷ []) y z = refl
last_but_one_get (x ∷ w ∷ xs) y z =
    let step : length (x ∷ w ∷ xs ++ y ∷ z ∷ []) - 2 ≡ suc (length (w ∷ xs ++ y ∷ z ∷ []) - 2) = omega (arith, length-append xs (y ∷ z ∷ [])) in
    ap (slice_get (x ∷ w ∷ xs ++ y ∷ z ∷ [])) step ∙ last_but_one_get (w ∷ xs) y z

-- the same behind one, two or three parts and a section
abbrev At : List Form → ℕ → Form → Type 0
At parts behind form = slice_get parts (length parts - behind) ≡ Some form

section_last : (front : List Form) (section : List Item) (y : Item) → At (front ++ forms_in (section ++ y ∷ [])) 1 (form_at y)
section_last front section y =
    let split : front ++ forms_in (section ++ y ∷ []) ≡ (front ++ forms_in section) ++ form_at y ∷ [] = ap (λ xs. front ++ xs) (map-append form_at section (y ∷ [])) ∙ sym (append_assoc front (forms_in section) (form_at y ∷ [])) in
    ap (λ xs. slice_get xs (length xs - 1)) split ∙ last_get (front ++ forms_in section) (form_at y)

section_last_but_one : (front : List Form) (section : List Item) (y z : Item) → At (front ++ forms_in (section ++ y ∷ z ∷ [])) 2 (form_at y)
section_last_but_one front section y z =
    let split : front ++ forms_in (section ++ y ∷ z ∷ []) ≡ (front ++ forms_in section) ++ form_at y ∷ form_at z ∷ [] = ap (λ xs. front ++ xs) (map-append form_at section (y ∷ z ∷ [])) ∙ sym (append_assoc front (forms_in section) (form_at y ∷ form_at z ∷ [])) in
    ap (λ xs. slice_get xs (length xs - 2)) split ∙ last_but_one_get (front ++ forms_in section) (form_at y) (form_at z)

section_last_of_two : (front : List Form) (section : List Item) (y z : Item) → At (front ++ forms_in (section ++ y ∷ z ∷ [])) 1 (form_at z)
section_last_of_two front section y z =
    let joined : section ++ y ∷ z ∷ [] ≡ (section ++ y ∷ []) ++ z ∷ [] = sym (append_assoc section (y ∷ []) (z ∷ [])) in
    ap (λ items. slice_get (front ++ forms_in items) (length (front ++ forms_in items) - 1)) joined ∙ section_last front (section ++ y ∷ []) z

section_last_of_three : (front : List Form) (section : List Item) (x y z : Item) → At (front ++ forms_in (section ++ x ∷ y ∷ z ∷ [])) 1 (form_at z)
section_last_of_three front section x y z =
    let joined : section ++ x ∷ y ∷ z ∷ [] ≡ (section ++ x ∷ y ∷ []) ++ z ∷ [] = sym (append_assoc section (x ∷ y ∷ []) (z ∷ [])) in
    ap (λ items. slice_get (front ++ forms_in items) (length (front ++ forms_in items) - 1)) joined ∙ section_last front (section ++ x ∷ y ∷ []) z

-- a sequence is a part of a choice, and the choice is a part of the rule, so that nothing follows twice
pub last_behind_one : (a : Form) (section : List Item) (y z : Item) → At (a ∷ forms_in ((section ++ y ∷ z ∷ []) ++ [])) 1 (form_at z)
last_behind_one a section y z =
    ap (λ items. slice_get (a ∷ forms_in items) (length (a ∷ forms_in items) - 1)) (and_nothing (section ++ y ∷ z ∷ [])) ∙ section_last_of_two (a ∷ []) section y z

pub last_but_one_behind_one : (a : Form) (section : List Item) (y z : Item) → At (a ∷ forms_in ((section ++ y ∷ z ∷ []) ++ [])) 2 (form_at y)
last_but_one_behind_one a section y z =
    ap (λ items. slice_get (a ∷ forms_in items) (length (a ∷ forms_in items) - 2)) (and_nothing (section ++ y ∷ z ∷ [])) ∙ section_last_but_one (a ∷ []) section y z

pub last_behind_two : (a b : Form) (section : List Item) (x y z : Item) → At (a ∷ b ∷ forms_in ((section ++ x ∷ y ∷ z ∷ []) ++ [])) 1 (form_at z)
last_behind_two a b section x y z =
    ap (λ items. slice_get (a ∷ b ∷ forms_in items) (length (a ∷ b ∷ forms_in items) - 1)) (and_nothing (section ++ x ∷ y ∷ z ∷ [])) ∙ section_last_of_three (a ∷ b ∷ []) section x y z

pub last_behind_three : (a b c : Form) (section : List Item) (y z : Item) → At (a ∷ b ∷ c ∷ forms_in (section ++ y ∷ z ∷ [])) 1 (form_at z)
last_behind_three a b c section y z = section_last_of_two (a ∷ b ∷ c ∷ []) section y z

-- what has no word is passed
or_false : (a b : Bool) → a ≡ false → (a || b) ≡ b
or_false true b e = absurd cc
or_false false b e = refl

none_of_both : (a b : Bool) → (a || b) ≡ false → (a ≡ false) × (b ≡ false)
none_of_both true b e = absurd cc
none_of_both false b e = (refl, e)

module _ (t : ℕ) where
  pub passes : (front rest : List Item) → has_word t (forms_in front) ≡ false → has_word t (forms_in (front ++ rest)) ≡ has_word t (forms_in rest)
  passes front rest h =
      ap (has_word t) (map-append form_at front rest) ∙ (list_any-append (is_word t) (forms_in front) (forms_in rest) ∙ or_false (has_word t (forms_in front)) (has_word t (forms_in rest)) h)

  pub behind_cons : (x : Form) (xs : List Form) → is_word t x ≡ false → behind_word t (x ∷ xs) ≡ behind_word t xs
  unfolding behind_word
  behind_cons x xs e =
      let place : position_or_len (is_word t) (x ∷ xs) ≡ 1 + position_or_len (is_word t) xs = ap (λ b. if not b then 1 + position_or_len (is_word t) xs else 0) e in
      let one : position_or_len (is_word t) (x ∷ xs) + 1 ≡ suc (position_or_len (is_word t) xs + 1) = omega (arith, place) in
      ap (λ n. drop n (x ∷ xs)) one

  behind_forms : (front rest : List Form) → has_word t front ≡ false → behind_word t (front ++ rest) ≡ behind_word t rest
  behind_forms [] rest h = refl
  behind_forms (x ∷ front) rest h =
      let both = none_of_both (is_word t x) (has_word t front) h in
      behind_cons x (front ++ rest) both.0 ∙ behind_forms front rest both.1

  pub behind : (front rest : List Item) → has_word t (forms_in front) ≡ false → behind_word t (forms_in (front ++ rest)) ≡ behind_word t (forms_in rest)
  behind front rest h = ap (behind_word t) (map-append form_at front rest) ∙ behind_forms (forms_in front) (forms_in rest) h

-- no word of this terminal stands in a section
module _ (t : ℕ) {A : Type 0} (items : A → List Item) (none_in : (derived : A) → has_word t (forms_in (items derived)) ≡ false) where
  pub section_has_none : (ds : List A) → has_word t (forms_in (flat_map items ds)) ≡ false
  section_has_none [] = refl
  section_has_none (d ∷ ds) = passes t (items d) (flat_map items ds) (none_in d) ∙ section_has_none ds

  pub passes_section : (ds : List A) (rest : List Item) → has_word t (forms_in (flat_map items ds ++ rest)) ≡ has_word t (forms_in rest)
  passes_section ds rest = passes t (flat_map items ds) rest (section_has_none ds)

  pub behind_section : (ds : List A) (rest : List Item) → behind_word t (forms_in (flat_map items ds ++ rest)) ≡ behind_word t (forms_in rest)
  behind_section ds rest = behind t (flat_map items ds) rest (section_has_none ds)
