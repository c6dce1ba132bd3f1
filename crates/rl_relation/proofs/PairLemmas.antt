-- Pairs and their parts.
use Rattle.std.proofs.Common.{◌≡◌, ℕ, zero, suc, ◌<◌, ◌≤◌, Bool, true, false, ◌&&◌, ◌==◌, List, [], ◌∷◌, length, get_or, refl, ap, sym, subst, ◌∙◌, arith}
use Rattle.std.proofs.lemmas.Bool.Decides.{nat_tests}
use Rattle.std.specs.List.{list_all}
use Rattle.rl_value.specs.Plain.{Plain, set, tuple, nil, cons, plains_of, items_of-plains_of, Fits}
use Rattle.rl_value.specs.Order.{plain_cmp}
use Rattle.rl_value.specs.Rising.{Rises}
use Rattle.rl_value.specs.Opened.{IsInOrder}
use Rattle.rl_access.specs.Rows.{is_row}
use Rattle.rl_relation.specs.Pairs.{is_pair, pair_of, first_of, second_of, swapped}

pub is_pair_parts : (ts : List Plain) → is_pair (tuple (plains_of ts)) ≡ (length ts == 2)
is_pair_parts [] = refl
is_pair_parts (x ∷ []) = refl
is_pair_parts (x ∷ y ∷ []) = refl
is_pair_parts (x ∷ y ∷ z ∷ ts) = grind (arith, nat_tests)

pub second_at : (ts : List Plain) (y t : Plain) → 2 ≤ length ts → y ≡ get_or ts 1 y → tuple (plains_of ts) ≡ t → y ≡ second_of t
second_at [] y t h e f = absurd (omega arith)
second_at (x ∷ []) y t h e f = absurd (omega arith)
second_at (x ∷ z ∷ ts) y t h e f = e ∙ ap second_of f

pub no_second : (ts : List Plain) (t : Plain) → length ts < 2 → tuple (plains_of ts) ≡ t → t ≡ second_of t
no_second [] t h f = subst (λ u. u ≡ second_of u) f refl
no_second (x ∷ []) t h f = subst (λ u. u ≡ second_of u) f refl
no_second (x ∷ y ∷ ts) t h f = absurd (omega arith)

row_of_pair : (t : Plain) → is_pair t ≡ true → is_row t ≡ true
row_of_pair (tuple (cons x (cons y nil))) e = refl
row_of_pair t e = cc

both : (a b : Bool) → (a && b) ≡ true → (a ≡ true) × (b ≡ true)
both true b e = (refl, e)
both false b e = cc

pub rows_of_pairs : (ps : List Plain) → list_all is_pair ps ≡ true → list_all is_row ps ≡ true
rows_of_pairs [] e = refl
rows_of_pairs (p ∷ ps) e =
    let parts = both (is_pair p) (list_all is_pair ps) e in
    rw (row_of_pair p parts.0, rows_of_pairs ps parts.1) refl

pub swapped_pair : (t : Plain) → is_pair t ≡ true → pair_of (second_of t) (first_of t) ≡ swapped t
swapped_pair (tuple (cons x (cons y nil))) e = refl
swapped_pair t e = cc

pub swapped_fits : (t : Plain) → is_pair t ≡ true → Fits t → Fits (pair_of (second_of t) (first_of t))
swapped_fits (tuple (cons x (cons y nil))) e f = record { size = omega (arith, f.size); height = omega (arith, f.height) }
swapped_fits t e f = cc

pub pair_at : (ps : List Plain) (i : ℕ) (p : Plain) → list_all is_pair ps ≡ true → i < length ps → p ≡ get_or ps i p → is_pair p ≡ true
pair_at [] i p a h e = absurd (omega arith)
pair_at (q ∷ qs) zero p a h e = ap is_pair e ∙ (both (is_pair q) (list_all is_pair qs) a).0
pair_at (q ∷ qs) (suc i) p a h e = pair_at qs i p (both (is_pair q) (list_all is_pair qs) a).1 (omega arith) e

-- what opening a set says of its elements
pub items_order : (t : Plain) (ts : List Plain) → set (plains_of ts) ≡ t → IsInOrder t → Rises plain_cmp ts
items_order t ts e o = subst (Rises plain_cmp) (items_of-plains_of ts) (subst IsInOrder (sym e) o)
