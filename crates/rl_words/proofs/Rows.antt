-- The rows of the matches: what stands for an id, and what one more use of an argument makes of it.
use Rattle.std.proofs.Common.{◌≡◌, ◌++◌, ◌||◌, Bool, true, false, cond, is_some, List, [], ◌∷◌, Option, Some, None, option_map, refl, ap}
use Rattle.std.specs.List.{find}
use Rattle.std.specs.Option.{option_or}
use Rattle.std.specs.Prelude.{option_and_then, slice_get}
use Rattle.std.specs.Str.{bytes_eq}
use Rattle.clap.specs.Walk.{Row, Text, all_of, at_row, first_of, has_row}

-- ---- an id with no row

none_some : {X : Type 0} (x : X) → Some x ≡ None → ⊥
none_some x e = cc

pub at_row-absent : (id : Text) (change : Row → List Row) (missing rows : List Row) → all_of id rows ≡ None → at_row id change missing rows ≡ rows ++ missing
at_row-absent id change missing [] none = refl
at_row-absent id change missing (r ∷ rs) none = go (bytes_eq r.id id) none (at_row-absent id change missing rs)
  where
    go : (b : Bool) → option_map (λ (x : Row). x.values) (cond b (Some r) (find (λ x. bytes_eq x.id id) rs)) ≡ None
        → (all_of id rs ≡ None → at_row id change missing rs ≡ rs ++ missing)
        → cond b (change r ++ rs) (r ∷ at_row id change missing rs) ≡ r ∷ (rs ++ missing)
    go true e ih = absurd (none_some _ e)
    go false e ih = ap (λ l. r ∷ l) (ih e)

pub has_row-all_of : (id : Text) (rows : List Row) → has_row id rows ≡ is_some (all_of id rows)
has_row-all_of id [] = refl
has_row-all_of id (r ∷ rs) = go (bytes_eq r.id id) (has_row-all_of id rs)
  where
    go : (b : Bool) → has_row id rs ≡ is_some (all_of id rs)
        → (b || has_row id rs) ≡ is_some (option_map (λ (x : Row). x.values) (cond b (Some r) (find (λ x. bytes_eq x.id id) rs)))
    go true ih = refl
    go false ih = ih

pub all_of-push : (id : Text) (rows : List Row) (row : Row) → all_of id (rows ++ row ∷ []) ≡ option_or (all_of id rows) (all_of id (row ∷ []))
all_of-push id [] row = refl
all_of-push id (r ∷ rs) row = go (bytes_eq r.id id) (all_of-push id rs row)
  where
    go : (b : Bool) → all_of id (rs ++ row ∷ []) ≡ option_or (all_of id rs) (all_of id (row ∷ []))
        → option_map (λ (x : Row). x.values) (cond b (Some r) (find (λ x. bytes_eq x.id id) (rs ++ row ∷ [])))
        ≡ option_or (option_map (λ (x : Row). x.values) (cond b (Some r) (find (λ x. bytes_eq x.id id) rs))) (all_of id (row ∷ []))
    go true ih = refl
    go false ih = ih

pub first_of-all_of : (id : Text) (rows : List Row) → first_of id rows ≡ option_and_then (λ values. slice_get values 0) (all_of id rows)
first_of-all_of id rows = go (find (λ r. bytes_eq r.id id) rows)
  where
    go : (o : Option Row) → option_and_then (λ (r : Row). slice_get r.values 0) o ≡ option_and_then (λ values. slice_get values 0) (option_map (λ (r : Row). r.values) o)
    go None = refl
    go (Some r) = refl
