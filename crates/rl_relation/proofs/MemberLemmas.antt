-- Members of rising lists.
use Rattle.std.proofs.Common.{◌≡◌, ℕ, zero, suc, ◌+◌, ◌<◌, ◌≤◌, Bool, false, List, [], ◌∷◌, Result, Ok, Err, length, get_or, map, ◌||◌, refl, ap, sym, ◌∙◌, arith}
use Rattle.std.proofs.lemmas.Bool.{cases_lt}
use Rattle.std.proofs.lemmas.List.{length-map}
use Rattle.std.specs.Result.{is_ok}
use Rattle.std.specs.List.{list_any}
use Rattle.std.specs.List.Sorted.{IsBinarySearchResult, IsSearchInRange, IsPartitionPoint, IsNonDecreasingBy, IsSortedBy}
use Rattle.std.specs.declared.cmp.Ordering.{Ordering}
use Rattle.std.specs.declared.cmp.Ordering.TheVariants.{Less, Equal, Greater}
use Rattle.std.specs.Ordering.{ordering_index, ordering_reverse, is_lt}
use Rattle.std.proofs.lemmas.List.Folds.{list_any_at, list_any_none}
use Rattle.std.proofs.lemmas.List.Sorted.{searchable_from_sorted}
use Rattle.std.proofs.Common.{◌⊎◌, inl, inr}
use Rattle.rl_value.specs.Plain.{Plain}
use Rattle.rl_value.specs.Order.{plain_cmp}
use Rattle.rl_value.specs.Laws.{plain_eq, plain_cmp_total}
use Rattle.rl_value.specs.Rising.{Rises}
use Rattle.rl_relation.specs.Pairs.{is_member}

-- ---- what halving finds
sorted : (xs : List Plain) → Rises plain_cmp xs → (k : ℕ) (d : Plain) → k + 1 < length xs → is_lt (plain_cmp (get_or xs (k + 1) d) (get_or xs k d)) ≡ false
sorted [] r k d h = absurd (omega arith)
sorted (x ∷ []) r k d h = absurd (omega arith)
sorted (x ∷ y ∷ ys) r zero d h = rw (plain_cmp_total.antisymm y x) (turned (plain_cmp x y) r.0.0)
  where
    turned : (o : Ordering) → o ≡ Less → is_lt (ordering_reverse o) ≡ false
    turned Less e = refl
    turned Equal e = cc
    turned Greater e = cc
sorted (x ∷ y ∷ ys) r (suc k) d h = let next : suc k + 1 ≡ suc (k + 1) = omega arith in rw next (sorted (y ∷ ys) r.1 k d (omega arith))

module _ {X : Type 0} (key : X → Plain) where
  get_or-map : (xs : List X) (k : ℕ) (d : X) → get_or (map key xs) k (key d) ≡ key (get_or xs k d)
  get_or-map [] k d = refl
  get_or-map (x ∷ xs) zero d = refl
  get_or-map (x ∷ xs) (suc k) d = get_or-map xs k d

  sorted_by : (xs : List X) → Rises plain_cmp (map key xs) → IsSortedBy (λ a b. is_lt (plain_cmp (key a) (key b))) xs
  sorted_by xs r k d low high =
      let within : k + 1 < length (map key xs) = rw length-map high in
      let h = sorted (map key xs) r k (key d) within in
      rw (get_or-map xs (k + 1) d, get_or-map xs k d) at h

  not_equal : (xs : List X) (x : Plain) (i : ℕ) → IsPartitionPoint (λ y. plain_cmp (key y) x ≡ Less) (λ y. plain_cmp (key y) x ≡ Greater) xs i
      → (k : ℕ) (d : X) → k < length xs → plain_eq (key (get_or xs k d)) x ≡ false
  not_equal xs x i (below, above) k d h = by (cases_lt k i)
    where
      by : (k < i) ⊎ (i ≤ k) → plain_eq (key (get_or xs k d)) x ≡ false
      by (inl l) = rw (below k d (omega arith) l) refl
      by (inr l) = rw (above k d l h) refl

  list_any-map : (x : Plain) (xs : List X) → list_any (λ y. plain_eq y x) (map key xs) ≡ list_any (λ y. plain_eq (key y) x) xs
  list_any-map x [] = refl
  list_any-map x (y ∷ ys) = ap (λ b. plain_eq (key y) x || b) (list_any-map x ys)

  pub searched_by : (xs : List X) (x : Plain) (r : Result ℕ ℕ) (b : Bool) → Rises plain_cmp (map key xs) → IsSearchInRange r (length xs)
      → IsBinarySearchResult (λ y. plain_cmp (key y) x) xs r → b ≡ is_ok r → b ≡ is_member (map key xs) x
  searched_by [] x (Ok i) b rises range found is = absurd (omega arith)
  searched_by (y ∷ ys) x (Ok i) b rises range found is =
      is ∙ sym (list_any-map x (y ∷ ys) ∙ list_any_at (λ z. plain_eq (key z) x) (y ∷ ys) i y range (rw (found y) refl))
  searched_by xs x (Err i) b rises range found is =
      let searchable : IsNonDecreasingBy (λ y. ordering_index (plain_cmp (key y) x)) xs =
      searchable_from_sorted plain_cmp_total key xs x (sorted_by xs rises) in
      is ∙ sym (list_any-map x xs ∙ list_any_none (λ y. plain_eq (key y) x) xs (not_equal xs x i (found searchable)))

map-itself : (xs : List Plain) → map (λ (x : Plain). x) xs ≡ xs
map-itself [] = refl
map-itself (x ∷ xs) = ap (λ ys. x ∷ ys) (map-itself xs)

pub searched : (xs : List Plain) (x : Plain) (r : Result ℕ ℕ) (b : Bool) → Rises plain_cmp xs → IsSearchInRange r (length xs)
    → IsBinarySearchResult (λ y. plain_cmp y x) xs r → b ≡ is_ok r → b ≡ is_member xs x
searched xs x r b rises range found is =
    searched_by (λ (y : Plain). y) xs x r b (rw map-itself rises) range found is ∙ ap (λ ys. is_member ys x) (map-itself xs)
