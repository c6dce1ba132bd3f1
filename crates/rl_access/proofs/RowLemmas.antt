-- Rising rows, and where those that begin with a key stand.
use Rattle.std.proofs.Common.{◌≡◌, ℕ, zero, suc, ◌+◌, ◌-◌, ◌<◌, ◌≤◌, ◌⊎◌, inl, inr, Bool, true, false, ◌&&◌, nat_le, List, [], ◌∷◌, ◌++◌, length, get_or, take, drop, drop-cons, add-one, refl, ap, sym, ◌∙◌, subst, arith}
use Rattle.std.proofs.lemmas.Bool.{cases_lt}
use Rattle.std.proofs.lemmas.Bool.Decides.{nat_tests}
use Rattle.std.specs.List.{list_all}
use Rattle.std.specs.List.Sorted.{IsPartitionedBy}
use Rattle.std.specs.declared.cmp.Ordering.{Ordering}
use Rattle.std.specs.declared.cmp.Ordering.TheVariants.{Less, Equal, Greater}
use Rattle.std.specs.Ordering.{ordering_then, ordering_reverse, is_lt, is_eq}
use Rattle.rl_value.specs.Plain.{Plain, tuple, cons, plains_of, Fits}
use Rattle.rl_value.specs.Order.{plain_cmp, plains_cmp}
use Rattle.rl_value.specs.Laws.{plain_eq, plain_cmp_total, plain_exact}
use Rattle.rl_value.specs.Rising.{AllAbove, Rises}
use Rattle.rl_access.specs.Rows.{is_row, is_below, begins_with, rest_of, rests}

both : (a b : Bool) → (a && b) ≡ true → (a ≡ true) × (b ≡ true)
both true b e = (refl, e)
both false b e = cc

pub is_row_parts : (ts : List Plain) → is_row (tuple (plains_of ts)) ≡ nat_le 2 (length ts)
is_row_parts [] = refl
is_row_parts (x ∷ []) = refl
is_row_parts (x ∷ y ∷ ts) = grind (arith, nat_tests)

-- ---- the order of first parts
first_less : (x y k : Plain) (o : Ordering) → ordering_then (plain_cmp x y) o ≡ Less → is_lt (plain_cmp y k) ≡ true → is_lt (plain_cmp x k) ≡ true
first_less x y k o e f = by (plain_cmp x y) refl (plain_cmp y k) refl e f
  where
    by : (p : Ordering) → plain_cmp x y ≡ p → (q : Ordering) → plain_cmp y k ≡ q → ordering_then p o ≡ Less → is_lt q ≡ true → is_lt (plain_cmp x k) ≡ true
    by Less p Less q e f = ap is_lt (plain_cmp_total.trans x y k p q)
    by Equal p Less q e f = ap is_lt (subst (λ w. plain_cmp w k ≡ Less) (sym (plain_exact x y p)) q)
    by Greater p Less q e f = cc
    by a p Equal q e f = cc
    by a p Greater q e f = cc

below_down : (k s t : Plain) → is_row s ≡ true → is_row t ≡ true → plain_cmp s t ≡ Less → is_below k t ≡ true → is_below k s ≡ true
below_down k (tuple (cons x ss)) (tuple (cons y ts)) p q e f = first_less x y k (plains_cmp ss ts) e f
below_down k s t p q e f = cc

first_apart : (x y k : Plain) (o : Ordering) → ordering_then (plain_cmp x y) o ≡ Less → is_lt (plain_cmp x k) ≡ false → plain_eq x k ≡ false → plain_eq y k ≡ false
first_apart x y k o e f g = by (plain_cmp x y) refl (plain_cmp x k) refl e f g
  where
    greater : (z : Plain) → plain_cmp k z ≡ Less → plain_eq z k ≡ false
    greater z h = ap is_eq (plain_cmp_total.antisymm z k ∙ ap ordering_reverse h)

    by : (p : Ordering) → plain_cmp x y ≡ p → (q : Ordering) → plain_cmp x k ≡ q → ordering_then p o ≡ Less → is_lt q ≡ false → is_eq q ≡ false → plain_eq y k ≡ false
    by Less p Greater q e f g = greater y (plain_cmp_total.trans k x y (plain_cmp_total.antisymm k x ∙ ap ordering_reverse q) p)
    by Equal p Greater q e f g = greater y (subst (λ w. plain_cmp k w ≡ Less) (plain_exact x y p) (plain_cmp_total.antisymm k x ∙ ap ordering_reverse q))
    by Greater p Greater q e f g = cc
    by a p Less q e f g = cc
    by a p Equal q e f g = cc

apart_up : (k s t : Plain) → is_row s ≡ true → is_row t ≡ true → plain_cmp s t ≡ Less → is_below k s ≡ false → begins_with k s ≡ false → begins_with k t ≡ false
apart_up k (tuple (cons x ss)) (tuple (cons y ts)) p q e f g = first_apart x y k (plains_cmp ss ts) e f g
apart_up k s t p q e f g = cc

apart_below : (k t : Plain) → is_below k t ≡ true → begins_with k t ≡ false
apart_below k (tuple (cons x ts)) e = by (plain_cmp x k) e
  where
    by : (o : Ordering) → is_lt o ≡ true → is_eq o ≡ false
    by Less e = refl
    by Equal e = cc
    by Greater e = cc
apart_below k t e = cc

-- ---- rows by their places
pub above_at : (x : Plain) (xs : List Plain) (j : ℕ) (d : Plain) → AllAbove plain_cmp x xs → j < length xs → plain_cmp x (get_or xs j d) ≡ Less
above_at x [] j d a h = absurd (omega arith)
above_at x (y ∷ ys) zero d a h = a.0
above_at x (y ∷ ys) (suc j) d a h = above_at x ys j d a.1 (omega arith)

pub rises_at : (xs : List Plain) (i j : ℕ) (d : Plain) → Rises plain_cmp xs → i < j → j < length xs → plain_cmp (get_or xs i d) (get_or xs j d) ≡ Less
rises_at [] i j d r h k = absurd (omega arith)
rises_at (x ∷ xs) i zero d r h k = absurd (omega arith)
rises_at (x ∷ xs) zero (suc j) d r h k = above_at x xs j d r.0 (omega arith)
rises_at (x ∷ xs) (suc i) (suc j) d r h k = rises_at xs i j d r.1 (omega arith) (omega arith)

pub row_at : (xs : List Plain) (i : ℕ) (d : Plain) → list_all is_row xs ≡ true → i < length xs → is_row (get_or xs i d) ≡ true
row_at [] i d a h = absurd (omega arith)
row_at (x ∷ xs) zero d a h = (both (is_row x) (list_all is_row xs) a).0
row_at (x ∷ xs) (suc i) d a h = row_at xs i d (both (is_row x) (list_all is_row xs) a).1 (omega arith)

pub parted : (k : Plain) (xs : List Plain) → Rises plain_cmp xs → list_all is_row xs ≡ true → IsPartitionedBy (is_below k) xs
parted k xs r a i j d h l e = by (cases_lt i j)
  where
    by : (i < j) ⊎ (j ≤ i) → is_below k (get_or xs i d) ≡ true
    by (inl m) = below_down k (get_or xs i d) (get_or xs j d) (row_at xs i d a (omega arith)) (row_at xs j d a l) (rises_at xs i j d r m l) e
    by (inr m) = let same : i ≡ j = omega arith in rw same e

-- ---- the rests of the rows that begin with a key
first_rests : (k x : Plain) (xs : List Plain) → begins_with k x ≡ false → rests k (x ∷ xs) ≡ rests k xs
first_rests k x xs e = rw e refl

pub rests_start : (k : Plain) (xs : List Plain) (n : ℕ) → ((i : ℕ) (d : Plain) → 0 ≤ i → i < n → is_below k (get_or xs i d) ≡ true) → rests k (drop n xs) ≡ rests k xs
rests_start k xs zero h = refl
rests_start k [] (suc n) h = refl
rests_start k (x ∷ xs) (suc n) h =
    rests_start k xs n (λ i d a b. h (suc i) d (omega arith) (omega arith))
    ∙ sym (first_rests k x xs (apart_below k x (h 0 x (omega arith) (omega arith))))

pub rests_at : (k : Plain) (xs : List Plain) (i : ℕ) (x : Plain) → i < length xs → x ≡ get_or xs i x → begins_with k x ≡ true
    → rests k (drop i xs) ≡ rest_of x ∷ rests k (drop (i + 1) xs)
rests_at k xs i x h e b =
    let b' : begins_with k (get_or xs i x) ≡ true = ap (begins_with k) (sym e) ∙ b in
    rw (add-one, drop-cons xs i x, b') (ap (λ t. rest_of t ∷ rests k (drop (suc i) xs)) (sym e))

none_above : (k x : Plain) (xs : List Plain) → is_row x ≡ true → list_all is_row xs ≡ true → AllAbove plain_cmp x xs → is_below k x ≡ false → begins_with k x ≡ false → rests k xs ≡ []
none_above k x [] p a r e f = refl
none_above k x (y ∷ ys) p a r e f =
    let rows = both (is_row y) (list_all is_row ys) a in
    first_rests k y ys (apart_up k x y p rows.0 r.0 e f) ∙ none_above k x ys p rows.1 r.1 e f

pub rests_end : (k : Plain) (xs : List Plain) (i : ℕ) (x : Plain) → Rises plain_cmp xs → list_all is_row xs ≡ true → i < length xs → x ≡ get_or xs i x
    → is_below k x ≡ false → begins_with k x ≡ false → rests k (drop i xs) ≡ []
rests_end k [] i x r a h e f g = absurd (omega arith)
rests_end k (y ∷ ys) zero x r a h e f g =
    let rows = both (is_row y) (list_all is_row ys) a in
    let f' : is_below k y ≡ false = ap (is_below k) (sym e) ∙ f in
    let g' : begins_with k y ≡ false = ap (begins_with k) (sym e) ∙ g in
    first_rests k y ys g' ∙ none_above k y ys rows.0 rows.1 r.0 f' g'
rests_end k (y ∷ ys) (suc i) x r a h e f g = rests_end k ys i x r.1 (both (is_row y) (list_all is_row ys) a).1 (omega arith) e f g

-- ---- what stands behind a first part
rest_fits : (x : Plain) (ts : List Plain) → Fits (tuple (plains_of (x ∷ ts))) → Fits (tuple (plains_of ts))
rest_fits x ts f = record { size = omega (arith, f.size); height = omega (arith, f.height) }

pub is_row_length : (ts : List Plain) → is_row (tuple (plains_of ts)) ≡ true → 2 ≤ length ts
is_row_length [] e = cc
is_row_length (x ∷ []) e = cc
is_row_length (x ∷ y ∷ ts) e = omega arith

pub rest_pair : (ts : List Plain) (y : Plain) → length ts ≡ 2 → y ≡ get_or ts 1 y → y ≡ rest_of (tuple (plains_of ts))
rest_pair [] y h e = absurd (omega arith)
rest_pair (x ∷ []) y h e = absurd (omega arith)
rest_pair (x ∷ z ∷ []) y h e = e
rest_pair (x ∷ z ∷ w ∷ ts) y h e = absurd (omega arith)

take_whole : (ts : List Plain) (n : ℕ) → n ≡ length ts → take n ts ≡ ts
take_whole [] zero e = refl
take_whole [] (suc n) e = refl
take_whole (t ∷ ts) zero e = absurd (omega arith)
take_whole (t ∷ ts) (suc n) e = ap (λ us. t ∷ us) (take_whole ts n (omega arith))

behind : (x : Plain) (ts : List Plain) → take (length (x ∷ ts) - 1) (drop 1 (x ∷ ts)) ≡ ts
behind x ts = take_whole ts (length (x ∷ ts) - 1) (omega arith)

pub rest_wide : (ts : List Plain) → 2 ≤ length ts → (length ts ≡ 2 → ⊥) → tuple (plains_of (take (length ts - 1) (drop 1 ts))) ≡ rest_of (tuple (plains_of ts))
rest_wide [] h k = absurd (omega arith)
rest_wide (x ∷ []) h k = absurd (omega arith)
rest_wide (x ∷ y ∷ []) h k = absurd (k (omega arith))
rest_wide (x ∷ y ∷ z ∷ ts) h k = ap (λ us. tuple (plains_of us)) (behind x (y ∷ z ∷ ts))

pub rest_fits_behind : (ts : List Plain) → 2 ≤ length ts → Fits (tuple (plains_of ts)) → Fits (tuple (plains_of (take (length ts - 1) (drop 1 ts))))
rest_fits_behind [] h f = absurd (omega arith)
rest_fits_behind (x ∷ ts) h f = subst (λ us. Fits (tuple (plains_of us))) (sym (behind x ts)) (rest_fits x ts f)

append_none : (xs : List Plain) → xs ++ [] ≡ xs
append_none [] = refl
append_none (x ∷ xs) = ap (λ us. x ∷ us) (append_none xs)

pub found_all : (xs ys zs : List Plain) → ys ≡ [] → xs ++ ys ≡ zs → xs ≡ zs
found_all xs ys zs e f = sym (append_none xs) ∙ ap (λ us. xs ++ us) (sym e) ∙ f
