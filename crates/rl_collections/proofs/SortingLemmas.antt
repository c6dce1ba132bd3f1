-- A sorted list of the same elements is the only one.
use Rattle.std.proofs.Common.{◌≡◌, ℕ, zero, suc, ◌+◌, ◌<◌, ◌≤◌, Bool, true, false, List, [], ◌∷◌, length, get_or, refl, ap, sym, ◌∙◌, subst, arith, add-one, if◌then◌else◌}
use Rattle.std.specs.List.{AllByRecursion, sum_by}
use Rattle.std.specs.List.Sorted.{IsSorted, IsPermutation}
use Rattle.std.proofs.lemmas.List.Sums.{sum_by_from}
use Rattle.std.proofs.lemmas.List.Sorted.{sorted_far, ranks_by, sum_by-IsPermutation}
use Rattle.std.specs.declared.cmp.Ordering.{Ordering}
use Rattle.std.specs.declared.cmp.Ordering.TheVariants.{Less, Equal, Greater}
use Rattle.std.specs.Ordering.{is_gt, is_lt, ordering_reverse}
use Rattle.rl_value.specs.Plain.{Plain}
use Rattle.rl_value.specs.Order.{plain_cmp}
use Rattle.rl_value.specs.Laws.{plain_cmp_total, plain_exact, plain_tied, plain_eq, plain_same, plain_eq_itself}
use Rattle.rl_collections.specs.Sorting.{placed, sorted}

-- ---- no element is below t
abbrev NoneBelow : Plain → List Plain → Type 0
NoneBelow t = AllByRecursion (λ u. is_lt (plain_cmp u t) ≡ false)

abbrev Ordered : List Plain → Type 0
Ordered [] = Unit {0}
Ordered (t ∷ ts) = NoneBelow t ts × Ordered ts

all_from : (P : Plain → Type 0) (ts : List Plain) → ((k : ℕ) (d : Plain) → k < length ts → P (get_or ts k d)) → AllByRecursion P ts
all_from P [] f = tt
all_from P (t ∷ ts) f = (f 0 t (omega arith), all_from P ts (λ k d h. f (suc k) d (omega arith)))

sorted_tail : (t : Plain) (ts : List Plain) → IsSorted plain_cmp (t ∷ ts) → IsSorted plain_cmp ts
sorted_tail t ts s = λ k d a h. rw add-one (rw add-one at (s (suc k) d (omega arith) (omega arith)))

Ordered-from_sorted : (ts : List Plain) → IsSorted plain_cmp ts → Ordered ts
Ordered-from_sorted [] s = tt
Ordered-from_sorted (t ∷ ts) s = (
  all_from (λ u. is_lt (plain_cmp u t) ≡ false) ts
      (λ k d h. sorted_far (λ x y. is_lt (plain_cmp x y)) (ranks_by plain_cmp_total (λ x. x)) (t ∷ ts) s 0 (suc k) d (omega arith) (omega arith)),
  Ordered-from_sorted ts (sorted_tail t ts s),
)

turned : (t u : Plain) (o : Ordering) → plain_cmp t u ≡ o → plain_cmp u t ≡ ordering_reverse o
turned t u o e = plain_cmp_total.antisymm u t ∙ ap ordering_reverse e

-- v is not below u, and t is not above u, so v is not below t
not_below : (t u v : Plain) → is_gt (plain_cmp t u) ≡ false → is_lt (plain_cmp v u) ≡ false → is_lt (plain_cmp v t) ≡ false
not_below t u v g l = by (plain_cmp v t) refl (plain_cmp t u) refl
  where
    by : (o : Ordering) → plain_cmp v t ≡ o → (p : Ordering) → plain_cmp t u ≡ p → is_lt (plain_cmp v t) ≡ false
    by Equal e p f = ap is_lt e
    by Greater e p f = ap is_lt e
    by Less e Less f = let below : plain_cmp v u ≡ Less = plain_cmp_total.trans v t u e f in let b = rw below at l in cc
    by Less e Equal f = let same : t ≡ u = plain_exact t u f in let below : plain_cmp v u ≡ Less = subst (λ w. plain_cmp v w ≡ Less) same e in let b = rw below at l in cc
    by Less e Greater f = let b = rw f at g in cc

NoneBelow-le : (t u : Plain) (us : List Plain) → is_gt (plain_cmp t u) ≡ false → NoneBelow u us → NoneBelow t us
NoneBelow-le t u [] g a = tt
NoneBelow-le t u (v ∷ vs) g a = (not_below t u v g a.0, NoneBelow-le t u vs g a.1)

NoneBelow-placed : (u t : Plain) (us : List Plain) → is_lt (plain_cmp t u) ≡ false → NoneBelow u us → NoneBelow u (placed t us)
NoneBelow-placed u t [] l a = (l, tt)
NoneBelow-placed u t (v ∷ vs) l a = by (NoneBelow-placed u t vs l a.1) (is_gt (plain_cmp t v))
  where
    by : NoneBelow u (placed t vs) → (b : Bool) → NoneBelow u (if b then v ∷ placed t vs else t ∷ v ∷ vs)
    by later true = (a.0, later)
    by later false = (l, a)

lt_from_gt : (t u : Plain) → is_gt (plain_cmp t u) ≡ true → is_lt (plain_cmp t u) ≡ false
lt_from_gt t u g = by (plain_cmp t u) refl
  where
    by : (o : Ordering) → plain_cmp t u ≡ o → is_lt (plain_cmp t u) ≡ false
    by Less e = let b = rw e at g in cc
    by Equal e = ap is_lt e
    by Greater e = ap is_lt e

lt_turned : (t u : Plain) → is_gt (plain_cmp t u) ≡ false → is_lt (plain_cmp u t) ≡ false
lt_turned t u g = by (plain_cmp t u) refl
  where
    by : (o : Ordering) → plain_cmp t u ≡ o → is_lt (plain_cmp u t) ≡ false
    by Less e = ap is_lt (turned t u Less e)
    by Equal e = ap is_lt (turned t u Equal e)
    by Greater e = let b = rw e at g in cc

Ordered-placed : (t : Plain) (us : List Plain) → Ordered us → Ordered (placed t us)
Ordered-placed t [] o = (tt, tt)
Ordered-placed t (u ∷ us) o = by (Ordered-placed t us o.1) (is_gt (plain_cmp t u)) refl
  where
    by : Ordered (placed t us) → (b : Bool) → is_gt (plain_cmp t u) ≡ b → Ordered (if b then u ∷ placed t us else t ∷ u ∷ us)
    by later true e = (NoneBelow-placed u t us (lt_from_gt t u e) o.0, later)
    by later false e = ((lt_turned t u e, NoneBelow-le t u us e o.0), o)

Ordered-sorted : (ts : List Plain) → Ordered (sorted ts)
Ordered-sorted [] = tt
Ordered-sorted (t ∷ ts) = Ordered-placed t (sorted ts) (Ordered-sorted ts)

-- ---- how often z occurs
abbrev hit : Plain → Plain → ℕ
hit z u = if plain_eq u z then 1 else 0

abbrev count : Plain → List Plain → ℕ
count z [] = 0
count z (t ∷ ts) = hit z t + count z ts

count_is : (z : Plain) (ts : List Plain) → sum_by (hit z) ts ≡ count z ts
count_is z [] = refl
count_is z (t ∷ ts) = omega (arith, sum_by_from (hit z) (0 + hit z t) ts, count_is z ts)

count-placed : (z t : Plain) (us : List Plain) → count z (placed t us) ≡ hit z t + count z us
count-placed z t [] = refl
count-placed z t (u ∷ us) = by (count-placed z t us) (is_gt (plain_cmp t u))
  where
    by : count z (placed t us) ≡ hit z t + count z us → (b : Bool) → count z (if b then u ∷ placed t us else t ∷ u ∷ us) ≡ hit z t + (hit z u + count z us)
    by later true = omega (arith, later)
    by later false = refl

count-sorted : (z : Plain) (ts : List Plain) → count z (sorted ts) ≡ count z ts
count-sorted z [] = refl
count-sorted z (t ∷ ts) = count-placed z t (sorted ts) ∙ ap (λ n. hit z t + n) (count-sorted z ts)

hit_itself : (t : Plain) → hit t t ≡ 1
hit_itself t = ap (λ (b : Bool). if b then 1 else 0) (plain_eq_itself t t refl)

-- what occurs is not below what is below nothing
occurs : (z t : Plain) (ts : List Plain) → NoneBelow t ts → 0 < count z ts → is_lt (plain_cmp z t) ≡ false
occurs z t [] a h = absurd (omega arith)
occurs z t (u ∷ us) a h = by (occurs z t us a.1) (plain_eq u z) refl
  where
    by : (0 < count z us → is_lt (plain_cmp z t) ≡ false) → (b : Bool) → plain_eq u z ≡ b → is_lt (plain_cmp z t) ≡ false
    by later true e = subst (λ w. is_lt (plain_cmp w t) ≡ false) (plain_same u z e) a.0
    by later false e = let none : hit z u ≡ 0 = ap (λ (b : Bool). if b then 1 else 0) e in later (omega arith)

neither_below : (a b : Plain) → is_lt (plain_cmp a b) ≡ false → is_lt (plain_cmp b a) ≡ false → a ≡ b
neither_below a b l m = by (plain_cmp a b) refl
  where
    by : (o : Ordering) → plain_cmp a b ≡ o → a ≡ b
    by Equal e = plain_exact a b e
    by Less e = let c = rw e at l in cc
    by Greater e = let t = turned a b Greater e in let c = rw t at m in cc

itself : (t : Plain) → is_lt (plain_cmp t t) ≡ false
itself t = ap is_lt (plain_tied t)

same : (ss ts : List Plain) → Ordered ss → Ordered ts → ((z : Plain) → count z ss ≡ count z ts) → ss ≡ ts
same [] [] o p e = refl
same [] (t ∷ ts) o p e = absurd (omega (arith, e t, hit_itself t))
same (s ∷ ss) [] o p e = absurd (omega (arith, e s, hit_itself s))
same (s ∷ ss) (t ∷ ts) o p e =
    let head : s ≡ t =
    neither_below s t (occurs s t (t ∷ ts) (itself t, p.0) (omega (arith, e s, hit_itself s))) (occurs t s (s ∷ ss) (itself s, o.0) (omega (arith, e t, hit_itself t))) in
    let rest : ss ≡ ts = same ss ts o.1 p.1 (λ z. omega (arith, e z, ap (hit z) head)) in
    (λ i. head i ∷ rest i)

pub is_sorted : (xs ys : List Plain) → IsPermutation xs ys → IsSorted plain_cmp ys → ys ≡ sorted xs
is_sorted xs ys p s =
    same ys (sorted xs) (Ordered-from_sorted ys s) (Ordered-sorted xs)
    (λ z. sym (count_is z ys) ∙ sum_by-IsPermutation (hit z) xs ys p ∙ count_is z xs ∙ sym (count-sorted z xs))
