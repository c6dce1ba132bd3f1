-- The pairs of two rising lists: they rise, and how large they are.
use Rattle.std.proofs.Common.{◌≡◌, ◌+◌, ◌*◌, ◌≤◌, ◌^◌, List, [], ◌∷◌, ◌++◌, length, map, refl, ap, arith}
use Rattle.std.specs.declared.cmp.Ordering.TheVariants.{Less}
use Rattle.std.proofs.lemmas.Cmp.{tied_itself}
use Rattle.rl_value.specs.Plain.{Plain, set, plains_of, plains_size, items_of-plains_of, Fits}
use Rattle.rl_value.specs.Order.{plain_cmp}
use Rattle.rl_value.specs.Rising.{AllAbove, Rises, rising}
use Rattle.rl_value.specs.Opened.{IsInOrder}
use Rattle.rl_value.specs.Laws.{plain_cmp_total, plain_exact}
use Rattle.rl_value.proofs.RisingLemmas.{is_rising}
use Rattle.rl_value.proofs.KidsLemmas.{size_one}
use Rattle.rl_operators.specs.Sets.{set_of, pair_of, all_pairs}

-- ---- the pairs rise
AllAbove-append : (x : Plain) (ys zs : List Plain) → AllAbove plain_cmp x ys → AllAbove plain_cmp x zs → AllAbove plain_cmp x (ys ++ zs)
AllAbove-append x [] zs a b = b
AllAbove-append x (y ∷ ys) zs a b = (a.0, AllAbove-append x ys zs a.1 b)

less_first : (w x y z : Plain) → plain_cmp w x ≡ Less → plain_cmp (pair_of w y) (pair_of x z) ≡ Less
less_first w x y z e = rw e refl

less_second : (x y z : Plain) → plain_cmp y z ≡ Less → plain_cmp (pair_of x y) (pair_of x z) ≡ Less
less_second x y z e = let same = tied_itself plain_cmp_total x in rw (same, e) refl

above_row : (x y : Plain) (zs : List Plain) → AllAbove plain_cmp y zs → AllAbove plain_cmp (pair_of x y) (map (pair_of x) zs)
above_row x y [] a = tt
above_row x y (z ∷ zs) a = (less_second x y z a.0, above_row x y zs a.1)

above_later_row : (w x y : Plain) (zs : List Plain) → plain_cmp w x ≡ Less → AllAbove plain_cmp (pair_of w y) (map (pair_of x) zs)
above_later_row w x y [] e = tt
above_later_row w x y (z ∷ zs) e = (less_first w x y z e, above_later_row w x y zs e)

above_later : (w y : Plain) (xs zs : List Plain) → AllAbove plain_cmp w xs → AllAbove plain_cmp (pair_of w y) (all_pairs xs zs)
above_later w y [] zs a = tt
above_later w y (x ∷ xs) zs a = AllAbove-append (pair_of w y) (map (pair_of x) zs) (all_pairs xs zs) (above_later_row w x y zs a.0) (above_later w y xs zs a.1)

row_rises : (x : Plain) (xs zs ys : List Plain) → AllAbove plain_cmp x xs → Rises plain_cmp ys → Rises plain_cmp (all_pairs xs zs)
    → Rises plain_cmp (map (pair_of x) ys ++ all_pairs xs zs)
row_rises x xs zs [] a r s = s
row_rises x xs zs (y ∷ ys) a r s = (
  AllAbove-append (pair_of x y) (map (pair_of x) ys) (all_pairs xs zs) (above_row x y ys r.0) (above_later x y xs zs a),
  row_rises x xs zs ys a r.1 s,
)

pairs_rise : (xs ys : List Plain) → Rises plain_cmp xs → Rises plain_cmp ys → Rises plain_cmp (all_pairs xs ys)
pairs_rise [] ys r s = tt
pairs_rise (x ∷ xs) ys r s = row_rises x xs ys ys r.0 s (pairs_rise xs ys r.1 s)

-- ---- their size
row_size : (x : Plain) (ys zs : List Plain) → 3 * length ys + plains_size (plains_of zs) ≤ plains_size (plains_of (map (pair_of x) ys ++ zs))
row_size x [] zs = omega arith
row_size x (y ∷ ys) zs = omega (arith, size_one x, size_one y, row_size x ys zs)

pairs_size : (xs ys : List Plain) → 3 * (length xs * length ys) ≤ plains_size (plains_of (all_pairs xs ys))
pairs_size [] ys = omega arith
pairs_size (x ∷ xs) ys = grind (arith, row_size x ys (all_pairs xs ys), pairs_size xs ys)

-- two sets with so many elements have too many pairs
pub many_pairs : (xs ys : List Plain) → IsInOrder (set (plains_of xs)) → IsInOrder (set (plains_of ys)) → 2 ^ 24 ≤ 3 * (length xs * length ys)
    → ¬ Fits (set_of (all_pairs xs ys))
many_pairs xs ys order order' many f =
    let rise : Rises plain_cmp xs = rw items_of-plains_of at order in
    let rise' : Rises plain_cmp ys = rw items_of-plains_of at order' in
    let same : all_pairs xs ys ≡ rising plain_cmp (all_pairs xs ys) =
    is_rising plain_cmp_total plain_exact (all_pairs xs ys) (all_pairs xs ys) (pairs_rise xs ys rise rise') (λ z h. h) (λ z h. h) in
    absurd (omega (arith, f.size, pairs_size xs ys, ap (λ ts. plains_size (plains_of ts)) same))
