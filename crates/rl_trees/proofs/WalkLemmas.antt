-- Steps over the parts of a syntax tree.
use Rattle.std.proofs.Common.{◌≡◌, ℕ, zero, suc, ◌+◌, ◌-◌, ◌<◌, ◌≤◌, List, [], ◌∷◌, length, get_or, drop, ap, sym, arith, add-one, drop-cons}
use Rattle.rl_value.specs.Plain.{Plain, plains_of, plain_size, plains_size}
use Rattle.rl_trees.specs.Counts.{characters, all_characters}

pub drop_at : {A : Type 0} (xs : List A) (i : ℕ) (x : A) → i < length xs → x ≡ get_or xs i x → drop i xs ≡ x ∷ drop (i + 1) xs
drop_at xs i x h e = rw (add-one, drop-cons xs i x) (ap (λ t. t ∷ drop (suc i) xs) (sym e))

pub count_at : (ts : List Plain) (i : ℕ) (t : Plain) → i < length ts → t ≡ get_or ts i t
    → all_characters (plains_of (drop i ts)) ≡ characters t + all_characters (plains_of (drop (i + 1) ts))
count_at ts i t h e = ap (λ us. all_characters (plains_of us)) (drop_at ts i t h e)

pub size_at : (ts : List Plain) (i : ℕ) (t : Plain) → i < length ts → t ≡ get_or ts i t
    → plains_size (plains_of (drop i ts)) ≡ plain_size t + plains_size (plains_of (drop (i + 1) ts))
size_at ts i t h e = ap (λ us. plains_size (plains_of us)) (drop_at ts i t h e)

pub size_drop : (ts : List Plain) (i : ℕ) → plains_size (plains_of (drop i ts)) ≤ plains_size (plains_of ts)
size_drop [] zero = omega arith
size_drop [] (suc i) = omega arith
size_drop (t ∷ ts) zero = omega arith
size_drop (t ∷ ts) (suc i) = omega (arith, size_drop ts i)

pub count_drop : (ts : List Plain) (i : ℕ) → all_characters (plains_of (drop i ts)) ≤ all_characters (plains_of ts)
count_drop [] zero = omega arith
count_drop [] (suc i) = omega arith
count_drop (t ∷ ts) zero = omega arith
count_drop (t ∷ ts) (suc i) = omega (arith, count_drop ts i)

pub count_before : (ts : List Plain) (left : ℕ) (t : Plain) → 0 < left → left ≤ length ts → t ≡ get_or ts (left - 1) t
    → characters t + all_characters (plains_of (drop left ts)) ≤ all_characters (plains_of ts)
count_before ts left t some within is =
    let next : left - 1 + 1 ≡ left = omega arith in
    let here : left - 1 < length ts = omega arith in
    omega (arith, count_drop ts (left - 1), rw next at (count_at ts (left - 1) t here is))

pub size_before : (ts : List Plain) (left : ℕ) (t : Plain) → 0 < left → left ≤ length ts → t ≡ get_or ts (left - 1) t
    → plain_size t ≤ plains_size (plains_of ts)
size_before ts left t some within is =
    let here : left - 1 < length ts = omega arith in
    omega (arith, size_drop ts (left - 1), size_at ts (left - 1) t here is)
