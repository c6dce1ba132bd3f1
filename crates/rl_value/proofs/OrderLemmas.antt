-- Steps of a comparison of two lists of trees.
use Rattle.std.proofs.Common.{◌≡◌, ℕ, zero, suc, ◌-◌, ◌<◌, ◌≤◌, ◌⊎◌, inl, inr, min, List, [], ◌∷◌, length, get_or, drop, refl, arith, length-drop, ap, ◌∙◌}
use Rattle.std.proofs.lemmas.Bool.Decides.{nat_tests}
use Rattle.std.specs.Ordering.{nat_cmp}
use Rattle.rl_value.specs.Plain.{Plain, plains_of, plain_size, plains_size}
use Rattle.rl_value.specs.Order.{plains_cmp}

pub plain_size_at : (ts : List Plain) (i : ℕ) (d : Plain) → i < length ts → plain_size (get_or ts i d) ≤ plains_size (plains_of ts)
plain_size_at [] i d h = absurd (omega arith)
plain_size_at (t ∷ ts) zero d h = omega arith
plain_size_at (t ∷ ts) (suc i) d h = let below : i < length ts = omega arith in omega (arith, plain_size_at ts i d below)

by_lengths : (xs ys : List Plain) → (length xs ≡ 0) ⊎ (length ys ≡ 0) → plains_cmp (plains_of xs) (plains_of ys) ≡ nat_cmp (length xs) (length ys)
by_lengths [] [] h = refl
by_lengths [] (y ∷ ys) h = grind (arith, nat_tests)
by_lengths (x ∷ xs) [] h = grind (arith, nat_tests)
by_lengths (x ∷ xs) (y ∷ ys) (inl h) = absurd (omega arith)
by_lengths (x ∷ xs) (y ∷ ys) (inr h) = absurd (omega arith)

pub one_ends : (m n : ℕ) → (m - min m n ≡ 0) ⊎ (n - min m n ≡ 0)
one_ends m n = grind arith

pub nat_cmp-less : (m n : ℕ) → nat_cmp (m - min m n) (n - min m n) ≡ nat_cmp m n
nat_cmp-less m n = grind (arith, nat_tests)

pub item_size : (ts : List Plain) (i : ℕ) (x : Plain) → i < length ts → x ≡ get_or ts i x → plain_size x ≤ plains_size (plains_of ts)
item_size ts i x h e = omega (arith, ap plain_size e, plain_size_at ts i x h)

pub plains_cmp_end : (a b : List Plain) (n : ℕ) → n ≡ min (length a) (length b)
    → plains_cmp (plains_of (drop n a)) (plains_of (drop n b)) ≡ nat_cmp (length a) (length b)
plains_cmp_end a b n e =
    let la : length (drop n a) ≡ length a - min (length a) (length b) = omega (arith, length-drop n a) in
    let lb : length (drop n b) ≡ length b - min (length a) (length b) = omega (arith, length-drop n b) in
    let ends : (length (drop n a) ≡ 0) ⊎ (length (drop n b) ≡ 0) = rw (la, lb) (one_ends (length a) (length b)) in
    by_lengths (drop n a) (drop n b) ends ∙ rw (la, lb) (nat_cmp-less (length a) (length b))
