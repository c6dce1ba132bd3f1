-- Numbers by steps, and how many of them stand before an end.
use Rattle.std.proofs.Common.{◌≡◌, ℕ, zero, suc, ◌+◌, ◌-◌, ◌*◌, ◌<◌, ◌≤◌, ◌^◌, Bool, true, false, cond, ◌&&◌, List, [], ◌∷◌, ◌++◌, length, map, refl, ap, sym, subst, ◌∙◌, arith}
use Rattle.std.specs.Prelude.{ℤ, pos, negsuc, ◌+ℤ◌, ◌-ℤ◌, ◌≤ℤ◌, ◌<ℤ◌, int_lt, unsigned_abs, take_while}
use Rattle.std.specs.Int.{div_ceil}
use Rattle.std.specs.Int.RustNames.{FitsSigned}
use mir.Syntax.{w128}
use Rattle.std.specs.List.{list_all}
use Rattle.std.proofs.lemmas.Int.{ints}
use Rattle.std.proofs.lemmas.Bool.Decides.{nat_tests}
use Rattle.std.proofs.lemmas.Grind.{div_ceil_times}
use Rattle.std.proofs.lemmas.List.Sums.{take_while-cons}
use Rattle.std.proofs.Math.Nat.{suc-mul, mul-suc}
use Rattle.rl_value.specs.Plain.{Plain, int, plains_of, plains_size, Fits}
use Rattle.rl_access.specs.Ranges.{by_steps, counted_to, numbers, is_in_range}

below : (a b : ℤ) → a <ℤ b → int_lt a b ≡ true
below a b h = grind (arith, ints)

not_below : (a b : ℤ) → b ≤ℤ a → int_lt a b ≡ false
not_below a b h = grind (arith, ints)

stops : (p : ℤ → Bool) (x : ℤ) (xs : List ℤ) → p x ≡ false → take_while p (x ∷ xs) ≡ []
stops p x xs e = take_while-cons p x xs ∙ ap (λ b. cond b (x ∷ take_while p xs) []) e

passes : (p : ℤ → Bool) (x : ℤ) (xs ys : List ℤ) → p x ≡ true → take_while p xs ≡ ys → take_while p (x ∷ xs) ≡ x ∷ ys
passes p x xs ys e f = take_while-cons p x xs ∙ ap (λ b. cond b (x ∷ take_while p xs) []) e ∙ ap (λ zs. x ∷ zs) f

upward : (d n : ℕ) (a b : ℤ) (s : ℕ) → n ≤ d → b ≤ℤ (a +ℤ pos (n * s)) → (a +ℤ pos (n * s)) <ℤ (b +ℤ pos s)
    → take_while (λ x. int_lt x b) (by_steps d a (pos s)) ≡ by_steps n a (pos s)
upward zero zero a b s h k l = refl
upward zero (suc n) a b s h k l = absurd (omega arith)
upward (suc d) zero a b s h k l = stops (λ x. int_lt x b) a _ (not_below a b (omega (arith, ints)))
upward (suc d) (suc n) a b s h k l =
    passes (λ x. int_lt x b) a _ _ (below a b (omega (arith, ints, suc-mul n s)))
    (upward d n (a +ℤ pos s) b s (omega arith) (omega (arith, ints, suc-mul n s)) (omega (arith, ints, suc-mul n s)))

downward : (d n : ℕ) (a b : ℤ) (s : ℕ) → n ≤ d → a ≤ℤ (b +ℤ pos (n * suc s)) → (b +ℤ pos (n * suc s)) <ℤ (a +ℤ pos (suc s))
    → take_while (λ x. int_lt b x) (by_steps d a (negsuc s)) ≡ by_steps n a (negsuc s)
downward zero zero a b s h k l = refl
downward zero (suc n) a b s h k l = absurd (omega arith)
downward (suc d) zero a b s h k l = stops (λ x. int_lt b x) a _ (not_below b a (omega (arith, ints)))
downward (suc d) (suc n) a b s h k l =
    passes (λ x. int_lt b x) a _ _ (below b a (omega (arith, ints, suc-mul n (suc s))))
    (downward d n (a +ℤ negsuc s) b s (omega arith) (omega (arith, ints, suc-mul n (suc s))) (omega (arith, ints, suc-mul n (suc s))))

-- ---- how many steps it takes
count_le : (m n d : ℕ) → m * suc n < d + suc n → 0 < d → m ≤ d
count_le zero n d h k = omega arith
count_le (suc m) n d h k = omega (arith, suc-mul m (suc n), mul-suc m n)

gap : (a b : ℤ) → a <ℤ b → b ≡ (a +ℤ pos (unsigned_abs (b -ℤ a)))
gap a b h = grind (arith, ints)

gap_down : (a b : ℤ) → b <ℤ a → a ≡ (b +ℤ pos (unsigned_abs (b -ℤ a)))
gap_down a b h = grind (arith, ints)

pub count_up : (a step b : ℤ) → pos 0 <ℤ step → a <ℤ b → by_steps (div_ceil (unsigned_abs (b -ℤ a)) (unsigned_abs step)) a step ≡ counted_to b a step
count_up a (negsuc s) b h k = absurd (omega (arith, ints))
count_up a (pos zero) b h k = absurd (omega (arith, ints))
count_up a (pos (suc s)) b h k =
    let d : ℕ = unsigned_abs (b -ℤ a) in
    let e : b ≡ (a +ℤ pos d) = gap a b k in
    let bounds = div_ceil_times d (suc s) (omega arith) in
    let some : 0 < d = omega (arith, ints) in
    sym (upward d (div_ceil d (suc s)) a b (suc s) (count_le (div_ceil d (suc s)) s d bounds.1 some) (omega (arith, ints, bounds.0)) (omega (arith, ints, bounds.1)))

pub count_down : (a step b : ℤ) → step <ℤ pos 0 → b <ℤ a → by_steps (div_ceil (unsigned_abs (b -ℤ a)) (unsigned_abs step)) a step ≡ counted_to b a step
count_down a (pos s) b h k = absurd (omega (arith, ints))
count_down a (negsuc s) b h k =
    let d : ℕ = unsigned_abs (b -ℤ a) in
    let e : a ≡ (b +ℤ pos d) = gap_down a b k in
    let bounds = div_ceil_times d (suc s) (omega arith) in
    let some : 0 < d = omega (arith, ints) in
    sym (downward d (div_ceil d (suc s)) a b s (count_le (div_ceil d (suc s)) s d bounds.1 some) (omega (arith, ints, bounds.0)) (omega (arith, ints, bounds.1)))

none_up : (d : ℕ) (a b : ℤ) (s : ℤ) → b ≤ℤ a → take_while (λ x. int_lt x b) (by_steps d a s) ≡ []
none_up zero a b s h = refl
none_up (suc d) a b s h = stops (λ x. int_lt x b) a _ (not_below a b h)

none_down : (d : ℕ) (a b : ℤ) (s : ℤ) → a ≤ℤ b → take_while (λ x. int_lt b x) (by_steps d a s) ≡ []
none_down zero a b s h = refl
none_down (suc d) a b s h = stops (λ x. int_lt b x) a _ (not_below b a h)

pub count_none : (a step b : ℤ) → (pos 0 <ℤ step → b ≤ℤ a) → (step <ℤ pos 0 → a ≤ℤ b) → [] ≡ counted_to b a step
count_none a (pos zero) b h k = refl
count_none a (pos (suc s)) b h k = sym (none_up (unsigned_abs (b -ℤ a)) a b (pos (suc s)) (h (omega (arith, ints))))
count_none a (negsuc s) b h k = sym (none_down (unsigned_abs (b -ℤ a)) a b (negsuc s) (k (omega (arith, ints))))

-- ---- numbers that are in range
inside : (a : ℤ) → (negsuc (2 ^ 127 - 1)) ≤ℤ a → a <ℤ pos (2 ^ 127) → is_in_range a ≡ true
inside (pos n) h k = let l : n < 2 ^ 127 = omega (arith, ints) in grind (arith, nat_tests)
inside (negsuc n) h k = let l : n < 2 ^ 127 = omega (arith, ints) in grind (arith, nat_tests)

both_true : (a b : Bool) → a ≡ true → b ≡ true → (a && b) ≡ true
both_true a b e f = rw (e, f) refl

step_up : (a b : ℤ) (tail : List ℤ) → (negsuc (2 ^ 127 - 1)) ≤ℤ a → b <ℤ pos (2 ^ 127) → list_all is_in_range (take_while (λ x. int_lt x b) tail) ≡ true
    → list_all is_in_range (take_while (λ x. int_lt x b) (a ∷ tail)) ≡ true
step_up a b tail h k later = by (int_lt a b) refl
  where
    by : (t : Bool) → int_lt a b ≡ t → list_all is_in_range (take_while (λ x. int_lt x b) (a ∷ tail)) ≡ true
    by false e = ap (list_all is_in_range) (stops (λ x. int_lt x b) a tail e)
    by true e = ap (list_all is_in_range) (passes (λ x. int_lt x b) a tail _ e refl) ∙ both_true _ _ (inside a h (grind (arith, ints))) later

while_up : (d : ℕ) (a b : ℤ) (s : ℕ) → (negsuc (2 ^ 127 - 1)) ≤ℤ a → b <ℤ pos (2 ^ 127) → list_all is_in_range (take_while (λ x. int_lt x b) (by_steps d a (pos s))) ≡ true
while_up zero a b s h k = refl
while_up (suc d) a b s h k = step_up a b (by_steps d (a +ℤ pos s) (pos s)) h k (while_up d (a +ℤ pos s) b s (omega (arith, ints)) k)

step_down : (a b : ℤ) (tail : List ℤ) → a <ℤ pos (2 ^ 127) → (negsuc (2 ^ 127 - 1)) ≤ℤ b → list_all is_in_range (take_while (λ x. int_lt b x) tail) ≡ true
    → list_all is_in_range (take_while (λ x. int_lt b x) (a ∷ tail)) ≡ true
step_down a b tail h k later = by (int_lt b a) refl
  where
    by : (t : Bool) → int_lt b a ≡ t → list_all is_in_range (take_while (λ x. int_lt b x) (a ∷ tail)) ≡ true
    by false e = ap (list_all is_in_range) (stops (λ x. int_lt b x) a tail e)
    by true e = ap (list_all is_in_range) (passes (λ x. int_lt b x) a tail _ e refl) ∙ both_true _ _ (inside a (grind (arith, ints)) h) later

while_down : (d : ℕ) (a b : ℤ) (s : ℕ) → a <ℤ pos (2 ^ 127) → (negsuc (2 ^ 127 - 1)) ≤ℤ b → list_all is_in_range (take_while (λ x. int_lt b x) (by_steps d a (negsuc s))) ≡ true
while_down zero a b s h k = refl
while_down (suc d) a b s h k = step_down a b (by_steps d (a +ℤ negsuc s) (negsuc s)) h k (while_down d (a +ℤ negsuc s) b s (omega (arith, ints)) k)

pub counted_in_range : (a step b : ℤ) → (negsuc (2 ^ 127 - 1)) ≤ℤ a → a <ℤ pos (2 ^ 127) → (negsuc (2 ^ 127 - 1)) ≤ℤ b → b <ℤ pos (2 ^ 127)
    → list_all is_in_range (counted_to b a step) ≡ true
counted_in_range a (pos zero) b h k l m = refl
counted_in_range a (pos (suc s)) b h k l m = while_up (unsigned_abs (b -ℤ a)) a b (suc s) h m
counted_in_range a (negsuc s) b h k l m = while_down (unsigned_abs (b -ℤ a)) a b s k l

-- ---- too many numbers
length-by_steps : (n : ℕ) (a step : ℤ) → length (by_steps n a step) ≡ n
length-by_steps zero a step = refl
length-by_steps (suc n) a step = ap suc (length-by_steps n (a +ℤ step) step)

ints_size : (ns : List ℤ) → plains_size (plains_of (map int ns)) ≡ length ns
ints_size [] = refl
ints_size (n ∷ ns) = omega (arith, ints_size ns)

pub numbers_large : (n : ℕ) (a step : ℤ) → 2 ^ 24 ≤ n → ¬ Fits (numbers (by_steps n a step))
numbers_large n a step h f = omega (arith, f.size, ints_size (by_steps n a step), length-by_steps n a step)

-- ---- one step of a loop over the numbers
pub in_range_fits : (z : ℤ) → is_in_range z ≡ true → FitsSigned w128 z
in_range_fits (pos n) e = let l : n < 2 ^ 127 = grind (arith, nat_tests) in record { sfits = l }
in_range_fits (negsuc n) e = let l : n < 2 ^ 127 = grind (arith, nat_tests) in record { sfits = omega arith }

both_of : (a b : Bool) → (a && b) ≡ true → (a ≡ true) × (b ≡ true)
both_of true b e = (refl, e)
both_of false b e = cc

same_from : (m : ℕ) (x next step : ℤ) → (is_in_range x ≡ true → next ≡ x) → list_all is_in_range (by_steps m x step) ≡ true → by_steps m next step ≡ by_steps m x step
same_from zero x next step f h = refl
same_from (suc m) x next step f h = ap (λ y. by_steps (suc m) y step) (f (both_of (is_in_range x) (list_all is_in_range (by_steps m (x +ℤ step) step)) h).0)

append_more : (xs : List Plain) (y : Plain) (ys : List Plain) → (xs ++ (y ∷ [])) ++ ys ≡ xs ++ (y ∷ ys)
append_more [] y ys = refl
append_more (x ∷ xs) y ys = ap (λ zs. x ∷ zs) (append_more xs y ys)

module _ (count i : ℕ) (number next step : ℤ) (h : i < count) (f : is_in_range (number +ℤ step) ≡ true → next ≡ (number +ℤ step))
    (r : list_all is_in_range (by_steps (count - i) number step) ≡ true) where
  here : count - i ≡ suc (count - (i + 1))
  here = omega arith

  rest_in_range : list_all is_in_range (by_steps (count - (i + 1)) (number +ℤ step) step) ≡ true
  rest_in_range =
      let r' : list_all is_in_range (by_steps (suc (count - (i + 1))) number step) ≡ true = subst (λ m. list_all is_in_range (by_steps m number step) ≡ true) here r in
      (both_of (is_in_range number) (list_all is_in_range (by_steps (count - (i + 1)) (number +ℤ step) step)) r').1

  rest_same : by_steps (count - (i + 1)) next step ≡ by_steps (count - (i + 1)) (number +ℤ step) step
  rest_same = same_from (count - (i + 1)) (number +ℤ step) next step f rest_in_range

  pub steps_in_range : list_all is_in_range (by_steps (count - (i + 1)) next step) ≡ true
  steps_in_range = ap (list_all is_in_range) rest_same ∙ rest_in_range

  pub steps_found : (found all : List Plain) → found ++ map int (by_steps (count - i) number step) ≡ all
      → (found ++ (int number ∷ [])) ++ map int (by_steps (count - (i + 1)) next step) ≡ all
  steps_found found all e =
      ap (λ ns. (found ++ (int number ∷ [])) ++ map int ns) rest_same
      ∙ append_more found (int number) (map int (by_steps (count - (i + 1)) (number +ℤ step) step))
      ∙ subst (λ m. found ++ map int (by_steps m number step) ≡ all) here e
