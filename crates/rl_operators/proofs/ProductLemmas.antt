-- Pairs that do not fit.
use Rattle.std.proofs.Common.{◌≡◌, ℕ, zero, suc, ◌<◌, ◌≤◌, Bool, true, false, ◌&&◌, List, [], ◌∷◌, Err, inl, inr, length, get_or, map, refl, ap, ◌∙◌, subst, arith}
use Rattle.std.specs.List.{list_all}
use Rattle.std.proofs.lemmas.List.Folds.{list_all_at, list_all-map, list_all-append}
use Rattle.rl_value.specs.Plain.{Plain, plains_of, plain_size, plain_height, plains_size, plains_height, Fits}
use Rattle.rl_value.specs.Order.{plain_cmp}
use Rattle.rl_value.specs.Rising.{In, rising}
use Rattle.rl_value.specs.Laws.{plain_cmp_total, plain_exact}
use Rattle.rl_value.specs.Built.{Builds}
use Rattle.rl_value.specs.declared.build_end.BuildEnd.{BuildEnd}
use Rattle.rl_value.specs.declared.build_end.BuildEnd.TheVariants.{TooLarge, OutOfMemory}
use Rattle.rl_value.proofs.RisingLemmas.{In-rising}
use Rattle.rl_value.proofs.RenewLemmas.{not_fitting}
use Rattle.rl_exception.specs.Answer.{fits}
use Rattle.rl_exception.proofs.FittingLemmas.{fits-true, fits-false}
use Rattle.rl_operators.specs.Sets.{set_of, pair_of, all_pairs}

-- the elements of a set that fits
size_in : (xs : List Plain) (z : Plain) → In z xs → plain_size z ≤ plains_size (plains_of xs)
size_in [] z h = absurd h
size_in (x ∷ xs) z (inl e) = omega (arith, ap plain_size e)
size_in (x ∷ xs) z (inr h) = omega (arith, size_in xs z h)

height_in : (xs : List Plain) (z : Plain) → In z xs → plain_height z ≤ plains_height (plains_of xs)
height_in [] z h = absurd h
height_in (x ∷ xs) z (inl e) = omega (arith, ap plain_height e)
height_in (x ∷ xs) z (inr h) = omega (arith, height_in xs z h)

all_fit : (xs : List Plain) → ((z : Plain) → In z xs → Fits z) → list_all fits xs ≡ true
all_fit [] f = refl
all_fit (x ∷ xs) f = rw (fits-true x (f x (inl refl))) (all_fit xs (λ z h. f z (inr h)))

pub set_large : (xs : List Plain) → list_all fits xs ≡ false → ¬ Fits (set_of xs)
set_large xs e f =
    let all = all_fit xs (λ z h. let k = In-rising plain_cmp_total plain_exact xs z h in
    record {
      size = omega (arith, f.size, size_in (rising plain_cmp xs) z k);
      height = omega (arith, f.height, height_in (rising plain_cmp xs) z k);
    }) in
    cc

-- a pair that was not built
pub pair_large : (x : Plain) (ys : List Plain) (i : ℕ) (y : Plain) (end : BuildEnd) → i < length ys → y ≡ get_or ys i y
    → Builds (pair_of x y) (Err end) → end ≡ TooLarge → list_all fits (map (pair_of x) ys) ≡ false
pair_large x ys i y end h is b e =
    let large : fits (pair_of x y) ≡ false = fits-false (pair_of x y) (not_fitting end (pair_of x y) b e) in
    list_all-map fits (pair_of x) ys ∙ list_all_at (λ z. fits (pair_of x z)) ys i y h (subst (λ z. fits (pair_of x z) ≡ false) is large)

and-false : (a b : Bool) → b ≡ false → (a && b) ≡ false
and-false true b e = e
and-false false b e = refl

pub pairs_large : (xs ys : List Plain) (i : ℕ) (x : Plain) → i < length xs → x ≡ get_or xs i x → list_all fits (map (pair_of x) ys) ≡ false
    → list_all fits (all_pairs xs ys) ≡ false
pairs_large [] ys i x h is e = absurd (omega arith)
pairs_large (z ∷ zs) ys zero x h is e =
    list_all-append fits (map (pair_of z) ys) (all_pairs zs ys)
    ∙ ap (λ b. b && list_all fits (all_pairs zs ys)) (subst (λ w. list_all fits (map (pair_of w) ys) ≡ false) is e)
pairs_large (z ∷ zs) ys (suc i) x h is e =
    list_all-append fits (map (pair_of z) ys) (all_pairs zs ys)
    ∙ and-false (list_all fits (map (pair_of z) ys)) _ (pairs_large zs ys i x (omega arith) is e)

-- what comes of a list that was not built, where a value in it does not fit
pub Builds-large : (end : BuildEnd) (t : Plain) → (end ≡ TooLarge → ¬ Fits t) → Builds t (Err end)
Builds-large TooLarge t f = f refl
Builds-large OutOfMemory t f = tt
