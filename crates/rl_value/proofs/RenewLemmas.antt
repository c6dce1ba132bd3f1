-- Parts of syntax trees with other kids, as lists.
use Rattle.std.proofs.Common.{◌≡◌, ℕ, suc, ◌+◌, ◌-◌, ◌<◌, ◌≤◌, List, [], ◌∷◌, ◌++◌, length, get_or, drop, refl, ap, sym, subst, ◌∙◌, arith, add-one, drop-cons, take, length-drop, length-append, All, Err}
use Rattle.std.proofs.Math.Seq.{take-length}
use Rattle.std.proofs.lemmas.List.{drop_all}
use Rattle.rl_value.specs.Built.{Builds}
use Rattle.rl_value.specs.declared.build_end.BuildEnd.{BuildEnd}
use Rattle.rl_value.specs.declared.build_end.BuildEnd.TheVariants.{TooLarge, OutOfMemory}
use Rattle.rl_value.proofs.LevelsLemmas.{append-nil}
use Rattle.rl_value.specs.Plain.{Plain, list, cons, plains_of, plain_size, plains_size, plain_height, plains_height, Fits, IsPart}
use Rattle.rl_value.specs.Kids.{part_kids, parts_kids, renew_part, renew_parts}

abbrev pub renew_list : List Plain → List Plain → List Plain
renew_list [] ks = []
renew_list (t ∷ ts) ks = renew_part t ks ∷ renew_list ts (drop (length (part_kids t)) ks)

pub renew_parts_list : (ts ks : List Plain) → renew_parts (plains_of ts) ks ≡ plains_of (renew_list ts ks)
renew_parts_list [] ks = refl
renew_parts_list (t ∷ ts) ks = ap (cons (renew_part t ks)) (renew_parts_list ts (drop (length (part_kids t)) ks))

-- a value that does not fit spoils the list that it stands in
part_size_le : (xs ys : List Plain) (t : Plain) → plain_size t ≤ plains_size (plains_of (xs ++ t ∷ ys))
part_size_le [] ys t = omega arith
part_size_le (x ∷ xs) ys t = omega (arith, part_size_le xs ys t)

part_height_le : (xs ys : List Plain) (t : Plain) → plain_height t ≤ plains_height (plains_of (xs ++ t ∷ ys))
part_height_le [] ys t = omega arith
part_height_le (x ∷ xs) ys t = omega (arith, part_height_le xs ys t)

pub fits_inside : (xs ys : List Plain) (t : Plain) → Fits (list (plains_of (xs ++ t ∷ ys))) → Fits t
fits_inside xs ys t f =
    record {
      size = omega (arith, f.size, part_size_le xs ys t);
      height = omega (arith, f.height, part_height_le xs ys t);
    }

-- the end of a slice
pub rest_of : {A : Type 0} (xs : List A) (n : ℕ) → take (length xs - n) (drop n xs) ≡ drop n xs
rest_of xs n = rw (← length-drop n xs) (take-length (drop n xs))

-- one step over the parts
pub kids_at : (ts : List Plain) (i : ℕ) (x : Plain) → i < length ts → x ≡ get_or ts i x
    → length (parts_kids (plains_of (drop i ts))) ≡ length (part_kids x) + length (parts_kids (plains_of (drop (i + 1) ts)))
kids_at ts i x h e =
    rw (add-one, drop-cons ts i x, length-append) (ap (λ t. length (part_kids t) + length (parts_kids (plains_of (drop (suc i) ts)))) (sym e))

pub renew_at : (ts ks : List Plain) (i : ℕ) (x : Plain) → i < length ts → x ≡ get_or ts i x
    → renew_list (drop i ts) ks ≡ renew_part x ks ∷ renew_list (drop (i + 1) ts) (drop (length (part_kids x)) ks)
renew_at ts ks i x h e =
    rw (add-one, drop-cons ts i x) (ap (λ t. renew_part t ks ∷ renew_list (drop (suc i) ts) (drop (length (part_kids t)) ks)) (sym e))

pub renewed_all : (xs ts ks us : List Plain) (i : ℕ) → length ts ≤ i → xs ++ renew_list (drop i ts) us ≡ renew_list ts ks → plains_of xs ≡ renew_parts (plains_of ts) ks
renewed_all xs ts ks us i h e =
    let none : drop i ts ≡ [] = drop_all i ts h in
    ap plains_of (sym (append-nil xs) ∙ (rw none at e)) ∙ sym (renew_parts_list ts ks)

-- a renewed part that does not fit spoils the whole
pub spoils : (xs ts ks us : List Plain) (i : ℕ) (x : Plain) → i < length ts → x ≡ get_or ts i x → xs ++ renew_list (drop i ts) us ≡ renew_list ts ks
    → ¬ Fits (renew_part x us) → ¬ Fits (list (renew_parts (plains_of ts) ks))
spoils xs ts ks us i x h e done large f =
    let whole : renew_parts (plains_of ts) ks ≡ plains_of (xs ++ renew_part x us ∷ renew_list (drop (i + 1) ts) (drop (length (part_kids x)) us)) =
    renew_parts_list ts ks ∙ ap plains_of (sym done ∙ ap (λ ys. xs ++ ys) (renew_at ts us i x h e)) in
    large (fits_inside xs _ (renew_part x us) (subst (λ us. Fits (list us)) whole f))

pub not_fitting : (end : BuildEnd) (t : Plain) → Builds t (Err end) → end ≡ TooLarge → ¬ Fits t
not_fitting TooLarge t b e = b
not_fitting OutOfMemory t b e = cc

pub part_at : (ts : List Plain) (i : ℕ) (x : Plain) → All IsPart ts → i < length ts → x ≡ get_or ts i x → IsPart x
part_at ts i x a h e = subst IsPart (sym e) (a i x h)
