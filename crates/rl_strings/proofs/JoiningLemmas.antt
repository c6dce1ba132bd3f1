-- Texts joined behind one another.
use Rattle.std.proofs.Common.{◌≡◌, ℕ, ◌+◌, ◌<◌, List, [], ◌∷◌, ◌++◌, length, get_or, drop, map, refl, ap, sym, ◌∙◌, append_assoc, arith}
use Rattle.std.specs.List.{flat_map}
use Rattle.rl_value.specs.Plain.{Plain}
use Rattle.rl_print.specs.Printed.{shown_of}
use Rattle.rl_strings.specs.Pieces.{joined}

append-nil : {A : Type 0} (xs : List A) → xs ++ [] ≡ xs
append-nil [] = refl
append-nil (x ∷ xs) = ap (λ ys. x ∷ ys) (append-nil xs)

pub joined_is : (between : List ℕ) (t : Plain) (ts : List Plain) → joined between (map shown_of (t ∷ ts)) ≡ shown_of t ++ flat_map (λ u. between ++ shown_of u) ts
joined_is between t [] = sym (append-nil (shown_of t))
joined_is between t (u ∷ us) =
    ap (λ w. (shown_of t ++ between) ++ w) (joined_is between u us) ∙ append_assoc (shown_of t) between (shown_of u ++ flat_map (λ u. between ++ shown_of u) us)
    ∙ ap (λ w. shown_of t ++ w) (sym (append_assoc between (shown_of u) (flat_map (λ u. between ++ shown_of u) us)))
