-- What was told grows.
use Rattle.std.proofs.Common.{◌≡◌, ℕ, List, [], ◌++◌, Option, Some, None, sym, ◌∙◌, ap, subst, append_assoc, append-nil}
use Rattle.std.specs.Io.KnownBytes.{Appends, Keeps}
use Rattle.rl_base.specs.Told.{Told, Grows}

pub Grows-nil : (t : Told) → Grows t [] t
Grows-nil None = tt
Grows-nil (Some xs) = ap Some (sym (append-nil xs))

pub Grows-then : (t u w : Told) (xs ys : List ℕ) → Grows t xs u → Grows u ys w → Grows t (xs ++ ys) w
Grows-then None u w xs ys h k = tt
Grows-then (Some a) u w xs ys h k =
    let P : Told → Type 0 = λ v. Grows v ys w in
    let more : w ≡ Some ((a ++ xs) ++ ys) = subst P h k in
    more ∙ ap Some (append_assoc a xs ys)

pub Grows-kept : (t u w : Told) (xs : List ℕ) → Grows t xs u → w ≡ u → Grows t xs w
Grows-kept None u w xs h k = tt
Grows-kept (Some a) u w xs h k = k ∙ h

-- the known bytes of a writer
pub Grows-appends : (t u : Option (List ℕ)) (xs : List ℕ) → Appends t u xs → Grows t xs u
Grows-appends None u xs h = tt
Grows-appends (Some a) None xs h = absurd h
Grows-appends (Some a) (Some b) xs h = ap Some h

pub Grows-keeps : (t u w : Option (List ℕ)) (xs : List ℕ) → Grows t xs u → Keeps u w → Grows t xs w
Grows-keeps None u w xs h k = tt
Grows-keeps (Some a) None w xs h k = absurd cc
Grows-keeps (Some a) (Some b) None xs h k = absurd k
Grows-keeps (Some a) (Some b) (Some c) xs h k = ap Some k ∙ h
