-- Paths that are asked for one after another.
use Rattle.std.proofs.Common.{◌≡◌, ℕ, suc, ◌+◌, List, [], ◌∷◌, ◌++◌, length, take, Some, None, refl, sym, ap, arith, append_assoc, append-nil}
use Rattle.rl_base.specs.Asked.{Asked, asked_after}

pub asked_after-nil : (a : Asked) → a ≡ asked_after a []
asked_after-nil None = refl
asked_after-nil (Some paths) = ap Some (sym (append-nil paths))

pub asked_after-append : (a : Asked) (xs ys : List (List ℕ)) → asked_after (asked_after a xs) ys ≡ asked_after a (xs ++ ys)
asked_after-append None xs ys = refl
asked_after-append (Some paths) xs ys = ap Some (append_assoc paths xs ys)

-- a front behind others
pub take-behind : (xs ys : List (List ℕ)) (k : ℕ) → take (length xs + k) (xs ++ ys) ≡ xs ++ take k ys
take-behind [] ys k = let e : length {A = List ℕ} [] + k ≡ k = omega arith in rw e refl
take-behind (x ∷ xs) ys k =
    let e : length (x ∷ xs) + k ≡ suc (length xs + k) = omega arith in
    rw e (ap (λ v. x ∷ v) (take-behind xs ys k))
