-- Names in a set.
use Rattle.std.proofs.Common.{◌≡◌, ℕ, Bool, true, false, cond, ◌||◌, List, refl, sym, ap, ◌∙◌}
use Rattle.std.specs.Str.{bytes_eq}
use Rattle.std.proofs.lemmas.Slice.Eq.{bytes_eq-Decides}

same_bool : (a b : Bool) → (a ≡ true → b ≡ true) → (b ≡ true → a ≡ true) → a ≡ b
same_bool true b f g = sym (f refl)
same_bool false true f g = g refl
same_bool false false f g = refl

bytes_eq-swapped : (a b : List ℕ) → bytes_eq a b ≡ bytes_eq b a
bytes_eq-swapped a b = same_bool _ _
    (λ e. (bytes_eq-Decides b a).1 (sym ((bytes_eq-Decides a b).0 e)))
    (λ e. (bytes_eq-Decides a b).1 (sym ((bytes_eq-Decides b a).0 e)))

or_last : (x b : Bool) → cond b true x ≡ (x || b)
or_last true true = refl
or_last true false = refl
or_last false true = refl
or_last false false = refl

pub cond-or : (key name : List ℕ) (x : Bool) → cond (bytes_eq key name) true x ≡ (x || bytes_eq name key)
cond-or key name x = ap (λ b. cond b true x) (bytes_eq-swapped key name) ∙ or_last x (bytes_eq name key)
