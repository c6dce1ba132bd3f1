-- How what is built of a list goes on.
use Rattle.std.proofs.Common.{◌≡◌, List, [], ◌∷◌, ◌++◌, Ok, Err, refl, sym, ap, ◌∙◌, append_assoc, append-nil}
use Rattle.rl_base.specs.declared.place.Place.{Place}
use Rattle.rl_eval.specs.Preparation.{Built, and_built, all_built}

and_built-Ok : {A B C : Type 0} (r : Built A) (f : A → B) (g : B → C) → and_built (and_built r (λ x. Ok (f x))) (λ y. Ok (g y)) ≡ and_built r (λ x. Ok (g (f x)))
and_built-Ok (Ok x) f g = refl
and_built-Ok (Err e) f g = refl

and_built-same : {A B : Type 0} (r : Built A) (f g : A → Built B) → ((x : A) → f x ≡ g x) → and_built r f ≡ and_built r g
and_built-same (Ok x) f g h = h x
and_built-same (Err e) f g h = refl

and_built-nothing : {A : Type 0} (r : Built A) → and_built r (λ x. Ok x) ≡ r
and_built-nothing (Ok x) = refl
and_built-nothing (Err e) = refl

-- behind what was built already
abbrev pub behind : {A B : Type 0} → (A → Built B) → List B → List A → Built (List B)
behind build ys xs = and_built (all_built build xs) (λ zs. Ok (ys ++ zs))

pub behind-all : {A B : Type 0} (build : A → Built B) (ys : List B) → behind build ys [] ≡ Ok ys
behind-all build ys = ap Ok (append-nil ys)

pub behind-start : {A B : Type 0} (build : A → Built B) (xs : List A) → behind build [] xs ≡ all_built build xs
behind-start build xs = and_built-nothing (all_built build xs)

pub behind-Ok : {A B : Type 0} (build : A → Built B) (ys : List B) (x : A) (xs : List A) (y : B) → build x ≡ Ok y → behind build ys (x ∷ xs) ≡ behind build (ys ++ y ∷ []) xs
behind-Ok build ys x xs y h =
    rw h (and_built-Ok (all_built build xs) (λ zs. y ∷ zs) (λ zs. ys ++ zs)
    ∙ and_built-same (all_built build xs) (λ zs. Ok (ys ++ y ∷ zs)) (λ zs. Ok ((ys ++ y ∷ []) ++ zs)) (λ zs. ap Ok (sym (append_assoc ys (y ∷ []) zs))))

pub behind-Err : {A B : Type 0} (build : A → Built B) (ys : List B) (x : A) (xs : List A) (place : Place) → build x ≡ Err place → behind build ys (x ∷ xs) ≡ Err place
behind-Err build ys x xs place h = rw h refl
