-- Steps over a list whose repeats are left out.
use Rattle.std.proofs.Common.{◌≡◌, ℕ, ◌+◌, ◌<◌, Bool, true, false, not, subst, ◌||◌, List, [], ◌∷◌, ◌++◌, length, get_or, drop, refl, ap, sym, ◌∙◌, append_assoc, arith}
use Rattle.std.specs.List.{list_any}
use Rattle.rl_value.specs.Plain.{Plain}
use Rattle.rl_value.specs.Laws.{plain_eq, plain_same}
use Rattle.rl_collections.specs.Repeats.{is_among, firsts}
use Rattle.rl_collections.proofs.ListsLemmas.{drop_at}

pub first_seen : (done ts : List Plain) (i : ℕ) (t : Plain) → i < length ts → t ≡ get_or ts i t → is_among done t ≡ false
    → (done ++ t ∷ []) ++ firsts (done ++ t ∷ []) (drop (i + 1) ts) ≡ done ++ firsts done (drop i ts)
first_seen done ts i t h is n = rw (drop_at ts i t h is, n) (append_assoc done (t ∷ []) (firsts (done ++ t ∷ []) (drop (i + 1) ts)))

pub seen_again : (done ts : List Plain) (i : ℕ) (t : Plain) → i < length ts → t ≡ get_or ts i t → is_among done t ≡ true
    → firsts done (drop (i + 1) ts) ≡ firsts done (drop i ts)
seen_again done ts i t h is y = rw (drop_at ts i t h is, y) refl

or_last : (a b c : Bool) → (a || (b || c)) ≡ (b || (a || c))
or_last true true c = refl
or_last true false c = refl
or_last false true c = refl
or_last false false c = refl

pub is_among-more : (done : List Plain) (t u : Plain) → (plain_eq t u || is_among done u) ≡ is_among (done ++ t ∷ []) u
is_among-more [] t u = refl
is_among-more (d ∷ ds) t u = or_last (plain_eq t u) (plain_eq d u) (is_among ds u) ∙ ap (λ b. plain_eq d u || b) (is_among-more ds t u)

-- what a set that holds those seen says
pub was_seen : (new in_set among : Bool) → new ≡ not in_set → in_set ≡ among → new ≡ false → among ≡ true
was_seen new true among n s f = sym s
was_seen new false among n s f = cc

pub not_seen : (new in_set among : Bool) → new ≡ not in_set → in_set ≡ among → new ≡ true → among ≡ false
not_seen new true among n s f = cc
not_seen new false among n s f = sym s

-- an element that is among those seen adds nothing
pub among_still : (done : List Plain) (t u : Plain) → is_among done t ≡ true → (plain_eq t u || is_among done u) ≡ is_among done u
among_still done t u y = by (plain_eq t u) refl
  where
    by : (b : Bool) → plain_eq t u ≡ b → (plain_eq t u || is_among done u) ≡ is_among done u
    by false e = ap (λ b. b || is_among done u) e
    by true e = let same : t ≡ u = plain_same t u e in let there : is_among done u ≡ true = subst (λ w. is_among done w ≡ true) same y in rw (e, there) refl
