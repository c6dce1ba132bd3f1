-- The pairs that are joined by paths of a relation.
use Rattle.std.specs.Prelude.{◌≡◌, ℕ, zero, suc, true, List, [], ◌∷◌, ◌++◌, map, filter}
use Rattle.std.specs.List.{flat_map}
use Rattle.std.specs.BTreeSet.{BTreeSet, contains}
use Rattle.rl_value.specs.Plain.{Plain}
use Rattle.rl_value.specs.Order.{plain_cmp}
use Rattle.rl_value.specs.Laws.{plain_eq}
use Rattle.rl_value.specs.Rising.{In}
use Rattle.rl_access.specs.Rows.{rests}
use Rattle.rl_exception.specs.Answer.{Answer, fitting}
use Rattle.rl_relation.specs.Pairs.{pair_of, first_of, second_of, set_of, pairs_in, parts_in}
use Rattle.rl_relation.specs.Relations.{made_of}

-- the first parts of the pairs of r that end in y
abbrev pub starts : Plain → List Plain → List Plain
starts y r = map first_of (filter (λ q. plain_eq (second_of q) y) r)

abbrev pub products : List Plain → List Plain → List Plain
products xs ys = flat_map (λ x. map (pair_of x) ys) xs

-- what the pair <a,b> joins, beside r: from a and all that leads to a in r, to b and all that b leads to in r
abbrev pub bridged : List Plain → Plain → List Plain
bridged r p = products (first_of p ∷ starts (first_of p) r) (second_of p ∷ rests (second_of p) r)

-- the transitive closure, a pair at a time
abbrev pub closure : List Plain → List Plain
closure [] = []
closure (p ∷ ps) = closure ps ++ bridged (closure ps) p

-- a path of n pairs, and one more, from x to z
abbrev pub leads : List Plain → ℕ → Plain → Plain → Type 0
leads ps zero x z = In z (rests x ps)
leads ps (suc n) x z = (y : Plain) × leads ps n x y × In z (rests y ps)

-- a path of one pair or more
abbrev pub Leads : List Plain → Plain → Plain → Type 0
Leads ps x z = (n : ℕ) × leads ps n x z

abbrev pub closure_of : Plain → Answer
closure_of a = made_of (pairs_in a) (λ ps. fitting (set_of (closure ps)))

-- <x,x> for each part x of the pairs
abbrev pub loops : List Plain → List Plain
loops ps = map (λ x. pair_of x x) (parts_in ps)

abbrev pub reflexive_closure_of : Plain → Answer
reflexive_closure_of a = made_of (pairs_in a) (λ ps. fitting (set_of (closure ps ++ loops ps)))

-- all that was seen is among these
abbrev pub Covers : BTreeSet Plain → List Plain → Type 0
Covers seen xs = (q : Plain) → contains plain_cmp seen q ≡ true → In q xs

-- the list old with some of ys behind it
abbrev pub GrowsBy : List Plain → List Plain → List Plain → Type 0
GrowsBy ys old new = (added : List Plain) × (new ≡ old ++ added) × ((z : Plain) → In z added → In z ys)

-- the same values, in whatever order and however often
abbrev pub HasSame : List Plain → List Plain → Type 0
HasSame xs ys = ((z : Plain) → In z xs → In z ys) × ((z : Plain) → In z ys → In z xs)
