-- Pairs, and the sets of pairs that relations are.
use Rattle.std.specs.Prelude.{Bool, true, false, not, List, [], ◌∷◌, map, filter, Option, Some, None, if◌then◌else◌}
use Rattle.std.specs.List.{list_any, list_all, flat_map}
use Rattle.rl_value.specs.Plain.{Plain, set, tuple, nil, cons, plains_of, items_of}
use Rattle.rl_value.specs.Order.{plain_cmp}
use Rattle.rl_value.specs.Laws.{plain_eq}
use Rattle.rl_value.specs.Rising.{rising}
use Rattle.rl_access.specs.Rows.{rests}
use Rattle.rl_relation.specs.declared.pairs.Side.{Side}
use Rattle.rl_relation.specs.declared.pairs.Side.TheVariants.{First, Second}

abbrev pub pair_of : Plain → Plain → Plain
pair_of x y = tuple (plains_of (x ∷ y ∷ []))

-- whether a value is a tuple of two parts
abbrev pub is_pair : Plain → Bool
is_pair (tuple (cons x (cons y nil))) = true
is_pair t = false

abbrev pub first_of : Plain → Plain
first_of (tuple (cons x ts)) = x
first_of t = t

abbrev pub second_of : Plain → Plain
second_of (tuple (cons x (cons y ts))) = y
second_of t = t

abbrev pub part_of : Side → Plain → Plain
part_of First p = first_of p
part_of Second p = second_of p

-- a pair the other way round
abbrev pub swapped : Plain → Plain
swapped (tuple (cons x (cons y ts))) = pair_of y x
swapped t = t

-- the set of these values
abbrev pub set_of : List Plain → Plain
set_of xs = set (plains_of (rising plain_cmp xs))

-- the pairs of a relation
abbrev pub pairs_in : Plain → Option (List Plain)
pairs_in (set ts) = if list_all is_pair (items_of ts) then Some (items_of ts) else None
pairs_in t = None

-- the elements of a set
abbrev pub elements_in : Plain → Option (List Plain)
elements_in (set ts) = Some (items_of ts)
elements_in t = None

-- whether x is one of these
abbrev pub is_member : List Plain → Plain → Bool
is_member ys x = list_any (λ y. plain_eq y x) ys

-- a test, or its contrary
abbrev pub as_wanted : Bool → Bool → Bool
as_wanted true b = b
as_wanted false b = not b

-- the pairs of which this part is, or is not, one of xs
abbrev pub kept : Side → Bool → List Plain → List Plain → List Plain
kept side wanted xs ps = filter (λ p. as_wanted wanted (is_member xs (part_of side p))) ps

-- both parts of each pair
abbrev pub parts_in : List Plain → List Plain
parts_in ps = flat_map (λ p. first_of p ∷ second_of p ∷ []) ps

-- <a,c> for p as <a,b> and each <b,c> of qs
abbrev pub joined_with : List Plain → Plain → List Plain
joined_with qs p = map (pair_of (first_of p)) (rests (second_of p) qs)

-- <a,c> for each <a,b> of ps and each <b,c> of qs
abbrev pub joined : List Plain → List Plain → List Plain
joined ps qs = flat_map (joined_with qs) ps
