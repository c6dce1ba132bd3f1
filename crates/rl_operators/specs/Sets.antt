-- Sets as the rising lists of their elements.
use Rattle.std.specs.Prelude.{Bool, not, ◌&&◌, List, [], ◌∷◌, map, filter}
use Rattle.std.specs.List.{list_any, list_all, flat_map}
use Rattle.rl_value.specs.Plain.{Plain, set, tuple, plains_of}
use Rattle.rl_value.specs.Order.{plain_cmp}
use Rattle.rl_value.specs.Laws.{plain_eq}
use Rattle.rl_value.specs.Rising.{rising}

-- the set of these values
abbrev pub set_of : List Plain → Plain
set_of xs = set (plains_of (rising plain_cmp xs))

-- whether x is one of these
abbrev pub is_member : List Plain → Plain → Bool
is_member ys x = list_any (λ y. plain_eq y x) ys

abbrev pub common : List Plain → List Plain → List Plain
common xs ys = filter (is_member ys) xs

abbrev pub without_all : List Plain → List Plain → List Plain
without_all xs ys = filter (λ x. not (is_member ys x)) xs

abbrev pub is_subset : List Plain → List Plain → Bool
is_subset xs ys = list_all (is_member ys) xs

abbrev pub is_proper_subset : List Plain → List Plain → Bool
is_proper_subset xs ys = is_subset xs ys && not (is_subset ys xs)

abbrev pub pair_of : Plain → Plain → Plain
pair_of x y = tuple (plains_of (x ∷ y ∷ []))

-- each of xs with each of ys
abbrev pub all_pairs : List Plain → List Plain → List Plain
all_pairs xs ys = flat_map (λ x. map (pair_of x) ys) xs
