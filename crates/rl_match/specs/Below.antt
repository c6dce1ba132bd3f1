-- The values in a value, at any depth.
use Rattle.std.specs.Prelude.{Bool, true, false, List, [], ◌∷◌, ◌++◌}
use Rattle.rl_value.specs.Plain.{Plain, tuple, list, set, mapping, node, tree, leaf, Plains, nil, cons, Pairs, no_pairs, pair}
use Rattle.rl_value.specs.Kids.{by_role}

unfoldable mutual
  -- what a value gives, as a part of a tree or by itself: as a part, layout and leaves give nothing, and a repetition or an option only what is inside it
  pub below_as : (part : Bool) → Plain → List Plain
  below_as part (tuple ts) = tuple ts ∷ below_each false ts
  below_as part (list ts) = list ts ∷ below_each false ts
  below_as part (set ts) = set ts ∷ below_each false ts
  below_as part (mapping ps) = mapping ps ∷ below_pairs ps
  below_as part (node name ts) = node name ts ∷ below_each false ts
  below_as true (tree shape ts) = by_role shape.role [] (below_each true ts) (tree shape ts ∷ below_each true ts)
  below_as false (tree shape ts) = tree shape ts ∷ below_each true ts
  below_as true (leaf bytes) = []
  below_as part t = t ∷ []

  pub below_each : (parts : Bool) → Plains → List Plain
  below_each parts nil = []
  below_each parts (cons t ts) = below_as parts t ++ below_each parts ts

  -- of each key, and then of its value
  pub below_pairs : Pairs → List Plain
  below_pairs no_pairs = []
  below_pairs (pair k v ps) = below_as false k ++ below_as false v ++ below_pairs ps

-- the value itself, and then what is below each of its children, from the left
abbrev pub below : Plain → List Plain
below = below_as false
