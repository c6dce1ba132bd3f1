-- The entries of a map that is made of pairs.
use Rattle.std.specs.Prelude.{List, [], ◌∷◌}
use Rattle.std.specs.BTreeMap.{insert_entry}
use Rattle.rl_value.specs.Plain.{Plain}
use Rattle.rl_value.specs.Order.{plain_cmp}

-- the rising entries es with each pair put in, in turn: the later of two equal keys wins
abbrev pub put_all : List (Plain × Plain) → List (Plain × Plain) → List (Plain × Plain)
put_all es [] = es
put_all es (p ∷ ps) = put_all (insert_entry plain_cmp es p.0 p.1) ps
