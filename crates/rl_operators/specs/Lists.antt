-- Lists from which elements are taken out.
use Rattle.std.specs.Prelude.{List, [], ◌∷◌, if◌then◌else◌}
use Rattle.rl_value.specs.Plain.{Plain}
use Rattle.rl_value.specs.Laws.{plain_eq}

-- the list without the first place of x
abbrev pub without_first : Plain → List Plain → List Plain
without_first x [] = []
without_first x (y ∷ ys) = if plain_eq y x then ys else y ∷ without_first x ys

-- the list without the first place of each of these, in turn
abbrev pub without_each : List Plain → List Plain → List Plain
without_each [] ys = ys
without_each (x ∷ xs) ys = without_each xs (without_first x ys)
