-- Maps as the rising lists of their entries.
use Rattle.std.specs.Prelude.{List, [], map}
use Rattle.rl_value.specs.Plain.{Plain, Pairs, mapping, pairs_of, entries_of}
use Rattle.rl_value.specs.Entries.{put_all}

-- the map of these entries; the later of two equal keys wins
abbrev pub map_of : List (Plain × Plain) → Plain
map_of es = mapping (pairs_of (put_all [] es))

abbrev pub keys_of : Pairs → List Plain
keys_of ps = map (λ e. e.0) (entries_of ps)
