-- delete, toList, and domain and range of maps.
use Rattle.std.specs.Prelude.{Bool, not, List, [], ◌∷◌, Option, map, filter}
use Rattle.rl_value.specs.Plain.{Plain, tuple, set, mapping, plains_of, items_of, entries_of}
use Rattle.rl_value.specs.Laws.{plain_eq}
use Rattle.rl_exception.specs.Answer.{Answer, Throws, fitting}
use Rattle.rl_exception.specs.Exceptions.{wrong_kind}
use Rattle.rl_arguments.specs.Arguments.{taking, entries_in, list_of, set_of, map_of}

abbrev pub keys_of : List (Plain × Plain) → Answer
keys_of ps = fitting (set_of (map (λ p. p.0) ps))

abbrev pub values_of : List (Plain × Plain) → Answer
values_of ps = fitting (set_of (map (λ p. p.1) ps))

-- the entries with another key
abbrev pub without : Plain → List (Plain × Plain) → List (Plain × Plain)
without key = filter (λ p. not (plain_eq p.0 key))

abbrev pub delete_of : Plain → Plain → Answer
delete_of t key = taking (entries_in t) (λ ps. fitting (map_of (without key ps)))

-- a key and its value
abbrev pub row : Plain × Plain → Plain
row p = tuple (plains_of (p.0 ∷ p.1 ∷ []))

abbrev pub to_list_of : Plain → Answer
to_list_of (set ts) = fitting (list_of (items_of ts))
to_list_of (mapping ps) = fitting (list_of (map row (entries_of ps)))
to_list_of t = Throws wrong_kind
