-- What `a[i]` gives.
use Rattle.std.specs.Prelude.{ℕ, ℤ, List, [], ◌∷◌, Option, Some, None, if◌then◌else◌, length}
use Rattle.std.specs.List.{list_all}
use Rattle.std.specs.Str.{chars}
use Rattle.rl_value.specs.Plain.{Plain, text, tuple, list, set, mapping, plains_of, items_of, entries_of}
use Rattle.rl_value.specs.Readers.{as_int}
use Rattle.rl_value.specs.Order.{plain_cmp}
use Rattle.rl_value.specs.Laws.{plain_eq}
use Rattle.rl_value.specs.Rising.{rising}
use Rattle.rl_exception.specs.Answer.{Answer, Throws, throwing, fitting}
use Rattle.rl_exception.specs.Exceptions.{wrong_kind, index_out_of_bounds, no_such_key}
use Rattle.rl_access.specs.Operands.{of_int, found_or, at_index, of_place, place_of, piece_of}
use Rattle.rl_access.specs.Rows.{is_row, rests}

abbrev pub element_of : List Plain → ℤ → Answer
element_of ts i = found_or (Throws (index_out_of_bounds i)) (at_index ts i)

-- a text of one character
abbrev pub character_of : List ℕ → ℤ → Answer
character_of bytes i = of_place i (place_of (length (chars bytes)) i) (λ place. fitting (text (piece_of bytes place 1)))

-- the value of a key
abbrev pub value_at : Plain → List (Plain × Plain) → Option Plain
value_at k [] = None
value_at k (p ∷ ps) = if plain_eq p.0 k then Some p.1 else value_at k ps

abbrev pub value_of : List (Plain × Plain) → Plain → Answer
value_of ps k = found_or (throwing (no_such_key k)) (value_at k ps)

-- the set of the rests of the rows that begin with k
abbrev pub rows_of : List Plain → Plain → Answer
rows_of ts k = if list_all is_row ts then fitting (set (plains_of (rising plain_cmp (rests k ts)))) else Throws wrong_kind

abbrev pub subscript_of : Plain → Plain → Answer
subscript_of (list ts) i = of_int (as_int i) (element_of (items_of ts))
subscript_of (tuple ts) i = of_int (as_int i) (element_of (items_of ts))
subscript_of (text bytes) i = of_int (as_int i) (character_of bytes)
subscript_of (mapping ps) k = value_of (entries_of ps) k
subscript_of (set ts) k = rows_of (items_of ts) k
subscript_of a i = Throws wrong_kind
