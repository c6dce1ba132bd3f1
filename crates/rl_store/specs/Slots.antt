-- The variables of one scope, of the entries of its map.
use Rattle.std.specs.Prelude.{ℕ, List, [], ◌∷◌, map, Option, Some, None}
use Rattle.std.specs.Map.{keys_of}
use Rattle.std.specs.FinMap.{empty}
use Rattle.rl_value.specs.Plain.{Plain}
use Rattle.rl_store.specs.Rooms.{LastNotes}
use Rattle.rl_store.specs.Scope.{Scope, changed}
use Rattle.rl_store.specs.declared.slots.Slot.{Slot}

abbrev pub values_of : List (ℕ × Slot) → Scope
values_of [] = empty
values_of (e ∷ es) = changed (values_of es) e.0 e.1.value

abbrev pub rooms_of : List (ℕ × Slot) → List ℕ
rooms_of es = keys_of es

abbrev pub last_notes_of : List (ℕ × Slot) → LastNotes
last_notes_of es = map (λ e. (e.0, e.1.last_note)) es

-- what the variable of the slot has, if there is one
abbrev pub value_in : Option Slot → Option Plain
value_in None = None
value_in (Some s) = s.value
