-- Variables that have room for a value, so that setting one needs no memory, and where their last notes stand.
use Rattle.std.specs.Prelude.{ℕ, zero, suc, Bool, false, IsTrue, List, [], ◌∷◌, refl, ◌≡◌, ◌==◌, ◌&&◌, if◌then◌else◌}
use Rattle.std.specs.List.{list_any}
use Rattle.std.specs.Map.{lookup}
use Rattle.std.specs.Option.{unwrap_or}
use Rattle.std.specs.Ordering.{nat_cmp}
use Rattle.std.specs.BTreeMap.{is_at}
use Rattle.std.specs.Coded.{Coded, code_by, coded_ℕ, coded×, coded_list}
use Rattle.rl_store.specs.Scope.{Scope, scope_code}

-- variables with one more than the places of their last notes, or with 0
abbrev pub LastNotes : Type 0
LastNotes = List (ℕ × ℕ)

-- one scope, with the variables that have room in it, and with their last notes
pub record Variables : Type 0 where
  pub scope : Scope
  pub room : List ℕ
  pub last_notes : LastNotes

-- all scopes, the first one first, with the variables that have room in each, and with their last notes
pub record Rooms : Type 0 where
  pub scopes : List Scope
  pub rooms : List (List ℕ)
  pub last_notes : List LastNotes

abbrev last_notes_code : Coded LastNotes
last_notes_code = coded_list (coded× coded_ℕ coded_ℕ)

abbrev pub variables_code : Coded Variables
variables_code =
    code_by (Scope × ((List ℕ) × LastNotes)) (coded× scope_code (coded× (coded_list coded_ℕ) last_notes_code))
    (λ s. (s.scope, (s.room, s.last_notes))) (λ p. record { scope = p.0; room = p.1.0; last_notes = p.1.1 }) (λ _. refl)

abbrev pub rooms_code : Coded Rooms
rooms_code =
    code_by (List Scope × ((List (List ℕ)) × List LastNotes)) (coded× (coded_list scope_code) (coded× (coded_list (coded_list coded_ℕ)) (coded_list last_notes_code)))
    (λ s. (s.scopes, (s.rooms, s.last_notes))) (λ p. record { scopes = p.0; rooms = p.1.0; last_notes = p.1.1 }) (λ _. refl)

abbrev pub has_room : List ℕ → ℕ → Bool
has_room room variable = list_any (is_at (nat_cmp variable)) room

-- the variable has room in the scope with this place
abbrev pub HasRoom : List (List ℕ) → ℕ → ℕ → Type 0
HasRoom [] place variable = ⊥
HasRoom (r ∷ rs) zero variable = IsTrue (has_room r variable)
HasRoom (r ∷ rs) (suc place) variable = HasRoom rs place variable

-- one more than the place of the variable's last note, or 0
abbrev pub last_note_in : LastNotes → ℕ → ℕ
last_note_in last_notes variable = unwrap_or (lookup (is_at (nat_cmp variable)) last_notes) 0

-- the same for the variable of the scope with this place
abbrev pub last_note_at : List LastNotes → ℕ → ℕ → ℕ
last_note_at [] place variable = 0
last_note_at (l ∷ ls) zero variable = last_note_in l variable
last_note_at (l ∷ ls) (suc place) variable = last_note_at ls place variable

abbrev pub KeepsLastNotes : List LastNotes → List LastNotes → Type 0
KeepsLastNotes old new = (p x : ℕ) → last_note_at new p x ≡ last_note_at old p x

-- the variable of the scope with this place has another last note, and all others have what they had
abbrev pub SetsLastNote : List LastNotes → List LastNotes → ℕ → ℕ → ℕ → Type 0
SetsLastNote old new place variable last_note =
    (p x : ℕ) → last_note_at new p x ≡ (if (place == p) && (variable == x) then last_note else last_note_at old p x)

-- all but this variable of the scope with this place have the last notes that they had
abbrev pub KeepsOtherNotes : List LastNotes → List LastNotes → ℕ → ℕ → Type 0
KeepsOtherNotes old new place variable =
    (p x : ℕ) → ((place == p) && (variable == x)) ≡ false → last_note_at new p x ≡ last_note_at old p x
