-- What the notes of a journal stand for.
use Rattle.std.specs.Prelude.{◌≡◌, ℕ, ◌-◌, ◌<◌, ◌≤◌, Bool, false, ◌==◌, ◌&&◌, not, nat_lt, List, [], ◌∷◌, ◌++◌, length, take, drop, reverse, map, filter, slice_get, All, Option, Some, None, IsSome, IsTrue, ◌⊎◌}
use Rattle.std.specs.Option.{option_to_list}
use Rattle.std.specs.FinMap.{find, from_entries}
use Rattle.rl_value.specs.Plain.{Plain}
use Rattle.rl_store.specs.Scope.{Scope}
use Rattle.rl_store.specs.Rooms.{HasRoom, LastNotes, last_note_at}
use Rattle.rl_store.specs.Store.{Key, key_cmp, Mark, laid}
use Rattle.rl_store.specs.declared.journal.Note.{Note}
use Rattle.rl_store.specs.declared.journal.MarkAt.{MarkAt}

abbrev pub entry_of : Note → Key × Option Plain
entry_of n = ((n.place, n.variable), n.before)

abbrev pub entries_of : List Note → List (Key × Option Plain)
entries_of notes = map entry_of notes

-- the note is of the variable of the scope with this place
abbrev pub is_of : Option Note → ℕ → ℕ → Bool
is_of None place variable = false
is_of (Some n) place variable = (n.place == place) && (n.variable == variable)

-- the last note of the variable, one more than whose place is given, is among those from a place on
abbrev pub is_noted : List Note → ℕ → ℕ → ℕ → ℕ → Bool
is_noted notes from last_note place variable = nat_lt from last_note && is_of (slice_get notes (last_note - 1)) place variable

-- where the variable of the scope has notes, this is one more than the place of the last of them
abbrev pub IsLast : List Note → ℕ → ℕ → ℕ → Type 0
IsLast notes last_note place variable = (i : ℕ) → IsTrue (is_of (slice_get notes i) place variable) → IsTrue (is_noted notes i last_note place variable)

-- each variable's last note is where its scope says
abbrev pub AreLast : List Note → List LastNotes → Type 0
AreLast notes last_notes = (p x : ℕ) → IsLast notes (last_note_at last_notes p x) p x

-- before the note, the variable's last note among these was the earlier one
abbrev pub IsLinked : List Note → Note → Type 0
IsLinked front n = IsLast front n.earlier n.place n.variable

-- the variable of the scope has no note
abbrev pub HasNoNote : List Note → Key → Type 0
HasNoNote notes key = find key_cmp key (entries_of notes) ≡ None

-- no two notes are of one variable of one scope
abbrev pub AreNotedOnce : List Note → Type 0
AreNotedOnce [] = Unit {0}
AreNotedOnce (n ∷ ns) = HasNoNote ns (n.place, n.variable) × AreNotedOnce ns

-- a note that the older mark takes from a newer one: the scope stood there, and the older mark has no note of the variable
abbrev pub is_taken : List Note → MarkAt → Note → Bool
is_taken front older n = nat_lt n.place older.scopes && not (is_noted front older.notes n.earlier n.place n.variable)

abbrev pub HasRoomIn : List (List ℕ) → Note → Type 0
HasRoomIn rooms n = HasRoom rooms n.place n.variable

-- the marks, the newest first
abbrev pub newest_first : Option MarkAt → List MarkAt → List MarkAt
newest_first newest older = option_to_list newest ++ reverse older

-- what the marks keep, of the notes and the scopes now
abbrev pub marks_of : List MarkAt → List Note → List Scope → List Mark
marks_of [] notes scopes = []
marks_of (m ∷ ms) notes scopes =
    let noted = from_entries (entries_of (drop m.notes notes)) in
    let kept = laid noted (take m.scopes scopes) in
    record { kept = kept; noted = noted } ∷ marks_of ms (take m.notes notes) kept

-- each note is of a scope that stood at its mark, under each mark a variable of a scope is noted once, and each mark had no
-- more scopes than stood later
abbrev pub IsJournal : List MarkAt → List Note → ℕ → Type 0
IsJournal [] notes count = notes ≡ []
IsJournal (m ∷ ms) notes count =
    (1 ≤ m.scopes) × (m.scopes ≤ count) × (m.notes ≤ length notes)
    × All (λ n. n.place < m.scopes) (drop m.notes notes) × IsJournal ms (take m.notes notes) m.scopes
    × AreNotedOnce (drop m.notes notes) × All (IsLinked (take m.notes notes)) (drop m.notes notes)

-- what becomes of the notes where the newest mark is m and a variable is set that had this before
abbrev pub Notes : MarkAt → Key → Option Plain → List Note → List Note → Type 0
Notes m key before old new =
    ((new ≡ old) × ((m.scopes ≤ key.0) ⊎ IsSome (find key_cmp key (entries_of (drop m.notes old)))))
    ⊎ ((n : Note) × (new ≡ old ++ n ∷ []) × (entry_of n ≡ (key, before)) × (key.0 < m.scopes)
    × HasNoNote (drop m.notes old) key × IsLinked (take m.notes old) n)

-- the same, where a mark need not be live
abbrev pub NotesSince : Option MarkAt → Key → Option Plain → List Note → List Note → Type 0
NotesSince None key before old new = new ≡ old
NotesSince (Some m) key before old new = Notes m key before old new

-- the notes once those from a place on are given to the older mark, if there is one
abbrev pub passed_down : Option MarkAt → ℕ → List Note → List Note
passed_down None from notes = []
passed_down (Some older) from notes = take from notes ++ filter (is_taken (take from notes) older) (drop from notes)

-- the number of scopes that stay open: those that stood at the newest mark, or the first
abbrev pub floor_of : Option MarkAt → ℕ
floor_of None = 1
floor_of (Some m) = m.scopes
