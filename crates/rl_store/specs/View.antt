-- The plain store that a store stands for.
use Rattle.std.specs.Prelude.{◌≡◌, [], length, All, None}
use Rattle.rl_store.specs.Store.{PlainStore}
use Rattle.rl_store.specs.Journal.{newest_first, marks_of, IsJournal, HasRoomIn, AreLast}
use Rattle.rl_store.specs.declared.store.Store.TheInside.{Inside}

abbrev pub store_of : Inside → PlainStore
store_of a = record { scopes = a.scopes.scopes; marks = marks_of (newest_first a.newest a.older.items) a.notes.items a.scopes.scopes }

pub record IsSound (a : Inside) : Type 0 where
  pub journal : IsJournal (newest_first a.newest a.older.items) a.notes.items (length a.scopes.scopes)
  pub room : All (HasRoomIn a.scopes.rooms) a.notes.items
  pub last_notes : AreLast a.notes.items a.scopes.last_notes
  -- no mark is live where there is no newest one
  pub newest : a.newest ≡ None → a.older.items ≡ []
