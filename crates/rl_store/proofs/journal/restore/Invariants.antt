use Rattle.std.proofs.Common.{◌≡◌, take, drop, vec_len}
use Rattle.std.specs.List.{All}
use Rattle.rl_store.specs.Store.{laid_entries}
use Rattle.rl_store.specs.Journal.{entries_of, HasRoomIn, IsLinked}
use Rattle.rl_store.proofs.LastNotes.{AreLastBut}
use Rattle.rl_store.proofs.journal.restore.Given as goal

abbrev pub invariant-loop-notes : goal.invariant-loop-notes
invariant-loop-notes l = record {
  scopes : laid_entries (entries_of (drop l.from l.notes.items)) l.scopes.scopes ≡ laid_entries (entries_of (drop l.from l.initial.notes.items)) l.initial.scopes.scopes;
  rooms : l.scopes.rooms ≡ l.initial.scopes.rooms;
  front : take l.from l.notes.items ≡ take l.from l.initial.notes.items;
  room : All (HasRoomIn l.scopes.rooms) l.notes.items;
  linked : All (IsLinked (take l.from l.initial.notes.items)) (drop l.from l.notes.items);
  last_notes : AreLastBut (take l.from l.initial.notes.items) (drop l.from l.notes.items) l.scopes.last_notes;
}

abbrev pub decreases-loop-notes : goal.decreases-loop-notes
decreases-loop-notes l = vec_len l.notes
