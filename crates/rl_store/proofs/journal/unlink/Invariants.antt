use Rattle.std.proofs.Common.{◌≡◌, take, drop}
use Rattle.rl_store.proofs.LastNotes.{AreLastBut}
use Rattle.rl_store.proofs.journal.unlink.Given as goal

abbrev pub invariant-loop-i : goal.invariant-loop-i
invariant-loop-i l = record {
  scopes : l.scopes.scopes ≡ l.initial.scopes.scopes;
  rooms : l.scopes.rooms ≡ l.initial.scopes.rooms;
  last_notes : AreLastBut (take l.from l.notes) (drop l.i l.notes) l.scopes.last_notes;
}
