use Rattle.std.proofs.Common.{◌≡◌, take}
use Rattle.rl_store.specs.Journal.{AreLast}
use Rattle.rl_store.proofs.journal.link.Given as goal

abbrev pub invariant-loop-i : goal.invariant-loop-i
invariant-loop-i l = record {
  scopes : l.scopes.scopes ≡ l.initial.scopes.scopes;
  rooms : l.scopes.rooms ≡ l.initial.scopes.rooms;
  last_notes : AreLast (take l.i l.notes) l.scopes.last_notes;
}
