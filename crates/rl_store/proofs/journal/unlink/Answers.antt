use Rattle.std.proofs.Common.{refl, take, ◌∙◌}
use Rattle.rl_store.proofs.LastNotes.{last_but, but_next}
use Rattle.rl_store.proofs.journal.unlink.Goals as goal

pub loop-i-init : goal.loop-i-init
loop-i-init c = record {
  scopes = refl;
  rooms = refl;
  last_notes = last_but c.args.notes.now c.args.from c.args.scopes.now.last_notes c.requires.last_notes;
}

pub loop-i-preserved : goal.loop-i-preserved
loop-i-preserved c = record {
  scopes = c.set_last_note.ensures.scopes ∙ c.loop-i.invariant.scopes;
  rooms = c.set_last_note.ensures.rooms ∙ c.loop-i.invariant.rooms;
  last_notes =
      but_next (take c.args.from c.args.notes.now) c.args.notes.now c.args.from c.loop-i.i c.index-notes-i.result c.loop-i.scopes.last_notes c.set_last_note.new.self.last_notes
      c.loop-i-test.true c.index-notes-i.is c.loop-i.auto.i c.requires.linked c.set_last_note.ensures.last_notes c.loop-i.invariant.last_notes;
}
