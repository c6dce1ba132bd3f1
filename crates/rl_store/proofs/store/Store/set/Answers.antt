use Rattle.std.proofs.Common.{Some, refl, ◌∙◌}
use Rattle.rl_store.specs.Scope.{value_at}
use Rattle.rl_store.specs.Journal.{newest_first}
use Rattle.rl_store.proofs.SlotsLemmas.{on_both, err_both, ok_pair, err_pair, either_way}
use Rattle.rl_store.proofs.StoreSound.{seen, seen_set, journal_set, journal_kept, room_set, room_kept, last_notes_written, last_notes_kept}
use Rattle.rl_store.proofs.store.Store.set.Goals as goal

pub returns-clause-ok : goal.returns-clause-ok
returns-clause-ok c =
    on_both c.write.result
    (seen_set c.self.inside.newest c.self.inside.older.items c.self.inside.notes.items c.write.new.notes.items c.self.inside.scopes.scopes c.self.inside.scopes.scopes c.write.new.self.scopes
    c.args.self.now c.args.place c.args.variable c.args.v c.self.view_is c.self.invariant.newest c.self.invariant.journal refl)
    c.write.ensures.scopes c.write.ensures.notes

pub returns-clause-err : goal.returns-clause-err
returns-clause-err c =
    err_both c.write.result (λ a b. (λ i. seen (a i) (b i) (newest_first c.self.inside.newest c.self.inside.older.items)) ∙ c.self.view_is) c.write.ensures.same c.write.ensures.same_notes

pub invariant_of-self : goal.invariant_of-self
invariant_of-self c = record {
  journal =
      either_way c.write.result (ok_pair _ _ c.write.result c.write.ensures.scopes c.write.ensures.notes) (err_pair _ _ c.write.result c.write.ensures.same c.write.ensures.same_notes)
      (λ t. journal_set c.self.inside.newest c.self.inside.older.items c.self.inside.notes.items c.write.new.notes.items c.self.inside.scopes.scopes c.self.inside.scopes.scopes c.write.new.self.scopes
      c.args.place c.args.variable (Some c.args.v) (value_at c.self.inside.scopes.scopes c.args.place c.args.variable) c.self.invariant.journal refl t.0 t.1)
      (λ t. journal_kept (newest_first c.self.inside.newest c.self.inside.older.items) c.self.inside.notes.items c.write.new.notes.items c.self.inside.scopes.scopes c.write.new.self.scopes t.0 t.1 c.self.invariant.journal);
  room =
      either_way c.write.result (ok_pair _ _ c.write.result c.write.ensures.room c.write.ensures.notes) c.write.ensures.same_notes
      (λ t. room_set c.self.inside.newest c.args.place c.args.variable (value_at c.self.inside.scopes.scopes c.args.place c.args.variable) c.self.inside.notes.items c.write.new.notes.items
      c.self.inside.scopes.rooms c.write.new.self.rooms c.write.new.self.rooms t.1 c.write.ensures.stays t.0 refl c.self.invariant.room)
      (λ n. room_kept c.self.inside.notes.items c.write.new.notes.items c.self.inside.scopes.rooms c.write.new.self.rooms n c.write.ensures.stays c.self.invariant.room);
  last_notes =
      either_way c.write.result (ok_pair _ _ c.write.result c.write.ensures.last_note c.write.ensures.notes) (err_pair _ _ c.write.result c.write.ensures.same_note c.write.ensures.same_notes)
      (λ t. last_notes_written c.self.inside.newest c.args.place c.args.variable (value_at c.self.inside.scopes.scopes c.args.place c.args.variable) c.self.inside.notes.items c.write.new.notes.items
      c.self.inside.scopes.last_notes c.write.new.self.last_notes t.1 c.write.ensures.others t.0 c.self.invariant.last_notes)
      (λ t. last_notes_kept c.args.place c.args.variable c.self.inside.notes.items c.write.new.notes.items c.self.inside.scopes.last_notes c.write.new.self.last_notes t.1 c.write.ensures.others t.0 c.self.invariant.last_notes);
  newest = c.self.invariant.newest;
}
