use Rattle.std.proofs.Common.{◌-◌, take, ap, ◌∙◌}
use Rattle.rl_store.specs.Journal.{newest_first}
use Rattle.rl_store.proofs.StoreSound.{seen_close, journal_closed, room_closed, last_notes_closed}
use Rattle.rl_store.proofs.store.Store.close_scope.Goals as goal

pub invariant_of-self : goal.invariant_of-self
invariant_of-self c = record {
  journal =
      journal_closed (newest_first c.self.inside.newest c.self.inside.older.items) c.self.inside.notes.items c.self.inside.scopes.scopes c.truncate.new.self.scopes c.args.self.now c.self.view_is c.self.invariant.journal c.requires
      (c.truncate.ensures.scopes ∙ ap (λ n. take (n - 1) c.self.inside.scopes.scopes) c.len-count.ensures.value);
  room =
      room_closed (newest_first c.self.inside.newest c.self.inside.older.items) c.self.inside.notes.items c.self.inside.scopes.scopes c.args.self.now c.self.inside.scopes.rooms c.truncate.new.self.rooms c.self.view_is c.self.invariant.journal c.requires
      (c.truncate.ensures.rooms ∙ ap (λ n. take (n - 1) c.self.inside.scopes.rooms) c.len-count.ensures.value) c.self.invariant.room;
  last_notes =
      last_notes_closed (newest_first c.self.inside.newest c.self.inside.older.items) c.self.inside.notes.items c.self.inside.scopes.scopes c.args.self.now c.self.inside.scopes.last_notes c.truncate.new.self.last_notes c.self.view_is c.self.invariant.journal c.requires
      (c.truncate.ensures.last_notes ∙ ap (λ n. take (n - 1) c.self.inside.scopes.last_notes) c.len-count.ensures.value) c.self.invariant.last_notes;
  newest = c.self.invariant.newest;
}

pub returns : goal.returns
returns c =
    seen_close (newest_first c.self.inside.newest c.self.inside.older.items) c.self.inside.notes.items c.self.inside.scopes.scopes c.truncate.new.self.scopes c.args.self.now c.self.view_is c.self.invariant.journal c.requires
    (c.truncate.ensures.scopes ∙ ap (λ n. take (n - 1) c.self.inside.scopes.scopes) c.len-count.ensures.value)
