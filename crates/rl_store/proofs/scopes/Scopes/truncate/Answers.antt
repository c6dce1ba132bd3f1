use Rattle.rl_store.proofs.Inner.{front_scopes, front_rooms, front_last_notes}
use Rattle.rl_store.proofs.scopes.Scopes.truncate.Goals as goal

pub returns-clause-scopes : goal.returns-clause-scopes
returns-clause-scopes c = front_scopes c.self.inside.first c.self.inside.inner.items _ c.args.self.now c.args.count c.self.view_is c.requires c.truncate.ensures.items

pub returns-clause-rooms : goal.returns-clause-rooms
returns-clause-rooms c = front_rooms c.self.inside.first c.self.inside.inner.items _ c.args.self.now c.args.count c.self.view_is c.requires c.truncate.ensures.items

pub returns-clause-last_notes : goal.returns-clause-last_notes
returns-clause-last_notes c = front_last_notes c.self.inside.first c.self.inside.inner.items _ c.args.self.now c.args.count c.self.view_is c.requires c.truncate.ensures.items
