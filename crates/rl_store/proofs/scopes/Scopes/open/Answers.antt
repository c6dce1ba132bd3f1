use Rattle.rl_store.proofs.Inner.{push_stays, push_keeps}
use Rattle.rl_store.proofs.scopes.Scopes.open.Goals as goal

pub returns-clause-stays : goal.returns-clause-stays
returns-clause-stays c = push_stays c.self.inside.first c.self.inside.inner.items _ _ c.args.self.now c.self.view_is c.in_ok-push.ensures.items

pub returns-clause-last_notes : goal.returns-clause-last_notes
returns-clause-last_notes c = push_keeps c.self.inside.first c.self.inside.inner.items _ _ c.args.self.now c.self.view_is c.in_ok-push.ensures.items c.new.ensures.last_notes
