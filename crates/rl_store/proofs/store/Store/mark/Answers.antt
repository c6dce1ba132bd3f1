use Rattle.std.proofs.Common.{rules}
use Rattle.rl_store.proofs.StoreSound.{seen_mark}
use Rattle.rl_store.proofs.store.Store.mark.Goals as goal

pub returns-clause-ok : goal.returns-clause-ok
returns-clause-ok c =
    seen_mark c.self.inside.newest c.self.inside.older.items c.add_older.new.older.items c.self.inside.notes.items c.self.inside.scopes.scopes c.args.self.now c.len.result c.len-2.result
    c.self.view_is c.in_ok-add_older.ensures.ok c.len.ensures.value (search (rules, c.len-2.ensures))
