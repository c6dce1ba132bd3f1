use Rattle.std.proofs.Common.{◌<◌, length, arith, ltb-true}
use Rattle.std.proofs.lemmas.Bool.{lt-ltb}
use Rattle.rl_store.specs.Journal.{floor_of}
use Rattle.rl_store.proofs.StoreSound.{closable_is}
use Rattle.rl_store.proofs.store.Store.is_closable.Goals as goal

pub returns : goal.returns
returns c =
    let h = closable_is c.self.inside.newest c.self.inside.older.items c.self.inside.notes.items c.self.inside.scopes.scopes c.args.self.now c.self.view_is c.self.invariant.newest c.self.invariant.journal in (
      λ t. let k : c.floor_of.result < c.len.result = ltb-true c.floor_of.result c.len.result t in
          h.0 (omega (arith, k, c.floor_of.ensures, c.len.ensures.value)),
      λ q. let k : floor_of c.self.inside.newest < length c.self.inside.scopes.scopes = h.1 q in
          lt-ltb c.floor_of.result c.len.result (omega (arith, k, c.floor_of.ensures, c.len.ensures.value)),
    )
