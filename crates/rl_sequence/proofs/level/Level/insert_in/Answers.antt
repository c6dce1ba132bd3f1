use Rattle.std.proofs.Common.{arith}
use Rattle.rl_sequence.proofs.LevelLemmas.{small_inserted, inserted}
use Rattle.rl_sequence.proofs.level.Level.insert_in.Goals as goal

pub returns : goal.returns
returns g c =
    let h = inserted g.C.Chunk.elements g.C.Chunk.is_right g.C.Chunk.width _ _ _ _ _ _ _ _ _ _ _ _ _ c.requires.right c.saturating_sub-near.ensures c.requires.within c.requires.small c.in_ok-opening.ensures c.in_ok-chunk.ensures c.in_ok-children.ensures in
    record { right = h.right; holds = h.holds; few = h.few }

pub close_two-requires-clause-small : goal.close_two-requires-clause-small
close_two-requires-clause-small g c =
    let o = c.in_ok-opening.ensures in
    small_inserted g.C.Chunk.elements g.C.Chunk.is_right g.C.Chunk.width _ _ _ _ _ _ _ _ _ _ _ _ c.requires.right c.requires.small c.in_ok-opening.ensures
    (omega (arith, o.before, o.within, c.saturating_sub-near.ensures, c.requires.within)) c.in_ok-chunk.ensures
