use Rattle.rl_sequence.proofs.LevelLemmas.{small_removed, removed}
use Rattle.rl_sequence.proofs.level.Level.remove_in.Goals as goal

pub returns : goal.returns
returns g c =
    let h = removed g.C.Chunk.elements g.C.Chunk.is_right g.C.Chunk.width _ _ _ _ _ _ _ _ _ _ c.requires.right c.requires.within c.in_ok-opening.ensures c.in_ok-chunk.ensures c.in_ok-children.ensures in
    record { right = h.right; holds = h.holds; few = h.few }

pub close-requires-clause-small : goal.close-requires-clause-small
close-requires-clause-small g c = small_removed g.C.Chunk.elements g.C.Chunk.is_right g.C.Chunk.width _ _ _ _ _ _ _ _ _ c.requires.right c.in_ok-opening.ensures c.in_ok-chunk.ensures
