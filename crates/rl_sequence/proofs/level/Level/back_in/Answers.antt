use Rattle.rl_sequence.proofs.LevelLemmas.{kept_back, small_back, backed}
use Rattle.rl_sequence.proofs.level.Level.back_in.Goals as goal

pub returns : goal.returns
returns g c =
    let h = backed g.C.Chunk.elements g.C.Chunk.is_right g.C.Chunk.width _ _ _ _ _ _ _ _ _ _ _ _ c.requires.right c.requires.within c.in_ok-opening.ensures c.in_ok-back.ensures.tail c.in_ok-first.ensures c.in_ok-alone.ensures c.in_ok-children.ensures in
    record { right = h.right; holds = h.holds; few = h.few }

pub join-requires-clause-small : goal.join-requires-clause-small
join-requires-clause-small g c = small_back g.C.Chunk.elements g.C.Chunk.is_right g.C.Chunk.width _ _ _ _ _ _ _ _ _ _ _ c.requires.right c.in_ok-opening.ensures c.in_ok-back.ensures.tail c.in_ok-first.ensures c.in_ok-alone.ensures

pub join-requires-clause-back : goal.join-requires-clause-back
join-requires-clause-back g c = kept_back g.C.Chunk.elements g.C.Chunk.is_right g.C.Chunk.width _ _ _ _ _ _ _ _ c.in_ok-opening.ensures c.in_ok-back.ensures.tail
