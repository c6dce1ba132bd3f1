use Rattle.rl_sequence.proofs.LevelLemmas.{kept_front, small_front, fronted}
use Rattle.rl_sequence.proofs.level.Level.front_in.Goals as goal

pub returns : goal.returns
returns g c =
    let h = fronted g.C.Chunk.elements g.C.Chunk.is_right g.C.Chunk.width _ _ _ _ _ _ _ _ _ _ _ _ c.requires.right c.requires.within c.in_ok-opening.ensures c.truncate.ensures.items c.in_ok-last.ensures c.in_ok-alone.ensures c.in_ok-children.ensures in
    record { right = h.right; holds = h.holds; few = h.few }

pub join-requires-clause-small : goal.join-requires-clause-small
join-requires-clause-small g c = small_front g.C.Chunk.elements g.C.Chunk.is_right g.C.Chunk.width _ _ _ _ _ _ _ _ _ _ _ c.requires.right c.in_ok-opening.ensures c.truncate.ensures.items c.in_ok-last.ensures c.in_ok-alone.ensures

pub join-requires-clause-front : goal.join-requires-clause-front
join-requires-clause-front g c = kept_front g.C.Chunk.elements g.C.Chunk.is_right g.C.Chunk.width _ _ _ _ _ _ _ _ c.in_ok-opening.ensures c.truncate.ensures.items
