use Rattle.rl_sequence.proofs.LevelLemmas.{part_at}
use Rattle.rl_sequence.proofs.level.Level.part_in.Goals as goal

pub returns : goal.returns
returns g c = part_at g.C.Chunk.elements g.C.Chunk.is_right g.C.Chunk.width _ _ _ _ _ _ _ _ c.deref.ensures.value c.find-place.ensures.child c.find-place.ensures.before c.index.ensures c.deref-2.ensures c.part.ensures
