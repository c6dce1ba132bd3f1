use Rattle.rl_sequence.proofs.LevelLemmas.{get_at}
use Rattle.rl_sequence.proofs.level.Level.get_in.Goals as goal

pub returns : goal.returns
returns g c = get_at g.C.Chunk.elements g.C.Chunk.is_right g.C.Chunk.width _ _ _ _ _ _ _ c.deref.ensures.value c.find-place.ensures.child c.find-place.ensures.before c.index.ensures (rw c.deref-2.ensures at c.get.ensures)
