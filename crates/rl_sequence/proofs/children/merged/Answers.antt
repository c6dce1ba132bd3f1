use Rattle.rl_sequence.proofs.ChildLemmas.{merged_owned}
use Rattle.rl_sequence.proofs.children.merged.Goals as goal

pub returns-clause-merges : goal.returns-clause-merges
returns-clause-merges g c = merged_owned g.C.Chunk.elements g.C.Chunk.is_right g.C.Chunk.width _ _ _ _ _ _ c.in_ok-front.ensures c.in_ok-back.ensures c.in_ok-merge.ensures c.in_ok-chunk.ensures.ok
