use Rattle.rl_sequence.proofs.LevelLemmas.{appended}
use Rattle.rl_sequence.proofs.level.Level.append.Goals as goal

pub returns-clause-edited : goal.returns-clause-edited
returns-clause-edited g c =
    let h = appended g.C.Chunk.elements g.C.Chunk.is_right g.C.Chunk.width _ _ _ _ _ c.requires.right c.requires.other_right c.requires.small c.in_ok-children.ensures in
    record { right = h.right; holds = h.holds; few = h.few }
