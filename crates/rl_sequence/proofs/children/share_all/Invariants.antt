use Rattle.std.proofs.Common.{take}
use Rattle.rl_sequence.specs.Parts.{AreAlike}
use Rattle.rl_sequence.proofs.children.share_all.Given as goal

abbrev pub invariant-loop-child : goal.invariant-loop-child
invariant-loop-child g l = AreAlike g.C.Chunk.elements g.C.Chunk.is_right g.C.Chunk.width (take l.child-index l.children) l.shared.items
