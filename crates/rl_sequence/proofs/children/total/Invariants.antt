use Rattle.std.proofs.Common.{◌≡◌, length, take}
use Rattle.rl_sequence.specs.Parts.{flat}
use Rattle.rl_sequence.proofs.children.total.Given as goal

abbrev pub invariant-loop-child : goal.invariant-loop-child
invariant-loop-child g l = l.count ≡ length (flat g.C.Chunk.elements g.C.Chunk.is_right g.C.Chunk.width (take l.child-index l.children))
