use Rattle.std.proofs.Common.{◌≡◌, ◌+◌, ◌-◌, length, take}
use Rattle.rl_sequence.specs.Parts.{flat}
use Rattle.rl_sequence.proofs.children.find.Given as goal

abbrev pub invariant-loop-inside : goal.invariant-loop-inside
invariant-loop-inside g l = length (flat g.C.Chunk.elements g.C.Chunk.is_right g.C.Chunk.width (take l.child l.children)) + l.inside ≡ l.at

abbrev pub decreases-loop-inside : goal.decreases-loop-inside
decreases-loop-inside g l = length l.children - l.child
