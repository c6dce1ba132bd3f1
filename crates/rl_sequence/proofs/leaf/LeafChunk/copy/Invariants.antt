use Rattle.std.proofs.Common.{◌≡◌, take}
use Rattle.rl_sequence.proofs.leaf.LeafChunk.copy.Given as goal

abbrev pub invariant-loop-item : goal.invariant-loop-item
invariant-loop-item g l = l.items.items ≡ take l.item-index l.item-items
