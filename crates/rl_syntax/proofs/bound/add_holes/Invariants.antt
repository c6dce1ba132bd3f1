use Rattle.std.proofs.Common.{◌≡◌, ◌++◌, drop}
use Rattle.rl_syntax.specs.Bound.{set_in_holes}
use Rattle.rl_syntax.proofs.bound.add_holes.Given as goal

abbrev pub invariant-loop-piece : goal.invariant-loop-piece
invariant-loop-piece l = l.numbers.items ++ set_in_holes (drop l.piece-index l.pieces) ≡ l.initial.numbers.items ++ set_in_holes l.pieces
