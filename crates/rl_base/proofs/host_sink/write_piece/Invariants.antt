-- What is gone from the piece was written.
use Rattle.std.proofs.Common.{◌≡◌, ℕ, List, ◌++◌}
use Rattle.rl_base.specs.Told.{Grows}
use Rattle.rl_base.proofs.host_sink.write_piece.Given as goal

abbrev pub invariant-loop : goal.invariant-loop
invariant-loop g l = (done : List ℕ) × (l.piece ≡ done ++ l.rest) × Grows (g.W.Write.contents l.fn.writer) done (g.W.Write.contents l.writer)
