use Rattle.std.proofs.Common.{◌≡◌, ℕ, ◌≤◌, ◌++◌, length}
use Rattle.std.specs.String.{string_bytes}
use Rattle.std.specs.Str.{IsUtf8}
use Rattle.rl_strings.specs.Pieces.{pieces, all_pieces, joined}
use Rattle.rl_strings.proofs.pieces.with_replacement.Given as goal

abbrev pub decreases-loop-piece : goal.decreases-loop-piece
decreases-loop-piece l = length l.rest

abbrev pub invariant-loop-piece : goal.invariant-loop-piece
invariant-loop-piece l = (m : ℕ) × (length l.rest ≤ m) × IsUtf8 l.rest × (string_bytes l.out ++ joined l.replacement (pieces m l.part l.rest) ≡ joined l.replacement (all_pieces l.part l.whole))
