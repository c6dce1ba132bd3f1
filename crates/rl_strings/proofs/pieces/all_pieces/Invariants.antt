use Rattle.std.proofs.Common.{◌≡◌, ℕ, ◌≤◌, ◌++◌, length, map}
use Rattle.rl_value.specs.Plain.{text}
use Rattle.std.specs.Str.{IsUtf8}
use Rattle.rl_strings.specs.Pieces.{pieces, all_pieces}
use Rattle.rl_strings.proofs.pieces.all_pieces.Given as goal

abbrev pub decreases-loop-piece : goal.decreases-loop-piece
decreases-loop-piece l = length l.rest

abbrev pub invariant-loop-piece : goal.invariant-loop-piece
invariant-loop-piece l = (m : ℕ) × (length l.rest ≤ m) × IsUtf8 l.rest × (l.pieces.items ++ map text (pieces m l.separator l.rest) ≡ map text (all_pieces l.separator l.whole))
