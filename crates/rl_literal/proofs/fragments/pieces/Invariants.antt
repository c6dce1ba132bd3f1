use Rattle.std.proofs.Common.{◌≡◌, ◌++◌, length}
use Rattle.std.specs.String.{string_bytes}
use Rattle.rl_literal.specs.Fragment.{pieces, pieces_from}
use Rattle.rl_literal.proofs.fragments.pieces.Given as goal

abbrev pub invariant-characters : goal.invariant-characters
invariant-characters l = l.found.items ++ pieces_from l.place (string_bytes l.front) l.pass l.escape l.rest ≡ pieces l.place l.text

abbrev pub decreases-characters : goal.decreases-characters
decreases-characters l = length l.rest
