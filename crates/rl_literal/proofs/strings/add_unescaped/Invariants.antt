use Rattle.std.proofs.Common.{◌≡◌, ◌++◌, length}
use Rattle.std.specs.Prelude.{encode_utf8_all}
use Rattle.std.specs.String.{string_bytes}
use Rattle.rl_literal.specs.Strings.{unescaped, unescaped_from}
use Rattle.rl_literal.proofs.strings.add_unescaped.Given as goal

abbrev pub invariant-characters : goal.invariant-characters
invariant-characters l =
    string_bytes l.out ++ encode_utf8_all (unescaped_from l.pass l.rest) ≡ string_bytes l.fn.out ++ encode_utf8_all (unescaped l.text)

abbrev pub decreases-characters : goal.decreases-characters
decreases-characters l = length l.rest
