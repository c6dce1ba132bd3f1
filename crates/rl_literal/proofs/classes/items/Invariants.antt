use Rattle.std.proofs.Common.{◌≡◌, ◌++◌, length}
use Rattle.rl_literal.specs.Class.{items, items_from}
use Rattle.rl_literal.proofs.classes.items.Given as goal

abbrev pub invariant-characters : goal.invariant-characters
invariant-characters l = l.found.items ++ items_from l.pass l.rest ≡ items l.text

abbrev pub decreases-characters : goal.decreases-characters
decreases-characters l = length l.rest
