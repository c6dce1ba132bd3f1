use Rattle.std.proofs.Common.{◌≡◌, ◌++◌, length}
use Rattle.rl_literal.specs.Class.{ranges}
use Rattle.rl_literal.proofs.classes.ranges.Given as goal

abbrev pub invariant-items : goal.invariant-items
invariant-items l = l.found.items ++ ranges l.rest ≡ ranges l.items

abbrev pub decreases-items : goal.decreases-items
decreases-items l = length l.rest
