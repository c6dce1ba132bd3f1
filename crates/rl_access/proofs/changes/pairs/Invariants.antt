use Rattle.std.proofs.Common.{◌≡◌, take, map}
use Rattle.rl_value.specs.View.{pair_of}
use Rattle.rl_access.proofs.changes.pairs.Given as goal

abbrev pub invariant-loop-entry : goal.invariant-loop-entry
invariant-loop-entry l = l.pairs.items ≡ map pair_of (take l.entry-index l.entries)
