use Rattle.std.proofs.Common.{◌≡◌, ◌++◌, map}
use Rattle.rl_trees.specs.Rows.{row}
use Rattle.rl_trees.specs.Standing.{span_of}
use Rattle.rl_trees.proofs.rows.rows.Given as goal

abbrev pub invariant-loop-standing : goal.invariant-loop-standing
invariant-loop-standing l = l.rows.items ++ map row (map span_of l.standing-iterator) ≡ map row (map span_of l.ordered.entries)
