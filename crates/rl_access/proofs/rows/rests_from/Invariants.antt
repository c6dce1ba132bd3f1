use Rattle.std.proofs.Common.{◌≡◌, ◌++◌, drop}
use Rattle.rl_access.specs.Rows.{rests}
use Rattle.rl_access.proofs.rows.rests_from.Given as goal

abbrev pub invariant-loop-i : goal.invariant-loop-i
invariant-loop-i l = l.found.items ++ rests l.key (drop l.i l.rows) ≡ rests l.key l.rows
