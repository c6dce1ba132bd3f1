use Rattle.std.proofs.Common.{◌≡◌, take, false}
use Rattle.std.specs.List.{list_any}
use Rattle.rl_productions.specs.Symbol.{is_in_range}
use Rattle.rl_productions.proofs.symbol.is_listed.Given as goal

abbrev pub invariant-loop-first : goal.invariant-loop-first
invariant-loop-first l = list_any (is_in_range l.c) (take l.first-index l.ranges) ≡ false
