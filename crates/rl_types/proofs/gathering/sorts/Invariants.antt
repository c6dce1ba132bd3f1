use Rattle.std.proofs.Common.{◌≡◌, ◌++◌, drop}
use Rattle.rl_types.specs.Program.{sorts_in, in_all}
use Rattle.rl_types.proofs.gathering.sorts.Given as goal

abbrev pub invariant-loop-module : goal.invariant-loop-module
invariant-loop-module l = l.names.items ++ in_all sorts_in (drop l.module-index l.modules) ≡ in_all sorts_in l.modules
