use Rattle.std.proofs.Common.{◌≡◌, ◌++◌, drop}
use Rattle.rl_types.specs.Program.{constructors_in, in_all}
use Rattle.rl_types.proofs.gathering.add_all_constructors.Given as goal

abbrev pub invariant-loop-module : goal.invariant-loop-module
invariant-loop-module l = l.constructors.items ++ in_all constructors_in (drop l.module-index l.modules) ≡ l.initial.constructors.items ++ in_all constructors_in l.modules
