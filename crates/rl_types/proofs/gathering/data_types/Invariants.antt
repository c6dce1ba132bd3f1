use Rattle.std.proofs.Common.{◌≡◌, ◌++◌, ◌∷◌, drop}
use Rattle.rl_types.specs.Exceptions.{exception_name}
use Rattle.rl_types.specs.Program.{data_types_in, in_all}
use Rattle.rl_types.proofs.gathering.data_types.Given as goal

abbrev pub invariant-loop-module : goal.invariant-loop-module
invariant-loop-module l = l.names.items ++ in_all data_types_in (drop l.module-index l.modules) ≡ exception_name ∷ in_all data_types_in l.modules
