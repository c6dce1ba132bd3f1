use Rattle.std.proofs.Common.{◌≡◌, ◌++◌, map, take}
use Rattle.rl_types.specs.View.{constructor_of}
use Rattle.rl_types.specs.Exceptions.{exception_of}
use Rattle.rl_types.proofs.exceptions.add_exceptions.Given as goal

abbrev pub invariant-loop-exception : goal.invariant-loop-exception
invariant-loop-exception l = map constructor_of l.constructors.items ≡ map constructor_of l.initial.constructors.items ++ map exception_of (take l.exception-index l.exceptions)
