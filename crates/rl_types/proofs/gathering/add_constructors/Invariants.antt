use Rattle.std.proofs.Common.{◌≡◌, ◌++◌, drop}
use Rattle.std.specs.List.{flat_map}
use Rattle.rl_types.specs.Program.{constructors_in}
use Rattle.rl_types.proofs.gathering.add_constructors.Given as goal

abbrev pub invariant-loop-declaration : goal.invariant-loop-declaration
invariant-loop-declaration l = l.constructors.items ++ flat_map constructors_in (drop l.declaration-index l.declarations) ≡ l.initial.constructors.items ++ flat_map constructors_in l.declarations
