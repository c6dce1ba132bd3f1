use Rattle.std.proofs.Common.{◌≡◌, ◌++◌, drop}
use Rattle.std.specs.List.{flat_map}
use Rattle.rl_types.specs.Program.{sorts_in}
use Rattle.rl_types.proofs.gathering.add_sorts.Given as goal

abbrev pub invariant-loop-declaration : goal.invariant-loop-declaration
invariant-loop-declaration l = l.names.items ++ flat_map sorts_in (drop l.declaration-index l.declarations) ≡ l.initial.names.items ++ flat_map sorts_in l.declarations
