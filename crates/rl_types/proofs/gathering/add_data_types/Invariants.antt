use Rattle.std.proofs.Common.{◌≡◌, ◌++◌, drop}
use Rattle.std.specs.List.{flat_map}
use Rattle.rl_types.specs.Program.{data_types_in}
use Rattle.rl_types.proofs.gathering.add_data_types.Given as goal

abbrev pub invariant-loop-declaration : goal.invariant-loop-declaration
invariant-loop-declaration l = l.names.items ++ flat_map data_types_in (drop l.declaration-index l.declarations) ≡ l.initial.names.items ++ flat_map data_types_in l.declarations
