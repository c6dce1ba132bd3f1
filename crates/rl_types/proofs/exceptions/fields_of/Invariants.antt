use Rattle.std.proofs.Common.{◌≡◌, map, take}
use Rattle.rl_types.specs.View.{field_of}
use Rattle.rl_types.specs.Exceptions.{basic_field}
use Rattle.rl_types.proofs.exceptions.fields_of.Given as goal

abbrev pub invariant-loop-basic : goal.invariant-loop-basic
invariant-loop-basic l = map field_of l.fields.items ≡ map basic_field (take l.basic-index l.basics)
