use Rattle.std.proofs.Common.{◌≡◌, map, take}
use Rattle.rl_types.specs.PlainType.{field_type}
use Rattle.rl_types.proofs.joining.share_fields.Given as goal

abbrev pub invariant-loop-field : goal.invariant-loop-field
invariant-loop-field l = map field_type l.shared.items ≡ map field_type (take l.field-index l.fields)
