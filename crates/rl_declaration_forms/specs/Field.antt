-- Fields.
use Rattle.std.specs.Prelude.{List, Option, Some}
use Rattle.rl_syntax.specs.declared.ty.Field.{Field}
use Rattle.rl_forms.specs.declared.form.Form.{Form}
use Rattle.rl_forms.specs.Part.{given, part_at}
use Rattle.rl_forms.specs.Names.{as_name}
use Rattle.rl_forms.specs.Declarations.{as_type, field}

-- a type with a name
unfoldable pub named_field_of : List Form → Option Field
named_field_of parts =
    given (part_at as_type parts 0) (λ ty.
    given (part_at as_name parts 1) (λ name. Some (field ty (Some name))))
