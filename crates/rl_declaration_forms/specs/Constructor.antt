-- Data definitions and their constructors.
use Rattle.std.specs.Prelude.{List, Option, Some}
use Rattle.std.specs.List.{filter_map}
use Rattle.rl_base.specs.declared.place.Place.{Place}
use Rattle.rl_syntax.specs.declared.declaration.Decl.{Decl}
use Rattle.rl_syntax.specs.declared.declaration.Decl.TheVariants as d
use Rattle.rl_syntax.specs.declared.declaration.Variant.{Variant}
use Rattle.rl_forms.specs.declared.form.Form.{Form}
use Rattle.rl_forms.specs.Part.{first_in, given, part_at}
use Rattle.rl_forms.specs.Names.{as_name}
use Rattle.rl_forms.specs.Declarations.{as_field, as_variant}

-- name(fields)
unfoldable pub variant_of : List Form → Option Variant
variant_of parts = given (part_at as_name parts 0) (λ name. Some (record { name = name; fields = filter_map as_field parts }))

-- data T = variants; its only name is its own
unfoldable pub data_of : Place → List Form → Option Decl
data_of place parts = given (first_in as_name parts) (λ name. Some (d.Data place name (filter_map as_variant parts)))
