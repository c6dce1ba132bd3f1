-- Types, fields, constructors and declarations among the parts of a phrase.
use Rattle.std.specs.Prelude.{Option, Some, None}
use Rattle.rl_syntax.specs.declared.declaration.Decl.{Decl}
use Rattle.rl_syntax.specs.declared.declaration.Variant.{Variant}
use Rattle.rl_syntax.specs.declared.identifier.Identifier.{Identifier}
use Rattle.rl_syntax.specs.declared.ty.Field.{Field, roll-Field}
use Rattle.rl_syntax.specs.declared.ty.Ty.{Ty}
use Rattle.rl_forms.specs.declared.form.Form.{Form}
use Rattle.rl_forms.specs.declared.form.Form.TheVariants as f

abbrev pub as_type : Form → Option Ty
as_type (f.Type ty) = Some ty
as_type _ = None

abbrev pub field : Ty → Option Identifier → Field
field ty name = roll-Field (record { ty = ty; name = name })

-- a type is a field without a name
abbrev pub as_field : Form → Option Field
as_field (f.Type ty) = Some (field ty None)
as_field (f.Field named) = Some named
as_field _ = None

abbrev pub as_variant : Form → Option Variant
as_variant (f.Variant variant) = Some variant
as_variant _ = None

abbrev pub as_declaration : Form → Option Decl
as_declaration (f.Declaration declaration) = Some declaration
as_declaration _ = None
