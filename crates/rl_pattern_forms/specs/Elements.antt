-- Elements of list patterns and set patterns.
use Rattle.std.specs.Prelude.{List, Option, Some, slice_get}
use Rattle.rl_base.specs.declared.place.Place.{Place}
use Rattle.rl_syntax.specs.declared.pattern.PatternElement.{PatternElement}
use Rattle.rl_syntax.specs.declared.pattern.PatternElement.TheVariants as e
use Rattle.rl_forms.specs.declared.form.Form.{Form}
use Rattle.rl_forms.specs.declared.form.Form.TheVariants as f
use Rattle.rl_forms.specs.Part.{given, part_at}
use Rattle.rl_forms.specs.Names.{as_variable}
use Rattle.rl_forms.specs.Declarations.{as_type}

-- *x
unfoldable pub named_rest_of : Place → List Form → Option PatternElement
named_rest_of place parts = given (part_at as_variable parts 1) (λ variable. Some (e.Rest place variable))

-- *T x
unfoldable pub typed_rest_of : Place → List Form → Option PatternElement
typed_rest_of place parts =
    given (part_at as_type parts 1) (λ ty.
    given (part_at as_variable parts 2) (λ variable. Some (e.TypedRest place ty variable)))

-- the only word behind the star is `_`
abbrev pub rest_from : Place → List Form → Option Form → Option PatternElement
rest_from place parts (Some (f.Type ty)) = typed_rest_of place parts
rest_from place parts (Some (f.Word at word)) = Some (e.AnyRest place)
rest_from place parts _ = named_rest_of place parts

unfoldable pub rest_of : Place → List Form → Option PatternElement
rest_of place parts = rest_from place parts (slice_get parts 1)
