-- Patterns with a name for the whole.
use Rattle.std.specs.Prelude.{List, Option, Some, slice_get}
use Rattle.rl_base.specs.declared.place.Place.{Place}
use Rattle.rl_syntax.specs.declared.pattern.Pattern.{Pattern}
use Rattle.rl_syntax.specs.declared.pattern.Pattern.TheVariants as p
use Rattle.rl_forms.specs.declared.form.Form.{Form}
use Rattle.rl_forms.specs.declared.form.Form.TheVariants as f
use Rattle.rl_forms.specs.Part.{given, part_at}
use Rattle.rl_forms.specs.Names.{as_variable}
use Rattle.rl_forms.specs.Declarations.{as_type}
use Rattle.rl_forms.specs.Patterns.{as_pattern}

-- x : p
unfoldable pub binding_of : Place → List Form → Option Pattern
binding_of place parts =
    given (part_at as_variable parts 0) (λ variable.
    given (part_at as_pattern parts 2) (λ pattern. Some (p.Binding place variable pattern)))

-- T x : p
unfoldable pub typed_binding_of : Place → List Form → Option Pattern
typed_binding_of place parts =
    given (part_at as_type parts 0) (λ ty.
    given (part_at as_variable parts 1) (λ variable.
    given (part_at as_pattern parts 3) (λ pattern. Some (p.TypedBinding place ty variable pattern))))

abbrev pub named_from : Place → List Form → Option Form → Option Pattern
named_from place parts (Some (f.Type ty)) = typed_binding_of place parts
named_from place parts _ = binding_of place parts

unfoldable pub named_of : Place → List Form → Option Pattern
named_of place parts = named_from place parts (slice_get parts 0)
