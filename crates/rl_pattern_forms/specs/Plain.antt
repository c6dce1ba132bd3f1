-- Patterns without a name for the whole.
use Rattle.std.specs.Prelude.{ℕ, ◌==◌, if◌then◌else◌, List, [], ◌∷◌, Option, Some, None, slice_get}
use Rattle.std.specs.List.{filter_map}
use Rattle.rl_base.specs.declared.place.Place.{Place}
use Rattle.rl_syntax.specs.declared.pattern.Pattern.{Pattern}
use Rattle.rl_syntax.specs.declared.pattern.Pattern.TheVariants as p
use Rattle.rl_tokens.specs.declared.terminal.TheConstants.{BANG, SLASH, OPEN_BRACKET, OPEN_BRACE, LESS, MINUS}
use Rattle.rl_forms.specs.declared.form.Form.{Form}
use Rattle.rl_forms.specs.declared.form.Form.TheVariants as f
use Rattle.rl_forms.specs.Part.{given, part_at}
use Rattle.rl_forms.specs.Words.{is_word}
use Rattle.rl_forms.specs.Names.{as_name, as_variable}
use Rattle.rl_forms.specs.Declarations.{as_type}
use Rattle.rl_forms.specs.Patterns.{as_element, as_pattern}
use Rattle.rl_pattern_forms.specs.Literals.{token_of, negative_of}

-- T x
unfoldable pub typed_variable_of : Place → List Form → Option Pattern
typed_variable_of place parts =
    given (part_at as_type parts 0) (λ ty.
    given (part_at as_variable parts 1) (λ variable. Some (p.TypedVariable place ty variable)))

-- T _
unfoldable pub typed_wildcard_of : Place → List Form → Option Pattern
typed_wildcard_of place parts = given (part_at as_type parts 0) (λ ty. Some (p.TypedWildcard place ty))

-- the only word behind a type is `_`
abbrev pub typed_from : Place → List Form → Option Form → Option Pattern
typed_from place parts (Some (f.Name name)) = typed_variable_of place parts
typed_from place parts (Some (f.Word at word)) = typed_wildcard_of place parts
typed_from place parts _ = None

abbrev pub typed_of : Place → List Form → Option Pattern
typed_of place parts = typed_from place parts (slice_get parts 1)

-- c(p, ..)
unfoldable pub constructor_of : Place → List Form → Option Pattern
constructor_of place parts = given (part_at as_name parts 0) (λ name. Some (p.Constructor place name (filter_map as_pattern parts)))

-- !p, /p, [p, *x, ..], {p, *x, ..} or <p, ..>
unfoldable pub wordy_of : Place → ℕ → List Form → Option Pattern
wordy_of place word parts =
    if word == BANG then given (part_at as_pattern parts 1) (λ pattern. Some (p.Negation place pattern))
    else (if word == SLASH then given (part_at as_pattern parts 1) (λ pattern. Some (p.Descendant place pattern))
    else (if word == OPEN_BRACKET then Some (p.List place (filter_map as_element parts))
    else (if word == OPEN_BRACE then Some (p.Set place (filter_map as_element parts))
    else (if word == LESS then Some (p.Tuple place (filter_map as_pattern parts)) else None))))

abbrev pub begun_by : Place → Form → List Form → Option Pattern
begun_by place (f.Type ty) parts = typed_of place parts
begun_by place (f.Name name) parts = constructor_of place parts
begun_by place (f.Word at word) parts = wordy_of place word parts
begun_by place _ parts = None

-- one token, a negative integer, or what its first part tells
unfoldable pub plain_of : Place → List Form → Option Pattern
plain_of place [] = None
plain_of place (token ∷ []) = token_of place token
plain_of place (first ∷ second ∷ parts) = if is_word MINUS first then negative_of place second else begun_by place first (first ∷ second ∷ parts)
