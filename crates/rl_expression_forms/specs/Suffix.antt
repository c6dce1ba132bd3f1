-- What stands behind a value.
use Rattle.std.specs.Prelude.{ℕ, ◌==◌, if◌then◌else◌, List, Option, Some, None, slice_get}
use Rattle.std.specs.List.{filter_map}
use Rattle.rl_base.specs.declared.place.Place.{Place}
use Rattle.rl_syntax.specs.declared.expression.Exp.{Exp}
use Rattle.rl_syntax.specs.declared.expression.Exp.TheVariants as e
use Rattle.rl_syntax.specs.declared.expression.Suffix.{Suffix}
use Rattle.rl_syntax.specs.declared.expression.Suffix.TheVariants as s
use Rattle.rl_tokens.specs.declared.terminal.TheConstants.{DOTS, DOT, OPEN_BRACKET, PLUS, STAR}
use Rattle.rl_forms.specs.declared.form.Form.{Form}
use Rattle.rl_forms.specs.declared.form.Form.TheVariants as f
use Rattle.rl_forms.specs.Part.{given, part_at}
use Rattle.rl_forms.specs.Words.{word_at, behind_word}
use Rattle.rl_forms.specs.Names.{as_name}
use Rattle.rl_forms.specs.Expressions.{as_expression, as_suffix}

-- what stands on both sides of .. in a slice
unfoldable pub bounds_of : List Form → Form
bounds_of parts = f.Bounds (part_at as_expression parts 0) (part_at as_expression (behind_word DOTS parts) 0)

-- [a..b]
abbrev pub slice : Place → Option Exp → Option Exp → Suffix
slice place from to = s.Slice place from to

abbrev pub subscript_from : Place → List Form → Option Form → Option Suffix
subscript_from place parts (Some (f.Bounds from to)) = Some (slice place from to)
subscript_from place parts _ = given (part_at as_expression parts 1) (λ index. Some (s.Subscript place index))

-- [i] or [a..b]
unfoldable pub subscript_of : Place → List Form → Option Suffix
subscript_of place parts = subscript_from place parts (slice_get parts 1)

-- .f
unfoldable pub field_of : Place → List Form → Option Suffix
field_of place parts = given (part_at as_name parts 1) (λ name. Some (s.Field place name))

-- + or *
abbrev pub closure : Place → ℕ → Option Suffix
closure place word =
    if word == PLUS then Some (s.TransitiveClosure place)
    else (if word == STAR then Some (s.ReflexiveClosure place) else None)

abbrev pub suffix_by : Place → List Form → ℕ → Option Suffix
suffix_by place parts word =
    if word == OPEN_BRACKET then subscript_of place parts
    else (if word == DOT then field_of place parts else closure place word)

-- a suffix, by its first token
unfoldable pub suffix_of : Place → List Form → Option Suffix
suffix_of place parts = given (word_at parts 0) (suffix_by place parts)

-- a value with suffixes
unfoldable pub suffixed_of : Place → List Form → Option Exp
suffixed_of place parts = given (part_at as_expression parts 0) (λ value. Some (e.Suffixed place value (filter_map as_suffix parts)))
