-- Lists, ranges and sets, their elements, and conditions.
use Rattle.std.specs.Prelude.{if◌then◌else◌, List, Option, Some, None}
use Rattle.std.specs.List.{filter_map}
use Rattle.rl_base.specs.declared.place.Place.{Place}
use Rattle.rl_syntax.specs.declared.expression.Exp.{Exp}
use Rattle.rl_syntax.specs.declared.expression.Exp.TheVariants as e
use Rattle.rl_tokens.specs.declared.terminal.TheConstants.{BAR, COMMA, DOTS}
use Rattle.rl_forms.specs.declared.form.Form.{Form}
use Rattle.rl_forms.specs.declared.form.Form.TheVariants as f
use Rattle.rl_forms.specs.Part.{given, part_at}
use Rattle.rl_forms.specs.Words.{has_word, before_word, behind_word}
use Rattle.rl_forms.specs.Expressions.{as_conditions, as_expression}

-- *e
unfoldable pub splice_of : Place → List Form → Option Exp
splice_of place parts = given (part_at as_expression parts 1) (λ value. Some (e.Splice place value))

-- several conditions
abbrev pub conditions_of : List Form → Form
conditions_of parts = f.Conditions (filter_map as_expression parts)

-- [a..b]
unfoldable pub short_range_of : Place → List Form → Option Exp
short_range_of place parts =
    given (part_at as_expression parts 1) (λ first.
    given (part_at as_expression parts 3) (λ end. Some (e.Range place first None end)))

-- [a, s..b]
unfoldable pub long_range_of : Place → List Form → Option Exp
long_range_of place parts =
    given (part_at as_expression parts 1) (λ first.
    given (part_at as_expression parts 3) (λ second.
    given (part_at as_expression parts 5) (λ end. Some (e.Range place first (Some second) end))))

-- [e, .. | conditions]
unfoldable pub list_comprehension_of : Place → List Form → Option Exp
list_comprehension_of place parts =
    given (part_at as_conditions (behind_word BAR parts) 0) (λ conditions.
    Some (e.ListComprehension place (filter_map as_expression (before_word BAR parts)) conditions))

-- [e, ..]
abbrev pub list_literal_of : Place → List Form → Exp
list_literal_of place parts = e.List place (filter_map as_expression parts)

-- by the marks in the brackets
unfoldable pub list_of : Place → List Form → Option Exp
list_of place parts =
    if has_word BAR parts then list_comprehension_of place parts
    else (if has_word DOTS parts then (if has_word COMMA parts then long_range_of place parts else short_range_of place parts)
    else Some (list_literal_of place parts))

-- {e, .. | conditions}
unfoldable pub set_comprehension_of : Place → List Form → Option Exp
set_comprehension_of place parts =
    given (part_at as_conditions (behind_word BAR parts) 0) (λ conditions.
    Some (e.SetComprehension place (filter_map as_expression (before_word BAR parts)) conditions))

-- {e, ..}
abbrev pub set_literal_of : Place → List Form → Exp
set_literal_of place parts = e.Set place (filter_map as_expression parts)

unfoldable pub set_of : Place → List Form → Option Exp
set_of place parts = if has_word BAR parts then set_comprehension_of place parts else Some (set_literal_of place parts)
