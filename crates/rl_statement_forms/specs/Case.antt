-- Cases of switches and visits, and handlers of exceptions.
use Rattle.std.specs.Prelude.{if◌then◌else◌, List, Option, Some, None}
use Rattle.std.specs.List.{filter_map}
use Rattle.rl_base.specs.declared.place.Place.{Place}
use Rattle.rl_syntax.specs.declared.pattern.Pattern.{Pattern}
use Rattle.rl_syntax.specs.declared.statement.Case.{Case}
use Rattle.rl_syntax.specs.declared.statement.Case.TheVariants as c
use Rattle.rl_syntax.specs.declared.statement.Handler.{Handler}
use Rattle.rl_syntax.specs.declared.statement.Handler.TheVariants as h
use Rattle.rl_tokens.specs.declared.terminal.TheConstants.{ARROW}
use Rattle.rl_forms.specs.declared.form.Form.{Form}
use Rattle.rl_forms.specs.Part.{given, part_at}
use Rattle.rl_forms.specs.Words.{has_word}
use Rattle.rl_forms.specs.Patterns.{as_pattern}
use Rattle.rl_forms.specs.Expressions.{as_expression, conditions_or_none}
use Rattle.rl_forms.specs.Statements.{as_statement}

-- default: statements
abbrev pub default_of : Place → List Form → Case
default_of place parts = c.Default place (filter_map as_statement parts)

-- case p => e when conditions
unfoldable pub replacement : Place → Pattern → List Form → Option Case
replacement place pattern parts =
    given (part_at as_expression parts 3) (λ value. Some (c.Replacement place pattern value (conditions_or_none parts 5)))

-- what the pattern leads to: a replacement, or statements
abbrev pub pattern_case : Place → Pattern → List Form → Option Case
pattern_case place pattern parts =
    if has_word ARROW parts then replacement place pattern parts
    else Some (c.Statements place pattern (filter_map as_statement parts))

abbrev pub case_from : Place → List Form → Option Pattern → Option Case
case_from place parts (Some pattern) = pattern_case place pattern parts
case_from place parts None = Some (default_of place parts)

-- a case without a pattern is a default
unfoldable pub case_of : Place → List Form → Option Case
case_of place parts = case_from place parts (part_at as_pattern parts 1)

abbrev pub handler_from : Place → List Form → Option Pattern → Option Handler
handler_from place parts (Some pattern) = given (part_at as_statement parts 3) (λ body. Some (h.Matching place pattern body))
handler_from place parts None = given (part_at as_statement parts 2) (λ body. Some (h.Any place body))

-- catch p: statement, or catch: statement
unfoldable pub handler_of : Place → List Form → Option Handler
handler_of place parts = handler_from place parts (part_at as_pattern parts 1)
