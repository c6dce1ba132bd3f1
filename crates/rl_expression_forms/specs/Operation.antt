-- Operations on two or three parts.
use Rattle.std.specs.Prelude.{ℕ, ◌==◌, if◌then◌else◌, List, Option, Some, None}
use Rattle.rl_base.specs.declared.place.Place.{Place}
use Rattle.rl_syntax.specs.declared.expression.Exp.{Exp}
use Rattle.rl_syntax.specs.declared.expression.Exp.TheVariants as e
use Rattle.rl_syntax.specs.declared.operator.Comparison.{Comparison}
use Rattle.rl_syntax.specs.declared.operator.Comparison.TheVariants as c
use Rattle.rl_syntax.specs.declared.pattern.Pattern.{Pattern}
use Rattle.rl_tokens.specs.declared.terminal.TheConstants.{IMPLIES, EQUIVALENT, EQUAL, NOT_EQUAL, LESS_OR_EQUAL, GREATER_OR_EQUAL, LESS, GREATER, IN, NOTIN, MATCHES, MATCHES_NOT, ENUMERATES}
use Rattle.rl_forms.specs.declared.form.Form.{Form}
use Rattle.rl_forms.specs.Part.{given, part_at}
use Rattle.rl_forms.specs.Words.{word_at}
use Rattle.rl_forms.specs.Names.{as_name}
use Rattle.rl_forms.specs.Patterns.{as_pattern}
use Rattle.rl_forms.specs.Expressions.{as_expression}

abbrev pub conditional : Place → Exp → Exp → Option Exp → Exp
conditional place first second (Some third) = e.Conditional place first second third
conditional place first second None = e.Fallback place first second

-- c ? a : b, or a ? b
unfoldable pub conditional_of : Place → List Form → Option Exp
conditional_of place parts =
    given (part_at as_expression parts 0) (λ first.
    given (part_at as_expression parts 2) (λ second.
    Some (conditional place first second (part_at as_expression parts 4))))

abbrev pub comparison : ℕ → Option Comparison
comparison word =
    if word == LESS_OR_EQUAL then Some c.LessOrEqual
    else (if word == GREATER_OR_EQUAL then Some c.GreaterOrEqual
    else (if word == LESS then Some c.Less
    else (if word == GREATER then Some c.Greater
    else (if word == IN then Some c.In
    else (if word == NOTIN then Some c.NotIn else None)))))

abbrev pub binary_by : Option Comparison → Place → ℕ → Exp → Exp → Option Exp
binary_by (Some compare) place word left right = Some (e.Compared place left compare right)
binary_by None place word left right =
    if word == IMPLIES then Some (e.Implication place left right)
    else (if word == EQUIVALENT then Some (e.Equivalence place left right)
    else (if word == EQUAL then Some (e.Equal place left right)
    else (if word == NOT_EQUAL then Some (e.NotEqual place left right) else None)))

-- the operation of the word on both sides
abbrev pub binary : Place → ℕ → Exp → Exp → Option Exp
binary place word left right = binary_by (comparison word) place word left right

-- a op b, where the operators do not chain
unfoldable pub binary_of : Place → List Form → Option Exp
binary_of place parts =
    given (part_at as_expression parts 0) (λ left.
    given (word_at parts 1) (λ word.
    given (part_at as_expression parts 2) (λ right. binary place word left right)))

-- e is name
unfoldable pub is_of : Place → List Form → Option Exp
is_of place parts =
    given (part_at as_expression parts 0) (λ value. given (part_at as_name parts 2) (λ name. Some (e.Is place value name)))

-- what the word asks of the pattern and the value
abbrev pub matched : Place → ℕ → Pattern → Exp → Option Exp
matched place word pattern value =
    if word == MATCHES then Some (e.Match place pattern value)
    else (if word == MATCHES_NOT then Some (e.NoMatch place pattern value)
    else (if word == ENUMERATES then Some (e.Enumeration place pattern value) else None))

-- p := e, p !:= e or p <- e
unfoldable pub match_of : Place → List Form → Option Exp
match_of place parts =
    given (part_at as_pattern parts 0) (λ pattern.
    given (word_at parts 1) (λ word.
    given (part_at as_expression parts 2) (λ value. matched place word pattern value)))
