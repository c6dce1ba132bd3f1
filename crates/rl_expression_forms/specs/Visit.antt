-- Visits.
use Rattle.std.specs.Prelude.{ℕ, ◌==◌, if◌then◌else◌, List, Option, Some, None, unwrap_or}
use Rattle.std.specs.List.{filter_map}
use Rattle.rl_base.specs.declared.place.Place.{Place}
use Rattle.rl_syntax.specs.Expression.{place_of_expression}
use Rattle.rl_syntax.specs.declared.expression.Exp.{Exp}
use Rattle.rl_syntax.specs.declared.expression.Exp.TheVariants as e
use Rattle.rl_syntax.specs.declared.operator.Strategy.{Strategy}
use Rattle.rl_syntax.specs.declared.operator.Strategy.TheVariants as s
use Rattle.rl_syntax.specs.declared.ty.Ty.TheVariants as t
use Rattle.rl_tokens.specs.declared.terminal.TheConstants.{INNERMOST, OUTERMOST, TOP_DOWN, TOP_DOWN_BREAK, BOTTOM_UP, BOTTOM_UP_BREAK}
use Rattle.rl_forms.specs.declared.form.Form.{Form}
use Rattle.rl_forms.specs.declared.form.Form.TheVariants as f
use Rattle.rl_forms.specs.Part.{given, part_at, first_in}
use Rattle.rl_forms.specs.Words.{word_at}
use Rattle.rl_forms.specs.Expressions.{as_expression, as_strategy}
use Rattle.rl_forms.specs.Statements.{as_case}

abbrev pub strategy : ℕ → Option Strategy
strategy word =
    if word == INNERMOST then Some s.Innermost
    else (if word == OUTERMOST then Some s.Outermost
    else (if word == TOP_DOWN then Some s.TopDown
    else (if word == TOP_DOWN_BREAK then Some s.TopDownBreak
    else (if word == BOTTOM_UP then Some s.BottomUp
    else (if word == BOTTOM_UP_BREAK then Some s.BottomUpBreak else None)))))

-- the strategy that is one word
unfoldable pub strategy_of : List Form → Option Form
strategy_of parts = given (word_at parts 0) (λ word. given (strategy word) (λ found. Some (f.Strategy found)))

-- the strategy that is written, or else bottom-up
abbrev pub written_strategy : List Form → Strategy
written_strategy parts = unwrap_or (part_at as_strategy parts 0) s.BottomUp

-- the type of the subject is not known yet
abbrev pub visit : Place → Exp → List Form → Exp
visit place subject parts = e.Visit place (written_strategy parts) subject (filter_map as_case parts) (t.Value (place_of_expression subject))

-- strategy visit (e) { cases }
unfoldable pub visit_of : Place → List Form → Option Exp
visit_of place parts = given (first_in as_expression parts) (λ subject. Some (visit place subject parts))
