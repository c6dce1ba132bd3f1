-- What a phrase of expressions says, by its rule.
use Rattle.std.specs.Prelude.{ℕ, ◌==◌, ◌||◌, if◌then◌else◌, List, Option, Some, None}
use Rattle.rl_base.specs.declared.place.Place.{Place}
use Rattle.rl_syntax.specs.declared.expression.Exp.{Exp}
use Rattle.rl_phrase_table.specs.declared.rules.TheConstants.{EXPRESSION, IMPLICATION, EQUALITY, COMPARISON, DISJUNCTION, CONJUNCTION, MATCH, SUM, PRODUCT, COMPOSITION, UNARY, PRIMARY, ARGUMENT, VISIT_EXPRESSION, PARENTHESIZED, LIST_EXPRESSION, SET_EXPRESSION, ELEMENT, SUFFIX, SUBSCRIPT, VISIT_STRATEGY, CONCRETE, CONDITIONS}
use Rattle.rl_tokens.specs.declared.terminal.TheConstants.{IS}
use Rattle.rl_forms.specs.declared.form.Form.{Form}
use Rattle.rl_forms.specs.declared.form.Form.TheVariants as f
use Rattle.rl_forms.specs.Part.{given, or_else}
use Rattle.rl_forms.specs.Words.{has_word}
use Rattle.rl_expression_forms.specs.Operation.{conditional_of, binary_of, is_of, match_of}
use Rattle.rl_expression_forms.specs.Chain.{disjunction_of, conjunction_of, composition_of, sum_of, product_of, unary_of}
use Rattle.rl_expression_forms.specs.Literal.{primary_of}
use Rattle.rl_expression_forms.specs.Argument.{argument_of, concrete_of}
use Rattle.rl_expression_forms.specs.Visit.{visit_of, strategy_of}
use Rattle.rl_expression_forms.specs.Parenthesized.{parenthesized_of}
use Rattle.rl_expression_forms.specs.Collection.{list_of, set_of, splice_of, conditions_of}
use Rattle.rl_expression_forms.specs.Suffix.{suffix_of, bounds_of}

-- a comparison, or e is name
abbrev pub compared_of : Place → List Form → Option Exp
compared_of place parts = if has_word IS parts then is_of place parts else binary_of place parts

-- an expression with an operator
unfoldable pub operation_of : ℕ → Place → List Form → Option Exp
operation_of rule place parts =
    if rule == EXPRESSION then conditional_of place parts
    else (if (rule == IMPLICATION) || (rule == EQUALITY) then binary_of place parts
    else (if rule == COMPARISON then compared_of place parts
    else (if rule == DISJUNCTION then Some (disjunction_of place parts)
    else (if rule == CONJUNCTION then Some (conjunction_of place parts)
    else (if rule == MATCH then match_of place parts
    else (if rule == SUM then sum_of place parts
    else (if rule == PRODUCT then product_of place parts
    else (if rule == COMPOSITION then Some (composition_of place parts)
    else (if rule == UNARY then unary_of place parts else None)))))))))

-- an expression without an operator
unfoldable pub value_of : ℕ → Place → List Form → Option Exp
value_of rule place parts =
    if rule == PRIMARY then primary_of place parts
    else (if rule == ARGUMENT then argument_of place parts
    else (if rule == VISIT_EXPRESSION then visit_of place parts
    else (if rule == PARENTHESIZED then parenthesized_of place parts
    else (if rule == LIST_EXPRESSION then list_of place parts
    else (if rule == SET_EXPRESSION then set_of place parts
    else (if rule == ELEMENT then splice_of place parts else None))))))

-- what is no expression
unfoldable pub other_form : ℕ → Place → List Form → Option Form
other_form rule place parts =
    if rule == SUFFIX then given (suffix_of place parts) (λ suffix. Some (f.Suffix suffix))
    else (if rule == SUBSCRIPT then Some (bounds_of parts)
    else (if rule == VISIT_STRATEGY then strategy_of parts
    else (if rule == CONCRETE then concrete_of place parts
    else (if rule == CONDITIONS then Some (conditions_of parts) else None))))

-- with an operator or without one
abbrev pub expression_of : ℕ → Place → List Form → Option Exp
expression_of rule place parts = or_else (operation_of rule place parts) (value_of rule place parts)

-- an expression, or another form
abbrev pub expression_or : Option Exp → Option Form → Option Form
expression_or (Some expression) other = Some (f.Expression expression)
expression_or None other = other

unfoldable pub expression_form : ℕ → Place → List Form → Option Form
expression_form rule place parts = expression_or (expression_of rule place parts) (other_form rule place parts)
