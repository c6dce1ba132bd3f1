-- Chains of operators of one level, and operators before a value.
use Rattle.std.specs.Prelude.{ℕ, ◌==◌, if◌then◌else◌, List, Option, Some, None, slice_get}
use Rattle.std.specs.List.{filter_map}
use Rattle.rl_base.specs.declared.place.Place.{Place}
use Rattle.rl_syntax.specs.declared.expression.Exp.{Exp}
use Rattle.rl_syntax.specs.declared.expression.Exp.TheVariants as e
use Rattle.rl_syntax.specs.declared.operator.SumOperator.{SumOperator}
use Rattle.rl_syntax.specs.declared.operator.SumOperator.TheVariants as s
use Rattle.rl_syntax.specs.declared.operator.ProductOperator.{ProductOperator}
use Rattle.rl_syntax.specs.declared.operator.ProductOperator.TheVariants as p
use Rattle.rl_tokens.specs.declared.terminal.TheConstants.{PLUS, MINUS, AMPERSAND, STAR, SLASH, PERCENT, BANG}
use Rattle.rl_forms.specs.declared.form.Form.{Form}
use Rattle.rl_forms.specs.declared.form.Form.TheVariants as f
use Rattle.rl_forms.specs.Part.{given, part_at, first_in}
use Rattle.rl_forms.specs.Words.{word_at}
use Rattle.rl_forms.specs.Expressions.{as_expression}
use Rattle.rl_expression_forms.specs.Pair.{pairs_in}
use Rattle.rl_expression_forms.specs.Suffix.{suffixed_of}

-- a || b || ..
abbrev pub disjunction_of : Place → List Form → Exp
disjunction_of place parts = e.Disjunction place (filter_map as_expression parts)

-- a && b && ..
abbrev pub conjunction_of : Place → List Form → Exp
conjunction_of place parts = e.Conjunction place (filter_map as_expression parts)

-- a o b o ..
abbrev pub composition_of : Place → List Form → Exp
composition_of place parts = e.Composition place (filter_map as_expression parts)

abbrev pub sum_operator : ℕ → Option SumOperator
sum_operator word =
    if word == PLUS then Some s.Add
    else (if word == MINUS then Some s.Subtract
    else (if word == AMPERSAND then Some s.Intersect else None))

-- an operator of a sum with the part behind it
unfoldable pub summand : List Form → Option (SumOperator × Exp)
summand parts =
    given (word_at parts 0) (λ word.
    given (sum_operator word) (λ operator.
    given (part_at as_expression parts 1) (λ value. Some (operator, value))))

-- a + b - c ..
abbrev pub sum_of : Place → List Form → Option Exp
sum_of place parts = given (first_in as_expression parts) (λ first. Some (e.Sum place first (pairs_in summand parts)))

abbrev pub product_operator : ℕ → Option ProductOperator
product_operator word =
    if word == STAR then Some p.Multiply
    else (if word == SLASH then Some p.Divide
    else (if word == PERCENT then Some p.Remainder else None))

-- an operator of a product with the part behind it
unfoldable pub factor : List Form → Option (ProductOperator × Exp)
factor parts =
    given (word_at parts 0) (λ word.
    given (product_operator word) (λ operator.
    given (part_at as_expression parts 1) (λ value. Some (operator, value))))

-- a * b / c ..
abbrev pub product_of : Place → List Form → Option Exp
product_of place parts = given (first_in as_expression parts) (λ first. Some (e.Product place first (pairs_in factor parts)))

-- !e or -e
abbrev pub prefixed : Place → ℕ → Exp → Option Exp
prefixed place word value =
    if word == BANG then Some (e.Not place value)
    else (if word == MINUS then Some (e.Negative place value) else None)

abbrev pub unary_from : Place → List Form → Option Form → Option Exp
unary_from place parts (Some (f.Word at word)) = given (part_at as_expression parts 1) (λ value. prefixed place word value)
unary_from place parts _ = suffixed_of place parts

-- an operator before a value, or suffixes behind one
unfoldable pub unary_of : Place → List Form → Option Exp
unary_of place parts = unary_from place parts (slice_get parts 0)
