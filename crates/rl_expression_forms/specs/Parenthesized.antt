-- What stands in parentheses: expressions, reducers and maps.
use Rattle.std.specs.Prelude.{◌==◌, ◌&&◌, ◌||◌, if◌then◌else◌, List, length, Option, Some, None}
use Rattle.rl_base.specs.declared.place.Place.{Place}
use Rattle.rl_syntax.specs.declared.expression.Exp.{Exp}
use Rattle.rl_syntax.specs.declared.expression.Exp.TheVariants as e
use Rattle.rl_tokens.specs.declared.terminal.TheConstants.{BAR, COLON}
use Rattle.rl_forms.specs.declared.form.Form.{Form}
use Rattle.rl_forms.specs.Part.{given, part_at}
use Rattle.rl_forms.specs.Words.{has_word, word_at}
use Rattle.rl_forms.specs.Expressions.{as_conditions, as_expression}
use Rattle.rl_expression_forms.specs.Pair.{pairs_in}

-- a key, a colon and its value
unfoldable pub entry : List Form → Option (Exp × Exp)
entry parts =
    given (part_at as_expression parts 0) (λ key.
    given (word_at parts 1) (λ word.
    if word == COLON then given (part_at as_expression parts 2) (λ value. Some (key, value)) else None))

-- (k: v, ..), or ()
abbrev pub map_of : Place → List Form → Exp
map_of place parts = e.Map place (pairs_in entry parts)

-- (k: v | conditions)
unfoldable pub map_comprehension_of : Place → List Form → Option Exp
map_comprehension_of place parts =
    given (part_at as_expression parts 1) (λ key.
    given (part_at as_expression parts 3) (λ value.
    given (part_at as_conditions parts 5) (λ conditions. Some (e.MapComprehension place key value conditions))))

-- (e | f | conditions)
unfoldable pub reducer_of : Place → List Form → Option Exp
reducer_of place parts =
    given (part_at as_expression parts 1) (λ start.
    given (part_at as_expression parts 3) (λ step.
    given (part_at as_conditions parts 5) (λ conditions. Some (e.Reducer place start step conditions))))

-- (e)
unfoldable pub alone_of : Place → List Form → Option Exp
alone_of place parts = given (part_at as_expression parts 1) (λ value. Some (e.Parenthesized place value))

-- by the marks in the parentheses: a map has colons or nothing
unfoldable pub parenthesized_of : Place → List Form → Option Exp
parenthesized_of place parts =
    if has_word COLON parts && has_word BAR parts then map_comprehension_of place parts
    else (if has_word COLON parts || (length parts == 2) then Some (map_of place parts)
    else (if has_word BAR parts then reducer_of place parts else alone_of place parts))
