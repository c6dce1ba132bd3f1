-- Literals, tuples, calls and variables.
use Rattle.std.specs.Prelude.{ℕ, ◌==◌, true, false, if◌then◌else◌, List, Option, Some, None, slice_get}
use Rattle.std.specs.List.{filter_map}
use Rattle.rl_base.specs.declared.place.Place.{Place}
use Rattle.rl_syntax.specs.declared.identifier.Identifier.{Identifier}
use Rattle.rl_syntax.specs.declared.expression.Exp.{Exp}
use Rattle.rl_syntax.specs.declared.expression.Exp.TheVariants as e
use Rattle.rl_tokens.specs.declared.terminal.TheConstants.{OPEN_PARENTHESIS, TRUE, FALSE, IT, LESS}
use Rattle.rl_forms.specs.declared.form.Form.{Form}
use Rattle.rl_forms.specs.declared.form.Form.TheVariants as f
use Rattle.rl_forms.specs.Part.{given, part_at}
use Rattle.rl_forms.specs.Words.{has_word}
use Rattle.rl_forms.specs.Expressions.{as_expression}
use Rattle.rl_expression_forms.specs.Pair.{pairs_in}

abbrev pub as_text_piece : Form → Option (List ℕ)
as_text_piece (f.TextPiece text) = Some text
as_text_piece _ = None

-- an interpolated value with the text behind it
unfoldable pub interpolated : List Form → Option (Exp × List ℕ)
interpolated parts =
    given (part_at as_expression parts 0) (λ value. given (part_at as_text_piece parts 1) (λ text. Some (value, text)))

-- "text <e> text"
abbrev pub interpolation_of : Place → List ℕ → List Form → Exp
interpolation_of place first parts = e.Interpolation place first (pairs_in interpolated parts)

-- <e, ..>
abbrev pub tuple_of : Place → List Form → Exp
tuple_of place parts = e.Tuple place (filter_map as_expression parts)

abbrev pub word_of : Place → ℕ → List Form → Option Exp
word_of place word parts =
    if word == TRUE then Some (e.Truth place true)
    else (if word == FALSE then Some (e.Truth place false)
    else (if word == IT then Some (e.It place)
    else (if word == LESS then Some (tuple_of place parts) else None)))

abbrev pub location_of : Place → Option (List ℕ) → Exp
location_of place path = e.Location place path

-- name(arguments)
abbrev pub call_of : Place → Identifier → List Form → Exp
call_of place name parts = e.Call place name (filter_map as_expression parts)

-- a call, or a variable where no parenthesis follows
abbrev pub named_of : Place → Identifier → List Form → Exp
named_of place name parts = if has_word OPEN_PARENTHESIS parts then call_of place name parts else e.Variable place name

abbrev pub primary_from : Place → List Form → Option Form → Option Exp
primary_from place parts (Some (f.Integer value)) = Some (e.Integer place value)
primary_from place parts (Some (f.Text text)) = Some (e.Text place text)
primary_from place parts (Some (f.TextPiece text)) = Some (interpolation_of place text parts)
primary_from place parts (Some (f.Location path)) = Some (location_of place path)
primary_from place parts (Some (f.Name name)) = Some (named_of place name parts)
primary_from place parts (Some (f.Word at word)) = word_of place word parts
primary_from place parts _ = None

-- what its first token tells
unfoldable pub primary_of : Place → List Form → Option Exp
primary_of place parts = primary_from place parts (slice_get parts 0)
