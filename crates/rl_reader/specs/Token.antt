-- What a token says.
use Rattle.std.specs.Prelude.{ℕ, ◌==◌, ◌||◌, if◌then◌else◌, List, pos}
use Rattle.rl_base.specs.declared.place.Place.{Place}
use Rattle.rl_syntax.specs.declared.identifier.Identifier.{Identifier}
use Rattle.rl_tokens.specs.declared.terminal.TheConstants.{UPPER_ID, LOWER_ID, STRING, STRING_HEAD, STRING_MIDDLE, STRING_TAIL, INTEGER, LOCATION, CHARACTER_CLASS, FRAGMENT}
use Rattle.rl_forms.specs.declared.form.Form.{Form}
use Rattle.rl_forms.specs.declared.form.Form.TheVariants as f
use Rattle.rl_literal.specs.Class.{class_in}
use Rattle.rl_literal.specs.Fragment.{fragment_in}
use Rattle.rl_literal.specs.Integer.{integer_in}
use Rattle.rl_literal.specs.Location.{path_in}
use Rattle.rl_literal.specs.Strings.{string_in}
use Rattle.rl_reader.specs.declared.source.Source.{Source}
use Rattle.rl_reader.specs.Source.{kind_at, text_at, place_at}

abbrev pub identifier_at : Source → ℕ → Identifier
identifier_at source token = record { place = place_at source token; name = text_at source token; number = 0 }

-- a literal, or a word by its kind
unfoldable pub literal_of : ℕ → Place → List ℕ → Form
literal_of kind place text =
    if kind == STRING then f.Text (string_in text)
    else (if (kind == STRING_HEAD) || (kind == STRING_MIDDLE) || (kind == STRING_TAIL) then f.TextPiece (string_in text)
    else (if kind == INTEGER then f.Integer (pos (integer_in text))
    else (if kind == LOCATION then f.Location (path_in text)
    else (if kind == CHARACTER_CLASS then f.Ranges (class_in text)
    else (if kind == FRAGMENT then f.Pieces place (fragment_in place text) else f.Word place kind)))))

abbrev pub of_kind : ℕ → Source → ℕ → Form
of_kind kind source token =
    if (kind == UPPER_ID) || (kind == LOWER_ID) then f.Name (identifier_at source token)
    else literal_of kind (place_at source token) (text_at source token)

-- a name, a literal, or a word
unfoldable pub form_of_token : Source → ℕ → Form
form_of_token source token = of_kind (kind_at source token) source token
