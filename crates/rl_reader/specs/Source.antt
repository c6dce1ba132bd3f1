-- The tokens of a text, and their places.
use Rattle.std.specs.Prelude.{ℕ, List, [], length, min, get_or}
use Rattle.rl_base.specs.Text.{place_of}
use Rattle.rl_base.specs.declared.place.Place.{Place}
use Rattle.rl_tokens.specs.Token.{kinds_of, texts_of, offsets_of}
use Rattle.rl_tokens.specs.declared.terminal.TheConstants.{END}
use Rattle.rl_reader.specs.declared.source.Source.{Source}

-- the place of an offset; no token stands behind the end of its text
unfoldable pub place_within : List ℕ → ℕ → ℕ → Place
place_within text number offset = place_of text number (min offset (length text))

-- behind the last token the text ends
abbrev pub kind_at : Source → ℕ → ℕ
kind_at source token = get_or (kinds_of source.tokens) token END

abbrev pub text_at : Source → ℕ → List ℕ
text_at source token = get_or (texts_of source.tokens) token []

abbrev pub offset_at : Source → ℕ → ℕ
offset_at source token = get_or (offsets_of source.tokens) token (length source.text)

unfoldable pub place_at : Source → ℕ → Place
place_at source token = place_within source.text source.number (offset_at source token)
