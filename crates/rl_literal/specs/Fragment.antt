-- Fragments.
use Rattle.std.specs.Prelude.{ℕ, zero, suc, ◌+◌, Bool, true, false, not, ◌==◌, if◌then◌else◌, List, [], ◌∷◌, ◌++◌, length, encode_utf8, encode_utf8_all}
use Rattle.std.specs.List.{prefix_len}
use Rattle.std.specs.Str.{chars}
use Rattle.rl_base.specs.declared.place.Place.{Place}
use Rattle.rl_syntax.specs.declared.fragment.Piece.{Piece}
use Rattle.rl_syntax.specs.declared.fragment.Piece.TheVariants.{Text, Hole}
use Rattle.rl_literal.specs.Strings.{inner}
use Rattle.rl_literal.specs.Words.{behind_blanks, behind_word, front_word}

-- of a hole whose text stands at the front, behind its `<`: the sort
unfoldable pub hole_sort : List ℕ → List ℕ
hole_sort text = front_word (behind_blanks text)

-- the name of its variable
unfoldable pub hole_name : List ℕ → List ℕ
hole_name text = front_word (behind_blanks (behind_word (behind_blanks text)))

abbrev pub is_within : ℕ → Bool
is_within c = not (c == 62)

-- how many characters stand up to its `>`, which counts
unfoldable pub hole_length : List ℕ → ℕ
hole_length text = prefix_len is_within text + 1

unfoldable pub hole : Place → List ℕ → Piece
hole place text = Hole (encode_utf8_all (hole_sort text)) (record { place = place; name = encode_utf8_all (hole_name text); number = 0; is_test = false })

-- no text is no piece
abbrev pub text_piece : List ℕ → List Piece
text_piece bytes = if length bytes == 0 then [] else Text bytes ∷ []

-- the pieces of a text behind the bytes of `front`: a backslash makes a character of the one behind it, and `pass` characters are still to pass, which belong to a hole
abbrev pub pieces_from : Place → (front : List ℕ) → ℕ → Bool → List ℕ → List Piece
pieces_from place front pass escape [] = text_piece front
pieces_from place front (suc pass) escape (c ∷ text) = pieces_from place front pass escape text
pieces_from place front zero true (c ∷ text) = pieces_from place (front ++ encode_utf8 c) 0 false text
pieces_from place front zero false (c ∷ text) =
    if c == 60 then text_piece front ++ hole place text ∷ pieces_from place [] (hole_length text) false text
    else (if c == 92 then pieces_from place front 0 true text
    else pieces_from place (front ++ encode_utf8 c) 0 false text)

abbrev pub pieces : Place → List ℕ → List Piece
pieces place text = pieces_from place [] 0 false text

-- the pieces of a fragment between backquotes; the variables of its holes have the place
unfoldable pub fragment_in : Place → List ℕ → List Piece
fragment_in place bytes = pieces place (inner (chars bytes))
