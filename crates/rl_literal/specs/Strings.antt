-- Strings.
use Rattle.std.specs.Prelude.{ℕ, zero, suc, ◌-◌, ◌==◌, if◌then◌else◌, List, [], ◌∷◌, length, take, drop, encode_utf8_all}
use Rattle.std.specs.Str.{chars}
use Rattle.rl_literal.specs.Escape.{escaped, escape_length}

-- what is between the first and the last character
abbrev pub inner : List ℕ → List ℕ
inner text = take (length text - 2) (drop 1 text)

-- the text with its escapes read: `pass` characters are still to pass, which belong to the escape before
abbrev pub unescaped_from : ℕ → List ℕ → List ℕ
unescaped_from pass [] = []
unescaped_from (suc pass) (c ∷ text) = unescaped_from pass text
unescaped_from zero (c ∷ text) =
    if c == 92 then escaped text ∷ unescaped_from (escape_length text) text
    else c ∷ unescaped_from 0 text

abbrev pub unescaped : List ℕ → List ℕ
unescaped text = unescaped_from 0 text

-- the text of a string, or of a piece of one, without the marks around it
unfoldable pub string_in : List ℕ → List ℕ
string_in bytes = encode_utf8_all (unescaped (inner (chars bytes)))
