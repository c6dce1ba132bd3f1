-- Character classes.
use Rattle.std.specs.Prelude.{ℕ, zero, suc, ◌==◌, if◌then◌else◌, List, [], ◌∷◌, Option, Some, None}
use Rattle.std.specs.Str.{chars}
use Rattle.rl_literal.specs.Escape.{escaped, escape_length}
use Rattle.rl_literal.specs.Strings.{inner}
use Rattle.rl_literal.specs.Words.{is_blank}

-- a character, or none where it joins those beside it
abbrev pub item : ℕ → Option ℕ
item c = if c == 45 then None else Some c

-- the characters with their escapes read, without blanks, and none for each `-`: `pass` characters are still to pass, which belong to the escape before
abbrev pub items_from : ℕ → List ℕ → List (Option ℕ)
items_from pass [] = []
items_from (suc pass) (c ∷ text) = items_from pass text
items_from zero (c ∷ text) =
    if c == 92 then Some (escaped text) ∷ items_from (escape_length text) text
    else (if is_blank c then items_from 0 text else item c ∷ items_from 0 text)

abbrev pub items : List ℕ → List (Option ℕ)
items text = items_from 0 text

-- two characters joined, or one that is the first and the last of its range; what joins nothing has no meaning
abbrev pub ranges : List (Option ℕ) → List (ℕ × ℕ)
ranges [] = []
ranges (Some first ∷ None ∷ Some last ∷ rest) = (first, last) ∷ ranges rest
ranges (Some c ∷ rest) = (c, c) ∷ ranges rest
ranges (None ∷ rest) = ranges rest

-- the first and the last character of each range of a class
unfoldable pub class_in : List ℕ → List (ℕ × ℕ)
class_in bytes = ranges (items (inner (chars bytes)))
