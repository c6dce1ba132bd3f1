-- Characters that stand behind a backslash, and texts with such characters.
use Rattle.std.specs.Prelude.{ℕ, ◌==◌, Bool, ◌||◌, if◌then◌else◌, List, [], ◌∷◌, Option, Some, None}
use Rattle.std.specs.List.{flat_map}
use Rattle.rl_print.specs.declared.escape.Escapes.{Escapes}
use Rattle.rl_print.specs.declared.escape.Escapes.TheVariants.{Raw, Quoted, Backquoted}

-- in quotes: `"`, `\`, `<`, `>`, line feed, tab and carriage return
abbrev pub quoted_escape : ℕ → Option ℕ
quoted_escape c =
    if (c == 34) || (c == 92) || (c == 60) || (c == 62) then Some c
    else if c == 10 then Some 110
    else if c == 9 then Some 116
    else if c == 13 then Some 114
    else None

-- in backquotes: a backquote, `\`, `<` and `>`
abbrev pub backquoted_escape : ℕ → Option ℕ
backquoted_escape c = if (c == 96) || (c == 92) || (c == 60) || (c == 62) then Some c else None

-- what stands behind the backslash in place of a character
abbrev pub escape_of : Escapes → ℕ → Option ℕ
escape_of Raw c = None
escape_of Quoted c = quoted_escape c
escape_of Backquoted c = backquoted_escape c

abbrev pub written : ℕ → Option ℕ → List ℕ
written c None = c ∷ []
written c (Some letter) = 92 ∷ letter ∷ []

-- the text with its escapes
abbrev pub escaped : Escapes → List ℕ → List ℕ
escaped escapes = flat_map (λ c. written c (escape_of escapes c))
