-- Where the tokens of a text stand.
use Rattle.std.specs.Prelude.{◌≡◌, ℕ, ◌+◌, ◌≤◌, List, [], ◌∷◌, take, drop, encode_utf8_all}
use Rattle.rl_tokens.specs.Token.{Token}

-- the tokens stand between the two offsets of the text, each behind the one before, and have the text of their places
abbrev pub IsPlaced : List ℕ → ℕ → ℕ → List Token → Type 0
IsPlaced text from to [] = from ≤ to
IsPlaced text from to (token ∷ tokens) =
    (from ≤ token.offset)
    × (token.text ≡ encode_utf8_all (take token.length (drop token.offset text)))
    × IsPlaced text (token.offset + token.length) to tokens
