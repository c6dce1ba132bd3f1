-- Blanks, and the characters of names.
use Rattle.std.specs.Prelude.{ℕ, Bool, ◌||◌, ◌==◌, List, take, drop}
use Rattle.std.specs.List.{prefix_len}
use Rattle.std.specs.Char.{is_ascii_alphanumeric}

-- space, tab, carriage return and line feed
abbrev pub is_blank : ℕ → Bool
is_blank c = c == 32 || c == 9 || c == 13 || c == 10

abbrev pub is_letter : ℕ → Bool
is_letter c = is_ascii_alphanumeric c || c == 95

-- what follows the blanks at the front
unfoldable pub behind_blanks : List ℕ → List ℕ
behind_blanks text = drop (prefix_len is_blank text) text

-- the word at the front, and what follows it
unfoldable pub front_word : List ℕ → List ℕ
front_word text = take (prefix_len is_letter text) text

unfoldable pub behind_word : List ℕ → List ℕ
behind_word text = drop (prefix_len is_letter text) text
