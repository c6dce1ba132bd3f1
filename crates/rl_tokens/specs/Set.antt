-- Sets of characters.
use Rattle.std.specs.Prelude.{ℕ, Bool, not, ◌||◌, ◌==◌}
use Rattle.std.specs.Char.{is_ascii_digit, is_ascii_uppercase, is_ascii_alphabetic, is_ascii_alphanumeric, is_control}
use Rattle.rl_tokens.specs.declared.set.Set.{Set}
use Rattle.rl_tokens.specs.declared.set.Set.TheVariants.{Blank, Digit, Letter, Upper, Word, Path, Line}

-- blanks are space, tab, carriage return and line feed; a letter may be `_`; the path of a location has no `|`
abbrev pub is_in : Set → ℕ → Bool
is_in Blank c = c == 32 || c == 9 || c == 13 || c == 10
is_in Digit c = is_ascii_digit c
is_in Letter c = is_ascii_alphabetic c || c == 95
is_in Upper c = is_ascii_uppercase c
is_in Word c = is_ascii_alphanumeric c || c == 95
is_in Path c = not (is_control c || c == 124)
is_in Line c = not (c == 10)
