-- Words and symbols.
use Rattle.std.specs.Prelude.{ℕ, Bool, true, false, ◌&&◌, if◌then◌else◌, ◌==◌, nat_lt, List, [], ◌∷◌, length, take, slice_index, Option, Some, None, is_none}
use Rattle.std.specs.List.{prefix_len}
use Rattle.rl_tokens.specs.Set.{is_in}
use Rattle.rl_tokens.specs.declared.set.Set.TheVariants as set
use Rattle.rl_tokens.specs.Terminal.{Row, words, hyphened, symbols, grammar_symbols}
use Rattle.rl_tokens.specs.declared.terminal.TheConstants.{LOWER_ID, UPPER_ID}

-- the text begins with the word
abbrev pub begins : List ℕ → List ℕ → Bool
begins [] text = true
begins (b ∷ word) [] = false
begins (b ∷ word) (c ∷ text) = c == b && begins word text

-- no row has an empty text
abbrev pub has_no_empty : List Row → Bool
has_no_empty [] = true
has_no_empty (row ∷ table) = nat_lt 0 (length row.0) && has_no_empty table

-- the first row whose text begins this one: the length of its text and its number
abbrev pub first_row : List Row → List ℕ → Option (ℕ × ℕ)
first_row [] text = None
first_row (row ∷ table) text = if begins row.0 text then Some (length row.0, row.1) else first_row table text

-- the number of the row with this text
abbrev pub lookup : List Row → List ℕ → Option ℕ
lookup [] word = None
lookup (row ∷ table) word = if length row.0 == length word && begins row.0 word then Some row.1 else lookup table word

-- the number of a reserved word
unfoldable pub reserved : List ℕ → Option ℕ
reserved word = lookup words word

-- a name begins with a letter or `_` and is not reserved
abbrev pub is_name : List ℕ → Bool
is_name word = is_in set.Letter (slice_index word 0) && is_none (reserved word)

abbrev pub name : List ℕ → ℕ
name word = if is_in set.Upper (slice_index word 0) then UPPER_ID else LOWER_ID

abbrev pub number_or : Option ℕ → ℕ → ℕ
number_or (Some number) other = number
number_or None other = other

abbrev pub plain_word : List ℕ → ℕ
plain_word word = number_or (reserved word) (name word)

-- the longest word without a hyphen
abbrev pub run_of_word : List ℕ → ℕ × ℕ
run_of_word text = let len = prefix_len (is_in set.Word) text in (len, plain_word (take len text))

abbrev pub word_or : Option (ℕ × ℕ) → List ℕ → ℕ × ℕ
word_or (Some found) text = found
word_or None text = run_of_word text

-- the longest word at the front: its length and its number
unfoldable pub word : List ℕ → ℕ × ℕ
word text = word_or (first_row hyphened text) text

-- the longest symbol of syntax definitions alone; none of them begins another symbol
unfoldable pub grammar_symbol : Bool → List ℕ → Option (ℕ × ℕ)
grammar_symbol grammar text = if grammar then first_row grammar_symbols text else None

abbrev pub symbol_or : Option (ℕ × ℕ) → List ℕ → Option (ℕ × ℕ)
symbol_or (Some found) text = Some found
symbol_or None text = first_row symbols text

-- the longest symbol at the front: its length and its number
unfoldable pub symbol : Bool → List ℕ → Option (ℕ × ℕ)
symbol grammar text = symbol_or (grammar_symbol grammar text) text
