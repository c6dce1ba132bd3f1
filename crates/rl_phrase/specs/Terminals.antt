-- Which tokens are a terminal.
use Rattle.std.specs.Prelude.{ℕ, ◌==◌, ◌&&◌, ◌||◌, Bool, false, if◌then◌else◌, List, codes}
use Rattle.std.specs.Str.{bytes_eq}
use Rattle.rl_tokens.specs.Token.{Token}
use Rattle.rl_tokens.specs.declared.terminal.TheConstants.{ASSOC, BRACKET, ID, LEFT, LOWER_ID, RIGHT, START, UPPER_ID}

-- the tokens of a text
abbrev pub Tokens : Type 0
Tokens = List Token

-- the words that are names, and terminals where a rule writes them
abbrev pub is_word : List ℕ → ℕ → Bool
is_word text terminal =
    if terminal == LEFT then bytes_eq text (codes "left")
    else (if terminal == RIGHT then bytes_eq text (codes "right")
    else (if terminal == ASSOC then bytes_eq text (codes "assoc")
    else (if terminal == BRACKET then bytes_eq text (codes "bracket")
    else (if terminal == START then bytes_eq text (codes "start") else false))))

-- a token of this kind and text: it is the terminal of its kind, every name is the terminal ID, and a name in lower case is the terminal of its word too
abbrev pub is_terminal_of : ℕ → List ℕ → ℕ → Bool
is_terminal_of kind text terminal =
    (kind == terminal) || ((terminal == ID) && ((kind == UPPER_ID) || (kind == LOWER_ID))) || ((kind == LOWER_ID) && is_word text terminal)

abbrev pub is_terminal : Token → ℕ → Bool
is_terminal token terminal = is_terminal_of token.kind token.text terminal
