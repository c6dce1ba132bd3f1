-- The tokens and the faults of a text.
use Rattle.std.specs.Prelude.{◌≡◌, ℕ, zero, suc, ◌+◌, ◌-◌, Bool, false, List, [], ◌∷◌, ◌++◌, length, take, slice_get, encode_utf8_all, Option, Some, None, Result, Ok, Err}
use Rattle.std.specs.Option.{option_map}
use Rattle.rl_tokens.specs.Token.{Token}
use Rattle.rl_tokens.specs.Fault.{leftmost, told}
use Rattle.rl_tokens.specs.Lexeme.{front, grammar_behind}
use Rattle.rl_tokens.specs.declared.fault.Fault.{Fault}
use Rattle.rl_tokens.specs.declared.fault.Flaw.TheVariants as flaw
use Rattle.rl_tokens.specs.declared.fault.TokenFault.{TokenFault}
use Rattle.rl_tokens.specs.declared.fault.TokenFault.TheVariants.{OutOfMemory}
use Rattle.rl_tokens.specs.declared.lexeme.Open.{Open}
use Rattle.rl_tokens.specs.declared.lexeme.Open.TheVariants.{Interpolation, Angle, Bracket}
use Rattle.rl_tokens.specs.declared.lexeme.Nest.{Nest}
use Rattle.rl_tokens.specs.declared.lexeme.Nest.TheVariants.{Stays, Opens, Closes}
use Rattle.rl_tokens.specs.declared.lexeme.Lexeme.{Lexeme}
use Rattle.rl_tokens.specs.declared.terminal.TheConstants.{END}

-- what is open is listed from the outside in
abbrev pub innermost : List Open → Option Open
innermost opens = slice_get opens (length opens - 1)

abbrev pub nested : List Open → Nest → List Open
nested opens Stays = opens
nested opens (Opens inner) = opens ++ inner ∷ []
nested opens Closes = take (length opens - 1) opens

-- an interpolation that does not end is at fault where its string begins
abbrev pub unclosed : List Open → List Fault
unclosed [] = []
unclosed (Interpolation head ∷ opens) = record { flaw = flaw.OpenString; offset = head } ∷ unclosed opens
unclosed (Angle ∷ opens) = unclosed opens
unclosed (Bracket ∷ opens) = unclosed opens

pub record Scan : Type 0 where
  pub tokens : List Token
  pub faults : List Fault

-- the token that stands at the offset, if it is one
abbrev pub tokens_of : ℕ → List ℕ → Lexeme → List Token
tokens_of offset text lexeme = of_kind lexeme.kind
  where
    of_kind : Option ℕ → List Token
    of_kind None = []
    of_kind (Some kind) = record {
      kind = kind;
      text = encode_utf8_all (take (lexeme.end - offset) text);
      offset = offset;
      length = lexeme.end - offset;
    } ∷ []

abbrev pub joined : List Token → List Fault → Scan → Scan
joined tokens faults later = record { tokens = tokens ++ later.tokens; faults = faults ++ later.faults }

abbrev pub end_token : ℕ → Token
end_token offset = record { kind = END; text = []; offset = offset; length = 0 }

-- the tokens and faults from the offset on, in a syntax definition or elsewhere: `pass` characters are still to
-- pass, which belong to the token before
abbrev pub scan : ℕ → Bool → List Open → ℕ → List ℕ → Scan
scan pass grammar opens offset [] = record { tokens = end_token offset ∷ []; faults = unclosed opens }
scan (suc pass) grammar opens offset (c ∷ text) = scan pass grammar opens (offset + 1) text
scan zero grammar opens offset (c ∷ text) =
    let step = front offset grammar (innermost opens) (c ∷ text) in
    let lexeme = step.lexeme in
    joined (tokens_of offset (c ∷ text) lexeme) step.faults
    (scan (lexeme.end - (offset + 1)) (grammar_behind grammar lexeme.kind) (nested opens lexeme.nest) (offset + 1) text)

-- the tokens and faults of a text
unfoldable pub tokens_in : List ℕ → Scan
tokens_in text = scan 0 false [] 0 text

-- the answer is the list of the tokens where there is no fault, and otherwise the leftmost fault
abbrev pub Answers : Scan → Result (List Token) TokenFault → Type 0
Answers found (Ok tokens) = (leftmost found.faults ≡ None) × (tokens ≡ found.tokens)
Answers found (Err OutOfMemory) = Unit {0}
Answers found (Err fault) = option_map told (leftmost found.faults) ≡ Some fault
