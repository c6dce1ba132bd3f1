-- The tokens of a text.
use Rattle.std.specs.Prelude.{ℕ, List, map}

-- the number of its terminal, its text in UTF-8, and where it stands: the characters in front of it, and its own
pub record Token : Type 0 where
  pub kind : ℕ
  pub text : List ℕ
  pub offset : ℕ
  pub length : ℕ

abbrev pub kinds_of : List Token → List ℕ
kinds_of tokens = map (λ token. token.kind) tokens

abbrev pub texts_of : List Token → List (List ℕ)
texts_of tokens = map (λ token. token.text) tokens

abbrev pub offsets_of : List Token → List ℕ
offsets_of tokens = map (λ token. token.offset) tokens

abbrev pub lengths_of : List Token → List ℕ
lengths_of tokens = map (λ token. token.length) tokens
