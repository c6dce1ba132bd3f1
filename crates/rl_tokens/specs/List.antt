-- Tokens whose texts are pieces of one text.
use Rattle.std.specs.Prelude.{ℕ, ◌-◌, ◌≤◌, List, length, take, drop, map}
use Rattle.std.specs.Str.{IsUtf8}
use Rattle.rl_tokens.specs.Token.{Token}
use Rattle.rl_tokens.specs.declared.list.Entry.{Entry}

-- the token of an entry, by the bytes of the text that the tokens share
abbrev pub token_of : List ℕ → Entry → Token
token_of texts entry = record {
  kind = entry.kind;
  text = take (entry.to - entry.from) (drop entry.from texts);
  offset = entry.offset;
  length = entry.length;
}

abbrev pub tokens_of : List ℕ → List Entry → List Token
tokens_of texts entries = map (token_of texts) entries

-- the piece of an entry lies in the text, between two characters on either side
pub record IsPiece (texts : List ℕ) (entry : Entry) : Type 0 where
  pub ordered : entry.from ≤ entry.to
  pub within : entry.to ≤ length texts
  pub start : IsUtf8 (take entry.from texts)
  pub end : IsUtf8 (take entry.to texts)
