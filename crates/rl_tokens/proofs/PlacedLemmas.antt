-- Where the tokens of a text stand, as one more is added.
use Rattle.std.proofs.Common.{◌≡◌, ℕ, ◌+◌, ◌-◌, ◌<◌, ◌≤◌, List, [], ◌∷◌, ◌++◌, take, drop, refl, arith}
use Rattle.std.proofs.lemmas.List.{append-nil}
use Rattle.std.specs.Prelude.{encode_utf8_all, Option, Some, None}
use Rattle.rl_tokens.specs.declared.lexeme.Lexeme.{Lexeme}
use Rattle.rl_tokens.specs.declared.lexeme.Nest.{Nest}
use Rattle.rl_tokens.specs.Token.{Token}
use Rattle.rl_tokens.specs.Placed.{IsPlaced}
use Rattle.rl_tokens.specs.Scan.{tokens_of}

pub placed_push : (text : List ℕ) (from to end : ℕ) (tokens : List Token) (token : Token) → IsPlaced text from to tokens → to ≤ token.offset → token.text ≡ encode_utf8_all (take token.length (drop token.offset text)) → token.offset + token.length ≤ end → IsPlaced text from end (tokens ++ token ∷ [])
placed_push text from to end [] token placed behind same ends = (omega arith, same, ends)
placed_push text from to end (t ∷ tokens) token placed behind same ends =
    (placed.0, placed.1, placed_push text (t.offset + t.length) to end tokens token placed.2 behind same ends)

placed_later : (text : List ℕ) (from to end : ℕ) (tokens : List Token) → IsPlaced text from to tokens → to ≤ end → IsPlaced text from end tokens
placed_later text from to end [] placed later = omega arith
placed_later text from to end (t ∷ tokens) placed later =
    (placed.0, placed.1, placed_later text (t.offset + t.length) to end tokens placed.2 later)

placed_by : (text : List ℕ) (from at : ℕ) (tokens : List Token) (kind : Option ℕ) (end : ℕ) (nest : Nest) → IsPlaced text from at tokens → at < end →
    let lexeme : Lexeme = record { kind = kind; end = end; nest = nest } in IsPlaced text from end (tokens ++ tokens_of at (drop at text) lexeme)
placed_by text from at tokens None end nest placed moves =
    rw append-nil (placed_later text from at end tokens placed (omega arith))
placed_by text from at tokens (Some kind) end nest placed moves =
    let e : at + (end - at) ≡ end = omega arith in
    placed_push text from at end tokens _ placed (omega arith) refl (omega arith)

-- the token of a lexeme stands between its offset and its end
pub placed_step : (text : List ℕ) (from at : ℕ) (tokens : List Token) (lexeme : Lexeme) → IsPlaced text from at tokens → at < lexeme.end → IsPlaced text from lexeme.end (tokens ++ tokens_of at (drop at text) lexeme)
placed_step text from at tokens lexeme placed moves = placed_by text from at tokens lexeme.kind lexeme.end lexeme.nest placed moves
