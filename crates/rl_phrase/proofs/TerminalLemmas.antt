-- What the kind and the text of a token tell.
use Rattle.std.proofs.Common.{◌≡◌, ℕ, zero, suc, List, [], ◌∷◌, Some, slice_get, refl}
use Rattle.std.specs.Option.{option_map}
use Rattle.rl_tokens.specs.Token as lexed
use Rattle.rl_tokens.specs.Token.{kinds_of, texts_of}
use Rattle.rl_phrase.specs.Terminals.{Tokens, is_terminal_of, is_terminal}

pub told : (tokens : Tokens) (at kind terminal : ℕ) (text : List ℕ) → slice_get (kinds_of tokens) at ≡ Some kind → slice_get (texts_of tokens) at ≡ Some text
    → option_map (λ (token : lexed.Token). is_terminal token terminal) (slice_get tokens at) ≡ Some (is_terminal_of kind text terminal)
told [] at kind terminal text k t = absurd cc
told (token ∷ tokens) zero kind terminal text k t =
    let same_kind : token.kind ≡ kind = cc in
    let same_text : token.text ≡ text = cc in
    rw (← same_kind, ← same_text) refl
told (token ∷ tokens) (suc at) kind terminal text k t = told tokens at kind terminal text k t

-- the token of a kind that was read
pub read : (tokens : Tokens) (at kind : ℕ) → slice_get (kinds_of tokens) at ≡ Some kind → (t : lexed.Token) × (slice_get tokens at ≡ Some t) × (t.kind ≡ kind)
read [] at kind k = absurd cc
read (token ∷ tokens) zero kind k = (token, refl, cc)
read (token ∷ tokens) (suc at) kind k = read tokens at kind k
