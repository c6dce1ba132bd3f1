use Rattle.std.proofs.Common.{◌≡◌, ℕ, Bool, false, List, [], ◌∷◌, length, ◌==◌, refl, sym, ◌∙◌, arith}
use Rattle.std.specs.Str.{chars, encode_utf8_all}
use Rattle.std.proofs.lemmas.Bool.Decides.{nat_tests}
use Rattle.std.proofs.lemmas.Str.{chars-nil, encodes-chars}
use Rattle.rl_collections.proofs.sizes.has_no_character.Goals as goal

some : (b : ℕ) (bs : List ℕ) → (length (b ∷ bs) == 0) ≡ false
some b bs = grind (arith, nat_tests)

-- a text has no bytes just where it has no characters
none : (bs cs : List ℕ) → encode_utf8_all cs ≡ bs → cs ≡ chars bs → (length bs == 0) ≡ (length (chars bs) == 0)
none [] cs e is = rw chars-nil refl
none (b ∷ bs) [] e is = cc
none (b ∷ bs) (c ∷ cs) e is = rw (← is) (some b bs ∙ sym (some c cs))

pub returns : goal.returns
returns c = c.is_empty.ensures ∙ none c.args.text.now (chars c.args.text.now) (encodes-chars c.args.text.now c.utf8.text) refl
