-- Words and symbols.
use Rattle.std.proofs.Common.{◌≡◌, ℕ, zero, suc, ◌<◌, ◌≤◌, false, List, [], ◌∷◌, length, drop, refl, sym, ap, ◌∙◌, arith, ltb-true, ne_eqb, ◌≢◌}
use Rattle.std.proofs.lemmas.Bool.{and_parts}
use Rattle.rl_tokens.specs.Word.{begins, lookup, symbol}
use Rattle.std.specs.Prelude.{Bool, true, ◌==◌, ◌&&◌, nat_lt, if◌then◌else◌, Option, Some, None}
use Rattle.rl_tokens.specs.Terminal.{Row}

begins_none : (word : List ℕ) (k : ℕ) → k < length word → begins (drop k word) [] ≡ false
begins_none [] k w = absurd (omega arith)
begins_none (b ∷ word) zero w = refl
begins_none (b ∷ word) (suc k) w = begins_none word k (omega arith)

-- a text that ends before the word does not begin with it
pub begins_short : (word text : List ℕ) (k : ℕ) → k < length word → length text ≤ k → begins (drop k word) (drop k text) ≡ false
begins_short [] text k w t = absurd (omega arith)
begins_short (b ∷ word) [] zero w t = refl
begins_short (b ∷ word) (c ∷ text) zero w t = absurd (omega arith)
begins_short (b ∷ word) [] (suc k) w t = begins_none word k (omega arith)
begins_short (b ∷ word) (c ∷ text) (suc k) w t = begins_short word text k (omega arith) (omega arith)

-- a character that is a symbol, whatever follows and wherever it stands
pub alone : (c number : ℕ) → ((rest : List ℕ) → symbol true (c ∷ rest) ≡ Some (1, number)) → ((rest : List ℕ) → symbol false (c ∷ rest) ≡ Some (1, number)) → (grammar : Bool) (rest : List ℕ) → symbol grammar (c ∷ rest) ≡ Some (1, number)
alone c number inside outside true rest = inside rest
alone c number inside outside false rest = outside rest

-- a table that is searched for words of a length
abbrev pub lookup_of : List Row → ℕ → List ℕ → Option ℕ
lookup_of [] len word = None
lookup_of (row ∷ table) len word = if length row.0 == len && begins row.0 word then Some row.1 else lookup_of table len word

lookup_is : (table : List Row) (word : List ℕ) → lookup table word ≡ lookup_of table (length word) word
lookup_is [] word = refl
lookup_is (row ∷ table) word = ap (λ other. if length row.0 == length word && begins row.0 word then Some row.1 else other) (lookup_is table word)

pub by_length : (len : ℕ) (part whole : List Row) → ((word : List ℕ) → lookup_of part len word ≡ lookup_of whole len word) → (word : List ℕ) → length word ≡ len → lookup part word ≡ lookup whole word
by_length len part whole same word h =
    (lookup_is part word ∙ ap (λ n. lookup_of part n word) h) ∙ (same word ∙ sym (lookup_is whole word ∙ ap (λ n. lookup_of whole n word) h))

-- whether each row has a text of one to nine characters
abbrev pub are_short : List Row → Bool
are_short [] = true
are_short (row ∷ table) = nat_lt 0 (length row.0) && (nat_lt (length row.0) 10 && are_short table)

-- in such a table nothing else is found
pub none_of : (len : ℕ) → ((k : ℕ) → 0 < k → k < 10 → k ≢ len) → (table : List Row) → are_short table ≡ true → (word : List ℕ) → lookup_of table len word ≡ None
none_of len other [] short word = refl
none_of len other (row ∷ table) short word =
    let some = and_parts (nat_lt 0 (length row.0)) _ short in
    let few = and_parts (nat_lt (length row.0) 10) _ some.1 in
    let differs : (length row.0 == len) ≡ false =
    ne_eqb (length row.0) len (other (length row.0) (ltb-true 0 (length row.0) some.0) (ltb-true (length row.0) 10 few.0)) in
    rw differs (none_of len other table few.1 word)
