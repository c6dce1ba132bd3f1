-- Bytes above those of ASCII stand for themselves.
use Rattle.std.proofs.Common.{◌≡◌, ℕ, ◌+◌, ◌*◌, ◌/◌, ◌%◌, ◌<◌, ◌≤◌, ◌⊎◌, inl, inr, List, [], ◌∷◌, ◌++◌, Option, Some, None, refl, ap, sym, ◌∙◌, arith, encode_utf8, append_assoc}
use Rattle.std.specs.Str.{encode_utf8_all}
use Rattle.std.proofs.lemmas.Str.{encodes-append}
use Rattle.std.specs.List.{flat_map}
use Rattle.std.proofs.str.Laws.{two, three, four}
use Rattle.std.proofs.lemmas.Bool.{cases_lt}
use Rattle.std.proofs.lemmas.Bool.Decides.{nat_tests}
use Rattle.std.proofs.lemmas.List.Concat.{flat_map-append}
use Rattle.rl_print.specs.declared.escape.Escapes.{Escapes}
use Rattle.rl_print.specs.declared.escape.Escapes.TheVariants.{Raw, Quoted, Backquoted}
use Rattle.rl_print.specs.Escape.{quoted_escape, backquoted_escape, escape_of, written, escaped}

high : (e : Escapes) (b : ℕ) → 128 ≤ b → escape_of e b ≡ None
high Raw b h = refl
high Quoted b h = grind (arith, nat_tests)
high Backquoted b h = grind (arith, nat_tests)

high_byte : (e : Escapes) (b : ℕ) → 128 ≤ b → written b (escape_of e b) ≡ b ∷ []
high_byte e b h = ap (written b) (high e b h)

one_high : (e : Escapes) (b : ℕ) (bs : List ℕ) → 128 ≤ b → escaped e bs ≡ bs → escaped e (b ∷ bs) ≡ b ∷ bs
one_high e b bs h p = (λ i. high_byte e b h i ++ p i)

pub escaped-encode : (e : Escapes) (c : ℕ) → 128 ≤ c → escaped e (encode_utf8 c) ≡ encode_utf8 c
escaped-encode e c h = by (cases_lt c 2048) (cases_lt c 65536)
  where
    by : (c < 2048) ⊎ (2048 ≤ c) → (c < 65536) ⊎ (65536 ≤ c) → escaped e (encode_utf8 c) ≡ encode_utf8 c
    by (inl a) _ = rw (two c h a) (one_high e _ _ (omega arith) (one_high e _ _ (omega arith) refl))
    by (inr a) (inl b) = rw (three c a b) (one_high e _ _ (omega arith) (one_high e _ _ (omega arith) (one_high e _ _ (omega arith) refl)))
    by (inr _) (inr b) = rw (four c b) (one_high e _ _ (omega arith) (one_high e _ _ (omega arith) (one_high e _ _ (omega arith) (one_high e _ _ (omega arith) refl))))

-- a character that is not escaped stands for itself
pub escaped-same : (e : Escapes) (c : ℕ) → escape_of e c ≡ None → (c < 128 → encode_utf8 c ≡ c ∷ []) → escaped e (encode_utf8 c) ≡ encode_utf8 c
escaped-same e c n ascii = by (cases_lt c 128)
  where
    by : (c < 128) ⊎ (128 ≤ c) → escaped e (encode_utf8 c) ≡ encode_utf8 c
    by (inl a) = rw (ascii a) (ap (λ o. written c o ++ []) n)
    by (inr b) = escaped-encode e c b

pub escaped-raw : (bs : List ℕ) → escaped Raw bs ≡ bs
escaped-raw [] = refl
escaped-raw (b ∷ bs) = ap (λ w. b ∷ w) (escaped-raw bs)

pub append-nil : (xs : List ℕ) → xs ++ [] ≡ xs
append-nil [] = refl
append-nil (x ∷ xs) = ap (λ ys. x ∷ ys) (append-nil xs)

pub escaped_more : (e : Escapes) (xs cs : List ℕ) (c : ℕ)
    → (xs ++ escaped e (encode_utf8_all cs)) ++ escaped e (encode_utf8 c) ≡ xs ++ escaped e (encode_utf8_all (cs ++ c ∷ []))
escaped_more e xs cs c =
    let one : encode_utf8_all (cs ++ c ∷ []) ≡ encode_utf8_all cs ++ encode_utf8 c = encodes-append cs (c ∷ []) ∙ ap (λ w. encode_utf8_all cs ++ w) (append-nil (encode_utf8 c)) in
    rw (one, flat_map-append) (simp append_assoc)
