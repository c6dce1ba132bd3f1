-- No token of a text has a kind that is a terminal alone: any name, or a word that is a name.
use Rattle.std.specs.Prelude.{◌≡◌, ℕ, zero, suc, ◌+◌, ◌-◌, ◌&&◌, ◌||◌, ◌==◌, Bool, true, false, not, List, [], ◌∷◌, ◌++◌, Option, Some, None, refl, if◌then◌else◌, length, take, drop, slice_get, slice_index, nat_lt}
use Rattle.std.proofs.Common.{subst}
use Rattle.rl_tokens.specs.Hole.{location_len}
use Rattle.rl_tokens.specs.Number.{integer_len, is_wide}
use Rattle.rl_tokens.specs.Quoted.{quoted, comment_len}
use Rattle.rl_tokens.specs.declared.quoted.Form.TheVariants as form
use Rattle.rl_tokens.specs.declared.fault.Flaw.TheVariants as flaw
use Rattle.rl_tokens.specs.Terminal.{Row, words, hyphened, symbols, grammar_symbols}
use Rattle.rl_tokens.specs.Token.{Token}
use Rattle.rl_tokens.specs.Word.{begins, first_row, lookup, reserved, name, number_or, plain_word, run_of_word, word_or, word, grammar_symbol, symbol_or, symbol}
use Rattle.rl_tokens.specs.Lexeme as lexeme
use Rattle.rl_tokens.specs.Lexeme.{Step, lead, led, other, front, whole, string, string_rest, integer, comment, symbol_lexeme, angle, is_angled, is_interpolation}
use Rattle.rl_tokens.specs.Scan.{scan, tokens_of, tokens_in, innermost, nested}
use Rattle.rl_tokens.specs.Set.{is_in}
use Rattle.rl_tokens.specs.declared.set.Set.TheVariants as set
use Rattle.rl_tokens.specs.declared.lexeme.Lexeme.{Lexeme}
use Rattle.rl_tokens.specs.declared.lexeme.Lead.{Lead}
use Rattle.rl_tokens.specs.declared.lexeme.Lead.TheVariants as lead_is
use Rattle.rl_tokens.specs.declared.lexeme.Open.{Open}
use Rattle.rl_tokens.specs.declared.quoted.Quoted.{Quoted}
use Rattle.rl_tokens.specs.declared.quoted.Ending.TheVariants.{Closed, AtHole, Unclosed}
use Rattle.rl_tokens.specs.declared.terminal.TheConstants as terminal

abbrev pub is_terminal_alone : ℕ → Bool
is_terminal_alone kind =
    (kind == terminal.ID) || (kind == terminal.LEFT) || (kind == terminal.RIGHT) || (kind == terminal.ASSOC) || (kind == terminal.BRACKET)
    || (kind == terminal.START)

abbrev pub IsKind : ℕ → Type 0
IsKind kind = is_terminal_alone kind ≡ false

abbrev HasKind : Option ℕ → Type 0
HasKind None = Unit {0}
HasKind (Some kind) = IsKind kind

-- a table has only kinds of tokens
abbrev has_kinds : List Row → Bool
has_kinds [] = true
has_kinds (row ∷ table) = not (is_terminal_alone row.1) && has_kinds table

split : (a b : Bool) → (a && b) ≡ true → (a ≡ true) × (b ≡ true)
split true b e = (refl, e)
split false b e = absurd cc

not_true : (a : Bool) → not a ≡ true → a ≡ false
not_true true e = absurd cc
not_true false e = refl

abbrev RowHasKind : Option (ℕ × ℕ) → Type 0
RowHasKind None = Unit {0}
RowHasKind (Some found) = IsKind found.1

row_has_kind : (table : List Row) (text : List ℕ) → has_kinds table ≡ true → RowHasKind (first_row table text)
row_has_kind [] text e = tt
row_has_kind (row ∷ table) text e = by (begins row.0 text) (not_true (is_terminal_alone row.1) ((split (not (is_terminal_alone row.1)) (has_kinds table) e).0)) (row_has_kind table text ((split (not (is_terminal_alone row.1)) (has_kinds table) e).1))
  where
    by : (b : Bool) → IsKind row.1 → RowHasKind (first_row table text) → RowHasKind (if b then Some (length row.0, row.1) else first_row table text)
    by true h k = h
    by false h k = k

word_has_kind : (table : List Row) (text : List ℕ) → has_kinds table ≡ true → HasKind (lookup table text)
word_has_kind [] text e = tt
word_has_kind (row ∷ table) text e = by (length row.0 == length text && begins row.0 text) (not_true (is_terminal_alone row.1) ((split (not (is_terminal_alone row.1)) (has_kinds table) e).0)) (word_has_kind table text ((split (not (is_terminal_alone row.1)) (has_kinds table) e).1))
  where
    by : (b : Bool) → IsKind row.1 → HasKind (lookup table text) → HasKind (if b then Some row.1 else lookup table text)
    by true h k = h
    by false h k = k

name_has_kind : (text : List ℕ) → IsKind (name text)
name_has_kind text = by (is_in set.Upper (slice_index text 0))
  where
    by : (b : Bool) → IsKind (if b then 39 else 46)
    by true = refl
    by false = refl

plain_has_kind : (text : List ℕ) → IsKind (plain_word text)
unfolding reserved words
plain_has_kind text = by (lookup words text) (word_has_kind words text refl)
  where
    by : (o : Option ℕ) → HasKind o → IsKind (number_or o (name text))
    by None h = name_has_kind text
    by (Some number) h = h

word_kind : (text : List ℕ) → IsKind (word text).1
unfolding word hyphened
word_kind text = by (first_row hyphened text) (row_has_kind hyphened text refl)
  where
    by : (o : Option (ℕ × ℕ)) → RowHasKind o → IsKind (word_or o text).1
    by None h = plain_has_kind (take (run_of_word text).0 text)
    by (Some found) h = h

symbol_kind : (grammar : Bool) (text : List ℕ) → RowHasKind (symbol grammar text)
unfolding symbol grammar_symbol symbols grammar_symbols
symbol_kind grammar text = by (grammar_symbol grammar text) (own grammar)
  where
    own : (grammar : Bool) → RowHasKind (grammar_symbol grammar text)
    own true = row_has_kind grammar_symbols text refl
    own false = tt

    by : (o : Option (ℕ × ℕ)) → RowHasKind o → RowHasKind (symbol_or o text)
    by None h = row_has_kind symbols text refl
    by (Some found) h = h

abbrev StepHasKind : Step → Type 0
StepHasKind step = HasKind step.lexeme.kind

string_kind : (offset : ℕ) (found : Quoted) → HasKind (string offset found).kind
string_kind offset found =
    elim found.ending as (λ ending. HasKind (string offset (record { end = found.end; ending = ending })).kind) [ Closed ↦ refl | AtHole ↦ refl | Unclosed ↦ tt ]

rest_kind : (found : Quoted) → HasKind (string_rest found).kind
rest_kind found = elim found.ending as (λ ending. HasKind (string_rest (record { end = found.end; ending = ending })).kind) [ Closed ↦ refl | AtHole ↦ refl | Unclosed ↦ tt ]

whole_kind : (kind : ℕ) → IsKind kind → (found : Quoted) → HasKind (whole kind found).kind
whole_kind kind h found = elim found.ending as (λ ending. HasKind (whole kind (record { end = found.end; ending = ending })).kind) [ Closed ↦ h | AtHole ↦ tt | Unclosed ↦ tt ]

symbol_step : (offset : ℕ) (grammar : Bool) (inner : Option Open) (text : List ℕ) → StepHasKind (symbol_lexeme offset grammar inner text)
symbol_step offset grammar inner text = by (symbol grammar text) (symbol_kind grammar text)
  where
    by : (o : Option (ℕ × ℕ)) → RowHasKind o → StepHasKind (elim o [ None ↦ lexeme.at_fault flaw.BadCharacter offset (lexeme.skipped (offset + 1)) | Some found ↦ lexeme.sound (record { kind = Some found.1; end = offset + found.0; nest = lexeme.nest inner (slice_index text 0) }) ])
    by None h = tt
    by (Some found) h = h

angle_kind : (offset : ℕ) (inner : Option Open) (c : ℕ) → HasKind (angle offset inner c).kind
angle_kind offset inner c = by (c == 60)
  where
    by : (b : Bool) → IsKind (if b then 78 else 40)
    by true = refl
    by false = refl

integer_step : (offset : ℕ) (text : List ℕ) → StepHasKind (integer offset text)
integer_step offset text = by (is_wide (take (integer_len text) text))
  where
    by : (b : Bool) → StepHasKind (if b then lexeme.at_fault flaw.WideNumber offset (lexeme.skipped (offset + integer_len text)) else lexeme.sound (lexeme.simple terminal.INTEGER (offset + integer_len text)))
    by true = tt
    by false = refl

comment_step : (offset : ℕ) (text : List ℕ) → StepHasKind (comment offset text)
comment_step offset text = by (comment_len (drop 2 text))
  where
    by : (o : Option ℕ) → StepHasKind (elim o [ None ↦ lexeme.at_fault flaw.OpenComment offset (lexeme.skipped (offset + length text)) | Some len ↦ lexeme.sound (lexeme.skipped (offset + 2 + len)) ])
    by None = tt
    by (Some len) = tt

other_step : (offset : ℕ) (grammar : Bool) (inner : Option Open) (text : List ℕ) → StepHasKind (other offset grammar inner text)
unfolding other
other_step offset grammar inner text =
    by (nat_lt 0 (location_len text)) (is_angled inner && ((slice_index text 0 == 60) || (slice_index text 0 == 62)))
  where
    by : (a b : Bool) → StepHasKind (if a then lexeme.sound (lexeme.simple terminal.LOCATION (offset + location_len text)) else (if b then lexeme.sound (angle offset inner (slice_index text 0)) else symbol_lexeme offset grammar inner text))
    by true b = refl
    by false true = angle_kind offset inner (slice_index text 0)
    by false false = symbol_step offset grammar inner text

led_step : (l : Lead) (offset : ℕ) (grammar : Bool) (inner : Option Open) (text : List ℕ) → StepHasKind (led l offset grammar inner text)
led_step lead_is.Blank offset grammar inner text = tt
led_step lead_is.LineComment offset grammar inner text = tt
led_step lead_is.Comment offset grammar inner text = comment_step offset text
led_step lead_is.String offset grammar inner text = string_kind offset (quoted form.Piece offset (drop 1 text)).quoted
led_step lead_is.Fragment offset grammar inner text = whole_kind terminal.FRAGMENT refl (quoted form.Fragment offset (drop 1 text)).quoted
led_step lead_is.Class offset grammar inner text = whole_kind terminal.CHARACTER_CLASS refl (quoted form.Class offset (drop 1 text)).quoted
led_step lead_is.Word offset grammar inner text = word_kind text
led_step lead_is.Integer offset grammar inner text = integer_step offset text
led_step lead_is.Other offset grammar inner text = other_step offset grammar inner text

front_step : (offset : ℕ) (grammar : Bool) (inner : Option Open) (text : List ℕ) → StepHasKind (front offset grammar inner text)
unfolding front
front_step offset grammar inner text = by (is_interpolation inner && (slice_index text 0 == 62))
  where
    by : (b : Bool) → StepHasKind (if b then lexeme.with_faults (string_rest (quoted form.Piece offset (drop 1 text)).quoted) (quoted form.Piece offset (drop 1 text)).faults else led (lead offset grammar (slice_index text 0) (slice_index text 1)) offset grammar inner text)
    by true = rest_kind (quoted form.Piece offset (drop 1 text)).quoted
    by false = led_step (lead offset grammar (slice_index text 0) (slice_index text 1)) offset grammar inner text

-- all tokens of a list
abbrev Kinds : List Token → Type 0
Kinds [] = Unit {0}
Kinds (token ∷ tokens) = IsKind token.kind × Kinds tokens

kinds_append : (xs ys : List Token) → Kinds xs → Kinds ys → Kinds (xs ++ ys)
kinds_append [] ys h k = k
kinds_append (x ∷ xs) ys h k = (h.0, kinds_append xs ys h.1 k)

kinds_of : (offset : ℕ) (text : List ℕ) (found : Lexeme) → HasKind found.kind → Kinds (tokens_of offset text found)
kinds_of offset text found = elim found.kind as (λ kind. HasKind kind → Kinds (tokens_of offset text (record { kind = kind; end = found.end; nest = found.nest }))) [ None ↦ λ h. tt | Some kind ↦ λ h. (h, tt) ]

scanned : (text : List ℕ) (pass : ℕ) (grammar : Bool) (opens : List Open) (offset : ℕ) → Kinds (scan pass grammar opens offset text).tokens
scanned [] pass grammar opens offset = (refl, tt)
scanned (c ∷ text) (suc pass) grammar opens offset = scanned text pass grammar opens (offset + 1)
scanned (c ∷ text) zero grammar opens offset =
    let step : Step = front offset grammar (innermost opens) (c ∷ text) in
    kinds_append (tokens_of offset (c ∷ text) step.lexeme) _ (kinds_of offset (c ∷ text) step.lexeme (front_step offset grammar (innermost opens) (c ∷ text)))
    (scanned text (step.lexeme.end - (offset + 1)) (lexeme.grammar_behind grammar step.lexeme.kind) (nested opens step.lexeme.nest) (offset + 1))

kind_at : (tokens : List Token) → Kinds tokens → (at : ℕ) (token : Token) → slice_get tokens at ≡ Some token → IsKind token.kind
kind_at [] h at token e = absurd cc
kind_at (x ∷ tokens) h zero token e =
    let same : x ≡ token = cc in
    subst (λ (it : Token). IsKind it.kind) same h.0
kind_at (x ∷ tokens) h (suc at) token e = kind_at tokens h.1 at token e

-- each token of a text
pub kinds_are_of_tokens : (text : List ℕ) (at : ℕ) (token : Token) → slice_get (tokens_in text).tokens at ≡ Some token → IsKind token.kind
unfolding tokens_in
kinds_are_of_tokens text at token e = kind_at (tokens_in text).tokens (scanned text 0 false [] 0) at token e
