-- What stands at the front of a text: a token, a blank or a comment.
use Rattle.std.specs.Prelude.{ℕ, ◌+◌, Bool, true, false, ◌&&◌, ◌||◌, if◌then◌else◌, ◌==◌, nat_lt, List, [], ◌∷◌, length, take, drop, slice_index, Option, Some, None}
use Rattle.std.specs.List.{prefix_len}
use Rattle.rl_tokens.specs.Set.{is_in}
use Rattle.rl_tokens.specs.declared.set.Set.TheVariants as set
use Rattle.rl_tokens.specs.Word.{word, symbol}
use Rattle.rl_tokens.specs.Hole.{location_len}
use Rattle.rl_tokens.specs.Number.{integer_len, is_wide}
use Rattle.rl_tokens.specs.Quoted.{quoted, comment_len}
use Rattle.rl_tokens.specs.declared.quoted.Form.TheVariants as form
use Rattle.rl_tokens.specs.declared.quoted.Ending.{Ending}
use Rattle.rl_tokens.specs.declared.quoted.Ending.TheVariants.{Closed, AtHole, Unclosed}
use Rattle.rl_tokens.specs.declared.quoted.Quoted.{Quoted}
use Rattle.rl_tokens.specs.declared.fault.Fault.{Fault}
use Rattle.rl_tokens.specs.declared.fault.Flaw.{Flaw}
use Rattle.rl_tokens.specs.declared.fault.Flaw.TheVariants as flaw
use Rattle.rl_tokens.specs.declared.lexeme.Open.{Open}
use Rattle.rl_tokens.specs.declared.lexeme.Open.TheVariants.{Interpolation, Angle, Bracket}
use Rattle.rl_tokens.specs.declared.lexeme.Nest.{Nest}
use Rattle.rl_tokens.specs.declared.lexeme.Nest.TheVariants.{Stays, Opens, Closes}
use Rattle.rl_tokens.specs.declared.lexeme.Lead.{Lead}
use Rattle.rl_tokens.specs.declared.lexeme.Lead.TheVariants as lead_is
use Rattle.rl_tokens.specs.declared.lexeme.Lexeme.{Lexeme}
use Rattle.rl_tokens.specs.declared.terminal.TheConstants.{CHARACTER_CLASS, FRAGMENT, GREATER, INTEGER, KEYWORD, LAYOUT, LESS, LEXICAL, LOCATION, SEMICOLON, STRING, STRING_HEAD, STRING_MIDDLE, STRING_TAIL, SYNTAX}

-- blanks, comments and what is at fault are no tokens
abbrev pub skipped : ℕ → Lexeme
skipped end = record { kind = None; end = end; nest = Stays }

abbrev pub simple : ℕ → ℕ → Lexeme
simple kind end = record { kind = Some kind; end = end; nest = Stays }

-- what stands at the front, with its faults
pub record Step : Type 0 where
  pub lexeme : Lexeme
  pub faults : List Fault

abbrev pub sound : Lexeme → Step
sound lexeme = record { lexeme = lexeme; faults = [] }

abbrev pub at_fault : Flaw → ℕ → Lexeme → Step
at_fault kind offset lexeme = record { lexeme = lexeme; faults = record { flaw = kind; offset = offset } ∷ [] }

-- the mark U+FEFF is a blank at the offset 0 alone
abbrev pub plain_lead : ℕ → Lead
plain_lead c =
    if is_in set.Blank c then lead_is.Blank
    else (if is_in set.Letter c then lead_is.Word
    else (if is_in set.Digit c then lead_is.Integer else lead_is.Other))

-- the kind of what begins with these two characters; only a syntax definition has classes
unfoldable pub lead : ℕ → Bool → ℕ → ℕ → Lead
lead offset grammar c next =
    if c == 0xFEFF && offset == 0 then lead_is.Blank
    else (if c == 47 && next == 47 then lead_is.LineComment
    else (if c == 47 && next == 42 then lead_is.Comment
    else (if c == 34 then lead_is.String
    else (if c == 96 then lead_is.Fragment
    else (if c == 91 && grammar then lead_is.Class else plain_lead c)))))

-- a comment that does not end takes the rest of the text
abbrev pub comment : ℕ → List ℕ → Step
comment offset text = up_to (comment_len (drop 2 text))
  where
    up_to : Option ℕ → Step
    up_to (Some len) = sound (skipped (offset + 2 + len))
    up_to None = at_fault flaw.OpenComment offset (skipped (offset + length text))

abbrev pub integer : ℕ → List ℕ → Step
integer offset text =
    let len = integer_len text in
    if is_wide (take len text) then at_fault flaw.WideNumber offset (skipped (offset + len))
    else sound (simple INTEGER (offset + len))

-- a string from its `"` on: an interpolation ends its first piece
abbrev pub string : ℕ → Quoted → Lexeme
string offset quoted = piece quoted.ending
  where
    piece : Ending → Lexeme
    piece Closed = record { kind = Some STRING; end = quoted.end; nest = Stays }
    piece AtHole = record { kind = Some STRING_HEAD; end = quoted.end; nest = Opens (Interpolation offset) }
    piece Unclosed = record { kind = None; end = quoted.end; nest = Stays }

-- a string from the `>` on that ends an interpolation: another interpolation follows, or none is open any more
abbrev pub string_rest : Quoted → Lexeme
string_rest quoted = piece quoted.ending
  where
    piece : Ending → Lexeme
    piece Closed = record { kind = Some STRING_TAIL; end = quoted.end; nest = Closes }
    piece AtHole = record { kind = Some STRING_MIDDLE; end = quoted.end; nest = Stays }
    piece Unclosed = record { kind = None; end = quoted.end; nest = Closes }

-- a fragment or a class
abbrev pub whole : ℕ → Quoted → Lexeme
whole kind quoted = of_ending quoted.ending
  where
    of_ending : Ending → Lexeme
    of_ending Closed = simple kind quoted.end
    of_ending AtHole = skipped quoted.end
    of_ending Unclosed = skipped quoted.end

-- what a symbol does inside an interpolation: brackets of the three kinds count as one kind, and while none of
-- them is open, so do `<` and `>`
abbrev pub nest_in : Open → ℕ → Nest
nest_in inner c =
    if c == 40 || c == 91 || c == 123 then Opens Bracket
    else (if c == 41 || c == 93 || c == 125 then closing_bracket inner
    else (if c == 60 then opening_angle inner
    else (if c == 62 then closing_angle inner else Stays)))
  where
    closing_bracket : Open → Nest
    closing_bracket (Interpolation head) = Stays
    closing_bracket Angle = Stays
    closing_bracket Bracket = Closes

    opening_angle : Open → Nest
    opening_angle (Interpolation head) = Opens Angle
    opening_angle Angle = Opens Angle
    opening_angle Bracket = Stays

    closing_angle : Open → Nest
    closing_angle (Interpolation head) = Stays
    closing_angle Angle = Closes
    closing_angle Bracket = Stays

abbrev pub nest : Option Open → ℕ → Nest
nest None c = Stays
nest (Some inner) c = nest_in inner c

-- in an interpolation with no bracket open `<` and `>` are tokens of one character
abbrev pub is_angled : Option Open → Bool
is_angled None = false
is_angled (Some (Interpolation head)) = true
is_angled (Some Angle) = true
is_angled (Some Bracket) = false

abbrev pub is_interpolation : Option Open → Bool
is_interpolation None = false
is_interpolation (Some (Interpolation head)) = true
is_interpolation (Some Angle) = false
is_interpolation (Some Bracket) = false

abbrev pub angle : ℕ → Option Open → ℕ → Lexeme
angle offset inner c = record { kind = Some (if c == 60 then LESS else GREATER); end = offset + 1; nest = nest inner c }

abbrev pub symbol_lexeme : ℕ → Bool → Option Open → List ℕ → Step
symbol_lexeme offset grammar inner text = up_to (symbol grammar text)
  where
    up_to : Option (ℕ × ℕ) → Step
    up_to (Some found) = sound (record { kind = Some found.1; end = offset + found.0; nest = nest inner (slice_index text 0) })
    up_to None = at_fault flaw.BadCharacter offset (skipped (offset + 1))

abbrev pub word_lexeme : ℕ → List ℕ → Lexeme
word_lexeme offset text = let found = word text in simple found.1 (offset + found.0)

-- a location or a symbol
unfoldable pub other : ℕ → Bool → Option Open → List ℕ → Step
other offset grammar inner text =
    let c = slice_index text 0 in
    if nat_lt 0 (location_len text) then sound (simple LOCATION (offset + location_len text))
    else (if is_angled inner && (c == 60 || c == 62) then sound (angle offset inner c)
    else symbol_lexeme offset grammar inner text)

abbrev pub with_faults : Lexeme → List Fault → Step
with_faults lexeme faults = record { lexeme = lexeme; faults = faults }

abbrev pub led : Lead → ℕ → Bool → Option Open → List ℕ → Step
led lead_is.Blank offset grammar inner text = sound (skipped (offset + 1))
led lead_is.LineComment offset grammar inner text = sound (skipped (offset + 1 + prefix_len (is_in set.Line) (drop 1 text)))
led lead_is.Comment offset grammar inner text = comment offset text
led lead_is.String offset grammar inner text =
    let reading = quoted form.Piece offset (drop 1 text) in with_faults (string offset reading.quoted) reading.faults
led lead_is.Fragment offset grammar inner text =
    let reading = quoted form.Fragment offset (drop 1 text) in with_faults (whole FRAGMENT reading.quoted) reading.faults
led lead_is.Class offset grammar inner text =
    let reading = quoted form.Class offset (drop 1 text) in with_faults (whole CHARACTER_CLASS reading.quoted) reading.faults
led lead_is.Word offset grammar inner text = sound (word_lexeme offset text)
led lead_is.Integer offset grammar inner text = integer offset text
led lead_is.Other offset grammar inner text = other offset grammar inner text

-- what stands at the offset, in a syntax definition or elsewhere, where this is open innermost: a `>` ends an
-- interpolation in which nothing is open
unfoldable pub front : ℕ → Bool → Option Open → List ℕ → Step
front offset grammar inner text =
    if is_interpolation inner && slice_index text 0 == 62
    then (let reading = quoted form.Piece offset (drop 1 text) in with_faults (string_rest reading.quoted) reading.faults)
    else led (lead offset grammar (slice_index text 0) (slice_index text 1)) offset grammar inner text

-- a syntax definition begins behind one of four words, and ends at the next `;`
abbrev pub grammar_behind : Bool → Option ℕ → Bool
grammar_behind grammar None = grammar
grammar_behind grammar (Some kind) =
    if kind == SYNTAX || kind == LEXICAL || kind == LAYOUT || kind == KEYWORD then true
    else (if kind == SEMICOLON then false else grammar)
