-- Text between two marks: a piece of a string, a fragment, a character class; and comments.
use Rattle.std.specs.Prelude.{ℕ, zero, suc, ◌+◌, ◌<◌, if◌then◌else◌, ◌==◌, ◌&&◌, List, [], ◌∷◌, ◌++◌, drop, slice_index, Option, Some, None}
use Rattle.rl_tokens.specs.Set.{is_in}
use Rattle.rl_tokens.specs.declared.set.Set.TheVariants as set
use Rattle.rl_tokens.specs.Hole.{escape_len, class_escape_len, fragment_escape_len, hole_len}
use Rattle.rl_tokens.specs.declared.fault.Fault.{Fault}
use Rattle.rl_tokens.specs.declared.fault.Flaw.TheVariants as flaw
use Rattle.rl_tokens.specs.declared.quoted.Form.{Form}
use Rattle.rl_tokens.specs.declared.quoted.Form.TheVariants.{Piece, Fragment, Class}
use Rattle.rl_tokens.specs.declared.quoted.Next.{Next}
use Rattle.rl_tokens.specs.declared.quoted.Next.TheVariants.{Closes, Opens, Stops, Blank, Passes, Bad}
use Rattle.rl_tokens.specs.declared.quoted.Next.TheVariants as next_is
use Rattle.rl_tokens.specs.declared.quoted.Ending.{Ending}
use Rattle.rl_tokens.specs.declared.quoted.Ending.TheVariants.{Closed, AtHole, Unclosed}
use Rattle.rl_tokens.specs.declared.quoted.Before.{Before}
use Rattle.rl_tokens.specs.declared.quoted.Before.TheVariants.{Nothing, Item, Dash}
use Rattle.rl_tokens.specs.declared.quoted.Quoted.{Quoted}

-- a mark that begins an escape or a hole passes it, or has no meaning
abbrev pub escaped : ℕ → Next
escaped len = if len == 0 then Bad else Passes len

-- a piece of a string ends at its quote, at an interpolation, or before the line end that it does not pass
unfoldable pub next_of_piece : List ℕ → Next
next_of_piece text =
    let c = slice_index text 0 in
    if c == 34 then Closes
    else (if c == 60 then Opens
    else (if c == 10 then Stops
    else (if c == 92 then escaped (escape_len (drop 1 text)) else Passes 0)))

-- a fragment ends at its backquote; its `<` begins a hole
unfoldable pub next_of_fragment : List ℕ → Next
next_of_fragment text =
    let c = slice_index text 0 in
    if c == 96 then Closes
    else (if c == 60 then escaped (hole_len (drop 1 text))
    else (if c == 92 then escaped (fragment_escape_len (drop 1 text)) else Passes 0))

-- a class ends at its bracket; blanks are skipped in it, and a `-` joins two characters
unfoldable pub next_of_class : List ℕ → Next
next_of_class text =
    let c = slice_index text 0 in
    if c == 93 then Closes
    else (if c == 45 then next_is.Dash
    else (if c == 92 then escaped (class_escape_len (drop 1 text))
    else (if is_in set.Blank c then Blank else Passes 0)))

abbrev pub next : Form → List ℕ → Next
next Piece text = next_of_piece text
next Fragment text = next_of_fragment text
next Class text = next_of_class text

-- what passes lies within the text
abbrev pub IsWithin : Next → ℕ → Type 0
IsWithin (Passes more) len = more < len
IsWithin Closes len = Unit {0}
IsWithin Opens len = Unit {0}
IsWithin Stops len = Unit {0}
IsWithin Blank len = Unit {0}
IsWithin next_is.Dash len = Unit {0}
IsWithin Bad len = Unit {0}

-- what a `-` has in front of it: a character that is joined already counts for nothing
abbrev pub behind_item : Before → Before
behind_item Nothing = Item
behind_item Item = Item
behind_item (Dash first) = Nothing

abbrev pub behind_dash : Before → ℕ → Before
behind_dash Nothing offset = Nothing
behind_dash Item offset = Dash offset
behind_dash (Dash first) offset = Dash offset

abbrev pub bad_escape : ℕ → Fault
bad_escape offset = record { flaw = flaw.BadEscape; offset = offset }

-- a `-` that joins nothing has no meaning: without a character in front, or with another `-` or the end behind it
abbrev pub faults_of_dash : Before → ℕ → List Fault
faults_of_dash Nothing offset = bad_escape offset ∷ []
faults_of_dash Item offset = []
faults_of_dash (Dash first) offset = bad_escape first ∷ []

abbrev pub faults_of_close : Before → List Fault
faults_of_close Nothing = []
faults_of_close Item = []
faults_of_close (Dash first) = bad_escape first ∷ []

-- a text up to its end, with the faults inside
pub record Reading : Type 0 where
  pub quoted : Quoted
  pub faults : List Fault

abbrev pub ends_at : ℕ → Ending → List Fault → Reading
ends_at end ending faults = record { quoted = record { end = end; ending = ending }; faults = faults }

abbrev pub behind : List Fault → Reading → Reading
behind faults reading = record { quoted = reading.quoted; faults = faults ++ reading.faults }

-- what follows from what stands at the offset
abbrev pub turn : Next → Before → ℕ → (ℕ → Before → Reading) → Reading
turn Closes before offset rest = ends_at (offset + 1) Closed (faults_of_close before)
turn Opens before offset rest = ends_at (offset + 1) AtHole []
turn Stops before offset rest = ends_at offset Unclosed []
turn Blank before offset rest = rest 0 before
turn next_is.Dash before offset rest = behind (faults_of_dash before offset) (rest 0 (behind_dash before offset))
turn (Passes more) before offset rest = rest more (behind_item before)
turn Bad before offset rest = behind (bad_escape offset ∷ []) (rest 0 before)

-- the text from the offset on: `pass` characters are still to pass, which belong to the one before
abbrev pub inside : Form → ℕ → Before → ℕ → List ℕ → Reading
inside form pass before offset [] = ends_at offset Unclosed []
inside form (suc pass) before offset (c ∷ text) = inside form pass before (offset + 1) text
inside form zero before offset (c ∷ text) =
    turn (next form (c ∷ text)) before offset (λ pass before. inside form pass before (offset + 1) text)

-- a text that does not end is at fault at its first mark, which stands at the offset in front of it
abbrev pub faults_of_ending : Ending → ℕ → List Fault
faults_of_ending Closed start = []
faults_of_ending AtHole start = []
faults_of_ending Unclosed start = record { flaw = flaw.OpenString; offset = start } ∷ []

unfoldable pub quoted : Form → ℕ → List ℕ → Reading
quoted form start text =
    let reading = inside form 0 Nothing (start + 1) text in
    record { quoted = reading.quoted; faults = reading.faults ++ faults_of_ending reading.quoted.ending start }

-- how many characters of a comment stand behind its `/*`
abbrev pub comment_len_from : ℕ → List ℕ → Option ℕ
comment_len_from n [] = None
comment_len_from n (c ∷ text) = if c == 42 && slice_index text 0 == 47 then Some (n + 2) else comment_len_from (n + 1) text

unfoldable pub comment_len : List ℕ → Option ℕ
comment_len text = comment_len_from 0 text
