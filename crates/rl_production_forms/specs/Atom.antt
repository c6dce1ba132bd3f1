-- Classes, atoms and repetitions.
use Rattle.std.specs.Prelude.{ℕ, ◌-◌, ◌==◌, if◌then◌else◌, List, length, Option, Some, None, slice_get}
use Rattle.rl_base.specs.declared.place.Place.{Place}
use Rattle.rl_productions.specs.declared.symbol.Atom.{Atom}
use Rattle.rl_productions.specs.declared.symbol.Atom.TheVariants as a
use Rattle.rl_productions.specs.declared.symbol.CharClass.{CharClass}
use Rattle.rl_productions.specs.declared.symbol.Near.{Near}
use Rattle.rl_productions.specs.declared.symbol.Near.TheVariants as n
use Rattle.rl_productions.specs.declared.symbol.Rep.{Rep}
use Rattle.rl_productions.specs.declared.symbol.Rep.TheVariants as r
use Rattle.rl_tokens.specs.declared.terminal.TheConstants.{BANG, OPEN_BRACE, PLUS, QUESTION, STAR}
use Rattle.rl_forms.specs.declared.form.Form.{Form}
use Rattle.rl_forms.specs.declared.form.Form.TheVariants as f
use Rattle.rl_forms.specs.Part.{given, part_at}
use Rattle.rl_forms.specs.Words.{has_word, word_at}
use Rattle.rl_forms.specs.Names.{as_text}
use Rattle.rl_forms.specs.Productions.{as_atom}

abbrev pub class_from : Place → List Form → Option Form → Option CharClass
class_from place parts (Some (f.Ranges ranges)) = Some (record { place = place; complement = has_word BANG parts; items = ranges })
class_from place parts _ = None

-- a class, or its complement behind a `!`
unfoldable pub class_of : Place → List Form → Option CharClass
class_of place parts = class_from place parts (slice_get parts (length parts - 1))

-- a text that adjoins a symbol
unfoldable pub near_of : List Form → Option Near
near_of parts = given (part_at as_text parts 0) (λ text. Some (n.Literal text))

abbrev pub atom_from : Option Form → Option Atom
atom_from (Some (f.Text text)) = Some (a.Literal text)
atom_from (Some (f.Name name)) = Some (a.Sort name.name name.place)
atom_from _ = None

-- a text or a sort
unfoldable pub atom_of : List Form → Option Atom
atom_of parts = atom_from (slice_get parts 0)

abbrev pub separated : Atom → List ℕ → ℕ → Option Rep
separated atom text word =
    if word == STAR then Some (r.SepStar atom text)
    else (if word == PLUS then Some (r.SepPlus atom text) else None)

-- {A ","}* or {A ","}+
unfoldable pub separated_of : List Form → Option Rep
separated_of parts =
    given (part_at as_atom parts 1) (λ atom.
    given (part_at as_text parts 2) (λ text.
    given (word_at parts 4) (λ word. separated atom text word)))

abbrev pub repeated : Atom → ℕ → Option Rep
repeated atom word =
    if word == STAR then Some (r.Star atom)
    else (if word == PLUS then Some (r.Plus atom)
    else (if word == QUESTION then Some (r.Opt atom) else None))

-- A*, A+ or A?
unfoldable pub plain_repetition_of : List Form → Option Rep
plain_repetition_of parts = given (part_at as_atom parts 0) (λ atom. given (word_at parts 1) (λ word. repeated atom word))

-- braces stand around an atom and the text between two of it
unfoldable pub repetition_of : List Form → Option Rep
repetition_of parts = if has_word OPEN_BRACE parts then separated_of parts else plain_repetition_of parts
