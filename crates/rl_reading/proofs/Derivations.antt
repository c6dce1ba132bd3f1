-- The ways in which a grammar makes a phrase: for each part of a rule what stands there.
use Rattle.std.specs.Prelude.{ℕ, ◌==◌, ◌||◌, Bool, List, [], ◌∷◌, ◌++◌, Option, Some, None, ℤ, map, flat_map, if◌then◌else◌, get_or, ◌⊎◌}
use Rattle.std.proofs.Common.{inl, inr}
use Rattle.rl_base.specs.declared.place.Place.{Place}
use Rattle.rl_syntax.specs.declared.fragment.Piece.{Piece}
use Rattle.rl_syntax.specs.declared.identifier.Identifier.{Identifier}
use Rattle.rl_tokens.specs.Terminal.{classes, number_of, terminals}
use Rattle.rl_tokens.specs.declared.terminal.TheConstants as terminal
use Rattle.rl_phrase.specs.declared.table.Form.TheVariants.{Term, Link, Named, Seq, Choice, Star, Plus, Opt, Not}
use Rattle.rl_phrase_table.specs.Expression.{Expression, Word, Name, Group, Parts, none, more}
use Rattle.rl_phrase_table.specs.Written.{is_among}
use Rattle.rl_forms.specs.declared.form.Form.{Form}
use Rattle.rl_forms.specs.declared.form.Form.TheVariants as f
use Rattle.rl_reader.specs.Node.{form_of_rule, form_or_unknown}
use Rattle.rl_reading.proofs.Roles.{Role, Said, form_in, role_of, Plays}

-- what a token of a terminal may say
pub data Kind : Type 0 where
  Names : Kind
  Texts : Kind
  TextPieces : Kind
  Integers : Kind
  Locations : Kind
  Ranges : Kind
  Pieces : Kind
  NamedWords : Kind
  Words : Kind

abbrev pub kind_by : (any name text piece integer location ranges fragment word : Bool) → Kind
kind_by any name text piece integer location ranges fragment word =
    if any then Names
    else (if name then Names
    else (if text then Texts
    else (if piece then TextPieces
    else (if integer then Integers
    else (if location then Locations
    else (if ranges then Ranges
    else (if fragment then Pieces
    else (if word then NamedWords else Words))))))))

abbrev pub is_named_word : ℕ → Bool
is_named_word kind = (kind == terminal.LEFT) || (kind == terminal.RIGHT) || (kind == terminal.ASSOC) || (kind == terminal.BRACKET) || (kind == terminal.START)

abbrev pub kind_of : ℕ → Kind
kind_of kind =
    kind_by (kind == terminal.ID) ((kind == terminal.UPPER_ID) || (kind == terminal.LOWER_ID)) (kind == terminal.STRING)
    ((kind == terminal.STRING_HEAD) || (kind == terminal.STRING_MIDDLE) || (kind == terminal.STRING_TAIL))
    (kind == terminal.INTEGER) (kind == terminal.LOCATION) (kind == terminal.CHARACTER_CLASS) (kind == terminal.FRAGMENT)
    (is_named_word kind)

abbrev pub TokenSaid : Kind → Type 0
TokenSaid Names = Identifier
TokenSaid Texts = List ℕ
TokenSaid TextPieces = List ℕ
TokenSaid Integers = ℤ
TokenSaid Locations = Option (List ℕ)
TokenSaid Ranges = List (ℕ × ℕ)
TokenSaid Pieces = Place × List Piece
TokenSaid NamedWords = Place
TokenSaid Words = Place

abbrev pub token_form : ℕ → (kind : Kind) → TokenSaid kind → Form
token_form number Names said = f.Name said
token_form number Texts said = f.Text said
token_form number TextPieces said = f.TextPiece said
token_form number Integers said = f.Integer said
token_form number Locations said = f.Location said
token_form number Ranges said = f.Ranges said
token_form number Pieces said = f.Pieces said.0 said.1
token_form number NamedWords said = f.Name (record { place = said; name = get_or terminals number []; number = 0 })
token_form number Words said = f.Word said number

-- a part of a phrase: what a token says, or what a phrase says
pub data Item : Type 0 where
  Leaf : (form : Form) → Item
  Phrase : (form : Form) → Item

abbrev pub form_at : Item → Form
form_at (Leaf form) = form
form_at (Phrase form) = form

-- what a name in a grammar stands for
pub data Naming : Type 0 where
  OfClass : (number : ℕ) → Naming
  OfRule : (role : Role) → Naming

abbrev pub naming_of : List ℕ → Naming
naming_of name = if is_among classes name then OfClass (number_of name) else OfRule (role_of name)

abbrev pub NamingSaid : Naming → Type 0
NamingSaid (OfClass number) = TokenSaid (kind_of number)
NamingSaid (OfRule role) = Said role

abbrev pub named_item : (naming : Naming) → NamingSaid naming → Item
named_item (OfClass number) said = Leaf (token_form number (kind_of number) said)
named_item (OfRule role) said = Phrase (form_in role said)

abbrev mutual
  pub Derives : Expression → Type 0
  Derives (Word text) = TokenSaid (kind_of (number_of text))
  Derives (Name name) = NamingSaid (naming_of name)
  Derives (Group Seq parts) = DerivesAll parts
  Derives (Group Named parts) = DerivesAll parts
  Derives (Group Choice parts) = DerivesOne parts
  Derives (Group Star parts) = List (DerivesAll parts)
  Derives (Group Plus parts) = DerivesAll parts × List (DerivesAll parts)
  Derives (Group Opt parts) = Option (DerivesAll parts)
  Derives (Group Not parts) = Unit {0}
  Derives (Group (Term number) parts) = ⊥
  Derives (Group Link parts) = ⊥

  -- each of the parts
  pub DerivesAll : Parts → Type 0
  DerivesAll none = Unit {0}
  DerivesAll (more part rest) = Derives part × DerivesAll rest

  -- one of them
  pub DerivesOne : Parts → Type 0
  DerivesOne none = ⊥
  DerivesOne (more part rest) = Derives part ⊎ DerivesOne rest

abbrev pub optional_items : {A : Type 0} → (A → List Item) → Option A → List Item
optional_items items None = []
optional_items items (Some derived) = items derived

abbrev mutual
  pub items : (expression : Expression) → Derives expression → List Item
  items (Word text) derived = Leaf (token_form (number_of text) (kind_of (number_of text)) derived) ∷ []
  items (Name name) derived = named_item (naming_of name) derived ∷ []
  items (Group Seq parts) derived = items_all parts derived
  items (Group Named parts) derived = items_all parts derived
  items (Group Choice parts) derived = items_one parts derived
  items (Group Star parts) derived = flat_map (items_all parts) derived
  items (Group Plus parts) derived = items_all parts derived.0 ++ flat_map (items_all parts) derived.1
  items (Group Opt parts) derived = optional_items (items_all parts) derived
  items (Group Not parts) derived = []
  items (Group (Term number) parts) derived = absurd derived
  items (Group Link parts) derived = absurd derived

  pub items_all : (parts : Parts) → DerivesAll parts → List Item
  items_all none derived = []
  items_all (more part rest) derived = items part derived.0 ++ items_all rest derived.1

  pub items_one : (parts : Parts) → DerivesOne parts → List Item
  items_one none derived = absurd derived
  items_one (more part rest) (inl derived) = items part derived
  items_one (more part rest) (inr derived) = items_one rest derived

abbrev pub forms_in : List Item → List Form
forms_in derived = map form_at derived

-- what a rule makes of its parts: a phrase that is the only part stands for the whole
abbrev pub made : ℕ → Place → List Item → Item
made rule place (Phrase form ∷ []) = Phrase form
made rule place derived = Phrase (form_or_unknown (form_of_rule rule place (forms_in derived)) place)

-- what a rule makes plays its part, however its parts are derived
abbrev pub IsKnown : ℕ → Role → Expression → Type 0
IsKnown rule role expression = (place : Place) (derived : Derives expression) → Plays role (form_at (made rule place (items expression derived)))
