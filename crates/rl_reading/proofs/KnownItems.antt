-- Nothing that is derived is unknown.
use Rattle.std.specs.Prelude.{◌≡◌, ℕ, List, [], ◌∷◌, ◌++◌, flat_map, Option, Some, None, refl}
use Rattle.std.proofs.Common.{inl, inr, ◌⊎◌}
use Rattle.rl_productions.specs.declared.definition.Alt.{Alt}
use Rattle.rl_productions.specs.declared.definition.Prod.{Prod}
use Rattle.rl_productions.specs.declared.symbol.Atom.{Atom}
use Rattle.rl_productions.specs.declared.symbol.CharClass.{CharClass}
use Rattle.rl_productions.specs.declared.symbol.Rep.{Rep}
use Rattle.rl_productions.specs.declared.symbol.Sym.{Sym}
use Rattle.rl_base.specs.declared.place.Place.{Place}
use Rattle.rl_phrase.specs.declared.table.Form.TheVariants.{Term, Link, Named, Seq, Choice, Star, Plus, Opt, Not}
use Rattle.rl_phrase_table.specs.Expression.{Expression, Word, Name, Group, Parts, none, more}
use Rattle.rl_tokens.specs.Terminal.{number_of}
use Rattle.rl_forms.specs.Part.{or_else}
use Rattle.rl_reader.specs.Node.{first_unknown, unknown}
use Rattle.rl_reading.proofs.Roles.{QualifiedNames, Declarations, Variants, Fields, Types, Levels, Alternatives, Marks, Productions, Symbols, Adjoinings, Repetitions, Atoms, Classes, Statements, OwnStatements, Cases, Handlers, Finals, Conditions, Expressions, Visits, Fragments, Suffixes, Subscripts, Strategies, Patterns, Elements, Unread, Role, Said, form_in, alternative_form, production_form, symbol_form, repetition_form, atom_form}
use Rattle.rl_reading.proofs.Derivations.{Leaf, Names, Texts, TextPieces, Integers, Locations, Ranges, Pieces, NamedWords, Words, Item, form_at, forms_in, Naming, OfClass, OfRule, naming_of, NamingSaid, named_item, Kind, kind_of, TokenSaid, token_form, Derives, DerivesAll, DerivesOne, items, items_all, items_one, optional_items}

abbrev pub AllKnown : List Item → Type 0
AllKnown derived = first_unknown (forms_in derived) ≡ None

abbrev IsKnown : Item → Type 0
IsKnown item = unknown (form_at item) ≡ None

known_cons : (item : Item) (rest : List Item) → IsKnown item → AllKnown rest → AllKnown (item ∷ rest)
known_cons item rest h k = simp (h, k) refl

neither : (o rest : Option Place) → or_else o rest ≡ None → (o ≡ None) × (rest ≡ None)
neither None rest e = (refl, e)
neither (Some place) rest e = absurd cc

pub known_append : (xs ys : List Item) → AllKnown xs → AllKnown ys → AllKnown (xs ++ ys)
known_append [] ys h k = k
known_append (item ∷ xs) ys h k =
    let both = neither (unknown (form_at item)) (first_unknown (forms_in xs)) h in
    known_cons item (xs ++ ys) both.0 (known_append xs ys both.1 k)

known_token : (number : ℕ) (kind : Kind) (said : TokenSaid kind) → unknown (token_form number kind said) ≡ None
known_token number Names said = refl
known_token number Texts said = refl
known_token number TextPieces said = refl
known_token number Integers said = refl
known_token number Locations said = refl
known_token number Ranges said = refl
known_token number Pieces said = refl
known_token number NamedWords said = refl
known_token number Words said = refl

known_atom : (said : Atom ⊎ CharClass) → unknown (atom_form said) ≡ None
known_atom (inl x) = refl
known_atom (inr x) = refl

known_repetition : (said : Rep ⊎ (Atom ⊎ CharClass)) → unknown (repetition_form said) ≡ None
known_repetition (inl x) = refl
known_repetition (inr x) = known_atom x

known_symbol : (said : Sym ⊎ (Rep ⊎ (Atom ⊎ CharClass))) → unknown (symbol_form said) ≡ None
known_symbol (inl x) = refl
known_symbol (inr x) = known_repetition x

known_production : (said : Prod ⊎ (Sym ⊎ (Rep ⊎ (Atom ⊎ CharClass)))) → unknown (production_form said) ≡ None
known_production (inl x) = refl
known_production (inr x) = known_symbol x

known_alternative : (said : Alt ⊎ (Prod ⊎ (Sym ⊎ (Rep ⊎ (Atom ⊎ CharClass))))) → unknown (alternative_form said) ≡ None
known_alternative (inl x) = refl
known_alternative (inr x) = known_production x

known_said : (role : Role) (said : Said role) → unknown (form_in role said) ≡ None
known_said QualifiedNames said = refl
known_said Declarations said = refl
known_said Variants said = refl
known_said Fields (inl x) = refl
known_said Fields (inr x) = refl
known_said Types said = refl
known_said Levels (inl x) = refl
known_said Levels (inr x) = known_alternative x
known_said Alternatives said = known_alternative said
known_said Marks said = refl
known_said Productions said = known_production said
known_said Symbols said = known_symbol said
known_said Adjoinings (inl x) = refl
known_said Adjoinings (inr x) = refl
known_said Repetitions said = known_repetition said
known_said Atoms said = known_atom said
known_said Classes said = refl
known_said Statements (inl x) = refl
known_said Statements (inr x) = refl
known_said OwnStatements said = refl
known_said Cases said = refl
known_said Handlers said = refl
known_said Finals said = refl
known_said Conditions (inl x) = refl
known_said Conditions (inr (inl x)) = refl
known_said Conditions (inr (inr x)) = refl
known_said Expressions (inl x) = refl
known_said Expressions (inr x) = refl
known_said Visits said = refl
known_said Fragments said = refl
known_said Suffixes said = refl
known_said Subscripts (inl x) = refl
known_said Subscripts (inr (inl x)) = refl
known_said Subscripts (inr (inr x)) = refl
known_said Strategies said = refl
known_said Patterns (inl x) = refl
known_said Patterns (inr x) = refl
known_said Elements (inl x) = refl
known_said Elements (inr (inl x)) = refl
known_said Elements (inr (inr x)) = refl
known_said Unread said = absurd said

known_named : (naming : Naming) (said : NamingSaid naming) → AllKnown (named_item naming said ∷ [])
known_named (OfClass number) said = known_cons (named_item (OfClass number) said) [] (known_token number (kind_of number) said) refl
known_named (OfRule role) said = known_cons (named_item (OfRule role) said) [] (known_said role said) refl

known_each : {A : Type 0} (items : A → List Item) → ((d : A) → AllKnown (items d)) → (ds : List A) → AllKnown (flat_map items ds)
known_each items h [] = refl
known_each items h (d ∷ ds) = known_append (items d) (flat_map items ds) (h d) (known_each items h ds)

known_optional : {A : Type 0} (items : A → List Item) → ((d : A) → AllKnown (items d)) → (o : Option A) → AllKnown (optional_items items o)
known_optional items h None = refl
known_optional items h (Some d) = h d

mutual
  pub known : (expression : Expression) (derived : Derives expression) → AllKnown (items expression derived)
  known (Word text) derived = known_cons (Leaf (token_form (number_of text) (kind_of (number_of text)) derived)) [] (known_token (number_of text) (kind_of (number_of text)) derived) refl
  known (Name name) derived = known_named (naming_of name) derived
  known (Group Seq parts) derived = known_all parts derived
  known (Group Named parts) derived = known_all parts derived
  known (Group Choice parts) derived = known_one parts derived
  known (Group Star parts) derived = known_each (items_all parts) (known_all parts) derived
  known (Group Plus parts) derived = known_append (items_all parts derived.0) (flat_map (items_all parts) derived.1) (known_all parts derived.0) (known_each (items_all parts) (known_all parts) derived.1)
  known (Group Opt parts) derived = known_optional (items_all parts) (known_all parts) derived
  known (Group Not parts) derived = refl
  known (Group (Term number) parts) derived = absurd derived
  known (Group Link parts) derived = absurd derived

  pub known_all : (parts : Parts) (derived : DerivesAll parts) → AllKnown (items_all parts derived)
  known_all none derived = refl
  known_all (more part rest) derived = known_append (items part derived.0) (items_all rest derived.1) (known part derived.0) (known_all rest derived.1)

  pub known_one : (parts : Parts) (derived : DerivesOne parts) → AllKnown (items_one parts derived)
  known_one none derived = absurd derived
  known_one (more part rest) (inl derived) = known part derived
  known_one (more part rest) (inr derived) = known_one rest derived
