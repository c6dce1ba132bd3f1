-- Reading a file never finds an unknown phrase.
use Rattle.std.specs.Prelude.{◌≡◌, ℕ, zero, suc, ◌==◌, Bool, true, false, List, [], Option, Some, None, Result, Ok, Err, refl, codes, slice_get, length, if◌then◌else◌}
use Rattle.std.proofs.Common.{ap, sym, subst, ◌∙◌}
use Rattle.std.specs.Str.{bytes_eq}
use Rattle.rl_base.specs.Decode.{text_of}
use Rattle.rl_base.specs.declared.place.Place.{Place}
use Rattle.rl_tokens.specs.Token as lexed
use Rattle.rl_tokens.specs.Scan.{tokens_in}
use Rattle.rl_tokens.specs.declared.fault.TokenFault.{TokenFault}
use Rattle.rl_tokens.specs.declared.fault.TokenFault.TheVariants as token_fault
use Rattle.rl_tokens.proofs.KindLemmas.{kinds_are_of_tokens}
use Rattle.rl_phrase.specs.Tree.{Tree, Trees, Token, Node, only}
use Rattle.rl_phrase.specs.Tree as tree
use Rattle.rl_phrase.specs.Phr.{Outcome, Fails, Gives, phr, told, outcome_of, levels, node_of}
use Rattle.rl_phrase.specs.Depth.{first_below}
use Rattle.rl_phrase_table.specs.Expression.{Parts}
use Rattle.rl_phrase_table.specs.Grammar.{modules}
use Rattle.rl_phrase_table.specs.declared.rules.TheConstants as rule
use Rattle.rl_forms.specs.declared.form.Form.{Form}
use Rattle.rl_forms.specs.declared.form.Form.TheVariants as f
use Rattle.rl_reader.specs.Node.{first_unknown}
use Rattle.rl_reader.specs.Read.{Reading, Read, Refused, module_of, of_unknown, of_header, of_forms, of_tree, of_depth, of_trees, of_outcome, of_source, code_of, of_fault, first_fault, of_text, of_characters, read_of}
use Rattle.rl_reading.proofs.Derivations.{forms_in, items_all, DerivesAll}
use Rattle.rl_reading.proofs.Facts.{says_in}
use Rattle.rl_reading.proofs.KnownItems.{known_all}
use Rattle.rl_reading.proofs.Reading.{items_of, forms_in_items, tree_forms, place_of, ReadsAll, all_read, rule_reads}
use Rattle.rl_reading.proofs.Rules.{rules, starts, is_rule, fact, inside}

-- it is no M12
abbrev Known : Reading → Type 0
Known (Read modul) = Unit {0}
Known (Refused place code) = (code == 12) ≡ false

abbrev ModuleParts : Parts
ModuleParts = inside (says_in modules (codes "Module"))

header_known : (place : Place) (path name : List ℕ) (forms : List Form) (at : Place) (found : List ℕ) → first_unknown forms ≡ None
    → Known (of_header place path name forms (Some (f.QualifiedName at found)))
header_known place path name forms at found none = by (bytes_eq found name)
  where
    by : (b : Bool) → Known (if b then of_unknown (first_unknown forms) (module_of place path name forms) else Refused at 11)
    by true = subst (λ o. Known (of_unknown o (module_of place path name forms))) (sym none) tt
    by false = refl

module _ (number : ℕ) (text : List ℕ) where
  abbrev tokens : List lexed.Token
  tokens = (tokens_in text).tokens

  -- the parts of a module
  parts_known : (path name : List ℕ) (place : Place) (forms : List Form) (derived : DerivesAll ModuleParts) → forms ≡ forms_in (items_all ModuleParts derived) → Known (of_forms place path name forms)
  unfolding of_forms
  parts_known path name place forms (word, (qualified, rest)) e =
      let none : first_unknown forms ≡ None = ap first_unknown e ∙ known_all ModuleParts (word, (qualified, rest)) in
      let second : slice_get forms 1 ≡ Some (f.QualifiedName qualified.0 qualified.1) = ap (λ xs. slice_get xs 1) e in
      subst (λ o. Known (of_header place path name forms o)) (sym second) (header_known place path name forms qualified.0 qualified.1 none)

  -- a module has more than one part, so that its node is its own
  node_known : (path name : List ℕ) (to : ℕ) (trees : Trees) → ReadsAll number text tokens ModuleParts trees
      → Known (of_tree (record { number = number; text = text; tokens = tokens }) path name (node_of rule.MODULE 0 to trees))
  node_known path name to tree.none read = absurd (no_parts read.0 read.1)
    where
      no_parts : (derived : DerivesAll ModuleParts) → [] ≡ items_all ModuleParts derived → ⊥
      no_parts (word, rest) e = absurd cc
  node_known path name to (tree.more one tree.none) read = absurd (one_part read.0 read.1)
    where
      one_part : (derived : DerivesAll ModuleParts) → items_of number text tokens (tree.more one tree.none) ≡ items_all ModuleParts derived → ⊥
      one_part (word, (qualified, rest)) e = absurd cc
  node_known path name to (tree.more (Token t) (tree.more u us)) read =
      parts_known path name (place_of number text tokens 0) (tree_forms number text tokens (tree.more (Token t) (tree.more u us))) read.0
      (sym (forms_in_items number text tokens (tree.more (Token t) (tree.more u us))) ∙ ap forms_in read.1)
  node_known path name to (tree.more (Node r a b ps) (tree.more u us)) read =
      parts_known path name (place_of number text tokens 0) (tree_forms number text tokens (tree.more (Node r a b ps) (tree.more u us))) read.0
      (sym (forms_in_items number text tokens (tree.more (Node r a b ps) (tree.more u us))) ∙ ap forms_in read.1)

  tree_known : (path name : List ℕ) (it : Tree) → Known (of_tree (record { number = number; text = text; tokens = tokens }) path name it)
      → Known (of_trees (record { number = number; text = text; tokens = tokens }) path name (only it))
  tree_known path name it known = by (first_below it 1000)
    where
      by : (o : Option ℕ) → Known (of_depth (record { number = number; text = text; tokens = tokens }) path name it o)
      by (Some token) = refl
      by None = known

  -- what the rule of modules gives
  module_read : (n : ℕ) (trees : Trees) (next far : ℕ) → phr tokens rules n rule.MODULE 0 ≡ Some (Gives trees next far)
      → (to : ℕ) × (inside_trees : Trees) × (trees ≡ only (node_of rule.MODULE 0 to inside_trees)) × ReadsAll number text tokens ModuleParts inside_trees
  module_read zero trees next far e = absurd cc
  module_read (suc n) trees next far e =
      let below = all_read number text tokens (kinds_are_of_tokens text) rules starts is_rule fact n in
      let found = rule_reads number text tokens (kinds_are_of_tokens text) rules starts is_rule fact n below.0 below.1 rule.MODULE ModuleParts refl refl 0 trees next far e in
      (found.1, found.0, found.2, found.3)

  outcome_known : (path name : List ℕ) (n : ℕ) (o : Option Outcome) → phr tokens rules n rule.MODULE 0 ≡ o
      → Known (of_outcome (record { number = number; text = text; tokens = tokens }) path name (told o))
  unfolding of_outcome
  outcome_known path name n None e = refl
  outcome_known path name n (Some (Fails far)) e = refl
  outcome_known path name n (Some (Gives trees next far)) e =
      let found = module_read n trees next far e in
      subst (λ ts. Known (of_trees (record { number = number; text = text; tokens = tokens }) path name ts)) (sym found.2)
      (tree_known path name (node_of rule.MODULE 0 found.0 found.1) (node_known path name found.0 found.1 found.3))

  source_known : (path name : List ℕ) → Known (of_source (record { number = number; text = text; tokens = tokens }) path name)
  unfolding of_source outcome_of
  source_known path name = outcome_known path name (levels (length rules) (length tokens)) (phr tokens rules (levels (length rules) (length tokens)) rule.MODULE 0) refl

  fault_known : (found : TokenFault) → (code_of found == 12) ≡ false
  fault_known (token_fault.BadCharacter offset) = refl
  fault_known (token_fault.OpenString offset) = refl
  fault_known (token_fault.OpenComment offset) = refl
  fault_known (token_fault.WideNumber offset) = refl
  fault_known (token_fault.BadEscape offset) = refl
  fault_known token_fault.OutOfMemory = refl

  text_known : (path name : List ℕ) → Known (of_text number path name text)
  unfolding of_text
  text_known path name = by (first_fault text)
    where
      by : (o : Option TokenFault) → Known (of_fault o number path name text tokens)
      by (Some found) = fault_known found
      by None = source_known path name

read_known : (number : ℕ) (path name bytes : List ℕ) → Known (read_of number path name bytes)
unfolding read_of
read_known number path name bytes = by (text_of bytes)
  where
    by : (r : Result (List ℕ) ℕ) → Known (of_characters number path name bytes r)
    by (Ok text) = text_known number text path name
    by (Err offset) = refl

pub never_unknown : (number : ℕ) (path name bytes : List ℕ) (place : Place) → read_of number path name bytes ≡ Refused place 12 → ⊥
never_unknown number path name bytes place e =
    let known : Known (Refused place 12) = subst Known e (read_known number path name bytes) in
    absurd cc
