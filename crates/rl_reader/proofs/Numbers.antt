-- A module that is read has the number that it is given.
use Rattle.std.proofs.Common.{◌≡◌, ℕ, Bool, true, false, cond, List, Option, Some, None, Result, Ok, Err, subst, refl}
use Rattle.std.specs.Prelude.{slice_get}
use Rattle.std.specs.Str.{bytes_eq}
use Rattle.rl_base.specs.Decode.{text_of}
use Rattle.rl_base.specs.declared.place.Place.{Place}
use Rattle.rl_tokens.specs.Scan.{tokens_in}
use Rattle.rl_tokens.specs.declared.fault.TokenFault.{TokenFault}
use Rattle.rl_phrase.specs.Tree.{Tree, Trees, Node, none, more}
use Rattle.rl_phrase.specs.Tree as tree
use Rattle.rl_phrase.specs.Phr.{Outcome, Fails, Gives, outcome_of}
use Rattle.rl_phrase.specs.Depth.{first_below}
use Rattle.rl_syntax.specs.declared.module.Module.{Module}
use Rattle.rl_phrase_table.specs.declared.rules.TheConstants.{MODULE, RULES}
use Rattle.rl_forms.specs.declared.form.Form.{Form}
use Rattle.rl_forms.specs.declared.form.Form.TheVariants as f
use Rattle.rl_reader.specs.declared.source.Source.{Source}
use Rattle.rl_reader.specs.Node.{first_unknown}
use Rattle.rl_reader.specs.Phrase.{forms_of}
use Rattle.rl_reader.specs.Source.{place_at, place_within}
use Rattle.rl_reader.specs.Read.{Reading, Read, Refused, module_of, of_unknown, of_header, of_forms, of_tree, of_depth, of_trees, of_outcome, of_source, of_fault, first_fault, of_text, of_characters, read_of}

-- the module has this number, if there is one
abbrev HasNumber : ℕ → Reading → Type 0
HasNumber number (Read it) = it.place.«module» ≡ number
HasNumber number (Refused place code) = Unit {0}

unknown : (number : ℕ) (first : Option Place) (it : Module) → it.place.«module» ≡ number → HasNumber number (of_unknown first it)
unknown number (Some place) it h = tt
unknown number None it h = h

named : (number : ℕ) (same : Bool) (reading : Reading) (at : Place) → HasNumber number reading → HasNumber number (cond same reading (Refused at 11))
named number true reading at h = h
named number false reading at h = tt

header : (number : ℕ) (place : Place) (path name : List ℕ) (forms : List Form) (form : Option Form) → place.«module» ≡ number → HasNumber number (of_header place path name forms form)
header number place path name forms (Some (f.QualifiedName at found)) h = named number (bytes_eq found name) _ at (unknown number (first_unknown forms) (module_of place path name forms) h)
header number place path name forms _ h = tt

parts : (number : ℕ) (place : Place) (path name : List ℕ) (forms : List Form) → place.«module» ≡ number → HasNumber number (of_forms place path name forms)
unfolding of_forms
parts number place path name forms h = header number place path name forms (slice_get forms 1) h

place-number : (source : Source) (token : ℕ) → (place_at source token).«module» ≡ source.number
unfolding place_at place_within
place-number source token = refl

whole : (source : Source) (path name : List ℕ) (phrase : Tree) → HasNumber source.number (of_tree source path name phrase)
whole source path name (tree.Token token) = tt
whole source path name (Node rule from to trees) = parts source.number (place_at source from) path name (forms_of source trees) (place-number source from)

depth : (source : Source) (path name : List ℕ) (phrase : Tree) (deep : Option ℕ) → HasNumber source.number (of_depth source path name phrase deep)
depth source path name phrase (Some token) = tt
depth source path name phrase None = whole source path name phrase

trees : (source : Source) (path name : List ℕ) (given : Trees) → HasNumber source.number (of_trees source path name given)
trees source path name (more phrase none) = depth source path name phrase (first_below phrase 1000)
trees source path name _ = tt

outcome : (source : Source) (path name : List ℕ) (given : Outcome) → HasNumber source.number (of_outcome source path name given)
unfolding of_outcome
outcome source path name (Fails token) = tt
outcome source path name (Gives given next far) = trees source path name given

source-number : (source : Source) (path name : List ℕ) → HasNumber source.number (of_source source path name)
unfolding of_source
source-number source path name = outcome source path name (outcome_of source.tokens RULES.now MODULE)

fault : (number : ℕ) (path name text : List ℕ) (first : Option TokenFault) → HasNumber number (of_fault first number path name text (tokens_in text).tokens)
fault number path name text (Some found) = tt
fault number path name text None = source-number (record { number = number; text = text; tokens = (tokens_in text).tokens }) path name

text-number : (number : ℕ) (path name text : List ℕ) → HasNumber number (of_text number path name text)
unfolding of_text
text-number number path name text = fault number path name text (first_fault text)

characters : (number : ℕ) (path name bytes : List ℕ) (text : Result (List ℕ) ℕ) → HasNumber number (of_characters number path name bytes text)
characters number path name bytes (Ok text) = text-number number path name text
characters number path name bytes (Err offset) = tt

has_number : (number : ℕ) (path name bytes : List ℕ) → HasNumber number (read_of number path name bytes)
unfolding read_of
has_number number path name bytes = characters number path name bytes (text_of bytes)

pub read_of-number : (number : ℕ) (path name bytes : List ℕ) (it : Module) → read_of number path name bytes ≡ Read it → it.place.«module» ≡ number
read_of-number number path name bytes it h = let P : Reading → Type 0 = HasNumber number in subst P h (has_number number path name bytes)
