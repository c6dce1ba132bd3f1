-- What the bytes of a module's file are.
use Rattle.std.specs.Prelude.{◌≡◌, ℕ, List, Option, Some, None, Result, Ok, Err, if◌then◌else◌, length, slice_get, take}
use Rattle.std.specs.List.{filter_map}
use Rattle.std.specs.Option.{option_map}
use Rattle.std.specs.Str.{chars, bytes_eq}
use Rattle.std.specs.Str.Lossy.{utf8_valid_len}
use Rattle.rl_base.specs.Decode.{text_of}
use Rattle.rl_base.specs.declared.place.Place.{Place}
use Rattle.rl_tokens.specs.Token.{Token}
use Rattle.rl_tokens.specs.Fault.{leftmost, told as fault_told}
use Rattle.rl_tokens.specs.Scan.{tokens_in}
use Rattle.rl_tokens.specs.declared.fault.TokenFault.{TokenFault}
use Rattle.rl_tokens.specs.declared.fault.TokenFault.TheVariants as token_fault
use Rattle.rl_phrase.specs.Tree.{Tree, Trees, Node, none, more}
use Rattle.rl_phrase.specs.Tree as tree
use Rattle.rl_phrase.specs.Phr.{Outcome, Fails, Gives, outcome_of}
use Rattle.rl_phrase.specs.Depth.{first_below}
use Rattle.rl_phrase.specs.declared.phrase.PhraseFault.{PhraseFault}
use Rattle.rl_phrase.specs.declared.phrase.PhraseFault.TheVariants as phrase_fault
use Rattle.rl_syntax.specs.declared.module.Module.{Module}
use Rattle.rl_phrase_table.specs.declared.rules.TheConstants.{MODULE, RULES}
use Rattle.rl_reader.specs.declared.read.ReadFault.{ReadFault}
use Rattle.rl_reader.specs.declared.read.ReadFault.TheVariants as fault
use Rattle.rl_reader.specs.declared.source.Source.{Source}
use Rattle.rl_forms.specs.declared.form.Form.{Form}
use Rattle.rl_forms.specs.declared.form.Form.TheVariants as f
use Rattle.rl_forms.specs.Declarations.{as_declaration}
use Rattle.rl_reader.specs.Source.{place_at, place_within}
use Rattle.rl_reader.specs.Node.{first_unknown}
use Rattle.rl_reader.specs.Phrase.{forms_of}

-- a module, or the first fault
pub data Reading : Type 0 where
  Read : (modul : Module) → Reading
  Refused : (place : Place) (code : ℕ) → Reading

abbrev pub module_of : Place → (path name : List ℕ) → List Form → Module
module_of place path name forms = record { place = place; path = path; name = name; declarations = filter_map as_declaration forms }

-- M12, or the module
abbrev pub of_unknown : Option Place → Module → Reading
of_unknown (Some first) modul = Refused first 12
of_unknown None modul = Read modul

-- M11, or what follows
abbrev pub of_header : Place → (path name : List ℕ) → List Form → Option Form → Reading
of_header place path name forms (Some (f.QualifiedName at found)) =
    if bytes_eq found name then of_unknown (first_unknown forms) (module_of place path name forms)
    else Refused at 11
of_header place path name forms _ = Refused place 12

-- the name of the module is behind its first word
unfoldable pub of_forms : Place → (path name : List ℕ) → List Form → Reading
of_forms place path name forms = of_header place path name forms (slice_get forms 1)

abbrev pub of_tree : Source → (path name : List ℕ) → Tree → Reading
of_tree source path name (tree.Token token) = Refused (place_at source token) 12
of_tree source path name (Node rule from to parts) = of_forms (place_at source from) path name (forms_of source parts)

-- M10, or what follows
abbrev pub of_depth : Source → (path name : List ℕ) → Tree → Option ℕ → Reading
of_depth source path name tree (Some token) = Refused (place_at source token) 10
of_depth source path name tree None = of_tree source path name tree

abbrev pub of_trees : Source → (path name : List ℕ) → Trees → Reading
of_trees source path name (more tree none) = of_depth source path name tree (first_below tree 1000)
of_trees source path name _ = Refused (place_at source 0) 12

-- M9, or what follows
unfoldable pub of_outcome : Source → (path name : List ℕ) → Outcome → Reading
of_outcome source path name (Fails token) = Refused (place_at source token) 9
of_outcome source path name (Gives trees next far) = of_trees source path name trees

unfoldable pub of_source : Source → (path name : List ℕ) → Reading
of_source source path name = of_outcome source path name (outcome_of source.tokens RULES.now MODULE)

abbrev pub offset_of : TokenFault → ℕ
offset_of (token_fault.BadCharacter offset) = offset
offset_of (token_fault.OpenString offset) = offset
offset_of (token_fault.OpenComment offset) = offset
offset_of (token_fault.WideNumber offset) = offset
offset_of (token_fault.BadEscape offset) = offset
offset_of token_fault.OutOfMemory = 0

-- want of memory is no fault of a text
abbrev pub code_of : TokenFault → ℕ
code_of (token_fault.BadCharacter offset) = 4
code_of (token_fault.OpenString offset) = 5
code_of (token_fault.OpenComment offset) = 6
code_of (token_fault.WideNumber offset) = 7
code_of (token_fault.BadEscape offset) = 8
code_of token_fault.OutOfMemory = 0

-- the one of M4 to M8, or what follows
abbrev pub of_fault : Option TokenFault → (number : ℕ) (path name text : List ℕ) → List Token → Reading
of_fault (Some found) number path name text tokens = Refused (place_within text number (offset_of found)) (code_of found)
of_fault None number path name text tokens = of_source (record { number = number; text = text; tokens = tokens }) path name

-- the leftmost fault of the tokens
unfoldable pub first_fault : List ℕ → Option TokenFault
first_fault text = option_map fault_told (leftmost (tokens_in text).faults)

unfoldable pub of_text : (number : ℕ) (path name text : List ℕ) → Reading
of_text number path name text = of_fault (first_fault text) number path name text (tokens_in text).tokens

-- the characters of the longest front that is UTF-8
abbrev pub valid_front : List ℕ → List ℕ
valid_front bytes = chars (take (utf8_valid_len bytes) bytes)

-- M3, or what follows
abbrev pub of_characters : (number : ℕ) (path name bytes : List ℕ) → Result (List ℕ) ℕ → Reading
of_characters number path name bytes (Ok text) = of_text number path name text
of_characters number path name bytes (Err offset) = Refused (place_within (valid_front bytes) number offset) 3

-- what reading gives: the module of this number and name whose file has this path and these bytes
unfoldable pub read_of : (number : ℕ) (path name bytes : List ℕ) → Reading
read_of number path name bytes = of_characters number path name bytes (text_of bytes)

-- the answer is that one, unless memory is wanting
abbrev pub Answers : Reading → Result Module ReadFault → Type 0
Answers reading (Ok modul) = reading ≡ Read modul
Answers reading (Err (fault.Fault place code)) = reading ≡ Refused place code
Answers reading (Err fault.OutOfMemory) = Unit {0}

abbrev pub IsFaultOrMemory : Place → ℕ → ReadFault → Type 0
IsFaultOrMemory place code fault.OutOfMemory = Unit {0}
IsFaultOrMemory place code (fault.Fault at found) = (at ≡ place) × (found ≡ code)

-- how a fault of a token is answered
abbrev pub as_fault : List ℕ → ℕ → TokenFault → ReadFault
as_fault text number token_fault.OutOfMemory = fault.OutOfMemory
as_fault text number (token_fault.BadCharacter offset) = fault.Fault (place_within text number offset) 4
as_fault text number (token_fault.OpenString offset) = fault.Fault (place_within text number offset) 5
as_fault text number (token_fault.OpenComment offset) = fault.Fault (place_within text number offset) 6
as_fault text number (token_fault.WideNumber offset) = fault.Fault (place_within text number offset) 7
as_fault text number (token_fault.BadEscape offset) = fault.Fault (place_within text number offset) 8

-- how it is answered that tokens are no phrase
abbrev pub as_phrase_fault : Source → PhraseFault → ReadFault
as_phrase_fault source phrase_fault.OutOfMemory = fault.OutOfMemory
as_phrase_fault source (phrase_fault.Stopped token) = fault.Fault (place_at source token) 9
as_phrase_fault source (phrase_fault.TooDeep token) = fault.Fault (place_at source token) 10
