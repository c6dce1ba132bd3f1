-- Library functions: those that print, read and parse, and all others by their own definition.
use Rattle.std.specs.Prelude.{ℕ, ◌^◌, ◌||◌, nat_eq, nat_le, Bool, true, false, if◌then◌else◌, List, [], ◌∷◌, ◌++◌, length, Option, Some, None, Result, Ok, Err, codes, bytes_eq, find, option_map}
use Rattle.std.specs.List.{list_any}
use Rattle.rl_base.specs.Decode.{text_of}
use Rattle.rl_exception.specs.Exceptions.{path_not_found, io_exception}
use Rattle.rl_library.specs.Library.{library_of}
use Rattle.rl_library.specs.declared.functions.Lib.{Lib}
use Rattle.rl_library.specs.declared.functions.Lib.TheVariants as lib
use Rattle.rl_print.specs.Printed.{shown_of}
use Rattle.rl_value.specs.declared.shape.Scheme.TheVariants.{Cwd}
use Rattle.rl_value.specs.Plain.{Plain, text, location, tree}
use Rattle.rl_rules.specs.Literals.{literal}
use Rattle.rl_rules.specs.Parts.{raise}
use Rattle.rl_rules.specs.Program.{Program}
use Rattle.rl_rules.specs.Rule.{Rule, Print, Read, done, give_answer, wrong_operand}
use Rattle.rl_rules.specs.State.{State}

-- `#S` or `#start[S]` among the arguments
pub data SortArgument : Type 0 where
  no_sort : SortArgument
  sort : List ℕ → SortArgument
  start_sort : List ℕ → SortArgument

-- Printing.

abbrev pub println : Plain → State → Rule
println v s = Print (shown_of v ++ 10 ∷ []) (done s)

abbrev pub print : Plain → State → Rule
print v s = Print (shown_of v) (done s)

-- Reading.

-- there is always a first one
abbrev pub add_to_first : ℕ → List (List ℕ) → List (List ℕ)
add_to_first c [] = (c ∷ []) ∷ []
add_to_first c (segment ∷ segments) = (c ∷ segment) ∷ segments

-- the segments of a path, which slashes part
abbrev pub segments_of : List ℕ → List (List ℕ)
segments_of [] = [] ∷ []
segments_of (c ∷ cs) = if nat_eq c 47 then [] ∷ segments_of cs else add_to_first c (segments_of cs)

abbrev pub is_no_name : List ℕ → Bool
is_no_name segment = bytes_eq segment [] || bytes_eq segment (codes ".") || bytes_eq segment (codes "..")

abbrev pub text_or_fault : List ℕ → Result (List ℕ) ℕ → State → Rule
text_or_fault bytes (Ok characters) s = literal (text bytes) s
text_or_fault bytes (Err count) s = raise (io_exception (codes "not UTF-8")) s

-- after a read of the place: the text of the file, if there is one
abbrev pub text_of_file : Plain → State → Option (List ℕ) → Rule
text_of_file place s None = raise (path_not_found place) s
text_of_file place s (Some bytes) =
    if nat_le (length bytes) (2 ^ 24) then text_or_fault bytes (text_of bytes) s else raise (io_exception (codes "file too long")) s

-- a path with a name in each segment is read, and no other
abbrev pub read_path : List ℕ → Plain → State → Rule
read_path path place s = if list_any is_no_name (segments_of path) then raise (path_not_found place) s else Read path (text_of_file place s)

-- a location in the working directory, and no part of a file
abbrev pub read_file : Plain → State → Rule
read_file (location Cwd path None) s = read_path path (location Cwd path None) s
read_file (location scheme path span) s = raise (path_not_found (location scheme path span)) s
read_file v s = wrong_operand s

-- Parsing: what the grammar gives.

abbrev pub parse : Program → SortArgument → Plain → State → Rule
parse p (sort name) (text bytes) s = give_answer (p.grammars.parsed name false bytes) s
parse p (start_sort name) (text bytes) s = give_answer (p.grammars.parsed name true bytes) s
parse p one v s = wrong_operand s

abbrev pub implode : Program → SortArgument → Plain → State → Rule
implode p (sort name) (tree shape ts) s = give_answer (p.grammars.imploded name (tree shape ts)) s
implode p one v s = wrong_operand s

-- By names. Another number of arguments, or a name that no function has, is none that a program without faults uses.

abbrev pub function_names : List (List ℕ × Lib)
function_names =
    (codes "size", lib.Size)
    ∷ (codes "isEmpty", lib.IsEmpty)
    ∷ (codes "head", lib.Head)
    ∷ (codes "last", lib.Last)
    ∷ (codes "tail", lib.Tail)
    ∷ (codes "reverse", lib.Reverse)
    ∷ (codes "dup", lib.Dup)
    ∷ (codes "take", lib.Take)
    ∷ (codes "drop", lib.Drop)
    ∷ (codes "indexOf", lib.IndexOf)
    ∷ (codes "sort", lib.Sort)
    ∷ (codes "toSet", lib.ToSet)
    ∷ (codes "toList", lib.ToList)
    ∷ (codes "max", lib.Max)
    ∷ (codes "min", lib.Min)
    ∷ (codes "sum", lib.Sum)
    ∷ (codes "intercalate", lib.Intercalate)
    ∷ (codes "domain", lib.Domain)
    ∷ (codes "range", lib.Range)
    ∷ (codes "delete", lib.Delete)
    ∷ (codes "carrier", lib.Carrier)
    ∷ (codes "invert", lib.Invert)
    ∷ (codes "domainR", lib.DomainR)
    ∷ (codes "domainX", lib.DomainX)
    ∷ (codes "rangeR", lib.RangeR)
    ∷ (codes "rangeX", lib.RangeX)
    ∷ (codes "contains", lib.Contains)
    ∷ (codes "startsWith", lib.StartsWith)
    ∷ (codes "endsWith", lib.EndsWith)
    ∷ (codes "split", lib.Split)
    ∷ (codes "replaceAll", lib.ReplaceAll)
    ∷ (codes "trim", lib.Trim)
    ∷ (codes "substring", lib.Substring)
    ∷ (codes "toInt", lib.ToInt)
    ∷ (codes "spans", lib.Spans)
    ∷ (codes "unparse", lib.Unparse)
    ∷ []

abbrev pub function_named : List ℕ → Option Lib
function_named name = option_map (λ known. known.1) (find (λ known. bytes_eq name known.0) function_names)

abbrev pub by_definition : Option Lib → List Plain → State → Rule
by_definition None vs s = wrong_operand s
by_definition (Some function) vs s = give_answer (library_of function vs) s

abbrev pub on_one : (Plain → State → Rule) → List Plain → State → Rule
on_one rule (v ∷ []) s = rule v s
on_one rule vs s = wrong_operand s

abbrev pub library_call : Program → List ℕ → SortArgument → List Plain → State → Rule
library_call p name one vs s =
    if bytes_eq name (codes "println") then on_one println vs s
    else if bytes_eq name (codes "print") then on_one print vs s
    else if bytes_eq name (codes "readFile") then on_one read_file vs s
    else if bytes_eq name (codes "parse") then on_one (parse p one) vs s
    else if bytes_eq name (codes "implode") then on_one (implode p one) vs s
    else by_definition (function_named name) vs s
