-- The text by which a value is printed, and that by which it is shown.
use Rattle.std.specs.Prelude.{ℕ, zero, suc, Bool, true, false, List, [], ◌∷◌, ◌++◌, Option, Some, None, codes}
use Rattle.std.specs.Fmt.{decimal, signed_decimal}
use Rattle.rl_value.specs.declared.shape.Scheme.{Scheme}
use Rattle.rl_value.specs.declared.shape.Scheme.TheVariants.{Cwd, Unknown}
use Rattle.rl_value.specs.Plain.{Plain, bool, int, text, location, tuple, list, set, mapping, node, tree, leaf, Plains, nil, cons, Pairs, no_pairs, pair, plains_text}
use Rattle.rl_print.specs.declared.escape.Escapes.TheVariants.{Raw, Quoted, Backquoted}
use Rattle.rl_print.specs.Escape.{escaped}

abbrev pub truth_text : Bool → List ℕ
truth_text true = codes "true"
truth_text false = codes "false"

abbrev pub scheme_text : Scheme → List ℕ
scheme_text Cwd = codes "|cwd:///"
scheme_text Unknown = codes "|unknown:///"

abbrev pub span_text : Option (ℕ × ℕ) → List ℕ
span_text None = []
span_text (Some span) = codes "(" ++ decimal span.0 ++ codes "," ++ decimal span.1 ++ codes ")"

-- a comma between two: before all but the first
abbrev pub comma_before : ℕ → List ℕ
comma_before zero = []
comma_before (suc place) = codes ","

-- the sort of a syntax tree in parentheses, and a blank
abbrev pub sort_mark : Plain → List ℕ
sort_mark (tree shape ts) = codes "(" ++ shape.sort ++ codes ") "
sort_mark t = []

abbrev mutual
  pub printed_of : Plain → List ℕ
  printed_of (bool b) = truth_text b
  printed_of (int n) = signed_decimal n
  printed_of (text bytes) = codes "\"" ++ escaped Quoted bytes ++ codes "\""
  printed_of (location scheme path span) = scheme_text scheme ++ path ++ codes "|" ++ span_text span
  printed_of (tuple ts) = codes "<" ++ printed_all ts ++ codes ">"
  printed_of (list ts) = codes "[" ++ printed_all ts ++ codes "]"
  printed_of (set ts) = codes "{" ++ printed_all ts ++ codes "}"
  printed_of (mapping ps) = codes "(" ++ printed_entries ps ++ codes ")"
  printed_of (node name ts) = name ++ codes "(" ++ printed_all ts ++ codes ")"
  printed_of (tree shape ts) = sort_mark (tree shape ts) ++ codes "`" ++ escaped Backquoted (plains_text ts) ++ codes "`"
  printed_of (leaf bytes) = bytes

  -- with a comma between two
  pub printed_all : Plains → List ℕ
  printed_all nil = []
  printed_all (cons t ts) = printed_of t ++ printed_more ts

  -- each behind a comma
  pub printed_more : Plains → List ℕ
  printed_more nil = []
  printed_more (cons t ts) = codes "," ++ printed_of t ++ printed_more ts

  -- keys with their values, with a comma between two
  pub printed_entries : Pairs → List ℕ
  printed_entries no_pairs = []
  printed_entries (pair k v ps) = printed_of k ++ codes ":" ++ printed_of v ++ printed_more_entries ps

  pub printed_more_entries : Pairs → List ℕ
  printed_more_entries no_pairs = []
  printed_more_entries (pair k v ps) = codes "," ++ printed_of k ++ codes ":" ++ printed_of v ++ printed_more_entries ps

-- a text and a syntax tree are their text, and all else is as printed
abbrev pub shown_of : Plain → List ℕ
shown_of (text bytes) = bytes
shown_of (tree shape ts) = plains_text ts
shown_of t = printed_of t
