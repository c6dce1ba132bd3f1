-- What is read from a value.
use Rattle.std.specs.Prelude.{ℕ, ℤ, Bool, List, [], Option, Some, None}
use Rattle.rl_value.specs.declared.kind.Kind.{Kind}
use Rattle.rl_value.specs.declared.kind.Kind.TheVariants as k
use Rattle.rl_value.specs.declared.shape.Scheme.{Scheme}
use Rattle.rl_value.specs.Plain.{Shape, Plain, bool, int, text, location, tuple, list, set, mapping, node, tree, leaf, items_of}

abbrev pub kind_of : Plain → Kind
kind_of (bool b) = k.Bool
kind_of (int n) = k.Int
kind_of (text bytes) = k.Text
kind_of (location scheme path span) = k.Location
kind_of (tuple ts) = k.Tuple
kind_of (list ts) = k.List
kind_of (set ts) = k.Set
kind_of (mapping ps) = k.Map
kind_of (node name ts) = k.Node
kind_of (tree shape ts) = k.Tree
kind_of (leaf bytes) = k.Leaf

abbrev pub as_bool : Plain → Option Bool
as_bool (bool b) = Some b
as_bool t = None

abbrev pub as_int : Plain → Option ℤ
as_int (int n) = Some n
as_int t = None

abbrev pub as_text : Plain → Option (List ℕ)
as_text (text bytes) = Some bytes
as_text (leaf bytes) = Some bytes
as_text t = None

abbrev pub name_of : Plain → Option (List ℕ)
name_of (node name ts) = Some name
name_of t = None

abbrev pub shape_in : Plain → Option Shape
shape_in (tree shape ts) = Some shape
shape_in t = None

abbrev pub scheme_of : Plain → Option Scheme
scheme_of (location scheme path span) = Some scheme
scheme_of t = None

abbrev pub path_of : Plain → Option (List ℕ)
path_of (location scheme path span) = Some path
path_of t = None

abbrev pub span_of : Plain → Option (ℕ × ℕ)
span_of (location scheme path span) = span
span_of t = None

-- the parts of a syntax tree as they stand
abbrev pub parts_of : Plain → List Plain
parts_of (tree shape ts) = items_of ts
parts_of t = []

-- the bytes of a leaf, and none of another value
abbrev pub leaf_bytes : Plain → List ℕ
leaf_bytes (leaf bytes) = bytes
leaf_bytes t = []
