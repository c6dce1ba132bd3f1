-- The plain tree that a value is seen as, and what holds of each value.
use Rattle.std.specs.Prelude.{◌≡◌, ℕ, map, All}
use Rattle.std.specs.Rc.{rc_str_bytes}
use Rattle.rl_value.specs.Order.{plain_cmp}
use Rattle.rl_value.specs.Kids.{kid_ends}
use Rattle.rl_value.specs.Rising.{Rises}
use Rattle.rl_value.specs.Plain.{Shape, Plain, bool, int, text, location, tuple, list, set, mapping, node, tree, leaf, Plains, Pairs, plains_of, pairs_of, plain_size, plain_height, Fits, IsPart}
use Rattle.rl_value.specs.declared.value.Form.{Form}
use Rattle.rl_value.specs.declared.value.Form.TheVariants as f
use Rattle.rl_value.specs.declared.value.Parts.{Parts}
use Rattle.rl_value.specs.declared.value.Place.{Place}
use Rattle.rl_value.specs.declared.value.Constructor.{Constructor}
use Rattle.rl_value.specs.declared.value.Branch.{Branch}
use Rattle.rl_value.specs.declared.value.Entries.{Entries}
use Rattle.rl_value.specs.declared.value.Entry.{Entry}
use Rattle.rl_value.specs.declared.shape.Shape as s

abbrev pub shape_of : s.Shape → Shape
shape_of a = record { role = a.role; sort = rc_str_bytes a.sort; label = rc_str_bytes a.label; rule = a.rule }

abbrev pub location_of : Place → Plain
location_of a = location a.scheme (rc_str_bytes a.path) a.span

abbrev pub plains_in : Parts → Plains
plains_in parts = plains_of parts.items.items

abbrev pub pair_of : Entry → Plain × Plain
pair_of e = (e.key, e.value)

abbrev pub pairs_in : Entries → Pairs
pairs_in entries = pairs_of (map pair_of entries.pairs.items)

abbrev pub node_of : Constructor → Plain
node_of a = node (rc_str_bytes a.name) (plains_in a.fields)

abbrev pub tree_of : Branch → Plain
tree_of a = tree (shape_of a.shape) (plains_in a.parts)

abbrev pub plain_of : Form → Plain
plain_of (f.Bool b) = bool b
plain_of (f.Int n) = int n
plain_of (f.Text t) = text (rc_str_bytes t)
plain_of (f.Location a) = location_of a.value
plain_of (f.Tuple parts) = tuple (plains_in parts.value)
plain_of (f.List parts) = list (plains_in parts.value)
plain_of (f.Set parts) = set (plains_in parts.value)
plain_of (f.Map entries) = mapping (pairs_in entries.value)
plain_of (f.Node a) = node_of a.value
plain_of (f.Tree a) = tree_of a.value
plain_of (f.Leaf t) = leaf (rc_str_bytes t)

-- the size and the height that stand beside the parts are those of the whole
pub record IsMeasured (t : Plain) (size height : ℕ) : Type 0 where
  pub size_is : size ≡ plain_size t
  pub height_is : height ≡ plain_height t
  pub fits : Fits t

abbrev pub IsRight : Form → Type 0
IsRight (f.Bool b) = Unit {0}
IsRight (f.Int n) = Unit {0}
IsRight (f.Text t) = Fits (text (rc_str_bytes t))
IsRight (f.Location a) = Fits (location_of a.value)
IsRight (f.Tuple parts) = IsMeasured (tuple (plains_in parts.value)) parts.value.size parts.value.height
IsRight (f.List parts) = IsMeasured (list (plains_in parts.value)) parts.value.size parts.value.height
IsRight (f.Set parts) = IsMeasured (set (plains_in parts.value)) parts.value.size parts.value.height × Rises plain_cmp parts.value.items.items
IsRight (f.Map entries) =
    IsMeasured (mapping (pairs_in entries.value)) entries.value.size entries.value.height
    × Rises plain_cmp (map (λ e. e.key) entries.value.pairs.items)
IsRight (f.Node a) = IsMeasured (node_of a.value) a.value.fields.size a.value.fields.height
IsRight (f.Tree a) =
    IsMeasured (tree_of a.value) a.value.parts.size a.value.parts.height
    × All IsPart a.value.parts.items.items
    × (a.value.kid_ends.items ≡ kid_ends 0 a.value.parts.items.items)
IsRight (f.Leaf t) = Fits (leaf (rc_str_bytes t))
