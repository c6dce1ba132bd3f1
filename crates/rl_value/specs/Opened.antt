-- One level of a value, and what holds of the values in it.
use Rattle.std.specs.Prelude.{map}
use Rattle.rl_value.specs.Plain.{Plain, bool, int, text, location, tuple, list, set, mapping, node, tree, leaf, plains_of, items_of, pairs_of, entries_of}
use Rattle.rl_value.specs.Order.{plain_cmp}
use Rattle.rl_value.specs.Rising.{Rises}
use Rattle.rl_value.specs.View.{shape_of, pair_of}
use Rattle.rl_value.specs.declared.open.Opened.{Opened}
use Rattle.rl_value.specs.declared.open.Opened.TheVariants as o

-- the value that was opened
abbrev pub closed : Opened → Plain
closed (o.Bool b) = bool b
closed (o.Int n) = int n
closed (o.Text t) = text t.now
closed (o.Location scheme path span) = location scheme path.now span
closed (o.Tuple items) = tuple (plains_of items.now)
closed (o.List items) = list (plains_of items.now)
closed (o.Set items) = set (plains_of items.now)
closed (o.Map entries) = mapping (pairs_of (map pair_of entries.now))
closed (o.Node name items) = node name.now (plains_of items.now)
closed (o.Tree shape items) = tree (shape_of shape.now) (plains_of items.now)
closed (o.Leaf t) = leaf t.now

-- the elements of a set rise, and the keys of a map
abbrev pub IsInOrder : Plain → Type 0
IsInOrder (set ts) = Rises plain_cmp (items_of ts)
IsInOrder (mapping ps) = Rises plain_cmp (map (λ p. p.0) (entries_of ps))
IsInOrder t = Unit {0}
