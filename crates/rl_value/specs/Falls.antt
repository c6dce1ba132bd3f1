-- Each value is larger than those inside it.
use Rattle.std.specs.Prelude.{◌+◌, ◌≤◌, List, [], ◌∷◌, max, map}
use Rattle.std.proofs.Common.{arith}
use denote.Param.Weighed.{most}
use Rattle.rl_value.specs.Plain.{Plain, plains_of, pairs_of, plain_size, plains_size, pairs_size}
use Rattle.rl_value.specs.declared.value.Form.{Form}
use Rattle.rl_value.specs.declared.value.Form.TheVariants as f
use Rattle.rl_value.specs.declared.value.Value.TheDeep.{deep-Form, deep-Entry}
use Rattle.rl_value.specs.declared.value.Entry.{Entry}
use Rattle.rl_value.specs.View.{plain_of, pair_of}

pub most_le-plains_size : (ts : List Plain) → most (λ t. plain_size t + 1) ts ≤ plains_size (plains_of ts) + 1
most_le-plains_size [] = omega arith
most_le-plains_size (t ∷ ts) = omega (arith, most_le-plains_size ts)

pub most_le-pairs_size : (es : List Entry) → most deep-Entry es ≤ pairs_size (pairs_of (map pair_of es)) + 1
most_le-pairs_size [] = omega arith
most_le-pairs_size (e ∷ es) = omega (arith, most_le-pairs_size es)

pub depth_le-plain_size : (form : Form) → max (deep-Form form) 0 ≤ plain_size (plain_of form)
depth_le-plain_size (f.Tuple parts) = omega (arith, most_le-plains_size parts.value.items.items)
depth_le-plain_size (f.List parts) = omega (arith, most_le-plains_size parts.value.items.items)
depth_le-plain_size (f.Set parts) = omega (arith, most_le-plains_size parts.value.items.items)
depth_le-plain_size (f.Map entries) = omega (arith, most_le-pairs_size entries.value.pairs.items)
depth_le-plain_size (f.Node a) = omega (arith, most_le-plains_size a.value.fields.items.items)
depth_le-plain_size (f.Tree a) = omega (arith, most_le-plains_size a.value.parts.items.items)
depth_le-plain_size form = omega arith
