-- Lists, sets, maps and tuples by their parts.
use Rattle.std.specs.Prelude.{ℕ, List, [], ◌∷◌, ◌++◌}
use Rattle.rl_syntax.specs.declared.expression.Exp.{Exp, out-Exp}
use Rattle.rl_syntax.specs.declared.expression.Exp.TheOpen as e
use Rattle.rl_syntax.specs.declared.expression.Suffix.{Suffix}
use Rattle.rl_syntax.specs.declared.statement.Case.{Case}
use Rattle.rl_syntax.specs.declared.statement.Handler.{Handler}
use Rattle.rl_syntax.specs.declared.statement.Stat.{Stat}
use Rattle.rl_value.specs.Entries.{put_all}
use Rattle.rl_value.specs.Order.{plain_cmp}
use Rattle.rl_value.specs.Plain.{Plain, list, set, mapping, tuple, plains_of, items_of, pairs_of}
use Rattle.rl_value.specs.Rising.{rising}
use Rattle.rl_rules.specs.Literals.{literal}
use Rattle.rl_rules.specs.Parts.{part, one_more, parts}
use Rattle.rl_rules.specs.Rule.{Rule, wrong_operand}
use Rattle.rl_rules.specs.State.{State}

-- with the elements of a list or a set
abbrev pub spliced : (List Plain → State → Rule) → List Plain → Plain → State → Rule
spliced go vs (list us) s = go (vs ++ items_of us) s
spliced go vs (set us) s = go (vs ++ items_of us) s
spliced go vs v s = wrong_operand s

-- an element, or the elements that a splice puts in
abbrev pub element : Exp → e.Exp-F Exp Suffix Case Handler Stat → ℕ → (List Plain → State → Rule) → List Plain → State → Rule
element x (e.Splice place y) d go vs s = part y d s (spliced go vs)
element x layer d go vs s = part x d s (one_more go vs)

-- elements from the left, after those before
abbrev pub elements : List Exp → ℕ → (List Plain → State → Rule) → List Plain → State → Rule
elements [] d go vs s = go vs s
elements (x ∷ xs) d go vs s = element x (out-Exp x) d (elements xs d go) vs s

-- with one more key and its value
abbrev pub one_more_entry : (List (Plain × Plain) → State → Rule) → List (Plain × Plain) → Plain → Plain → State → Rule
one_more_entry go ps k v s = go (ps ++ (k, v) ∷ []) s

-- the value of a key
abbrev pub entry_value : Exp → ℕ → (List (Plain × Plain) → State → Rule) → List (Plain × Plain) → Plain → State → Rule
entry_value y d go ps k s = part y d s (one_more_entry go ps k)

-- keys and values, each key before its value, after the entries before
abbrev pub entries : List (Exp × Exp) → ℕ → (List (Plain × Plain) → State → Rule) → List (Plain × Plain) → State → Rule
entries [] d go ps s = go ps s
entries ((x, y) ∷ written) d go ps s = part x d s (entry_value y d (entries written d go) ps)

-- the collections of what was collected

abbrev pub list_of : List Plain → Plain
list_of vs = list (plains_of vs)

abbrev pub set_of : List Plain → Plain
set_of vs = set (plains_of (rising plain_cmp vs))

-- the later of two equal keys wins
abbrev pub map_of : List (Plain × Plain) → Plain
map_of ps = mapping (pairs_of (put_all [] ps))

abbrev pub list_value : List Plain → State → Rule
list_value vs = literal (list_of vs)

abbrev pub list_by_elements : List Exp → ℕ → State → Rule
list_by_elements xs d = elements xs d list_value []

abbrev pub set_value : List Plain → State → Rule
set_value vs = literal (set_of vs)

abbrev pub set_by_elements : List Exp → ℕ → State → Rule
set_by_elements xs d = elements xs d set_value []

abbrev pub map_value : List (Plain × Plain) → State → Rule
map_value ps = literal (map_of ps)

abbrev pub map_by_entries : List (Exp × Exp) → ℕ → State → Rule
map_by_entries written d = entries written d map_value []

abbrev pub tuple_value : List Plain → State → Rule
tuple_value vs = literal (tuple (plains_of vs))

abbrev pub tuple_by_parts : List Exp → ℕ → State → Rule
tuple_by_parts xs d = parts xs d tuple_value []
