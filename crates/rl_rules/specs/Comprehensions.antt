-- Comprehensions and reducers.
use Rattle.std.specs.Prelude.{ℕ, List, [], ◌∷◌}
use Rattle.rl_syntax.specs.declared.expression.Exp.{Exp}
use Rattle.rl_value.specs.Plain.{Plain, tuple, plains_of, items_of}
use Rattle.rl_rules.specs.Collections.{elements, list_of, set_of, map_of}
use Rattle.rl_rules.specs.Conditions.{for_each}
use Rattle.rl_rules.specs.Literals.{literal, it}
use Rattle.rl_rules.specs.Parts.{part}
use Rattle.rl_rules.specs.Program.{Program}
use Rattle.rl_rules.specs.Rule.{Outcome, Miss, Kept, Rule, Give, after, done}
use Rattle.rl_rules.specs.Scopes.{scoped}
use Rattle.rl_rules.specs.State.{State, top_list, begin_pile, collect, end_pile, begin_reducer, set_it, end_reducer}

-- adds to what the comprehension has collected
abbrev pub collecting : List Plain → State → Rule
collecting vs s = done (collect vs s)

-- the value of what was collected, after all members
abbrev pub collected_value : (List Plain → Plain) → State → Rule
collected_value made s = literal (made (top_list s.collected)) (end_pile s)

abbrev pub collected : (List Plain → Plain) → Outcome → State → Rule
collected made Kept s = collected_value made s
collected made Miss s = collected_value made s
collected made r s = Give r (end_pile s)

-- the body collects for each member of the conditions
abbrev pub comprehension : Program → (List Plain → Plain) → (ℕ → State → Rule) → List Exp → ℕ → State → Rule
comprehension p made body cs d s = after (scoped (for_each p cs d (body d)) (begin_pile s)) (collected made)

abbrev pub elements_body : List Exp → ℕ → State → Rule
elements_body xs d = elements xs d collecting []

abbrev pub list_comprehension : Program → List Exp → List Exp → ℕ → State → Rule
list_comprehension p xs = comprehension p list_of (elements_body xs)

abbrev pub set_comprehension : Program → List Exp → List Exp → ℕ → State → Rule
set_comprehension p xs = comprehension p set_of (elements_body xs)

-- a key and its value are collected as a pair
abbrev pub collecting_entry : Plain → Plain → State → Rule
collecting_entry k v = collecting (tuple (plains_of (k ∷ v ∷ [])) ∷ [])

abbrev pub entry_key : Exp → ℕ → Plain → State → Rule
entry_key y d k s = part y d s (collecting_entry k)

abbrev pub entry_body : Exp → Exp → ℕ → State → Rule
entry_body x y d s = part x d s (entry_key y d)

-- each that was collected is a pair
abbrev pub pair_in : List Plain → List (Plain × Plain) → List (Plain × Plain)
pair_in (k ∷ v ∷ vs) ps = (k, v) ∷ ps
pair_in vs ps = ps

abbrev pub entry_in : Plain → List (Plain × Plain) → List (Plain × Plain)
entry_in (tuple ts) ps = pair_in (items_of ts) ps
entry_in v ps = ps

abbrev pub entries_in : List Plain → List (Plain × Plain)
entries_in [] = []
entries_in (v ∷ vs) = entry_in v (entries_in vs)

abbrev pub map_of_pairs : List Plain → Plain
map_of_pairs vs = map_of (entries_in vs)

abbrev pub map_comprehension : Program → Exp → Exp → List Exp → ℕ → State → Rule
map_comprehension p x y = comprehension p map_of_pairs (entry_body x y)

-- sets `it` to the value of the step
abbrev pub step_value : Plain → State → Rule
step_value v s = done (set_it v s)

abbrev pub stepping : Exp → ℕ → State → Rule
stepping step d s = part step d s step_value

abbrev pub leave_reducer : Outcome → State → Rule
leave_reducer r s = Give r (end_reducer s)

abbrev pub reduced : Outcome → State → Rule
reduced Kept s = after (it s) leave_reducer
reduced Miss s = after (it s) leave_reducer
reduced r s = leave_reducer r s

abbrev pub reducing : Program → Exp → List Exp → ℕ → Plain → State → Rule
reducing p step cs d v s = after (scoped (for_each p cs d (stepping step d)) (begin_reducer v s)) reduced

-- from the value of the start, the step for each member of the conditions
abbrev pub reducer : Program → Exp → Exp → List Exp → ℕ → State → Rule
reducer p start step cs d s = part start d s (reducing p step cs d)
