-- A walk over the leaves of a syntax tree: at each level on the way down, the parts that are still to come.
use Rattle.std.specs.Prelude.{ℕ, ◌+◌, ◌*◌, ◌≤◌, List, [], ◌∷◌, ◌++◌}
use denote.Ref.{Bor}
use Rattle.rl_value.specs.Plain.{Plain, plains_of, plains_text, plains_height, plains_size}

-- the text of the parts to come, the lowest level first
abbrev pub levels_text : List (Bor (List Plain)) → List ℕ
levels_text [] = []
levels_text (p ∷ ps) = levels_text ps ++ plains_text (plains_of p.now)

-- below k levels, each level leaves room for those below it
abbrev pub LeavesRoom : ℕ → List (Bor (List Plain)) → Type 0
LeavesRoom k [] = Unit {0}
LeavesRoom k (p ∷ ps) = (k + 1 + plains_height (plains_of p.now) ≤ 2000) × LeavesRoom (k + 1) ps

-- a bound on the steps to come
abbrev pub levels_weight : List (Bor (List Plain)) → ℕ
levels_weight [] = 0
levels_weight (p ∷ ps) = levels_weight ps + (2 * plains_size (plains_of p.now) + 1)
