-- Variables in scopes. The first scope has the place 0, and the innermost is the last.
use Rattle.std.specs.Prelude.{ℕ, zero, suc, ◌+◌, List, [], ◌∷◌, Option, Some, None, is_some, if◌then◌else◌}
use Rattle.std.specs.Option.{option_or}
use Rattle.std.specs.Ordering.{nat_cmp}
use Rattle.std.specs.Coded.{Coded, coded_ℕ}
use Rattle.std.specs.FinMap.{FinMap, get, insert, remove, code}
use Rattle.rl_value.specs.Plain.{Plain}
use Rattle.rl_value.specs.Laws.{plain_code}

-- from the numbers of variables to their values
abbrev pub Scope : Type 0
Scope = FinMap nat_cmp Plain

abbrev pub scope_code : Coded Scope
scope_code = code coded_ℕ plain_code

-- the scope with a value at the variable, or with none
abbrev pub changed : Scope → ℕ → Option Plain → Scope
changed scope variable None = remove scope variable
changed scope variable (Some v) = insert scope variable v

-- what the variable has in the scope with this place
abbrev pub value_at : List Scope → ℕ → ℕ → Option Plain
value_at [] place variable = None
value_at (s ∷ ss) zero variable = get s variable
value_at (s ∷ ss) (suc place) variable = value_at ss place variable

-- the scopes with a value at a variable of the scope with this place, or with none
abbrev pub changed_at : List Scope → ℕ → ℕ → Option Plain → List Scope
changed_at [] place variable o = []
changed_at (s ∷ ss) zero variable o = changed s variable o ∷ ss
changed_at (s ∷ ss) (suc place) variable o = s ∷ changed_at ss place variable o

-- the value in the innermost scope that has the variable
abbrev pub value_of : List Scope → ℕ → Option Plain
value_of [] variable = None
value_of (s ∷ ss) variable = option_or (value_of ss variable) (get s variable)

-- the place of the innermost scope that has the variable, or that of the first scope
abbrev pub place_of : List Scope → ℕ → ℕ
place_of [] variable = 0
place_of (s ∷ ss) variable = if is_some (value_of ss variable) then place_of ss variable + 1 else 0
