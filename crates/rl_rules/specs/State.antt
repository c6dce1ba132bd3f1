-- The state of a program that runs, but for what it printed.
use Rattle.std.specs.Prelude.{ℕ, if◌then◌else◌, Bool, true, false, List, [], ◌∷◌, ◌++◌, Option, Some, None, is_some}
use Rattle.std.specs.FinMap.{find, put}
use Rattle.std.specs.Ordering.{nat_cmp}
use Rattle.rl_value.specs.Plain.{Plain}
use Rattle.rl_match.specs.Bindings.{Binding}

-- finite maps from the numbers of variables to their values, as their entries in the order of the numbers
abbrev pub Variables : Type 0
Variables = List (ℕ × Plain)

abbrev pub value_of : ℕ → Variables → Option Plain
value_of x vs = find nat_cmp x vs

-- with the variable at a value, in its place
abbrev pub with_value : ℕ → Plain → Variables → Variables
with_value x v vs = put nat_cmp x v vs

pub record State : Type 0 where
  pub globals : Variables
  -- the scopes of the call that runs, the innermost first
  pub scopes : List Variables
  -- the module that acts in the call that runs
  pub acting : ℕ
  -- the values that each loop has appended whose body runs, the innermost first
  pub appended : List (List Plain)
  -- the values that each comprehension has collected, and each other loop under way has appended, the innermost first
  pub collected : List (List Plain)
  -- the value of `it` of each reducer under way, the innermost first
  pub its : List Plain

-- Reading and setting variables.

abbrev pub first_of : Option Plain → Option Plain → Option Plain
first_of None other = other
first_of (Some v) other = Some v

abbrev pub value_in_scopes : ℕ → List Variables → Option Plain
value_in_scopes x [] = None
value_in_scopes x (scope ∷ scopes) = first_of (value_of x scope) (value_in_scopes x scopes)

-- in the innermost scope that has it, or as a global
abbrev pub read : ℕ → State → Option Plain
read x s = first_of (value_in_scopes x s.scopes) (value_of x s.globals)

-- all variables that are in reach, an inner one before an outer one of its number
abbrev pub joined_scopes : List Variables → List (ℕ × Plain)
joined_scopes [] = []
joined_scopes (scope ∷ scopes) = scope ++ joined_scopes scopes

abbrev pub in_reach : State → List (ℕ × Plain)
in_reach s = joined_scopes s.scopes ++ s.globals

-- sets it in the innermost scope; there is one, since each call begins with one
abbrev pub declared_in : ℕ → Plain → List Variables → List Variables
declared_in x v [] = []
declared_in x v (scope ∷ scopes) = with_value x v scope ∷ scopes

abbrev pub declare : ℕ → Plain → State → State
declare x v s = record s { scopes = declared_in x v s.scopes }

abbrev pub set_global : ℕ → Plain → State → State
set_global x v s = record s { globals = with_value x v s.globals }

-- sets it in the innermost scope that has it
abbrev pub written_in : ℕ → Plain → List Variables → List Variables
written_in x v [] = []
written_in x v (scope ∷ scopes) = if is_some (value_of x scope) then with_value x v scope ∷ scopes else scope ∷ written_in x v scopes

abbrev pub write_in_scopes : ℕ → Plain → State → State
write_in_scopes x v s = record s { scopes = written_in x v s.scopes }

-- a variable that has no value yet is a global that is set for the first time, or is declared here
abbrev pub write : (is_global : Bool) → ℕ → Plain → State → State
write true x v s = set_global x v s
write false x v s = if is_some (value_in_scopes x s.scopes) then write_in_scopes x v s else declare x v s

-- the variables of a binding, in its order
abbrev pub declare_all : Binding → State → State
declare_all [] s = s
declare_all ((x, v) ∷ vs) s = declare_all vs (declare x v s)

-- Scopes.

abbrev pub open_scope : State → State
open_scope s = record s { scopes = [] ∷ s.scopes }

abbrev pub outer_of : List Variables → List Variables
outer_of [] = []
outer_of (scope ∷ scopes) = scopes

abbrev pub close_scope : State → State
close_scope s = record s { scopes = outer_of s.scopes }

-- the state of a call that begins, with one scope of its own and the module that acts in it
abbrev pub enter_call : ℕ → State → State
enter_call acting s = record s { scopes = [] ∷ []; acting = acting }

-- after a call: the caller's scopes and acting module, and all else as the call left it
abbrev pub leave_call : State → State → State
leave_call caller s = record s { scopes = caller.scopes; acting = caller.acting }

-- Piles and `it`. What is taken from none is empty, but there is one wherever a rule takes or adds: each comprehension, loop and reducer begins with one, and ends it.

abbrev pub below_top : {A : Type 0} → List A → List A
below_top [] = []
below_top (x ∷ xs) = xs

abbrev pub top_list : List (List Plain) → List Plain
top_list [] = []
top_list (vs ∷ piles) = vs

abbrev pub add_on_top : List Plain → List (List Plain) → List (List Plain)
add_on_top vs [] = []
add_on_top vs (us ∷ piles) = (us ++ vs) ∷ piles

-- a comprehension or a loop begins
abbrev pub begin_pile : State → State
begin_pile s = record s { collected = [] ∷ s.collected }

abbrev pub collect : List Plain → State → State
collect vs s = record s { collected = add_on_top vs s.collected }

abbrev pub end_pile : State → State
end_pile s = record s { collected = below_top s.collected }

-- the body of a loop begins: what stands in it appends to the loop's pile, and what stands in the conditions does not
abbrev pub begin_body : State → State
begin_body s = record s { appended = top_list s.collected ∷ s.appended; collected = below_top s.collected }

abbrev pub append : Plain → State → State
append v s = record s { appended = add_on_top (v ∷ []) s.appended }

abbrev pub end_body : State → State
end_body s = record s { appended = below_top s.appended; collected = top_list s.appended ∷ s.collected }

abbrev pub begin_reducer : Plain → State → State
begin_reducer v s = record s { its = v ∷ s.its }

abbrev pub top_it : List Plain → Option Plain
top_it [] = None
top_it (v ∷ vs) = Some v

abbrev pub it_of : State → Option Plain
it_of s = top_it s.its

abbrev pub set_it : Plain → State → State
set_it v s = record s { its = v ∷ below_top s.its }

abbrev pub end_reducer : State → State
end_reducer s = record s { its = below_top s.its }
