-- Declarations and assignments.
use Rattle.std.specs.Prelude.{ℕ, List, [], ◌∷◌, ◌++◌, Option, Some, None}
use Rattle.rl_access.specs.Changes.{with_subscript_of, with_field_of}
use Rattle.rl_access.specs.Elements.{subscript_of}
use Rattle.rl_exception.specs.Answer.{Answer, Gives, Throws}
use Rattle.rl_exception.specs.Exceptions.{wrong_kind}
use Rattle.rl_operators.specs.Operators.{add_of, subtract_of, multiply_of, divide_of, intersect_of}
use Rattle.rl_syntax.specs.declared.expression.Exp.{Exp}
use Rattle.rl_syntax.specs.declared.expression.Suffix.{Suffix, out-Suffix}
use Rattle.rl_syntax.specs.declared.expression.Exp.TheOpen as e
use Rattle.rl_syntax.specs.declared.identifier.Identifier.{Identifier}
use Rattle.rl_syntax.specs.declared.operator.Assignment.{Assignment}
use Rattle.rl_syntax.specs.declared.operator.Assignment.TheVariants as a
use Rattle.rl_syntax.specs.declared.statement.Case.{Case}
use Rattle.rl_syntax.specs.declared.statement.Handler.{Handler}
use Rattle.rl_syntax.specs.declared.statement.Stat.{Stat}
use Rattle.rl_value.specs.Plain.{Plain, tuple, list, mapping, items_of}
use Rattle.rl_rules.specs.Literals.{with_variable}
use Rattle.rl_rules.specs.Operators.{field_place, field_answer}
use Rattle.rl_rules.specs.Parts.{part}
use Rattle.rl_rules.specs.Program.{Program, is_global}
use Rattle.rl_rules.specs.Rule.{Rule, wrong_operand, on_answer, done}
use Rattle.rl_rules.specs.State.{State, declare, write}

-- Variables.

abbrev pub declared : Identifier → Plain → State → Rule
declared x v s = done (declare x.number v s)

-- `T x = e;`
abbrev pub declaration : Identifier → Exp → ℕ → State → Rule
declaration x value d s = part value d s (declared x)

abbrev pub written : Program → Identifier → Plain → State → Rule
written p x v s = done (write (is_global p x.number) x.number v s)

abbrev pub with_first : {A B : Type 0} → A → B → Option (List (A × B)) → Option (List (A × B))
with_first a b None = None
with_first a b (Some pairs) = Some ((a, b) ∷ pairs)

-- the elements of two lists in pairs, where there are as many
abbrev pub paired : {A B : Type 0} → List A → List B → Option (List (A × B))
paired [] [] = Some []
paired (a ∷ rest) (b ∷ others) = with_first a b (paired rest others)
paired rest others = None

abbrev pub write_each : Program → List (Identifier × Plain) → State → State
write_each p [] s = s
write_each p ((x, v) ∷ pairs) s = write_each p pairs (write (is_global p x.number) x.number v s)

abbrev pub written_pairs : Program → Option (List (Identifier × Plain)) → State → Rule
written_pairs p None s = wrong_operand s
written_pairs p (Some pairs) s = done (write_each p pairs s)

-- `<x, y> = e;`: the parts from the left; another number of parts, or another kind, is none
abbrev pub written_tuple : Program → List Identifier → Plain → State → Rule
written_tuple p xs (tuple ts) s = written_pairs p (paired xs (items_of ts)) s
written_tuple p xs v s = wrong_operand s

abbrev pub tuple_assignment : Program → List Identifier → Exp → ℕ → State → Rule
tuple_assignment p xs value d s = part value d s (written_tuple p xs)

-- Parts of values.

-- a subscript with its value, or a field
pub data Step : Type 0 where
  at : Plain → Step
  field : List ℕ → Step

-- the part that a step leads to; only lists, tuples and maps are assigned to through subscripts
abbrev pub part_at : Program → Plain → Step → Answer
part_at p (list ts) (at i) = subscript_of (list ts) i
part_at p (tuple ts) (at i) = subscript_of (tuple ts) i
part_at p (mapping ps) (at k) = subscript_of (mapping ps) k
part_at p v (at i) = Throws wrong_kind
part_at p v (field name) = field_answer p.declarations name v

-- the value with another part there
abbrev pub with_part : Program → Plain → Step → Plain → Answer
with_part p v (at i) u = with_subscript_of v i u
with_part p v (field name) u = with_field_of v name (field_place p.declarations name v) u

abbrev pub and_then : Answer → (Plain → Answer) → Answer
and_then (Gives v) f = f v
and_then (Throws exception) f = Throws exception

abbrev pub part_along : Program → Plain → List Step → Answer
part_along p v [] = Gives v
part_along p v (k ∷ ks) = and_then (part_at p v k) (λ u. part_along p u ks)

-- the value with u at the end of the steps
abbrev pub changed_along : Program → Plain → List Step → Plain → Answer
changed_along p v [] u = Gives u
changed_along p v (k ∷ []) u = with_part p v k u
changed_along p v (k ∷ l ∷ ks) u = and_then (part_at p v k) (λ w. and_then (changed_along p w (l ∷ ks) u) (with_part p v k))

-- Assignments.

-- what an assignment makes of the old part and of the value of the right side
abbrev pub combined : Assignment → Plain → Plain → Answer
combined a.Set old v = Gives v
combined a.Add old v = add_of old v
combined a.Subtract old v = subtract_of old v
combined a.Multiply old v = multiply_of old v
combined a.Divide old v = divide_of old v
combined a.Intersect old v = intersect_of old v

-- the value of the variable after the assignment; the old part is looked at only where it is needed
abbrev pub assigned_value : Program → Assignment → List Step → Plain → Plain → Answer
assigned_value p a.Set ks old v = changed_along p old ks v
assigned_value p op ks old v = and_then (part_along p old ks) (λ there. and_then (combined op there v) (changed_along p old ks))

abbrev pub assigned_old : Program → Identifier → Assignment → List Step → Plain → Plain → State → Rule
assigned_old p x op ks v old s = on_answer (assigned_value p op ks old v) (written p x) s

-- with the value of the right side: `x = e` needs no old value
abbrev pub assigned : Program → Identifier → Assignment → List Step → Plain → State → Rule
assigned p x a.Set [] v s = written p x v s
assigned p x op ks v s = with_variable x (assigned_old p x op ks v) s

abbrev pub one_more_subscript : (List Step → State → Rule) → List Step → Plain → State → Rule
one_more_subscript go ks v s = go (ks ++ at v ∷ []) s

-- a path has subscripts and fields alone
abbrev pub step_of : e.Suffix-F Exp Suffix Case Handler Stat → ℕ → (List Step → State → Rule) → List Step → State → Rule
step_of (e.Subscript place y) d go ks s = part y d s (one_more_subscript go ks)
step_of (e.Field place name) d go ks s = go (ks ++ field name.name ∷ []) s
step_of suffix d go ks s = wrong_operand s

-- the subscripts from the left, after the steps before
abbrev pub steps : List Suffix → ℕ → (List Step → State → Rule) → List Step → State → Rule
steps [] d go ks s = go ks s
steps (x ∷ xs) d go ks s = step_of (out-Suffix x) d (steps xs d go) ks s

-- the right side, after the steps
abbrev pub right_side : Program → Identifier → Assignment → Exp → ℕ → List Step → State → Rule
right_side p x op value d ks s = part value d s (assigned p x op ks)

-- first the subscripts, then the right side, and then the old value
abbrev pub assignment : Program → Identifier → List Suffix → Assignment → Exp → ℕ → State → Rule
assignment p x path op value d = steps path d (right_side p x op value d) []
