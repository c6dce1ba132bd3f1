-- Operators, subscripts, slices, ranges and fields.
use Rattle.std.specs.Prelude.{ℕ, ◌+◌, Bool, true, false, if◌then◌else◌, List, [], ◌∷◌, Option, Some, None, bytes_eq, length, map}
use Rattle.rl_access.specs.Elements.{subscript_of}
use Rattle.rl_access.specs.Fields.{field_of}
use Rattle.rl_access.specs.Ranges.{range_of}
use Rattle.rl_access.specs.Slices.{slice_of}
use Rattle.rl_exception.specs.Answer.{Answer}
use Rattle.rl_match.specs.Bindings.{bindings}
use Rattle.rl_operators.specs.Comparison.{less_of, less_or_equal_of, greater_of, greater_or_equal_of}
use Rattle.rl_operators.specs.Membership.{in_of, not_in_of, is_of}
use Rattle.rl_operators.specs.Operators.{add_of, subtract_of, multiply_of, divide_of, remainder_of, intersect_of}
use Rattle.rl_relation.specs.Closures.{closure_of, reflexive_closure_of}
use Rattle.rl_relation.specs.Relations.{compose_of}
use Rattle.rl_syntax.specs.declared.expression.Exp.{Exp}
use Rattle.rl_syntax.specs.declared.expression.Suffix.{Suffix, out-Suffix}
use Rattle.rl_syntax.specs.declared.expression.Exp.TheOpen as e
use Rattle.rl_syntax.specs.declared.operator.Comparison.{Comparison}
use Rattle.rl_syntax.specs.declared.operator.Comparison.TheVariants as c
use Rattle.rl_syntax.specs.declared.operator.ProductOperator.{ProductOperator}
use Rattle.rl_syntax.specs.declared.operator.ProductOperator.TheVariants as m
use Rattle.rl_syntax.specs.declared.operator.SumOperator.{SumOperator}
use Rattle.rl_syntax.specs.declared.operator.SumOperator.TheVariants as a
use Rattle.rl_syntax.specs.declared.pattern.Pattern.{Pattern}
use Rattle.rl_syntax.specs.declared.statement.Case.{Case}
use Rattle.rl_syntax.specs.declared.statement.Handler.{Handler}
use Rattle.rl_syntax.specs.declared.statement.Stat.{Stat}
use Rattle.rl_types.specs.Declarations.{Declarations, Constructor, constructor}
use Rattle.rl_types.specs.PlainType.{PlainType}
use Rattle.rl_value.specs.Plain.{Plain, bool, node, items_of, text}
use Rattle.rl_rules.specs.Conditions.{on_truth}
use Rattle.rl_rules.specs.Form.{expression}
use Rattle.rl_rules.specs.Members.{on_tested}
use Rattle.rl_rules.specs.Parts.{bare, part, nested}
use Rattle.rl_rules.specs.Program.{Program, context}
use Rattle.rl_rules.specs.Rule.{Rule, Give, Use, after, on_value, give, give_answer, wrong_operand}
use Rattle.rl_rules.specs.State.{State}

-- One operator.

abbrev pub operated : (Plain → Plain → Answer) → Plain → Plain → State → Rule
operated op u v s = give_answer (op u v) s

abbrev pub right_operand : (Plain → Plain → Answer) → Exp → ℕ → Plain → State → Rule
right_operand op y d u s = part y d s (operated op u)

-- an operator on two operands, from the left
abbrev pub binary : (Plain → Plain → Answer) → Exp → Exp → ℕ → State → Rule
binary op x y d s = part x d s (right_operand op y d)

abbrev pub answered : (Plain → Answer) → Plain → State → Rule
answered op v s = give_answer (op v) s

abbrev pub unary : (Plain → Answer) → Exp → ℕ → State → Rule
unary op x d s = part x d s (answered op)

-- Chains of operators of one level: a op b op c is (a op b) op c.

-- what an operator at a depth does, with the value of its left operand
abbrev pub Operator : Type 0
Operator = ℕ → Plain → State → Rule

-- an operator behind what gives its left operand
abbrev pub with_left : (State → Rule) → Operator → ℕ → State → Rule
with_left left op d s = after (left s) (on_value (op d))

-- the first operand with the operators behind it, the last one first; each operator takes a unit
abbrev pub chain : Exp → List Operator → ℕ → State → Rule
chain x [] d s = Use (expression (bare x)) d s Give
chain x (op ∷ ops) d s = nested d (with_left (chain x ops (d + 1)) op d) s

-- the chain of a form at depth d, which is its last operator and has taken its unit
abbrev pub whole_chain : Exp → List Operator → ℕ → State → Rule
whole_chain x [] d s = chain x [] d s
whole_chain x (op ∷ ops) d s = with_left (chain x ops (d + 1)) op d s

-- the operators with their right operands, the last one first
abbrev pub reversed : List Operator → List Operator → List Operator
reversed [] behind = behind
reversed (op ∷ ops) behind = reversed ops (op ∷ behind)

abbrev pub in_chain : Exp → List Operator → ℕ → State → Rule
in_chain x ops = whole_chain x (reversed ops [])

abbrev pub sum_operator : SumOperator → Plain → Plain → Answer
sum_operator a.Add = add_of
sum_operator a.Subtract = subtract_of
sum_operator a.Intersect = intersect_of

abbrev pub product_operator : ProductOperator → Plain → Plain → Answer
product_operator m.Multiply = multiply_of
product_operator m.Divide = divide_of
product_operator m.Remainder = remainder_of

-- the operators with their right operands
abbrev pub with_operands : {O : Type 0} → (O → Plain → Plain → Answer) → List (O × Exp) → List Operator
with_operands answer [] = []
with_operands answer ((op, y) ∷ rest) = right_operand (answer op) y ∷ with_operands answer rest

abbrev pub sum : Exp → List (SumOperator × Exp) → ℕ → State → Rule
sum x rest = in_chain x (with_operands sum_operator rest)

abbrev pub product : Exp → List (ProductOperator × Exp) → ℕ → State → Rule
product x rest = in_chain x (with_operands product_operator rest)

-- the same operator before each operand but the first, which stands alone where there is no other; each form has an operand
abbrev pub joined_by : (Exp → Operator) → List Exp → ℕ → State → Rule
joined_by op [] d s = wrong_operand s
joined_by op (x ∷ xs) d s = in_chain x (map op xs) d s

abbrev pub composition : List Exp → ℕ → State → Rule
composition = joined_by (right_operand compose_of)

-- Truth values.

abbrev pub truth : Plain → State → Rule
truth v s = on_truth (give (bool true)) (give (bool false)) v s

-- a part that must be true or false
abbrev pub truth_part : Exp → ℕ → State → Rule
truth_part y d s = part y d s truth

-- the right operand of `||`, which is looked at only where the left one is false
abbrev pub or_right : Exp → Operator
or_right y d = on_truth (give (bool true)) (truth_part y d)

abbrev pub disjunction : List Exp → ℕ → State → Rule
disjunction = joined_by or_right

-- the right operand of `==>`, which is looked at only where the left one is true
abbrev pub implied : Exp → Operator
implied y d = on_truth (truth_part y d) (give (bool true))

abbrev pub implication : Exp → Exp → ℕ → State → Rule
implication x y d s = part x d s (implied y d)

-- Comparisons.

abbrev pub comparison_operator : Comparison → Plain → Plain → Answer
comparison_operator c.LessOrEqual = less_or_equal_of
comparison_operator c.GreaterOrEqual = greater_or_equal_of
comparison_operator c.Less = less_of
comparison_operator c.Greater = greater_of
comparison_operator c.In = in_of
comparison_operator c.NotIn = not_in_of

abbrev pub is_of_name : List ℕ → Plain → Answer
is_of_name name v = is_of v (text name)

abbrev pub is_named : Exp → List ℕ → ℕ → State → Rule
is_named x name = unary (is_of_name name) x

-- `p !:= e`: whether the pattern has no binding

abbrev pub is_empty_list : {A : Type 0} → List A → Bool
is_empty_list [] = true
is_empty_list (x ∷ xs) = false

abbrev pub has_no_binding : Program → Pattern → Plain → State → Rule
has_no_binding p pattern v s = give (bool (is_empty_list (bindings (context p s) pattern v []))) s

abbrev pub unmatched : Program → Pattern → Plain → State → Rule
unmatched p pattern v = on_tested (pattern ∷ []) (has_no_binding p pattern v)

abbrev pub no_match : Program → Pattern → Exp → ℕ → State → Rule
no_match p pattern x d s = part x d s (unmatched p pattern)

-- Ranges.

abbrev pub ranged : Plain → Option Plain → Plain → State → Rule
ranged u next v s = give_answer (range_of u next v) s

abbrev pub range_end : Plain → Option Plain → Exp → ℕ → State → Rule
range_end u next z d s = part z d s (ranged u next)

abbrev pub range_after_second : Exp → ℕ → Plain → Plain → State → Rule
range_after_second z d u v s = range_end u (Some v) z d s

abbrev pub range_after_first : Option Exp → Exp → ℕ → Plain → State → Rule
range_after_first None z d u s = range_end u None z d s
range_after_first (Some y) z d u s = part y d s (range_after_second z d u)

abbrev pub range : Exp → Option Exp → Exp → ℕ → State → Rule
range x y z d s = part x d s (range_after_first y z d)

-- Suffixes.

-- the place of the first field of a name
abbrev pub place_among : List ℕ → ℕ → List (List ℕ × PlainType) → Option ℕ
place_among name n [] = None
place_among name n (field ∷ fields) = if bytes_eq name field.0 then Some n else place_among name (n + 1) fields

abbrev pub place_in : List ℕ → Option Constructor → Option ℕ
place_in name None = None
place_in name (Some c) = place_among name 0 c.fields

-- the place of a value's field of that name, by what is declared of its constructor
abbrev pub field_place : Declarations → List ℕ → Plain → Option ℕ
field_place d name (node constructor_name ts) = place_in name (constructor d constructor_name (length (items_of ts)))
field_place d name v = None

abbrev pub field_answer : Declarations → List ℕ → Plain → Answer
field_answer d name v = field_of v name (field_place d name v)

-- a slice has a bound or none at each end

abbrev pub sliced_to : Plain → Option Plain → Plain → State → Rule
sliced_to u from to s = give_answer (slice_of u from (Some to)) s

abbrev pub slice_end : Option Exp → ℕ → Plain → Option Plain → State → Rule
slice_end None d u from s = give_answer (slice_of u from None) s
slice_end (Some y) d u from s = part y d s (sliced_to u from)

abbrev pub slice_after_start : Option Exp → ℕ → Plain → Plain → State → Rule
slice_after_start to d u from s = slice_end to d u (Some from) s

abbrev pub slice : Option Exp → Option Exp → Operator
slice None to d u s = slice_end to d u None s
slice (Some x) to d u s = part x d s (slice_after_start to d u)

abbrev pub suffix : Program → e.Suffix-F Exp Suffix Case Handler Stat → Operator
suffix p (e.Subscript place y) d u s = right_operand subscript_of y d u s
suffix p (e.Slice place from to) d u s = slice from to d u s
suffix p (e.Field place name) d u s = answered (field_answer p.declarations name.name) u s
suffix p (e.TransitiveClosure place) d u s = answered closure_of u s
suffix p (e.ReflexiveClosure place) d u s = answered reflexive_closure_of u s

abbrev pub suffixes : Program → List Suffix → List Operator
suffixes p [] = []
suffixes p (x ∷ xs) = suffix p (out-Suffix x) ∷ suffixes p xs

abbrev pub suffixed : Program → Exp → List Suffix → ℕ → State → Rule
suffixed p x xs = in_chain x (suffixes p xs)
