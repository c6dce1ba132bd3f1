-- Calls of constructors, functions and library functions.
use Rattle.std.specs.Prelude.{ℕ, ◌+◌, ◌==◌, ◌&&◌, not, Bool, true, false, if◌then◌else◌, List, [], ◌∷◌, ◌++◌, length, filter, Option, Some, is_some, bytes_eq}
use Rattle.std.specs.List.{list_any}
use Rattle.rl_exception.specs.Exceptions.{call_failed, no_return}
use Rattle.rl_match.specs.Bindings.{joined_bindings}
use Rattle.rl_visibility.specs.Visible.{Alternative, alternatives, visible_functions}
use Rattle.rl_syntax.specs.declared.declaration.Body.{Body}
use Rattle.rl_syntax.specs.declared.declaration.Body.TheVariants.{Value, Statements}
use Rattle.rl_syntax.specs.declared.declaration.Function.{Function}
use Rattle.rl_syntax.specs.declared.declaration.Modifier.{Modifier}
use Rattle.rl_syntax.specs.declared.declaration.Modifier.TheVariants.{Default}
use Rattle.rl_syntax.specs.declared.expression.Exp.{Exp, out-Exp}
use Rattle.rl_syntax.specs.declared.expression.Exp.TheOpen as e
use Rattle.rl_syntax.specs.declared.expression.Suffix.{Suffix}
use Rattle.rl_syntax.specs.declared.identifier.Identifier.{Identifier}
use Rattle.rl_syntax.specs.declared.statement.Case.{Case}
use Rattle.rl_syntax.specs.declared.statement.Handler.{Handler}
use Rattle.rl_syntax.specs.declared.statement.Stat.{Stat}
use Rattle.rl_types.specs.Declarations.{constructor}
use Rattle.rl_syntax.specs.declared.ty.Field.{Field}
use Rattle.rl_syntax.specs.declared.ty.Ty.{Ty, out-Ty}
use Rattle.rl_syntax.specs.declared.ty.Ty.TheOpen as t
use Rattle.rl_value.specs.Plain.{Plain, list, node, plains_of}
use Rattle.rl_rules.specs.Conditions.{where_all}
use Rattle.rl_rules.specs.Form.{alternative}
use Rattle.rl_rules.specs.LibraryCalls.{SortArgument, no_sort, sort, start_sort, library_call}
use Rattle.rl_rules.specs.Literals.{literal}
use Rattle.rl_rules.specs.Members.{members, on_tested}
use Rattle.rl_rules.specs.Parts.{parts, raise}
use Rattle.rl_rules.specs.Program.{Program, context}
use Rattle.rl_rules.specs.Rule.{Outcome, Val, Ret, Miss, Fail, Rule, Give, Use, after, give, done}
use Rattle.rl_rules.specs.Scopes.{statements}
use Rattle.rl_rules.specs.State.{State, enter_call, leave_call}
use Rattle.rl_rules.specs.Statements.{return_value}

-- Functions.

-- whether an alternative has the name and as many parameters
abbrev pub takes : List ℕ → ℕ → Alternative → Bool
takes name count a = bytes_eq name a.function.name.name && length a.function.parameters == count

abbrev pub is_default_modifier : Option Modifier → Bool
is_default_modifier (Some Default) = true
is_default_modifier other = false

abbrev pub is_default : Alternative → Bool
is_default a = is_default_modifier a.function.modifier

-- those marked `default` come last
abbrev pub in_order : List Alternative → List Alternative
in_order all = filter (λ a. not (is_default a)) all ++ filter is_default all

-- after an alternative: where it does not serve, what follows; either way the caller's scopes are back
abbrev pub after_alternative : (State → Rule) → State → Outcome → State → Rule
after_alternative next caller Miss s = next (leave_call caller s)
after_alternative next caller Fail s = next (leave_call caller s)
after_alternative next caller r s = Give r (leave_call caller s)

-- the alternatives in order, and what follows where none serves
abbrev pub try_each : List Alternative → List Plain → ℕ → (State → Rule) → State → Rule
try_each [] vs d none s = none s
try_each (a ∷ others) vs d none s = Use (alternative a vs) (d + 1) (enter_call a.acting s) (after_alternative (try_each others vs d none) s)

abbrev pub failed : List Plain → State → Rule
failed vs s = raise (call_failed (list (plains_of vs))) s

-- a call in module x, where the alternatives are those that the acting module gives it
abbrev pub function_call : Program → (x : ℕ) → List ℕ → List Plain → ℕ → State → Rule
function_call p x name vs d s = try_each (in_order (filter (takes name (length vs)) (alternatives p.modules x s.acting))) vs d (failed vs) s

-- The body of an alternative.

abbrev pub is_void_form : t.Ty-F Ty Field → Bool
is_void_form (t.Void place) = true
is_void_form other = false

abbrev pub is_void : Ty → Bool
is_void ty = is_void_form (out-Ty ty)

-- the value after `=`, or what the statements end in
abbrev pub body : Program → Body → ℕ → State → Rule
body p (Value x cs) d s = where_all p cs d (return_value x d) s
body p (Statements xs) d s = statements xs d s

-- how a call ends by how its body ended: a void function has no value, and another one must return
abbrev pub returned : (void : Bool) → Outcome → State → Rule
returned true (Ret v) s = done s
returned true (Val v) s = done s
returned false (Ret v) s = give v s
returned false (Val v) s = raise no_return s
returned void r s = Give r s

-- the bindings of the parameters on the arguments are the members
abbrev pub parameter_members : Program → Function → ℕ → List Plain → State → Rule
parameter_members p f d vs s = members (joined_bindings (context p s) f.parameters vs []) false (body p f.body d) s

abbrev pub parameters : Program → Function → ℕ → List Plain → State → Rule
parameters p f d vs = on_tested f.parameters (parameter_members p f d vs)

abbrev pub alternative_rule : Program → Alternative → List Plain → ℕ → State → Rule
alternative_rule p a vs d s = after (parameters p a.function d vs s) (returned (is_void a.function.ty))

-- Which call it is.

abbrev pub has_function : Program → (x : ℕ) → List ℕ → Bool
has_function p x name = list_any (λ a. bytes_eq name a.function.name.name) (visible_functions p.modules x)

-- A constructor goes by its name and the number of arguments, of which `#S` is one, though it has no value. A function of the program hides a library function of its name.
abbrev pub called : Program → (x : ℕ) → List ℕ → (count : ℕ) → SortArgument → ℕ → List Plain → State → Rule
called p x name count wanted d vs s =
    if is_some (constructor p.declarations name count) then literal (node name (plains_of vs)) s
    else if has_function p x name then function_call p x name vs d s
    else library_call p name wanted vs s

-- `#S` and `#start[S]` among the arguments are no expressions

abbrev pub sort_in : e.Exp-F Exp Suffix Case Handler Stat → SortArgument
sort_in (e.TypeName place name) = sort name.name
sort_in (e.StartSort place start_place name) = start_sort name.name
sort_in layer = no_sort

abbrev pub first_sort : SortArgument → SortArgument → SortArgument
first_sort no_sort other = other
first_sort one other = one

-- the first of them
abbrev pub sort_among : List Exp → SortArgument
sort_among [] = no_sort
sort_among (x ∷ xs) = first_sort (sort_in (out-Exp x)) (sort_among xs)

abbrev pub before_operands : Exp → SortArgument → List Exp → List Exp
before_operands x no_sort xs = x ∷ xs
before_operands x one xs = xs

-- the other arguments
abbrev pub operands : List Exp → List Exp
operands [] = []
operands (x ∷ xs) = before_operands x (sort_in (out-Exp x)) (operands xs)

abbrev pub call : Program → Identifier → List Exp → ℕ → State → Rule
call p name xs d = parts (operands xs) d (called p name.place.module name.name (length xs) (sort_among xs) d) []
