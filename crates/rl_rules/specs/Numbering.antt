-- The numbers of variables: each declaration has one of its own, and each name has that of the declaration to which it leads.
use Rattle.std.specs.Prelude.{ℕ, nat_eq, ◌&&◌, not, Bool, true, false, if◌then◌else◌, List, [], ◌∷◌, ◌++◌, length, map, filter, flat_map, Option, Some, None, is_some, bytes_eq}
use Rattle.std.specs.List.{list_any, list_all, range_with_len}
use Rattle.std.specs.Option.{option_to_list}
use Rattle.rl_match.specs.Tests.{in_holes}
use Rattle.rl_syntax.specs.declared.declaration.Body.{Body}
use Rattle.rl_syntax.specs.declared.declaration.Body.TheVariants.{Value, Statements}
use Rattle.rl_syntax.specs.declared.declaration.Decl.{Decl}
use Rattle.rl_syntax.specs.declared.declaration.Decl.TheVariants as d
use Rattle.rl_syntax.specs.declared.declaration.Function.{Function}
use Rattle.rl_syntax.specs.declared.expression.Exp.{Exp}
use Rattle.rl_syntax.specs.declared.expression.Exp.TheFolds.{fold-Exp, fold-Stat}
use Rattle.rl_syntax.specs.declared.expression.Exp.TheOpen as e
use Rattle.rl_syntax.specs.declared.identifier.Identifier.{Identifier}
use Rattle.rl_syntax.specs.declared.identifier.PatternVariable.{PatternVariable}
use Rattle.rl_syntax.specs.declared.module.Module.{Module}
use Rattle.rl_syntax.specs.declared.operator.Assignment.{Assignment}
use Rattle.rl_syntax.specs.declared.operator.Assignment.TheVariants as a
use Rattle.rl_syntax.specs.declared.pattern.Pattern.{Pattern}
use Rattle.rl_syntax.specs.declared.pattern.Pattern.TheFolds.{fold-Pattern}
use Rattle.rl_syntax.specs.declared.pattern.Pattern.TheOpen as p
use Rattle.rl_syntax.specs.declared.statement.Stat.{Stat}
use Rattle.rl_visibility.specs.Visible.{declarations_of, visible_globals}

-- the names that are visible at a place, the innermost first, with the numbers of their declarations
abbrev pub Names : Type 0
Names = List (List ℕ × ℕ)

-- the number of the declaration to which a name leads
abbrev pub number_of : List ℕ → Names → Option ℕ
number_of name [] = None
number_of name (known ∷ names) = if bytes_eq name known.0 then Some known.1 else number_of name names

-- what a part of a program does with names
pub record Named : Type 0 where
  -- the names that are visible behind it
  pub behind : Names
  -- the numbers of all declarations in it
  pub declared : List ℕ
  -- whether each name in it has the number of its declaration
  pub right : Bool

-- by the names that are visible before the part
abbrev pub Naming : Type 0
Naming = Names → Named

abbrev pub nothing : Naming
nothing names = record { behind = names; declared = []; right = true }

-- the first, and then the second, which sees what the first declares
abbrev pub and_then : Naming → Naming → Naming
and_then first second names =
    let one = first names in
    let other = second one.behind in
    record { behind = other.behind; declared = one.declared ++ other.declared; right = one.right && other.right }

abbrev pub in_turn : List Naming → Naming
in_turn [] = nothing
in_turn (part ∷ parts) = and_then part (in_turn parts)

-- a scope of its own: what is declared in it ends with it
abbrev pub scope : Naming → Naming
scope part names = record (part names) { behind = names }

-- parts of which none sees what another declares
abbrev pub each : List Naming → Naming
each parts = in_turn (map scope parts)

-- Variables.

abbrev pub leads_to : Option ℕ → ℕ → Bool
leads_to None number = false
leads_to (Some n) number = nat_eq n number

abbrev pub used : List ℕ → ℕ → Naming
used name number names = record { behind = names; declared = []; right = leads_to (number_of name names) number }

abbrev pub declares : List ℕ → ℕ → Naming
declares name number names = record { behind = (name, number) ∷ names; declared = number ∷ []; right = true }

abbrev pub use_of : Identifier → Naming
use_of x = used x.name x.number

-- what is assigned to is declared where it is not visible
abbrev pub assigned : Identifier → Naming
assigned x names = if is_some (number_of x.name names) then use_of x names else declares x.name x.number names

-- only `x = e` declares
abbrev pub target : Assignment → List Naming → Identifier → Naming
target a.Set [] x = assigned x
target op path x = use_of x

-- Patterns.

-- a part that is right only where this holds
abbrev pub provided : Bool → Naming → Naming
provided holds part names = let it = part names in record it { right = holds && it.right }

-- the hole of a fragment in an expression asks for a variable, and tests none
abbrev pub hole : PatternVariable → Naming
hole x = provided (not x.is_test) (used x.name x.number)

-- a variable with its type is always new
abbrev pub typed_variable : PatternVariable → Naming
typed_variable x = provided (not x.is_test) (declares x.name x.number)

-- one without is a test where its name is visible or bound further left, and new elsewhere
abbrev pub pattern_variable : PatternVariable → Naming
pattern_variable x names =
    if is_some (number_of x.name names) then provided x.is_test (used x.name x.number) names
    else provided (not x.is_test) (declares x.name x.number) names

-- an element of a list or set pattern, and whether it is a star
abbrev pub Element : Type 0
Element = Bool × Naming

abbrev pub namings : List Element → List Naming
namings elements = map (λ it. it.1) elements

abbrev pub stars : List Element → List Naming
stars elements = namings (filter (λ it. it.0) elements)

abbrev pub ones : List Element → List Naming
ones elements = namings (filter (λ it. not it.0) elements)

-- in a set pattern the stars serve last; what is bound inside `!p` ends there
abbrev pub of_pattern_form : p.Pattern-F Naming Element → Naming
of_pattern_form (p.TypedBinding place ty x inner) = and_then (typed_variable x) inner
of_pattern_form (p.Binding place x inner) = and_then (pattern_variable x) inner
of_pattern_form (p.Negation place inner) = scope inner
of_pattern_form (p.Descendant place inner) = inner
of_pattern_form (p.Fragment place fragment) = in_turn (map typed_variable (in_holes fragment.pieces))
of_pattern_form (p.Constructor place name parts) = in_turn parts
of_pattern_form (p.TypedVariable place ty x) = typed_variable x
of_pattern_form (p.TypedWildcard place ty) = nothing
of_pattern_form (p.List place elements) = in_turn (namings elements)
of_pattern_form (p.Set place elements) = in_turn (ones elements ++ stars elements)
of_pattern_form (p.Tuple place parts) = in_turn parts
of_pattern_form (p.Integer place number) = nothing
of_pattern_form (p.Text place text) = nothing
of_pattern_form (p.Location place path) = nothing
of_pattern_form (p.Truth place truth) = nothing
of_pattern_form (p.Wildcard place) = nothing
of_pattern_form (p.Variable place x) = pattern_variable x

abbrev pub of_element_form : p.PatternElement-F Naming Element → Element
of_element_form (p.AnyRest place) = (true, nothing)
of_element_form (p.TypedRest place ty x) = (true, typed_variable x)
of_element_form (p.Rest place x) = (true, pattern_variable x)
of_element_form (p.Single inner) = (false, inner)

unfoldable pub of_pattern : Pattern → Naming
of_pattern = fold-Pattern Naming Element of_pattern_form of_element_form

-- Expressions. What one declares is visible behind it only in a list of conditions.

abbrev pub second_parts : {A B : Type 0} → List (A × B) → List B
second_parts pairs = map (λ it. it.1) pairs

abbrev pub first_parts : {A B : Type 0} → List (A × B) → List A
first_parts pairs = map (λ it. it.0) pairs

abbrev pub of_entry : Naming × Naming → List Naming
of_entry it = it.0 ∷ it.1 ∷ []

-- what the conditions govern sees what they bind
abbrev pub under : List Naming → List Naming → Naming
under conditions governed = scope (and_then (in_turn conditions) (each governed))

abbrev pub of_expression_form : e.Exp-F Naming Naming Naming Naming Naming → Naming
of_expression_form (e.Conditional place c x y) = each (c ∷ x ∷ y ∷ [])
of_expression_form (e.Fallback place x y) = each (x ∷ y ∷ [])
of_expression_form (e.Implication place x y) = each (x ∷ y ∷ [])
of_expression_form (e.Equivalence place x y) = each (x ∷ y ∷ [])
of_expression_form (e.Disjunction place xs) = each xs
of_expression_form (e.Conjunction place xs) = in_turn xs
of_expression_form (e.Match place pattern x) = and_then (scope x) (of_pattern pattern)
of_expression_form (e.NoMatch place pattern x) = scope (and_then (scope x) (of_pattern pattern))
of_expression_form (e.Enumeration place pattern x) = and_then (scope x) (of_pattern pattern)
of_expression_form (e.Equal place x y) = each (x ∷ y ∷ [])
of_expression_form (e.NotEqual place x y) = each (x ∷ y ∷ [])
of_expression_form (e.Compared place x comparison y) = each (x ∷ y ∷ [])
of_expression_form (e.Is place x name) = scope x
of_expression_form (e.Sum place x rest) = each (x ∷ second_parts rest)
of_expression_form (e.Product place x rest) = each (x ∷ second_parts rest)
of_expression_form (e.Composition place xs) = each xs
of_expression_form (e.Not place x) = scope x
of_expression_form (e.Negative place x) = scope x
of_expression_form (e.Suffixed place x xs) = each (x ∷ xs)
of_expression_form (e.Integer place n) = nothing
of_expression_form (e.Text place bytes) = nothing
of_expression_form (e.Interpolation place first rest) = each (first_parts rest)
of_expression_form (e.Location place path) = nothing
of_expression_form (e.Truth place b) = nothing
of_expression_form (e.It place) = nothing
of_expression_form (e.Visit place strategy subject cs ty) = each (subject ∷ cs)
of_expression_form (e.Fragment place fragment) = in_turn (map hole (in_holes fragment.pieces))
of_expression_form (e.Parenthesized place x) = x
of_expression_form (e.Reducer place start step cs) = and_then (scope start) (under cs (step ∷ []))
of_expression_form (e.Map place entries) = each (flat_map of_entry entries)
of_expression_form (e.MapComprehension place key value cs) = under cs (key ∷ value ∷ [])
of_expression_form (e.Range place first second last) = each (first ∷ option_to_list second ++ last ∷ [])
of_expression_form (e.List place xs) = each xs
of_expression_form (e.ListComprehension place xs cs) = under cs xs
of_expression_form (e.Set place xs) = each xs
of_expression_form (e.SetComprehension place xs cs) = under cs xs
of_expression_form (e.Tuple place xs) = each xs
of_expression_form (e.Call place name xs) = each xs
of_expression_form (e.Splice place x) = scope x
of_expression_form (e.TypeName place name) = nothing
of_expression_form (e.StartSort place start name) = nothing
of_expression_form (e.Loop place x) = scope x
of_expression_form (e.Variable place name) = use_of name

abbrev pub of_suffix_form : e.Suffix-F Naming Naming Naming Naming Naming → Naming
of_suffix_form (e.Subscript place x) = scope x
of_suffix_form (e.Slice place from to) = each (option_to_list from ++ option_to_list to)
of_suffix_form (e.Field place name) = nothing
of_suffix_form (e.TransitiveClosure place) = nothing
of_suffix_form (e.ReflexiveClosure place) = nothing

-- a case is a scope, of its pattern, its conditions and its body
abbrev pub of_case_form : e.Case-F Naming Naming Naming Naming Naming → Naming
of_case_form (e.Default place body) = scope (in_turn body)
of_case_form (e.Replacement place pattern x cs) = scope (and_then (of_pattern pattern) (under cs (x ∷ [])))
of_case_form (e.Statements place pattern body) = scope (and_then (of_pattern pattern) (in_turn body))

abbrev pub of_handler_form : e.Handler-F Naming Naming Naming Naming Naming → Naming
of_handler_form (e.Any place body) = scope body
of_handler_form (e.Matching place pattern body) = scope (and_then (of_pattern pattern) body)

-- a declaration is visible from its end; the conditions of `do` govern nothing, and those of `if` not its `else`
abbrev pub of_statement_form : e.Stat-F Naming Naming Naming Naming Naming → Naming
of_statement_form (e.Block place xs) = scope (in_turn xs)
of_statement_form (e.If place cs x other) = and_then (under cs (x ∷ [])) (each (option_to_list other))
of_statement_form (e.Switch place x cs) = each (x ∷ cs)
of_statement_form (e.For place cs body) = under cs (body ∷ [])
of_statement_form (e.While place cs body) = under cs (body ∷ [])
of_statement_form (e.Do place body cs) = and_then (scope body) (under cs [])
of_statement_form (e.Solve place names body) = and_then (in_turn (map use_of names)) (scope body)
of_statement_form (e.Try place body handlers last) = each (body ∷ handlers ++ option_to_list last)
of_statement_form (e.Return place) = nothing
of_statement_form (e.ReturnValue place x) = scope x
of_statement_form (e.Insert place x) = scope x
of_statement_form (e.Append place x) = scope x
of_statement_form (e.Throw place x) = scope x
of_statement_form (e.Fail place) = nothing
of_statement_form (e.Break place) = nothing
of_statement_form (e.Continue place) = nothing
of_statement_form (e.Empty place) = nothing
of_statement_form (e.Declaration place ty name x) = and_then (scope x) (declares name.name name.number)
of_statement_form (e.TupleAssignment place names x) = and_then (scope x) (in_turn (map assigned names))
of_statement_form (e.Assign place name path op x) = and_then (each (path ++ x ∷ [])) (target op path name)
of_statement_form (e.Expression place x) = scope x

unfoldable pub of_expression : Exp → Naming
of_expression = fold-Exp Naming Naming Naming Naming Naming of_expression_form of_suffix_form of_case_form of_handler_form of_statement_form

unfoldable pub of_statement : Stat → Naming
of_statement = fold-Stat Naming Naming Naming Naming Naming of_expression_form of_suffix_form of_case_form of_handler_form of_statement_form

-- Modules.

abbrev pub of_body : Body → Naming
of_body (Value x cs) = under (map of_expression cs) (of_expression x ∷ [])
of_body (Statements xs) = in_turn (map of_statement xs)

-- the parameters and the statements of a body stand in one scope
abbrev pub of_function : Function → Naming
of_function f = scope (and_then (in_turn (map of_pattern f.parameters)) (of_body f.body))

abbrev pub of_declaration : Decl → Naming
of_declaration (d.Function f) = of_function f
of_declaration (d.Global place private ty name value) = scope (of_expression value)
of_declaration declaration = nothing

-- the globals that a module sees
abbrev pub global_names : List Module → ℕ → Names
global_names modules m = map (λ g. (g.name.name, g.name.number)) (visible_globals modules m)

-- the declarations of a module, each by itself
abbrev pub in_module : List Module → ℕ → List Named
in_module modules m = map (λ declaration. of_declaration declaration (global_names modules m)) (declarations_of modules m)

abbrev pub in_modules : List Module → List Named
in_modules modules = flat_map (in_module modules) (range_with_len 0 (length modules))

abbrev pub numbers_of_global : Decl → List ℕ
numbers_of_global (d.Global place private ty name value) = name.number ∷ []
numbers_of_global declaration = []

-- the numbers of all declarations of variables: the globals, and all others
abbrev pub all_numbers : List Module → List ℕ
all_numbers modules = flat_map (λ m. flat_map numbers_of_global m.declarations) modules ++ flat_map (λ it. it.declared) (in_modules modules)

abbrev pub all_different : List ℕ → Bool
all_different [] = true
all_different (n ∷ ns) = not (list_any (nat_eq n) ns) && all_different ns

-- what the checker makes so: each name has the number of its declaration, and no two declarations have one number
abbrev pub is_numbered : List Module → Bool
is_numbered modules = list_all (λ it. it.right) (in_modules modules) && all_different (all_numbers modules)
