-- Small modules, whose numbers are right or not.
use Rattle.std.specs.Prelude.{◌≡◌, ℕ, Bool, true, false, List, [], ◌∷◌, Some, codes}
use Rattle.rl_syntax.specs.declared.expression.Exp.{Exp}
use Rattle.rl_syntax.specs.declared.expression.Exp.TheVariants as x
use Rattle.rl_syntax.specs.declared.fragment.Concrete.{Concrete}
use Rattle.rl_syntax.specs.declared.fragment.Piece.TheVariants.{Hole}
use Rattle.rl_syntax.specs.declared.identifier.PatternVariable.{PatternVariable}
use Rattle.rl_syntax.specs.declared.module.Module.{Module}
use Rattle.rl_syntax.specs.declared.operator.Assignment.{Assignment}
use Rattle.rl_syntax.specs.declared.operator.Assignment.TheVariants.{Set, Add}
use Rattle.rl_syntax.specs.declared.pattern.Pattern.{Pattern}
use Rattle.rl_syntax.specs.declared.pattern.Pattern.TheVariants as p
use Rattle.rl_syntax.specs.declared.pattern.PatternElement.TheVariants as q
use Rattle.rl_syntax.specs.declared.statement.Stat.{Stat}
use Rattle.rl_syntax.specs.declared.statement.Stat.TheVariants as t
use Rattle.rl_rules.specs.Building.{here, name, number, set, int_type, void_type, global, function, provided, matches, only, nothing, repeat_after, module_named}
use Rattle.rl_rules.specs.Cleared.{cleared}
use Rattle.rl_rules.specs.Numbering.{is_numbered}

abbrev pub named : List ℕ → ℕ → Exp
named text n = x.Variable here (name text n)

abbrev pub new_named : List ℕ → ℕ → Pattern
new_named text n = p.Variable here (record { place = here; name = text; number = n; is_test = false })

-- int g = 1; void main() { int x = g; if (y := x) y; }, with these numbers where y is bound and where it is used
abbrev pub bound_and_used : ℕ → ℕ → List Module
bound_and_used bound used =
    module_named (codes "Main") (
    global (codes "g") 0 (number 1)
    ∷ function void_type (codes "main") [] (
    t.Declaration here int_type (name (codes "x") 1) (named (codes "g") 0)
    ∷ provided (matches (new_named (codes "y") bound) (named (codes "x") 1) ∷ []) (only (named (codes "y") used))
    ∷ [])
    ∷ [])
    ∷ []

-- each name has the number of its declaration
abbrev pub NumbersOfNames : Type 0
NumbersOfNames = (is_numbered (bound_and_used 2 2) ≡ true) × (is_numbered (bound_and_used 2 1) ≡ false)

-- int g = 1; void main() { if (!y := g) ; }, with this number of y
abbrev pub bound_inside : ℕ → List Module
bound_inside bound =
    module_named (codes "Main") (
    global (codes "g") 0 (number 1)
    ∷ function void_type (codes "main") [] (provided (matches (p.Negation here (new_named (codes "y") bound)) (named (codes "g") 0) ∷ []) nothing ∷ [])
    ∷ [])
    ∷ []

-- each declaration has a number of its own, one inside `!p` too, and no local has a global's number
abbrev pub NumbersInsideNegations : Type 0
NumbersInsideNegations = (is_numbered (bound_inside 1) ≡ true) × (is_numbered (bound_inside 0) ≡ false)

-- void main() { body }
abbrev pub main_of : List Stat → List Module
main_of body = module_named (codes "Main") (function void_type (codes "main") [] body ∷ []) ∷ []

abbrev pub y : ℕ → Bool → PatternVariable
y n is_test = record { place = here; name = codes "y"; number = n; is_test = is_test }

-- if ({*y, y} := {1}) ;, where the star is a test or the other is one
abbrev pub with_star : (star one : Bool) → List Module
with_star star one =
    main_of (provided (matches (p.Set here (q.Rest here (y 1 star) ∷ q.Single (p.Variable here (y 1 one)) ∷ [])) (set (number 1 ∷ [])) ∷ []) nothing ∷ [])

-- in a set pattern the stars serve last: the star is the second
abbrev pub StarsServeLast : Type 0
StarsServeLast = (is_numbered (with_star true false) ≡ true) × (is_numbered (with_star false true) ≡ false)

-- y := 1
abbrev pub condition : List Exp
condition = matches (new_named (codes "y") 1) (number 1) ∷ []

-- the conditions of `if` are seen in what it governs and not in its `else`, and those of `do` not in its body
abbrev pub ConditionsGovern : Type 0
ConditionsGovern =
    (is_numbered (main_of (provided condition (only (named (codes "y") 1)) ∷ [])) ≡ true)
    × (is_numbered (main_of (t.If here condition nothing (Some (only (named (codes "y") 1))) ∷ [])) ≡ false)
    × (is_numbered (main_of (repeat_after (only (named (codes "y") 1)) condition ∷ [])) ≡ false)

-- void main() { x = 1; x; }, with this assignment
abbrev pub assigned_first : Assignment → List Module
assigned_first op = main_of (t.Assign here (name (codes "x") 1) [] op (number 1) ∷ only (named (codes "x") 1) ∷ [])

-- `x = e` declares, and `x += e` does not; <y, x> = e declares each
abbrev pub OnlySettingDeclares : Type 0
OnlySettingDeclares =
    (is_numbered (assigned_first Set) ≡ true)
    × (is_numbered (assigned_first Add) ≡ false)
    × (is_numbered (main_of (t.TupleAssignment here (name (codes "y") 1 ∷ name (codes "x") 2 ∷ []) (number 1) ∷ only (named (codes "x") 2) ∷ [])) ≡ true)

-- (E) `<E y>`, with this variable
abbrev pub fragment_with : PatternVariable → Concrete
fragment_with x =
    record { place = here; sort = codes "E"; sort_place = here; text_place = here; pieces = Hole (codes "E") x ∷ []; number = 0 }

-- int y = 1; (E) `<E y>`;
abbrev pub filled_with : Bool → List Module
filled_with is_test = main_of (t.Declaration here int_type (name (codes "y") 1) (number 1) ∷ only (x.Fragment here (fragment_with (y 1 is_test))) ∷ [])

-- a hole in an expression asks for a variable and is no test
abbrev pub HolesAreNoTests : Type 0
HolesAreNoTests = (is_numbered (filled_with false) ≡ true) × (is_numbered (filled_with true) ≡ false)

-- int y = 1; if ((E) `<E y>` := y) y;, with these numbers in the hole and where y is used in the end
abbrev pub bound_in_hole : ℕ → Bool → ℕ → List Module
bound_in_hole bound is_test used =
    main_of (
    t.Declaration here int_type (name (codes "y") 1) (number 1)
    ∷ provided (matches (p.Fragment here (fragment_with (y bound is_test))) (named (codes "y") 1) ∷ []) (only (named (codes "y") used))
    ∷ [])

-- a hole in a pattern is typed: it is new, also where its name is visible
abbrev pub HolesAreNew : Type 0
HolesAreNew = (is_numbered (bound_in_hole 2 false 2) ≡ true) × (is_numbered (bound_in_hole 1 true 1) ≡ false)

-- without numbers they are the same modules
abbrev pub AreTheSameCleared : Type 0
AreTheSameCleared = cleared (bound_inside 1) ≡ cleared (bound_inside 0)
