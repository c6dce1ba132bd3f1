-- Modules with little in them, for examples.
use Rattle.std.specs.Prelude.{ℕ, Bool, true, false, List, [], ◌∷◌, map, None, codes}
use Rattle.rl_base.specs.declared.place.Place.{Place}
use Rattle.rl_syntax.specs.declared.module.Module.{Module}
use Rattle.rl_syntax.specs.declared.declaration.Body.TheVariants.{Statements}
use Rattle.rl_syntax.specs.declared.declaration.Decl.{Decl}
use Rattle.rl_syntax.specs.declared.declaration.Decl.TheVariants as d
use Rattle.rl_syntax.specs.declared.expression.Exp.TheVariants.{Truth}
use Rattle.rl_syntax.specs.declared.identifier.Identifier.{Identifier}
use Rattle.rl_syntax.specs.declared.ty.Ty.TheVariants.{Bool as BoolType, Void}
use Rattle.rl_visibility.specs.Visible.{Alternative, Global, alternatives}

abbrev start : Place
start = record { «module» = 0; offset = 0; line = 1; column = 1 }

abbrev name_of : List ℕ → Identifier
name_of text = record { place = start; name = text; number = 0 }

abbrev pub module_of : List ℕ → List Decl → Module
module_of name declarations = record { place = start; path = []; name = name; declarations = declarations }

abbrev pub imports : List ℕ → Decl
imports name = d.Import start name

abbrev pub extends : List ℕ → Decl
extends name = d.Extend start name

-- void NAME() { }
abbrev pub function : (private : Bool) → List ℕ → Decl
function private name =
    d.Function (record { place = start; private = private; modifier = None; ty = Void start; name = name_of name; parameters = []; body = Statements [] })

-- bool NAME = true;
abbrev pub global : (private : Bool) → List ℕ → Decl
global private name = d.Global start private (BoolType start) (name_of name) (Truth start true)

-- the names of alternatives, each with the module in which it stands and the module that acts in it
abbrev pub shown : List Alternative → List (List ℕ × ℕ × ℕ)
shown alternatives = map (λ a. (a.function.name.name, a.home, a.acting)) alternatives

-- the names of globals, each with its module
abbrev pub shown_globals : List Global → List (List ℕ × ℕ)
shown_globals globals = map (λ g. (g.name.name, g.home)) globals

-- module 0 extends A and B, A extends C, and B extends C, module 0 and a built-in module
abbrev pub extending : List Module
extending =
    module_of (codes "Main") (extends (codes "A") ∷ extends (codes "B") ∷ [])
    ∷ module_of (codes "A") (extends (codes "C") ∷ [])
    ∷ module_of (codes "C") []
    ∷ module_of (codes "B") (extends (codes "C") ∷ extends (codes "IO") ∷ extends (codes "Main") ∷ [])
    ∷ []

-- module 0 extends A and imports B, which extends C and imports D; each has a function, and A and B have a private one and a private global too
abbrev pub mixed : List Module
mixed =
    module_of (codes "Main") (extends (codes "A") ∷ imports (codes "B") ∷ function false (codes "f") ∷ global true (codes "n") ∷ [])
    ∷ module_of (codes "A") (imports (codes "D") ∷ function false (codes "a") ∷ function true (codes "p") ∷ global true (codes "o") ∷ [])
    ∷ module_of (codes "D") (function false (codes "d") ∷ [])
    ∷ module_of (codes "B") (extends (codes "C") ∷ imports (codes "D") ∷ function false (codes "b") ∷ function true (codes "q") ∷ global false (codes "k") ∷ [])
    ∷ module_of (codes "C") (function false (codes "c") ∷ [])
    ∷ []
