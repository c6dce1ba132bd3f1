-- What a module sees of the others. A module goes by its number, which is its place in the list of modules.
use Rattle.std.specs.Prelude.{ℕ, zero, suc, ◌==◌, ◌||◌, not, Bool, if◌then◌else◌, List, [], ◌∷◌, ◌++◌, length, map, filter, fold, position, filter_map, flat_map, Option, Some, None}
use Rattle.std.specs.List.{list_any, slice_get}
use Rattle.std.specs.Option.{option_map_or}
use Rattle.std.specs.Str.{bytes_eq}
use Rattle.rl_syntax.specs.declared.module.Module.{Module}
use Rattle.rl_syntax.specs.declared.declaration.Decl.{Decl}
use Rattle.rl_syntax.specs.declared.declaration.Decl.TheVariants as d
use Rattle.rl_syntax.specs.declared.declaration.Function.{Function}
use Rattle.rl_syntax.specs.declared.expression.Exp.{Exp}
use Rattle.rl_syntax.specs.declared.identifier.Identifier.{Identifier}
use Rattle.rl_syntax.specs.declared.ty.Ty.{Ty}
use Rattle.rl_visibility.specs.BuiltIn.{is_built_in}

-- What a module names.

abbrev pub declarations_of : List Module → ℕ → List Decl
declarations_of modules m = option_map_or (λ a. a.declarations) (slice_get modules m) []

abbrev pub import_in : Decl → Option (List ℕ)
import_in (d.Import place name) = Some name
import_in declaration = None

abbrev pub extend_in : Decl → Option (List ℕ)
extend_in (d.Extend place name) = Some name
extend_in declaration = None

-- the module of the program that a name leads to: the name of a built-in module leads to none
abbrev pub module_named : List Module → List ℕ → Option ℕ
module_named modules name = if is_built_in name then None else position (λ a. bytes_eq a.name name) modules

-- the modules of the program that a module imports, in text order
abbrev pub imported : List Module → ℕ → List ℕ
imported modules m = filter_map (module_named modules) (filter_map import_in (declarations_of modules m))

-- those that it extends
abbrev pub extended : List Module → ℕ → List ℕ
extended modules m = filter_map (module_named modules) (filter_map extend_in (declarations_of modules m))

-- the built-in modules that it imports, or extends, which is the same
abbrev pub built_in : List Module → ℕ → List (List ℕ)
built_in modules m = filter is_built_in (filter_map import_in (declarations_of modules m) ++ filter_map extend_in (declarations_of modules m))

-- Its own modules.

abbrev pub is_among : List ℕ → ℕ → Bool
is_among ms m = list_any (λ n. n == m) ms

-- after the modules that were met: a module that was not met, and then those that it extends, each with those that it extends; no way of extends without repeats is longer than the list of modules
abbrev pub own_within : ℕ → List Module → List ℕ → ℕ → List ℕ
own_within zero modules met m = met
own_within (suc k) modules met m = if is_among met m then met else fold (own_within k modules) (met ++ m ∷ []) (extended modules m)

-- a module, and then the modules that it extends in text order, each with those that it extends, depth first, each module once
abbrev pub own : List Module → ℕ → List ℕ
own modules m = own_within (length modules) modules [] m

-- each element once, at its first place, where a test says which are the same
abbrev pub distinct : {A : Type 0} → (A → A → Bool) → List A → List A
distinct same xs = fold (λ met x. if list_any (same x) met then met else met ++ x ∷ []) [] xs

-- Its globals.

pub record Global : Type 0 where
  -- the module in which it stands
  pub home : ℕ
  pub ty : Ty
  pub name : Identifier
  pub value : Exp

-- a declaration of a module as a global, where another module sees it; its own module sees also what is private
abbrev pub global_in : (viewer home : ℕ) → Decl → Option Global
global_in viewer home (d.Global place private ty name value) =
    if not private || (home == viewer) then Some (record { home = home; ty = ty; name = name; value = value }) else None
global_in viewer home declaration = None

abbrev pub globals_in : List Module → (viewer home : ℕ) → List Global
globals_in modules viewer home = filter_map (global_in viewer home) (declarations_of modules home)

-- The globals that are visible in a module: those of its own modules and then of each import's own modules, in text order. A module counts once.
abbrev pub visible_globals : List Module → ℕ → List Global
visible_globals modules m = flat_map (globals_in modules m) (distinct (λ a b. a == b) (own modules m ++ flat_map (own modules) (imported modules m)))

-- Its functions.

-- an alternative of a function
pub record Alternative : Type 0 where
  -- the module in which it stands
  pub home : ℕ
  -- the module that acts in its body
  pub acting : ℕ
  pub function : Function

-- a declaration of a module as an alternative, where another module sees it; its own module sees also what is private
abbrev pub alternative_in : (viewer home acting : ℕ) → Decl → Option Alternative
alternative_in viewer home acting (d.Function function) =
    if not function.private || (home == viewer) then Some (record { home = home; acting = acting; function = function }) else None
alternative_in viewer home acting declaration = None

abbrev pub alternatives_in : List Module → (viewer : ℕ) → (home acting : ℕ) → List Alternative
alternatives_in modules viewer home acting = filter_map (alternative_in viewer home acting) (declarations_of modules home)

-- a module's own modules, in whose bodies it acts
abbrev pub own_acting : List Module → ℕ → List (ℕ × ℕ)
own_acting modules m = map (λ home. (home, m)) (own modules m)

-- The alternatives that a call in module x finds, where module m acts: those of m's own modules, then those of the own modules of each import of m, and then of each import of x, in text order. A module counts once, at its first place.
abbrev pub alternatives : List Module → (x m : ℕ) → List Alternative
alternatives modules x m =
    flat_map (λ p. alternatives_in modules x p.0 p.1)
    (distinct (λ a b. a.0 == b.0) (own_acting modules m ++ flat_map (own_acting modules) (imported modules m ++ imported modules x)))

-- the functions that are visible in a module
abbrev pub visible_functions : List Module → ℕ → List Alternative
visible_functions modules m = alternatives modules m m
