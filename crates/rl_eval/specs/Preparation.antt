-- Which programs run, and what they print.
use Rattle.std.specs.Prelude.{◌≡◌, ℕ, ◌^◌, ◌&&◌, not, nat_lt, Bool, true, false, is_some, if◌then◌else◌, List, [], ◌∷◌, length, Option, Some, None, Result, Ok, Err, codes}
use Rattle.std.specs.List.{list_any}
use Rattle.std.specs.Str.{bytes_eq}
use Rattle.rl_base.specs.declared.place.Place.{Place}
use Rattle.rl_syntax.specs.Declaration.{place_of_declaration}
use Rattle.rl_syntax.specs.Expression.{place_of_expression}
use Rattle.rl_syntax.specs.Pattern.{place_of_pattern}
use Rattle.rl_syntax.specs.Statement.{place_of_statement}
use Rattle.rl_syntax.specs.declared.declaration.Body.{Body}
use Rattle.rl_syntax.specs.declared.declaration.Body.TheVariants.{Statements}
use Rattle.rl_syntax.specs.declared.declaration.Decl.{Decl}
use Rattle.rl_syntax.specs.declared.declaration.Decl.TheVariants as d
use Rattle.rl_syntax.specs.declared.declaration.Function.{Function}
use Rattle.rl_syntax.specs.declared.expression.Exp.{Exp, out-Exp}
use Rattle.rl_syntax.specs.declared.expression.Exp.TheOpen as e
use Rattle.rl_syntax.specs.declared.expression.Suffix.{Suffix}
use Rattle.rl_syntax.specs.declared.statement.Case.{Case}
use Rattle.rl_syntax.specs.declared.statement.Handler.{Handler}
use Rattle.rl_syntax.specs.declared.statement.Stat.{Stat, out-Stat}
use Rattle.rl_syntax.specs.declared.module.Module.{Module}
use Rattle.rl_syntax.specs.declared.pattern.Pattern.{Pattern, out-Pattern}
use Rattle.rl_syntax.specs.declared.pattern.Pattern.TheOpen as p
use Rattle.rl_syntax.specs.declared.pattern.PatternElement.{PatternElement}
use Rattle.rl_syntax.specs.declared.ty.Ty.{Ty, out-Ty}
use Rattle.rl_syntax.specs.declared.ty.Ty.TheOpen as t
use Rattle.rl_syntax.specs.declared.ty.Field.{Field}
use Rattle.rl_syntax.specs.Fault.{fault_at, start}
use Rattle.rl_syntax.specs.declared.fault.Fault.{Fault}
use Rattle.rl_eval.specs.declared.preparation.Unbuilt.{Unbuilt}
use Rattle.rl_eval.specs.declared.preparation.Unbuilt.TheVariants as unbuilt
use Rattle.rl_eval.specs.declared.preparation.PrepareEnd.{PrepareEnd}
use Rattle.rl_eval.specs.declared.preparation.PrepareEnd.TheVariants as end

-- what is built of a form, or the first token of what is not built yet
abbrev pub Built : Type 0 → Type 0
Built A = Result A Place

abbrev pub and_built : {A B : Type 0} → Built A → (A → Built B) → Built B
and_built (Err place) go = Err place
and_built (Ok x) go = go x

-- one after another, up to the first that is not built
abbrev pub all_built : {A B : Type 0} → (A → Built B) → List A → Built (List B)
all_built build [] = Ok []
all_built build (x ∷ xs) = and_built (build x) (λ y. and_built (all_built build xs) (λ ys. Ok (y ∷ ys)))

-- the text of a string literal; it fits, since it is shorter than the longest file
abbrev pub text_in : Place → e.Exp-F Exp Suffix Case Handler Stat → Built (List ℕ)
text_in at (e.Text place text) = if nat_lt (length text) (2 ^ 24) then Ok text else Err at
text_in at layer = Err at

abbrev pub text_of : Exp → Built (List ℕ)
text_of x = text_in (place_of_expression x) (out-Exp x)

abbrev pub only_text : Place → List Exp → Built (List ℕ)
only_text at (x ∷ []) = text_of x
only_text at xs = Err at

-- the text that a call prints: that of println("text"), where println is visible
abbrev pub printed_in : (visible : Bool) → Place → e.Exp-F Exp Suffix Case Handler Stat → Built (List ℕ)
printed_in visible at (e.Call place name xs) = if visible && bytes_eq name.name (codes "println") then only_text at xs else Err at
printed_in visible at layer = Err at

abbrev pub statement_in : (visible : Bool) → Place → e.Stat-F Exp Suffix Case Handler Stat → Built (List ℕ)
statement_in visible at (e.Expression place x) = printed_in visible at (out-Exp x)
statement_in visible at layer = Err at

-- the text that a statement prints
abbrev pub statement_of : (visible : Bool) → Stat → Built (List ℕ)
statement_of visible x = statement_in visible (place_of_statement x) (out-Stat x)

-- list[str] x
abbrev pub is_str : t.Ty-F Ty Field → Bool
is_str (t.Str place) = true
is_str layer = false

abbrev pub is_list_of_str : t.Ty-F Ty Field → Bool
is_list_of_str (t.List place element) = is_str (out-Ty element)
is_list_of_str layer = false

abbrev pub takes_words : p.Pattern-F Pattern PatternElement → Bool
takes_words (p.TypedVariable place ty variable) = is_list_of_str (out-Ty ty)
takes_words layer = false

-- no parameter, or one that takes the words
abbrev pub parameters_built : Place → List Pattern → Built (Unit {0})
parameters_built at [] = Ok tt
parameters_built at (x ∷ []) = if takes_words (out-Pattern x) then Ok tt else Err (place_of_pattern x)
parameters_built at (x ∷ y ∷ xs) = Err at

abbrev pub is_void : t.Ty-F Ty Field → Bool
is_void (t.Void place) = true
is_void layer = false

-- void NAME(..) { .. }
abbrev pub statements_in : Place → (void : Bool) → Body → Built (List Stat)
statements_in at true (Statements xs) = Ok xs
statements_in at void body = Err at

-- the texts that a function prints
abbrev pub function_of : (visible : Bool) → Function → Built (List (List ℕ))
function_of visible f =
    and_built (statements_in f.place (is_void (out-Ty f.ty)) f.body) (λ xs.
    and_built (parameters_built f.place f.parameters) (λ _.
    all_built (statement_of visible) xs))

-- the name of what runs: `main` of the first module
abbrev pub is_main : (first : Bool) → List ℕ → Bool
is_main first name = first && bytes_eq name (codes "main")

-- a function of one's own named println is not built, nor is a second alternative of what runs
abbrev pub is_built_name : (first : Bool) → (found : Option (List (List ℕ))) → List ℕ → Bool
is_built_name first found name = not (bytes_eq name (codes "println")) && not (is_main first name && is_some found)

abbrev pub found_with : (first : Bool) → Option (List (List ℕ)) → (name : List ℕ) → (texts : List (List ℕ)) → Option (List (List ℕ))
found_with first found name texts = if is_main first name then Some texts else found

-- what is found by a declaration, behind what was found before it: a function is built, and what runs is found
abbrev pub declaration_built : (visible first : Bool) → Option (List (List ℕ)) → Decl → Built (Option (List (List ℕ)))
declaration_built visible first found (d.Import place name) = Ok found
declaration_built visible first found (d.Extend place name) = Ok found
declaration_built visible first found (d.Function f) =
    if is_built_name first found f.name.name then and_built (function_of visible f) (λ texts. Ok (found_with first found f.name.name texts)) else Err f.place
declaration_built visible first found other = Err (place_of_declaration other)

abbrev pub declarations_built : (visible first : Bool) → Option (List (List ℕ)) → List Decl → Built (Option (List (List ℕ)))
declarations_built visible first found [] = Ok found
declarations_built visible first found (x ∷ xs) = and_built (declaration_built visible first found x) (λ more. declarations_built visible first more xs)

-- the built-in module that has println
abbrev pub imports_io : Decl → Bool
imports_io (d.Import place name) = bytes_eq name (codes "IO")
imports_io (d.Extend place name) = bytes_eq name (codes "IO")
imports_io other = false

-- println is visible where the module imports it
abbrev pub module_declarations : (first : Bool) → List Decl → Built (Option (List (List ℕ)))
module_declarations first declarations = declarations_built (list_any imports_io declarations) first None declarations

-- what is not built in a module is M12 there
abbrev pub module_built : {A B : Type 0} → (path : List ℕ) → Built A → (A → Result B Fault) → Result B Fault
module_built path (Err place) go = Err (fault_at (path, place) 12)
module_built path (Ok x) go = go x

-- the functions of the others are built, and do not run
abbrev pub others_built : List Module → Result (Unit {0}) Fault
others_built [] = Ok tt
others_built (it ∷ more) = module_built it.path (module_declarations false it.declarations) (λ _. others_built more)

-- no main is M29, at the start of the first module, where all is built
abbrev pub with_main : (path : List ℕ) → Option (List (List ℕ)) → Result (Unit {0}) Fault → Result (List (List ℕ)) Fault
with_main path found (Err fault) = Err fault
with_main path None (Ok _) = Err (fault_at (path, start) 29)
with_main path (Some texts) (Ok _) = Ok texts

-- The texts that the program of these modules prints: those of `main` of the first module. Where a form is not built yet, it is the fault M12, at the first token of the first such form, in the order of the modules and of the text.
abbrev pub prepared_of : List Module → Result (List (List ℕ)) Fault
prepared_of [] = Err (fault_at ([], start) 29)
prepared_of (it ∷ more) = module_built it.path (module_declarations true it.declarations) (λ found. with_main it.path found (others_built more))

-- it is that, unless memory is wanting
abbrev pub IsBuilt : {A : Type 0} → Built A → Result A Unbuilt → Type 0
IsBuilt meant (Ok x) = meant ≡ Ok x
IsBuilt meant (Err (unbuilt.At place)) = meant ≡ Err place
IsBuilt meant (Err unbuilt.OutOfMemory) = Unit {0}

abbrev pub Prepares : {A : Type 0} → Result A Fault → Result A PrepareEnd → Type 0
Prepares meant (Ok x) = meant ≡ Ok x
Prepares meant (Err (end.Fault fault)) = meant ≡ Err fault
Prepares meant (Err end.OutOfMemory) = Unit {0}

-- what is not built in a module is M12 in its file
abbrev pub Refuses : (path : List ℕ) → Unbuilt → PrepareEnd → Type 0
Refuses path (unbuilt.At place) refusal = Prepares {A = List (List ℕ)} (Err (fault_at (path, place) 12)) (Err refusal)
Refuses path unbuilt.OutOfMemory refusal = refusal ≡ end.OutOfMemory
