-- The bindings of each form of pattern, by those of the patterns in it.
use Rattle.std.specs.Prelude.{◌≡◌, ℕ, ℤ, Bool, List, [], ◌∷◌, map, flat_map}
use Rattle.std.proofs.Common.{refl, ◌∙◌, ap}
use Rattle.rl_base.specs.declared.place.Place.{Place}
use Rattle.rl_value.specs.Plain.{Plain, bool, int, text}
use Rattle.rl_syntax.specs.declared.identifier.Identifier.{Identifier}
use Rattle.rl_syntax.specs.declared.identifier.PatternVariable.{PatternVariable}
use Rattle.rl_syntax.specs.declared.ty.Ty.{Ty}
use Rattle.rl_syntax.specs.declared.pattern.Pattern.{Pattern, out-Pattern}
use Rattle.rl_syntax.specs.declared.pattern.Pattern.TheVariants as v
use Rattle.rl_syntax.specs.declared.pattern.PatternElement.{PatternElement, out-PatternElement}
use Rattle.rl_syntax.specs.declared.pattern.PatternElement.TheVariants as e
use Rattle.rl_match.specs.Below.{below}
use Rattle.rl_match.specs.Tests.{variables_in, element_variables, all_of}
use Rattle.rl_match.specs.Bindings.{Binding, Context, one, star, bindings, element, on_type, on_both, on_variable, on_literal, where_none, on_constructor, on_list_value, on_set_value, on_tuple, on_elements_of_type}
use Rattle.rl_syntax.specs.declared.pattern.Pattern.TheBlock.{shown-the_row-Pattern-0, shown-the_row-Pattern-Constructor-2-1-1, shown-the_row-PatternElement-2, seen-the_row-Pattern-Constructor-2-1-1, seen-the_row-PatternElement-2}
use denote.Hole.Carrier.{out, shown, hidden}
use Rattle.rl_match.proofs.Levels.{bindings-by_form, variables-by_form}

-- what a form computes by
opening : Unit {0}
unfolding bindings element variables_in element_variables out-Pattern out-PatternElement out shown hidden shown-the_row-Pattern-0 shown-the_row-Pattern-Constructor-2-1-1 shown-the_row-PatternElement-2
opening = tt

pub bindings-TypedBinding : (c : Context) (place : Place) (ty : Ty) (x : PatternVariable) (inner : Pattern) (u : Plain) (b : Binding) → bindings c (v.TypedBinding place ty x inner) u b ≡ on_type c ty (on_both (on_variable c x) (bindings c inner)) u b
unfolding opening
bindings-TypedBinding c place ty x inner u b = ap (λ m. m u b) (bindings-by_form c (v.TypedBinding place ty x inner))

pub bindings-Binding : (c : Context) (place : Place) (x : PatternVariable) (inner : Pattern) (u : Plain) (b : Binding) → bindings c (v.Binding place x inner) u b ≡ on_both (on_variable c x) (bindings c inner) u b
unfolding opening
bindings-Binding c place x inner u b = ap (λ m. m u b) (bindings-by_form c (v.Binding place x inner))

pub bindings-Negation : (c : Context) (place : Place) (inner : Pattern) (u : Plain) (b : Binding) → bindings c (v.Negation place inner) u b ≡ where_none (bindings c inner u b) b
unfolding opening
bindings-Negation c place inner u b = ap (λ m. m u b) (bindings-by_form c (v.Negation place inner))

pub bindings-Descendant : (c : Context) (place : Place) (inner : Pattern) (u : Plain) (b : Binding) → bindings c (v.Descendant place inner) u b ≡ flat_map (λ w. bindings c inner w b) (below u)
unfolding opening
bindings-Descendant c place inner u b = ap (λ m. m u b) (bindings-by_form c (v.Descendant place inner))

pub bindings-Constructor : (c : Context) (place : Place) (name : Identifier) (parts : List Pattern) (u : Plain) (b : Binding) → bindings c (v.Constructor place name parts) u b ≡ on_constructor name.name (map (bindings c) parts) u b
unfolding opening
bindings-Constructor c place name parts u b = ap (λ m. m u b) (bindings-by_form c (v.Constructor place name parts) ∙ ap (λ xs. on_constructor name.name (map (bindings c) xs)) (seen-the_row-Pattern-Constructor-2-1-1 parts))

pub bindings-TypedVariable : (c : Context) (place : Place) (ty : Ty) (x : PatternVariable) (u : Plain) (b : Binding) → bindings c (v.TypedVariable place ty x) u b ≡ on_type c ty (on_variable c x) u b
unfolding opening
bindings-TypedVariable c place ty x u b = ap (λ m. m u b) (bindings-by_form c (v.TypedVariable place ty x))

pub bindings-TypedWildcard : (c : Context) (place : Place) (ty : Ty) (u : Plain) (b : Binding) → bindings c (v.TypedWildcard place ty) u b ≡ on_type c ty (λ v b. b ∷ []) u b
unfolding opening
bindings-TypedWildcard c place ty u b = ap (λ m. m u b) (bindings-by_form c (v.TypedWildcard place ty))

pub bindings-List : (c : Context) (place : Place) (elements : List PatternElement) (u : Plain) (b : Binding) → bindings c (v.List place elements) u b ≡ on_list_value (map (element c) elements) u b
unfolding opening
bindings-List c place elements u b = ap (λ m. m u b) (bindings-by_form c (v.List place elements) ∙ ap (λ xs. on_list_value (map (element c) xs)) (seen-the_row-PatternElement-2 elements))

pub bindings-Set : (c : Context) (place : Place) (elements : List PatternElement) (u : Plain) (b : Binding) → bindings c (v.Set place elements) u b ≡ on_set_value (map (element c) elements) u b
unfolding opening
bindings-Set c place elements u b = ap (λ m. m u b) (bindings-by_form c (v.Set place elements) ∙ ap (λ xs. on_set_value (map (element c) xs)) (seen-the_row-PatternElement-2 elements))

pub bindings-Tuple : (c : Context) (place : Place) (parts : List Pattern) (u : Plain) (b : Binding) → bindings c (v.Tuple place parts) u b ≡ on_tuple (map (bindings c) parts) u b
unfolding opening
bindings-Tuple c place parts u b = ap (λ m. m u b) (bindings-by_form c (v.Tuple place parts) ∙ ap (λ xs. on_tuple (map (bindings c) xs)) (seen-the_row-Pattern-Constructor-2-1-1 parts))

pub bindings-Integer : (c : Context) (place : Place) (n : ℤ) (u : Plain) (b : Binding) → bindings c (v.Integer place n) u b ≡ on_literal (int n) u b
unfolding opening
bindings-Integer c place n u b = ap (λ m. m u b) (bindings-by_form c (v.Integer place n))

pub bindings-Text : (c : Context) (place : Place) (bytes : List ℕ) (u : Plain) (b : Binding) → bindings c (v.Text place bytes) u b ≡ on_literal (text bytes) u b
unfolding opening
bindings-Text c place bytes u b = ap (λ m. m u b) (bindings-by_form c (v.Text place bytes))

pub bindings-Truth : (c : Context) (place : Place) (truth : Bool) (u : Plain) (b : Binding) → bindings c (v.Truth place truth) u b ≡ on_literal (bool truth) u b
unfolding opening
bindings-Truth c place truth u b = ap (λ m. m u b) (bindings-by_form c (v.Truth place truth))

pub bindings-Wildcard : (c : Context) (place : Place) (u : Plain) (b : Binding) → bindings c (v.Wildcard place) u b ≡ b ∷ []
unfolding opening
bindings-Wildcard c place u b = ap (λ m. m u b) (bindings-by_form c (v.Wildcard place))

pub bindings-Variable : (c : Context) (place : Place) (x : PatternVariable) (u : Plain) (b : Binding) → bindings c (v.Variable place x) u b ≡ on_variable c x u b
unfolding opening
bindings-Variable c place x u b = ap (λ m. m u b) (bindings-by_form c (v.Variable place x))

pub element-AnyRest : (c : Context) (place : Place) → element c (e.AnyRest place) ≡ star (λ v b. b ∷ [])
unfolding opening
element-AnyRest c place = refl

pub element-TypedRest : (c : Context) (place : Place) (ty : Ty) (x : PatternVariable) → element c (e.TypedRest place ty x) ≡ star (on_elements_of_type c ty (on_variable c x))
unfolding opening
element-TypedRest c place ty x = refl

pub element-Rest : (c : Context) (place : Place) (x : PatternVariable) → element c (e.Rest place x) ≡ star (on_variable c x)
unfolding opening
element-Rest c place x = refl

pub element-Single : (c : Context) (pattern : Pattern) → element c (e.Single pattern) ≡ one (bindings c pattern)
unfolding opening
element-Single c pattern = refl

-- Their variables.

pub variables-Binding : (place : Place) (x : PatternVariable) (inner : Pattern) → variables_in (v.Binding place x inner) ≡ x ∷ variables_in inner
unfolding opening
variables-Binding place x inner = variables-by_form (v.Binding place x inner)

pub variables-Descendant : (place : Place) (inner : Pattern) → variables_in (v.Descendant place inner) ≡ variables_in inner
unfolding opening
variables-Descendant place inner = variables-by_form (v.Descendant place inner)

pub variables-Constructor : (place : Place) (name : Identifier) (parts : List Pattern) → variables_in (v.Constructor place name parts) ≡ all_of (map variables_in parts)
unfolding opening
variables-Constructor place name parts = variables-by_form (v.Constructor place name parts) ∙ ap (λ xs. all_of (map variables_in xs)) (seen-the_row-Pattern-Constructor-2-1-1 parts)

pub variables-TypedVariable : (place : Place) (ty : Ty) (x : PatternVariable) → variables_in (v.TypedVariable place ty x) ≡ x ∷ []
unfolding opening
variables-TypedVariable place ty x = variables-by_form (v.TypedVariable place ty x)

pub variables-List : (place : Place) (elements : List PatternElement) → variables_in (v.List place elements) ≡ all_of (map element_variables elements)
unfolding opening
variables-List place elements = variables-by_form (v.List place elements) ∙ ap (λ xs. all_of (map element_variables xs)) (seen-the_row-PatternElement-2 elements)

pub variables-Set : (place : Place) (elements : List PatternElement) → variables_in (v.Set place elements) ≡ all_of (map element_variables elements)
unfolding opening
variables-Set place elements = variables-by_form (v.Set place elements) ∙ ap (λ xs. all_of (map element_variables xs)) (seen-the_row-PatternElement-2 elements)

pub variables-Tuple : (place : Place) (parts : List Pattern) → variables_in (v.Tuple place parts) ≡ all_of (map variables_in parts)
unfolding opening
variables-Tuple place parts = variables-by_form (v.Tuple place parts) ∙ ap (λ xs. all_of (map variables_in xs)) (seen-the_row-Pattern-Constructor-2-1-1 parts)

pub variables-Integer : (place : Place) (n : ℤ) → variables_in (v.Integer place n) ≡ []
unfolding opening
variables-Integer place n = variables-by_form (v.Integer place n)

pub variables-Wildcard : (place : Place) → variables_in (v.Wildcard place) ≡ []
unfolding opening
variables-Wildcard place = variables-by_form (v.Wildcard place)

pub variables-Variable : (place : Place) (x : PatternVariable) → variables_in (v.Variable place x) ≡ x ∷ []
unfolding opening
variables-Variable place x = variables-by_form (v.Variable place x)

pub element-variables-Rest : (place : Place) (x : PatternVariable) → element_variables (e.Rest place x) ≡ x ∷ []
unfolding opening
element-variables-Rest place x = refl

pub element-variables-Single : (pattern : Pattern) → element_variables (e.Single pattern) ≡ variables_in pattern
unfolding opening
element-variables-Single pattern = refl
