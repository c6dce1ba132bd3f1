-- Of what is outside, a pattern sees only the values of the variables that it tests.
use Rattle.std.proofs.Common.{◌≡◌, ℕ, zero, suc, nat_eq, ◌≤◌, max, Bool, true, false, if◌then◌else◌, List, [], ◌∷◌, ◌++◌, map, Option, Some, refl, sym, ◌∙◌, ap, subst, arith}
use Rattle.std.specs.Prelude.{IsTrue}
use mathlib.Core.Path.{fun_ext}
use Rattle.rl_syntax.specs.declared.identifier.PatternVariable.{PatternVariable}
use Rattle.rl_syntax.specs.declared.pattern.Pattern.{Pattern, out-Pattern}
use Rattle.rl_syntax.specs.declared.pattern.Pattern.TheOpen as p
use Rattle.rl_syntax.specs.declared.pattern.Pattern.TheFolds.{fold-Pattern, fold-PatternElement, fold_out-Pattern, fold_out-PatternElement}
use Rattle.rl_syntax.specs.declared.pattern.PatternElement.{PatternElement, out-PatternElement}
use Rattle.rl_value.specs.Plain.{Plain}
use Rattle.rl_match.specs.Bindings.{Binding, Context, one, star, value_in, where_same, on_variable, on_type, on_both, on_constructor, on_tuple, on_list_value, on_set_value, on_elements_of_type, on_form, on_element, bindings, element}
use Rattle.rl_match.specs.Folds.{form_of, element_of}
use Rattle.rl_match.specs.Laws.{AgreeOnTests, OnlyTestsAreSeen}
use Rattle.rl_match.specs.Tests.{Variables, variables_in, element_variables, all_of, in_form, in_element}
use Rattle.rl_match.proofs.Levels.{bindings-by_form, variables-by_form}

-- How high patterns are.

abbrev highest : List ℕ → ℕ
highest [] = 0
highest (n ∷ ns) = max n (highest ns)

-- one more than the patterns in it
abbrev height_of_form : p.Pattern-F ℕ ℕ → ℕ
height_of_form (p.TypedBinding place ty x n) = suc n
height_of_form (p.Binding place x n) = suc n
height_of_form (p.Negation place n) = suc n
height_of_form (p.Descendant place n) = suc n
height_of_form (p.Constructor place name ns) = suc (highest ns)
height_of_form (p.List place ns) = suc (highest ns)
height_of_form (p.Set place ns) = suc (highest ns)
height_of_form (p.Tuple place ns) = suc (highest ns)
height_of_form form = 1

abbrev height_of_element : p.PatternElement-F ℕ ℕ → ℕ
height_of_element (p.Single n) = n
height_of_element form = 0

unfoldable height : Pattern → ℕ
height = fold-Pattern ℕ ℕ height_of_form height_of_element

unfoldable element_height : PatternElement → ℕ
element_height = fold-PatternElement ℕ ℕ height_of_form height_of_element

height-form : (q : Pattern) → height q ≡ height_of_form (form_of height element_height (out-Pattern q))
unfolding height element_height
height-form q = fold_out-Pattern ℕ ℕ height_of_form height_of_element q

height-element : (e : PatternElement) → element_height e ≡ height_of_element (element_of height (out-PatternElement e))
unfolding height element_height
height-element e = fold_out-PatternElement ℕ ℕ height_of_form height_of_element e

form-one : (l : p.Pattern-F ℕ ℕ) → 1 ≤ height_of_form l
form-one (p.TypedBinding place ty x n) = omega arith
form-one (p.Binding place x n) = omega arith
form-one (p.Negation place n) = omega arith
form-one (p.Descendant place n) = omega arith
form-one (p.Constructor place name ns) = omega arith
form-one (p.List place ns) = omega arith
form-one (p.Set place ns) = omega arith
form-one (p.Tuple place ns) = omega arith
form-one form = omega arith

-- Variables.

-- what was bound hides the outside, and the same whatever that is
value_in-behind : (x : ℕ) (b outside other : Binding) → value_in x outside ≡ value_in x other → value_in x (b ++ outside) ≡ value_in x (b ++ other)
value_in-behind x [] outside other e = e
value_in-behind x ((y, v) ∷ b) outside other e = ap (λ o. if nat_eq x y then Some v else o) (value_in-behind x b outside other e)

tested-alike : (t : Bool) (here there : Option Plain) (v : Plain) (b : Binding) (new : List Binding) → (IsTrue t → here ≡ there) → (if t then where_same here v b else new) ≡ (if t then where_same there v b else new)
tested-alike true here there v b new e = ap (λ o. where_same o v b) (e refl)
tested-alike false here there v b new e = refl

-- Lists of variables.

agree-left : (xs ys : Variables) (outside other : Binding) → AgreeOnTests (xs ++ ys) outside other → AgreeOnTests xs outside other
agree-left [] ys outside other a = tt
agree-left (x ∷ xs) ys outside other a = (a.0, agree-left xs ys outside other a.1)

agree-right : (xs ys : Variables) (outside other : Binding) → AgreeOnTests (xs ++ ys) outside other → AgreeOnTests ys outside other
agree-right [] ys outside other a = a
agree-right (x ∷ xs) ys outside other a = agree-right xs ys outside other a.1

module _ (c : Context) (other : Binding) where
  abbrev with_other : Context
  with_other = record c { outside = other }

  abbrev Agree : Variables → Type 0
  Agree xs = AgreeOnTests xs c.outside other

  variable-alike : (x : PatternVariable) → (IsTrue x.is_test → value_in x.number c.outside ≡ value_in x.number other) → on_variable c x ≡ on_variable with_other x
  variable-alike x a =
      fun_ext (λ v. fun_ext (λ b.
      tested-alike x.is_test (value_in x.number (b ++ c.outside)) (value_in x.number (b ++ other)) v b ((b ++ (x.number, v) ∷ []) ∷ [])
      (λ t. value_in-behind x.number b c.outside other (a t))))

  -- the patterns of at most this height
  abbrev Alike : ℕ → Type 0
  Alike n = (q : Pattern) → height q ≤ n → Agree (variables_in q) → bindings c q ≡ bindings with_other q

  patterns-alike : (n : ℕ) → Alike n → (qs : List Pattern) → highest (map height qs) ≤ n → Agree (all_of (map variables_in qs)) → map (bindings c) qs ≡ map (bindings with_other) qs
  patterns-alike n same [] l a = refl
  patterns-alike n same (q ∷ qs) l a =
      let first : bindings c q ≡ bindings with_other q = same q (omega arith) (agree-left (variables_in q) (all_of (map variables_in qs)) c.outside other a) in
      let others : map (bindings c) qs ≡ map (bindings with_other) qs = patterns-alike n same qs (omega arith) (agree-right (variables_in q) (all_of (map variables_in qs)) c.outside other a) in
      λ i. first i ∷ others i

  element_form-alike : (n : ℕ) → Alike n → (l : p.PatternElement-F Pattern PatternElement) → height_of_element (element_of height l) ≤ n → Agree (in_element (element_of variables_in l))
      → on_element c (element_of (bindings c) l) ≡ on_element with_other (element_of (bindings with_other) l)
  element_form-alike n same (p.AnyRest place) l a = refl
  element_form-alike n same (p.TypedRest place ty x) l a = ap (λ m. star (on_elements_of_type c ty m)) (variable-alike x a.0)
  element_form-alike n same (p.Rest place x) l a = ap star (variable-alike x a.0)
  element_form-alike n same (p.Single q) l a = ap one (same q l a)

  element-alike : (n : ℕ) → Alike n → (e : PatternElement) → element_height e ≤ n → Agree (element_variables e) → element c e ≡ element with_other e
  unfolding element element_variables
  element-alike n same e l a = element_form-alike n same (out-PatternElement e) (omega (arith, height-element e)) a

  elements-alike : (n : ℕ) → Alike n → (es : List PatternElement) → highest (map element_height es) ≤ n → Agree (all_of (map element_variables es)) → map (element c) es ≡ map (element with_other) es
  elements-alike n same [] l a = refl
  elements-alike n same (e ∷ es) l a =
      let first : element c e ≡ element with_other e = element-alike n same e (omega arith) (agree-left (element_variables e) (all_of (map element_variables es)) c.outside other a) in
      let others : map (element c) es ≡ map (element with_other) es = elements-alike n same es (omega arith) (agree-right (element_variables e) (all_of (map element_variables es)) c.outside other a) in
      λ i. first i ∷ others i

  form-alike : (n : ℕ) → Alike n → (l : p.Pattern-F Pattern PatternElement) → height_of_form (form_of height element_height l) ≤ suc n → Agree (in_form (form_of variables_in element_variables l))
      → on_form c (form_of (bindings c) (element c) l) ≡ on_form with_other (form_of (bindings with_other) (element with_other) l)
  form-alike n same (p.TypedBinding place ty x q) l a =
      let first : on_variable c x ≡ on_variable with_other x = variable-alike x a.0 in
      let second : bindings c q ≡ bindings with_other q = same q (omega arith) a.1 in
      λ i. on_type c ty (on_both (first i) (second i))
  form-alike n same (p.Binding place x q) l a =
      let first : on_variable c x ≡ on_variable with_other x = variable-alike x a.0 in
      let second : bindings c q ≡ bindings with_other q = same q (omega arith) a.1 in
      λ i. on_both (first i) (second i)
  form-alike n same (p.Negation place q) l a = ap (λ m. on_form c (p.Negation place m)) (same q (omega arith) a)
  form-alike n same (p.Descendant place q) l a = ap (λ m. on_form c (p.Descendant place m)) (same q (omega arith) a)
  form-alike n same (p.Fragment place fragment) l a = refl
  form-alike n same (p.Constructor place name qs) l a = ap (on_constructor name.name) (patterns-alike n same qs (omega arith) a)
  form-alike n same (p.TypedVariable place ty x) l a = ap (on_type c ty) (variable-alike x a.0)
  form-alike n same (p.TypedWildcard place ty) l a = refl
  form-alike n same (p.List place es) l a = ap on_list_value (elements-alike n same es (omega arith) a)
  form-alike n same (p.Set place es) l a = ap on_set_value (elements-alike n same es (omega arith) a)
  form-alike n same (p.Tuple place qs) l a = ap on_tuple (patterns-alike n same qs (omega arith) a)
  form-alike n same (p.Integer place number) l a = refl
  form-alike n same (p.Text place text) l a = refl
  form-alike n same (p.Location place path) l a = refl
  form-alike n same (p.Truth place truth) l a = refl
  form-alike n same (p.Wildcard place) l a = refl
  form-alike n same (p.Variable place x) l a = variable-alike x a.0

  alike : (n : ℕ) → Alike n
  alike zero q l a = absurd (omega (arith, height-form q, form-one (form_of height element_height (out-Pattern q))))
  alike (suc n) q l a =
      bindings-by_form c q
      ∙ (form-alike n (alike n) (out-Pattern q) (omega (arith, height-form q)) (subst Agree (variables-by_form q) a)
      ∙ sym (bindings-by_form with_other q))

pub only_tests : OnlyTestsAreSeen
only_tests c other pattern a v b = ap (λ m. m v b) (alike c other (height pattern) pattern (omega arith) a)
