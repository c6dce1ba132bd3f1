-- What holds of the bindings of patterns.
use Rattle.std.specs.Prelude.{◌≡◌, IsTrue, ◌∷◌, flat_map}
use Rattle.std.specs.List.{AllByRecursion}
use Rattle.rl_syntax.specs.declared.pattern.Pattern.{Pattern, out-Pattern}
use Rattle.rl_value.specs.Kids.{kids}
use Rattle.rl_value.specs.Plain.{Plain}
use Rattle.rl_match.specs.Below.{below}
use Rattle.rl_match.specs.Bindings.{Binding, Context, value_in, bindings, element, on_form}
use Rattle.rl_match.specs.Folds.{form_of}
use Rattle.rl_match.specs.Tests.{Variables, variables_in, element_variables, in_form}

-- those of a pattern are by its form, and by those of the patterns in it
abbrev pub AreByForm : Type 0
AreByForm = (c : Context) (pattern : Pattern) → bindings c pattern ≡ on_form c (form_of (bindings c) (element c) (out-Pattern pattern))

-- and so are its variables
abbrev pub VariablesAreByForm : Type 0
VariablesAreByForm = (pattern : Pattern) → variables_in pattern ≡ in_form (form_of variables_in element_variables (out-Pattern pattern))

-- what is below a value is the value, and then what is below each of its kids, so that `/p` and visits walk alike
abbrev pub BelowIsByKids : Type 0
BelowIsByKids = (v : Plain) → below v ≡ v ∷ flat_map below (kids v)

-- the values from outside agree on each variable that is tested
abbrev pub AgreeOnTests : Variables → Binding → Binding → Type 0
AgreeOnTests xs outside other = AllByRecursion (λ x. IsTrue x.is_test → value_in x.number outside ≡ value_in x.number other) xs

-- of what is outside, a pattern sees only the values of the variables that it tests
abbrev pub OnlyTestsAreSeen : Type 0
OnlyTestsAreSeen = (c : Context) (other : Binding) (pattern : Pattern) → AgreeOnTests (variables_in pattern) c.outside other
    → (v : Plain) (b : Binding) → bindings c pattern v b ≡ bindings (record c { outside = other }) pattern v b
