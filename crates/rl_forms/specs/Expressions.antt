-- Expressions, conditions and what stands behind a value, among the parts of a phrase.
use Rattle.std.specs.Prelude.{ℕ, List, [], ◌∷◌, Option, Some, None, unwrap_or}
use Rattle.rl_syntax.specs.declared.fragment.Concrete.{Concrete}
use Rattle.rl_syntax.specs.declared.expression.Exp.{Exp}
use Rattle.rl_syntax.specs.declared.expression.Exp.TheVariants as e
use Rattle.rl_syntax.specs.declared.expression.Suffix.{Suffix}
use Rattle.rl_syntax.specs.declared.operator.Strategy.{Strategy}
use Rattle.rl_forms.specs.declared.form.Form.{Form}
use Rattle.rl_forms.specs.declared.form.Form.TheVariants as f
use Rattle.rl_forms.specs.Part.{or_else, part_at}

abbrev pub fragment_expression : Concrete → Exp
fragment_expression fragment = e.Fragment fragment.place fragment

-- a fragment is an expression
abbrev pub as_expression : Form → Option Exp
as_expression (f.Expression expression) = Some expression
as_expression (f.Fragment fragment) = Some (fragment_expression fragment)
as_expression _ = None

abbrev pub only_condition : Option Exp → Option (List Exp)
only_condition None = None
only_condition (Some condition) = Some (condition ∷ [])

abbrev pub own_conditions : Form → Option (List Exp)
own_conditions (f.Conditions conditions) = Some conditions
own_conditions _ = None

-- one expression is a list of one condition
abbrev pub as_conditions : Form → Option (List Exp)
as_conditions part = or_else (own_conditions part) (only_condition (as_expression part))

-- no condition where nothing stands there
abbrev pub conditions_or_none : List Form → ℕ → List Exp
conditions_or_none parts at = unwrap_or (part_at as_conditions parts at) []

abbrev pub as_suffix : Form → Option Suffix
as_suffix (f.Suffix suffix) = Some suffix
as_suffix _ = None

abbrev pub as_strategy : Form → Option Strategy
as_strategy (f.Strategy strategy) = Some strategy
as_strategy _ = None
