-- Fragments of concrete syntax, as expressions.
use Rattle.std.specs.Prelude.{List, [], ◌∷◌, Option, Some, None}
use Rattle.rl_match.specs.Tests.{in_holes}
use Rattle.rl_syntax.specs.declared.fragment.Concrete.{Concrete}
use Rattle.rl_syntax.specs.declared.identifier.PatternVariable.{PatternVariable}
use Rattle.rl_value.specs.Plain.{Plain}
use Rattle.rl_rules.specs.Literals.{literal, with_value}
use Rattle.rl_rules.specs.Parts.{one_more}
use Rattle.rl_rules.specs.Program.{Program}
use Rattle.rl_rules.specs.Rule.{Rule, wrong_operand}
use Rattle.rl_rules.specs.State.{State}

-- the values of the variables in the holes, which are no parts and take no units
abbrev pub hole_values : List PatternVariable → (List Plain → State → Rule) → List Plain → State → Rule
hole_values [] go vs s = go vs s
hole_values (x ∷ xs) go vs s = with_value x.number x.name (one_more (hole_values xs go) vs) s

abbrev pub filled_or : Option Plain → State → Rule
filled_or None s = wrong_operand s
filled_or (Some v) s = literal v s

-- the tree of the fragment with these in its holes
abbrev pub filled : Program → Concrete → List Plain → State → Rule
filled p f vs = filled_or (p.grammars.filled f vs)

abbrev pub fragment : Program → Concrete → State → Rule
fragment p f = hole_values (in_holes f.pieces) (filled p f) []
