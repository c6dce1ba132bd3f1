-- Visits.
use Rattle.std.specs.Prelude.{ℕ, ◌+◌, if◌then◌else◌, List, [], ◌∷◌, ◌++◌}
use Rattle.rl_exception.specs.Exceptions as x
use Rattle.rl_syntax.specs.declared.expression.Exp.{Exp}
use Rattle.rl_syntax.specs.declared.operator.Strategy.{Strategy}
use Rattle.rl_syntax.specs.declared.statement.Case.{Case}
use Rattle.rl_syntax.specs.declared.ty.Ty.{Ty}
use Rattle.rl_value.specs.Plain.{Plain}
use Rattle.rl_visit.specs.Walk.{Answer, no, kept, changed, Walked, ask, end, visit_type, too_large, walk}
use Rattle.rl_rules.specs.Form.{turn, node, visit}
use Rattle.rl_rules.specs.Parts.{part}
use Rattle.rl_rules.specs.Program.{Program, has_type}
use Rattle.rl_rules.specs.Rule.{Outcome, Val, Ins, Miss, Rule, Give, Use, give, throw}
use Rattle.rl_rules.specs.State.{State}

-- goes on with one more answer
abbrev pub answered : Strategy → List Case → Ty → Plain → List Answer → ℕ → Answer → State → Rule
answered strategy cs ty v given d a s = Use (turn (visit strategy cs ty v (given ++ a ∷ []))) d s Give

-- after the cases on a node: what the body inserted, or that one was kept, or that none was; any other end ends the visit
abbrev pub node_end : Strategy → List Case → Ty → Plain → List Answer → ℕ → Outcome → State → Rule
node_end strategy cs ty v given d (Ins w) s = answered strategy cs ty v given d (changed w) s
node_end strategy cs ty v given d (Val w) s = answered strategy cs ty v given d kept s
node_end strategy cs ty v given d Miss s = answered strategy cs ty v given d no s
node_end strategy cs ty v given d r s = Give r s

-- the result must have the type of the subject
abbrev pub visited : Program → Ty → Plain → State → Rule
visited p ty w s = if has_type p w ty then give w s else throw x.visit_type s

-- by where the walk stands after the answers
abbrev pub visit_at : Program → Strategy → List Case → Ty → Plain → List Answer → ℕ → Walked → State → Rule
visit_at p strategy cs ty v given d (ask place u) s = Use (node cs u) (d + 1) s (node_end strategy cs ty v given d)
visit_at p strategy cs ty v given d (end w served left) s = visited p ty w s
visit_at p strategy cs ty v given d visit_type s = throw x.visit_type s
visit_at p strategy cs ty v given d too_large s = throw x.too_large s

abbrev pub visit_turn : Program → Strategy → List Case → Ty → Plain → List Answer → ℕ → State → Rule
visit_turn p strategy cs ty v given d s = visit_at p strategy cs ty v given d (walk p.declarations strategy v given) s

-- from no answers on
abbrev pub visit_of : Strategy → List Case → Ty → ℕ → Plain → State → Rule
visit_of strategy cs ty d v s = Use (turn (visit strategy cs ty v [])) d s Give

abbrev pub visiting : Strategy → Exp → List Case → Ty → ℕ → State → Rule
visiting strategy subject cs ty d s = part subject d s (visit_of strategy cs ty d)
