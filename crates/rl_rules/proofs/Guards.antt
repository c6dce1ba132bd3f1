-- In each turn a unit is taken before the next turn.
use Rattle.std.proofs.Common.{ℕ, ◌+◌, Bool, true, false, List, [], ◌∷◌, Option, if◌then◌else◌, flat_map}
use Rattle.std.specs.Bool.{⊤}
use Rattle.rl_syntax.specs.declared.expression.Exp.{Exp, out-Exp}
use Rattle.rl_syntax.specs.declared.expression.Exp.TheOpen as e
use Rattle.rl_syntax.specs.declared.expression.Suffix.{Suffix}
use Rattle.rl_syntax.specs.declared.statement.Case.{Case}
use Rattle.rl_syntax.specs.declared.statement.Handler.{Handler}
use Rattle.rl_syntax.specs.declared.statement.Stat.{Stat}
use Rattle.rl_syntax.specs.declared.operator.Strategy.{Strategy}
use Rattle.rl_syntax.specs.declared.ty.Ty.{Ty}
use Rattle.rl_value.specs.Plain.{Plain}
use Rattle.rl_visit.specs.Walk.{Answer, Walked, ask, end, visit_type, too_large, walk}
use Rattle.rl_rules.specs.Conditions.{condition, conditions, conditions_in, where_all}
use Rattle.rl_rules.specs.Form.{Form, expression, statement, alternative, node, Turn, turn, while, do_while, solve, visit}
use Rattle.rl_rules.specs.Loops.{loop_body, while_turn, turn_after}
use Rattle.rl_rules.specs.Program.{Program, has_type}
use Rattle.rl_rules.specs.Rule.{Outcome, Rule, Give, Use, Take, Print, Read, Wrong, after}
use Rattle.rl_rules.specs.Rules.{rule_of, rule_of_turn, entered}
use Rattle.rl_rules.specs.Scopes.{scoped, leave_scope}
use Rattle.rl_rules.specs.State.{State, open_scope}
use Rattle.rl_rules.specs.Visits.{visit_at}

abbrev pub IsNoTurn : Form → Type 0
IsNoTurn (turn w) = ⊥
IsNoTurn (expression x) = ⊤
IsNoTurn (statement x) = ⊤
IsNoTurn (alternative a vs) = ⊤
IsNoTurn (node cs v) = ⊤

-- a unit is taken before the rule ends, and before any turn
abbrev pub TakesFirst : Rule → Type 0
TakesFirst (Give r s) = ⊥
TakesFirst (Use f d s go) = IsNoTurn f
TakesFirst (Take rule) = ⊤
TakesFirst (Print bytes rule) = TakesFirst rule
TakesFirst (Read path go) = (found : Option (List ℕ)) → TakesFirst (go found)
TakesFirst (Wrong rule) = TakesFirst rule

-- a unit is taken before any turn
abbrev pub Guarded : Rule → Type 0
Guarded (Give r s) = ⊤
Guarded (Use f d s go) = IsNoTurn f
Guarded (Take rule) = ⊤
Guarded (Print bytes rule) = Guarded rule
Guarded (Read path go) = (found : Option (List ℕ)) → Guarded (go found)
Guarded (Wrong rule) = Guarded rule

TakesFirst-after : (rule : Rule) (go : Outcome → State → Rule) → TakesFirst rule → TakesFirst (after rule go)
TakesFirst-after (Give r s) go h = absurd h
TakesFirst-after (Use f d s next) go h = h
TakesFirst-after (Take rule) go h = tt
TakesFirst-after (Print bytes rule) go h = TakesFirst-after rule go h
TakesFirst-after (Read path next) go h = λ found. TakesFirst-after (next found) go (h found)
TakesFirst-after (Wrong rule) go h = TakesFirst-after rule go h

TakesFirst-guarded : (rule : Rule) → TakesFirst rule → Guarded rule
TakesFirst-guarded (Give r s) h = tt
TakesFirst-guarded (Use f d s next) h = h
TakesFirst-guarded (Take rule) h = tt
TakesFirst-guarded (Print bytes rule) h = TakesFirst-guarded rule h
TakesFirst-guarded (Read path next) h = λ found. TakesFirst-guarded (next found) (h found)
TakesFirst-guarded (Wrong rule) h = TakesFirst-guarded rule h

condition-first : (p : Program) (d : ℕ) (c : Exp) (layer : e.Exp-F Exp Suffix Case Handler Stat) (rest : State → Rule) (s : State) → TakesFirst (condition p d c layer rest s)
condition-first p d c (e.Match place pattern x) rest s = tt
condition-first p d c (e.Enumeration place pattern x) rest s = tt
condition-first p d c layer rest s = tt

conditions-first : (p : Program) (cs : List Exp) (d : ℕ) (body : State → Rule) (s : State) → TakesFirst (body s) → TakesFirst (conditions p cs d body s)
conditions-first p [] d body s h = h
conditions-first p (c ∷ cs) d body s h = condition-first p d c (out-Exp c) _ s

scoped-first : (rule : State → Rule) (s : State) → TakesFirst (rule (open_scope s)) → TakesFirst (scoped rule s)
scoped-first rule s h = TakesFirst-after (rule (open_scope s)) leave_scope h

either-guarded : (b : Bool) (x y : Rule) → Guarded x → Guarded y → Guarded (if b then x else y)
either-guarded true x y h k = h
either-guarded false x y h k = k

visit-guarded : (p : Program) (strategy : Strategy) (cs : List Case) (ty : Ty) (v : Plain) (given : List Answer) (d : ℕ) (o : Walked) (s : State) → Guarded (visit_at p strategy cs ty v given d o s)
visit-guarded p strategy cs ty v given d (ask place u) s = tt
visit-guarded p strategy cs ty v given d (end w served left) s = either-guarded (has_type p w ty) _ _ tt tt
visit-guarded p strategy cs ty v given d visit_type s = tt
visit-guarded p strategy cs ty v given d too_large s = tt

pub turn-guarded : (p : Program) (d : ℕ) (w : Turn) (s : State) → Guarded (entered p d (turn w) s)
unfolding entered rule_of rule_of_turn
turn-guarded p d (while cs body) s =
    TakesFirst-guarded (while_turn p cs body d s)
    (TakesFirst-after (scoped (where_all p cs d (loop_body body d)) s) (turn_after (while cs body) d)
    (scoped-first (where_all p cs d (loop_body body d)) s
    (conditions-first p (flat_map conditions_in cs) (d + 1) (loop_body body d) (open_scope s) tt)))
turn-guarded p d (do_while body cs) s = tt
turn-guarded p d (solve xs body) s = tt
turn-guarded p d (visit strategy cs ty v given) s = visit-guarded p strategy cs ty v given d (walk p.declarations strategy v given) s
