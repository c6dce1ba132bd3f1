-- The cases of switches and visits.
use Rattle.std.specs.Prelude.{ℕ, ◌+◌, false, List, [], ◌∷◌}
use Rattle.rl_syntax.specs.declared.expression.Exp.{Exp}
use Rattle.rl_syntax.specs.declared.expression.Exp.TheOpen as e
use Rattle.rl_syntax.specs.declared.statement.Case.{Case, out-Case}
use Rattle.rl_syntax.specs.declared.expression.Suffix.{Suffix}
use Rattle.rl_syntax.specs.declared.statement.Handler.{Handler}
use Rattle.rl_syntax.specs.declared.statement.Stat.{Stat}
use Rattle.rl_value.specs.Plain.{Plain}
use Rattle.rl_rules.specs.Conditions.{members_of, where_all}
use Rattle.rl_rules.specs.Members.{members, empty_member}
use Rattle.rl_rules.specs.Parts.{nested, part}
use Rattle.rl_rules.specs.Program.{Program}
use Rattle.rl_rules.specs.Rule.{Outcome, Ins, Miss, Rule, Give, after, done}
use Rattle.rl_rules.specs.Scopes.{scoped, statements}
use Rattle.rl_rules.specs.State.{State}

abbrev pub inserted_value : Plain → State → Rule
inserted_value v s = Give (Ins v) s

-- `insert e;` at depth d
abbrev pub insert : Exp → ℕ → State → Rule
insert x d s = part x d s inserted_value

-- `case p => e when conditions` is the statement `insert e` under the conditions
abbrev pub inserted : Program → Exp → List Exp → ℕ → State → Rule
inserted p x cs d = where_all p cs d (nested (d + 1) (insert x (d + 1)))

-- a case of a form at depth d, on a value
abbrev pub case_of : Program → e.Case-F Exp Suffix Case Handler Stat → ℕ → Plain → State → Rule
case_of p (e.Default place body) d v s = members empty_member false (statements body d) s
case_of p (e.Replacement place pattern x cs) d v s = members_of p pattern (inserted p x cs d) v s
case_of p (e.Statements place pattern body) d v s = members_of p pattern (statements body d) v s

-- where nothing was kept, what follows
abbrev pub on_miss : (State → Rule) → Outcome → State → Rule
on_miss next Miss s = next s
on_miss next r s = Give r s

-- the cases in text order: the first body that is kept decides
abbrev pub cases : Program → List Case → ℕ → Plain → State → Rule
cases p [] d v s = Give Miss s
cases p (c ∷ cs) d v s = after (scoped (case_of p (out-Case c) d v) s) (on_miss (cases p cs d v))

-- a switch in which nothing is kept is done
abbrev pub switched : Program → List Case → ℕ → Plain → State → Rule
switched p cs d v s = after (cases p cs d v s) (on_miss done)

abbrev pub switch : Program → Exp → List Case → ℕ → State → Rule
switch p x cs d s = part x d s (switched p cs d)
