-- Lists of conditions.
use Rattle.std.specs.Prelude.{ℕ, zero, suc, ◌+◌, true, false, List, [], ◌∷◌, flat_map, Option, Some, None}
use Rattle.rl_match.specs.Bindings.{Binding, bindings}
use Rattle.rl_syntax.specs.declared.expression.Exp.{Exp, out-Exp}
use Rattle.rl_syntax.specs.declared.expression.Exp.TheOpen as e
use Rattle.rl_syntax.specs.declared.expression.Suffix.{Suffix}
use Rattle.rl_syntax.specs.declared.pattern.Pattern.{Pattern}
use Rattle.rl_syntax.specs.declared.statement.Case.{Case}
use Rattle.rl_syntax.specs.declared.statement.Handler.{Handler}
use Rattle.rl_syntax.specs.declared.statement.Stat.{Stat}
use Rattle.rl_value.specs.Plain.{Plain, bool, list, set, mapping, items_of, Pairs, no_pairs, pair}
use Rattle.rl_rules.specs.Form.{expression}
use Rattle.rl_rules.specs.Members.{members, on_tested}
use Rattle.rl_rules.specs.Nesting.{levels}
use Rattle.rl_rules.specs.Parts.{nested, part}
use Rattle.rl_rules.specs.Program.{Program, context}
use Rattle.rl_rules.specs.Rule.{Outcome, Val, Miss, Kept, Rule, Give, Use, after, on_value, wrong_operand, give}
use Rattle.rl_rules.specs.State.{State}

-- Which conditions a list has: `a && b` in it is two conditions, and parentheses count for nothing.

abbrev pub taken_apart : Exp → (Exp → List Exp) → e.Exp-F Exp Suffix Case Handler Stat → List Exp
taken_apart x go (e.Parenthesized place y) = go y
taken_apart x go (e.Conjunction place ys) = flat_map go ys
taken_apart x go layer = x ∷ []

-- taken apart through so many levels
abbrev pub conditions_within : ℕ → Exp → List Exp
conditions_within zero x = x ∷ []
conditions_within (suc n) x = taken_apart x (conditions_within n) (out-Exp x)

-- the conditions that an expression is in a list of conditions
unfoldable pub conditions_in : Exp → List Exp
conditions_in x = conditions_within (levels x) x

-- What they do.

abbrev pub on_truth : (where_true where_false : State → Rule) → Plain → State → Rule
on_truth where_true where_false (bool true) s = where_true s
on_truth where_true where_false (bool false) s = where_false s
on_truth where_true where_false v s = wrong_operand s

abbrev pub keys_of : Pairs → List Plain
keys_of no_pairs = []
keys_of (pair k v ps) = k ∷ keys_of ps

-- what is enumerated of a collection
abbrev pub elements_of : Plain → Option (List Plain)
elements_of (list vs) = Some (items_of vs)
elements_of (set vs) = Some (items_of vs)
elements_of (mapping ps) = Some (keys_of ps)
elements_of v = None

-- the bindings of the pattern on the value, fixed with what variables have now
abbrev pub matched_members : Program → Pattern → (State → Rule) → Plain → State → Rule
matched_members p pattern rest v s = members (bindings (context p s) pattern v []) false rest s

abbrev pub members_of : Program → Pattern → (State → Rule) → Plain → State → Rule
members_of p pattern rest v = on_tested (pattern ∷ []) (matched_members p pattern rest v)

-- those on each element, in order
abbrev pub bindings_on_each : Program → Pattern → List Plain → State → List Binding
bindings_on_each p pattern vs s = flat_map (λ v. bindings (context p s) pattern v []) vs

abbrev pub enumerated_members : Program → Pattern → (State → Rule) → List Plain → State → Rule
enumerated_members p pattern rest vs s = members (bindings_on_each p pattern vs s) false rest s

abbrev pub enumerated_elements : Program → Pattern → (State → Rule) → Option (List Plain) → State → Rule
enumerated_elements p pattern rest None s = wrong_operand s
enumerated_elements p pattern rest (Some vs) s = on_tested (pattern ∷ []) (enumerated_members p pattern rest vs) s

abbrev pub enumerated : Program → Pattern → (State → Rule) → Plain → State → Rule
enumerated p pattern rest v s = enumerated_elements p pattern rest (elements_of v) s

-- a match at depth d, after its unit: its operand, and then its members with what follows under them
abbrev pub match_at : Program → ℕ → Pattern → Exp → (State → Rule) → State → Rule
match_at p d pattern x rest s = part x d s (members_of p pattern rest)

abbrev pub enumeration_at : Program → ℕ → Pattern → Exp → (State → Rule) → State → Rule
enumeration_at p d pattern x rest s = part x d s (enumerated p pattern rest)

-- a condition at depth d, and what follows where it holds
abbrev pub condition : Program → ℕ → Exp → e.Exp-F Exp Suffix Case Handler Stat → (State → Rule) → State → Rule
condition p d c (e.Match place pattern x) rest s = nested d (match_at p d pattern x rest) s
condition p d c (e.Enumeration place pattern x) rest s = nested d (enumeration_at p d pattern x rest) s
condition p d c layer rest s = Use (expression c) d s (on_value (on_truth rest (Give Miss)))

-- conditions at depth d, and the body where all hold
abbrev pub conditions : Program → List Exp → ℕ → (body : State → Rule) → State → Rule
conditions p [] d body s = body s
conditions p (c ∷ cs) d body s = condition p d c (out-Exp c) (conditions p cs d body) s

-- the conditions of a form at depth d
abbrev pub where_all : Program → List Exp → ℕ → (body : State → Rule) → State → Rule
where_all p cs d body s = conditions p (flat_map conditions_in cs) (d + 1) body s

-- a body after which the next member follows
abbrev pub kept_of : Outcome → State → Rule
kept_of (Val v) s = Give Kept s
kept_of r s = Give r s

abbrev pub keeping : (State → Rule) → State → Rule
keeping body s = after (body s) kept_of

abbrev pub for_each : Program → List Exp → ℕ → (body : State → Rule) → State → Rule
for_each p cs d body = where_all p cs d (keeping body)

-- Conditions as expressions.

-- true, where a body was reached
abbrev pub truth_of : Outcome → State → Rule
truth_of Miss s = give (bool false) s
truth_of r s = Give r s

abbrev pub holds : State → Rule
holds = give (bool true)
