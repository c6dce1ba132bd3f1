-- The rule of each form.
use Rattle.std.specs.Prelude.{ℕ, true, false}
use Rattle.rl_operators.specs.Comparison.{equal_of, not_equal_of}
use Rattle.rl_operators.specs.Logic.{equivalent_of, not_of}
use Rattle.rl_operators.specs.Operators.{negate_of}
use Rattle.rl_match.specs.Bindings.{location_of_literal}
use Rattle.rl_syntax.specs.declared.expression.Exp.{Exp, out-Exp}
use Rattle.rl_syntax.specs.declared.expression.Exp.TheOpen as e
use Rattle.rl_syntax.specs.declared.expression.Suffix.{Suffix}
use Rattle.rl_syntax.specs.declared.statement.Case.{Case}
use Rattle.rl_syntax.specs.declared.statement.Handler.{Handler}
use Rattle.rl_syntax.specs.declared.statement.Stat.{Stat, out-Stat}
use Rattle.rl_value.specs.Plain.{bool, int, text}
use Rattle.rl_rules.specs.Assignments.{declaration, tuple_assignment, assignment}
use Rattle.rl_rules.specs.Calls.{alternative_rule, call}
use Rattle.rl_rules.specs.Cases.{cases, insert, switch}
use Rattle.rl_rules.specs.Collections.{list_by_elements, set_by_elements, map_by_entries, tuple_by_parts}
use Rattle.rl_rules.specs.Comprehensions.{list_comprehension, set_comprehension, map_comprehension, reducer}
use Rattle.rl_rules.specs.Conditions.{match_at, enumeration_at, truth_of, holds, where_all}
use Rattle.rl_rules.specs.Exceptions.{try, fallback}
use Rattle.rl_rules.specs.Form.{Form, expression, statement, alternative, node, Turn, turn, while, do_while, solve, visit}
use Rattle.rl_rules.specs.Fragments.{fragment}
use Rattle.rl_rules.specs.Literals.{literal, variable, it, interpolation}
use Rattle.rl_rules.specs.Loops.{conditional, choice, for_loop, while_loop, while_turn, do_loop, do_turn}
use Rattle.rl_rules.specs.Operators as o
use Rattle.rl_rules.specs.Parts.{limited, value_of}
use Rattle.rl_rules.specs.Program.{Program}
use Rattle.rl_rules.specs.Rule.{Brk, Cnt, Fail, Rule, Give, after, done, wrong_operand}
use Rattle.rl_rules.specs.Scopes.{scoped, block}
use Rattle.rl_rules.specs.Solving.{solving, solve_turn}
use Rattle.rl_rules.specs.State.{State}
use Rattle.rl_rules.specs.Statements.{expression_statement, return, return_value, throw_value, append_value}
use Rattle.rl_rules.specs.Visits.{visiting, visit_turn}

-- Expressions.

-- a match or an enumeration by itself: whether a binding is found
abbrev pub found : (State → Rule) → State → Rule
found rule s = after (scoped rule s) truth_of

-- a loop for the list of what it appends is the loop, with its unit; no other statement stands there
abbrev pub loop_value : Program → e.Stat-F Exp Suffix Case Handler Stat → ℕ → State → Rule
loop_value p (e.For place cs body) d s = for_loop p cs body true d s
loop_value p (e.While place cs body) d s = while_loop cs body true d s
loop_value p (e.Do place body cs) d s = do_loop body cs true d s
loop_value p x d s = wrong_operand s

abbrev pub rule_of_expression : Program → ℕ → e.Exp-F Exp Suffix Case Handler Stat → State → Rule
rule_of_expression p d (e.Conditional place c a b) s = choice c a b d s
rule_of_expression p d (e.Fallback place a b) s = fallback a b d s
rule_of_expression p d (e.Implication place a b) s = o.implication a b d s
rule_of_expression p d (e.Equivalence place a b) s = o.binary equivalent_of a b d s
rule_of_expression p d (e.Disjunction place xs) s = o.disjunction xs d s
rule_of_expression p d (e.Conjunction place xs) s = found (where_all p xs d holds) s
rule_of_expression p d (e.Match place pattern x) s = found (match_at p d pattern x holds) s
rule_of_expression p d (e.NoMatch place pattern x) s = o.no_match p pattern x d s
rule_of_expression p d (e.Enumeration place pattern x) s = found (enumeration_at p d pattern x holds) s
rule_of_expression p d (e.Equal place a b) s = o.binary equal_of a b d s
rule_of_expression p d (e.NotEqual place a b) s = o.binary not_equal_of a b d s
rule_of_expression p d (e.Compared place a op b) s = o.binary (o.comparison_operator op) a b d s
rule_of_expression p d (e.Is place x name) s = o.is_named x name.name d s
rule_of_expression p d (e.Sum place x rest) s = o.sum x rest d s
rule_of_expression p d (e.Product place x rest) s = o.product x rest d s
rule_of_expression p d (e.Composition place xs) s = o.composition xs d s
rule_of_expression p d (e.Not place x) s = o.unary not_of x d s
rule_of_expression p d (e.Negative place x) s = o.unary negate_of x d s
rule_of_expression p d (e.Suffixed place x xs) s = o.suffixed p x xs d s
rule_of_expression p d (e.Integer place n) s = literal (int n) s
rule_of_expression p d (e.Text place bytes) s = literal (text bytes) s
rule_of_expression p d (e.Interpolation place first rest) s = interpolation rest d first s
rule_of_expression p d (e.Location place path) s = literal (location_of_literal path) s
rule_of_expression p d (e.Truth place b) s = literal (bool b) s
rule_of_expression p d (e.It place) s = it s
rule_of_expression p d (e.Visit place strategy subject cs ty) s = visiting strategy subject cs ty d s
rule_of_expression p d (e.Fragment place f) s = fragment p f s
rule_of_expression p d (e.Parenthesized place x) s = value_of x d s
rule_of_expression p d (e.Reducer place start step cs) s = reducer p start step cs d s
rule_of_expression p d (e.Map place written) s = map_by_entries written d s
rule_of_expression p d (e.MapComprehension place key value cs) s = map_comprehension p key value cs d s
rule_of_expression p d (e.Range place first second last) s = o.range first second last d s
rule_of_expression p d (e.List place xs) s = list_by_elements xs d s
rule_of_expression p d (e.ListComprehension place xs cs) s = list_comprehension p xs cs d s
rule_of_expression p d (e.Set place xs) s = set_by_elements xs d s
rule_of_expression p d (e.SetComprehension place xs cs) s = set_comprehension p xs cs d s
rule_of_expression p d (e.Tuple place xs) s = tuple_by_parts xs d s
rule_of_expression p d (e.Call place name xs) s = call p name xs d s
-- a splice and the name of a sort stand only among elements and arguments
rule_of_expression p d (e.Splice place x) s = wrong_operand s
rule_of_expression p d (e.TypeName place name) s = wrong_operand s
rule_of_expression p d (e.StartSort place start name) s = wrong_operand s
rule_of_expression p d (e.Loop place x) s = loop_value p (out-Stat x) d s
rule_of_expression p d (e.Variable place name) s = variable name s

-- Statements.

abbrev pub rule_of_statement : Program → ℕ → e.Stat-F Exp Suffix Case Handler Stat → State → Rule
rule_of_statement p d (e.Block place xs) s = block xs d s
rule_of_statement p d (e.If place cs x other) s = conditional p cs x other d s
rule_of_statement p d (e.Switch place x cs) s = switch p x cs d s
rule_of_statement p d (e.For place cs body) s = for_loop p cs body false d s
rule_of_statement p d (e.While place cs body) s = while_loop cs body false d s
rule_of_statement p d (e.Do place body cs) s = do_loop body cs false d s
rule_of_statement p d (e.Solve place names body) s = solving names body d s
rule_of_statement p d (e.Try place body hs last) s = try p body hs last d s
rule_of_statement p d (e.Return place) s = return s
rule_of_statement p d (e.ReturnValue place x) s = return_value x d s
rule_of_statement p d (e.Insert place x) s = insert x d s
rule_of_statement p d (e.Append place x) s = append_value x d s
rule_of_statement p d (e.Throw place x) s = throw_value x d s
rule_of_statement p d (e.Fail place) s = Give Fail s
rule_of_statement p d (e.Break place) s = Give Brk s
rule_of_statement p d (e.Continue place) s = Give Cnt s
rule_of_statement p d (e.Empty place) s = done s
rule_of_statement p d (e.Declaration place ty name x) s = declaration name x d s
rule_of_statement p d (e.TupleAssignment place names x) s = tuple_assignment p names x d s
rule_of_statement p d (e.Assign place name path op x) s = assignment p name path op x d s
rule_of_statement p d (e.Expression place x) s = expression_statement x d s

-- Turns.

unfoldable pub rule_of_turn : Program → ℕ → Turn → State → Rule
rule_of_turn p d (while cs body) s = while_turn p cs body d s
rule_of_turn p d (do_while body cs) s = do_turn p body cs d s
rule_of_turn p d (solve names body) s = solve_turn names body d s
rule_of_turn p d (visit strategy cs ty v given) s = visit_turn p strategy cs ty v given d s

-- All forms.

unfoldable pub rule_of : Program → ℕ → Form → State → Rule
rule_of p d (expression x) s = rule_of_expression p d (out-Exp x) s
rule_of p d (statement x) s = rule_of_statement p d (out-Stat x) s
rule_of p d (alternative a vs) s = alternative_rule p a vs d s
rule_of p d (node cs v) s = cases p cs d v s
rule_of p d (turn w) s = rule_of_turn p d w s

-- the rule of a form that is entered: past the greatest depth it throws; a turn is no form of its own
unfoldable pub entered : Program → ℕ → Form → State → Rule
entered p d (turn w) s = rule_of p d (turn w) s
entered p d f s = limited d (rule_of p d f) s
