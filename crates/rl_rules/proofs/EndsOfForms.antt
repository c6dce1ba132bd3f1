-- How every form ends, and that it leaves as many scopes, piles and values of `it` as it found.
use Rattle.std.proofs.Common.{ℕ, zero, suc, ◌+◌, ◌*◌, true, false, List, [], ◌++◌}
use Rattle.rl_base.specs.Holds.{FileMap, file_at}
use Rattle.rl_operators.specs.Comparison.{equal_of, not_equal_of}
use Rattle.rl_operators.specs.Logic.{equivalent_of, not_of}
use Rattle.rl_operators.specs.Operators.{negate_of}
use Rattle.rl_relation.specs.Relations.{compose_of}
use Rattle.rl_match.specs.Bindings.{location_of_literal}
use Rattle.rl_match.specs.Tests.{in_holes}
use Rattle.rl_syntax.specs.declared.expression.Exp.{Exp, out-Exp}
use Rattle.rl_syntax.specs.declared.expression.Exp.TheOpen as e
use Rattle.rl_syntax.specs.declared.expression.Suffix.{Suffix}
use Rattle.rl_syntax.specs.declared.pattern.Pattern.{Pattern}
use Rattle.rl_syntax.specs.declared.statement.Case.{Case}
use Rattle.rl_syntax.specs.declared.statement.Handler.{Handler}
use Rattle.rl_syntax.specs.declared.statement.Stat.{Stat, out-Stat}
use Rattle.rl_value.specs.Plain.{bool, int, plains_of, tuple, text}
use Rattle.rl_visit.specs.Walk.{walk}
use Rattle.rl_rules.specs.Assignments.{written, written_tuple}
use Rattle.rl_rules.specs.Calls.{alternative_rule}
use Rattle.rl_rules.specs.Cases.{cases}
use Rattle.rl_rules.specs.Collections.{list_value, set_value, map_value, tuple_value, list_of, set_of, map_of}
use Rattle.rl_rules.specs.Comprehensions.{comprehension, elements_body, entry_body, map_of_pairs}
use Rattle.rl_rules.specs.Conditions.{match_at, enumeration_at, where_all, holds}
use Rattle.rl_rules.specs.Evaluation.{Evaluation, Ran, Done, Cut, Stuck, Reading, throws, stops, on_done, on_wrong, with_unit, entering, run_as, eval_within, eval_as}
use Rattle.rl_rules.specs.Form.{Form, expression, statement, alternative, node, Turn, turn, while, do_while, solve, visit}
use Rattle.rl_rules.specs.Fragments.{filled}
use Rattle.rl_rules.specs.Laws.{IsEnd, IsEndOrMiss, EndsSo, HasAsMany, HasPile, EndsWell}
use Rattle.rl_rules.specs.Loops.{for_loop, while_turn, while_loop, do_turn, do_loop}
use Rattle.rl_rules.specs.Operators as o
use Rattle.rl_rules.specs.Program.{Program}
use Rattle.rl_rules.specs.Rule.{Outcome, Rule, Give, Use, Take, Print, Read, Wrong, throw, give}
use Rattle.rl_rules.specs.Rules.{found, loop_value, rule_of_expression, rule_of_statement, rule_of_turn, rule_of, entered}
use Rattle.rl_rules.specs.Scopes.{statements}
use Rattle.rl_rules.specs.Solving.{first_turn}
use Rattle.rl_rules.specs.State.{State, it_of}
use Rattle.rl_rules.specs.Statements.{dropped, returned_value, appended}
use Rattle.rl_rules.proofs.Counts.{append-like, like-refl, like-trans}
use Rattle.rl_rules.proofs.Ends.{match-well, enumeration-well, Always, Any, Ends, S, So, at-each, binary-ends, elements-ends, end-or_miss, ends-weaken, entries-ends, give-well, implication-ends, in_chain-ends, interpolation-ends, it-ends, joined-ends, limited-well, literal-ends, no_match-ends, operands-good, or-ends, part-ends, parts-ends, range-ends, right-ends, same, scoped-ends, stays-from, suffixes-good, unary-ends, value_of-ends, with_value-ends, wrong-ends}
use Rattle.rl_rules.proofs.EndsOfConditions.{always-where, choice-ends, comprehension-always, conditional-ends, do-always, do_turn-ends, elements_body-always, entry_body-always, for-always, found-ends, holds-always, reducer-ends, while-always, while_turn-ends}
use Rattle.rl_rules.proofs.EndsOfCases.{cases-always, fallback-ends, first_turn-ends, insert-ends, solve_turn-always, statements-always, switch-ends, try-ends, variables-ends, visit_at-ends, visiting-ends}
use Rattle.rl_rules.proofs.EndsOfCalls.{alternative-always, assignment-ends, call-ends, declaration-ends, filled-ends, holes-ends, tuple-ends}

stays : (s : State) (rule : State → Rule) → Always IsEnd rule → S s rule
stays s rule h = stays-from IsEnd same s rule h

loop-ends : (s : State) (p : Program) (x : e.Stat-F Exp Suffix Case Handler Stat) (d : ℕ) → S s (loop_value p x d)
loop-ends s p (e.For place cs x) d t l = stays s (for_loop p cs x true d) (for-always p cs x true d) t l
loop-ends s p (e.While place cs x) d t l = stays s (while_loop cs x true d) (while-always cs x true d) t l
loop-ends s p (e.Do place x cs) d t l = stays s (do_loop x cs true d) (do-always x cs true d) t l
loop-ends s p x d t l = wrong-ends s t l

match-found : (s : State) (p : Program) (d : ℕ) (pattern : Pattern) (x : Exp) → S s (found (match_at p d pattern x holds))
match-found s p d pattern x =
    found-ends s (match_at p d pattern x holds) (at-each IsEndOrMiss end-or_miss (match_at p d pattern x holds) (λ t. match-well IsEndOrMiss end-or_miss t tt p d pattern x holds (stays-from IsEndOrMiss end-or_miss t holds holds-always)))

enumeration-found : (s : State) (p : Program) (d : ℕ) (pattern : Pattern) (x : Exp) → S s (found (enumeration_at p d pattern x holds))
enumeration-found s p d pattern x =
    found-ends s (enumeration_at p d pattern x holds) (at-each IsEndOrMiss end-or_miss (enumeration_at p d pattern x holds) (λ t. enumeration-well IsEndOrMiss end-or_miss t tt p d pattern x holds (stays-from IsEndOrMiss end-or_miss t holds holds-always)))

conjunction-found : (s : State) (p : Program) (xs : List Exp) (d : ℕ) → S s (found (where_all p xs d holds))
conjunction-found s p xs d = found-ends s (where_all p xs d holds) (always-where IsEndOrMiss end-or_miss tt p xs d holds holds-always)

expression-ends : (p : Program) (d : ℕ) (layer : e.Exp-F Exp Suffix Case Handler Stat) (s : State) → S s (rule_of_expression p d layer)
expression-ends p d (e.Conditional place c x y) s t l = choice-ends s c x y d t l
expression-ends p d (e.Fallback place x y) s t l = fallback-ends s x y d t l
expression-ends p d (e.Implication place x y) s t l = implication-ends s x y d t l
expression-ends p d (e.Equivalence place x y) s t l = binary-ends s equivalent_of x y d t l
expression-ends p d (e.Disjunction place xs) s t l = joined-ends s o.or_right (or-ends s) xs d t l
expression-ends p d (e.Conjunction place xs) s t l = conjunction-found s p xs d t l
expression-ends p d (e.Match place pattern x) s t l = match-found s p d pattern x t l
expression-ends p d (e.NoMatch place pattern x) s t l = no_match-ends s p pattern x d t l
expression-ends p d (e.Enumeration place pattern x) s t l = enumeration-found s p d pattern x t l
expression-ends p d (e.Equal place x y) s t l = binary-ends s equal_of x y d t l
expression-ends p d (e.NotEqual place x y) s t l = binary-ends s not_equal_of x y d t l
expression-ends p d (e.Compared place x op y) s t l = binary-ends s (o.comparison_operator op) x y d t l
expression-ends p d (e.Is place x name) s t l = unary-ends s (o.is_of_name name.name) x d t l
expression-ends p d (e.Sum place x rest) s t l = in_chain-ends s x (o.with_operands o.sum_operator rest) (operands-good s o.sum_operator rest) d t l
expression-ends p d (e.Product place x rest) s t l = in_chain-ends s x (o.with_operands o.product_operator rest) (operands-good s o.product_operator rest) d t l
expression-ends p d (e.Composition place xs) s t l = joined-ends s (o.right_operand compose_of) (right-ends s compose_of) xs d t l
expression-ends p d (e.Not place x) s t l = unary-ends s not_of x d t l
expression-ends p d (e.Negative place x) s t l = unary-ends s negate_of x d t l
expression-ends p d (e.Suffixed place x xs) s t l = in_chain-ends s x (o.suffixes p xs) (suffixes-good s p xs) d t l
expression-ends p d (e.Integer place n) s t l = literal-ends s (int n) t l
expression-ends p d (e.Text place bytes) s t l = literal-ends s (text bytes) t l
expression-ends p d (e.Interpolation place first rest) s t l = interpolation-ends s rest d first t l
expression-ends p d (e.Location place path) s t l = literal-ends s (location_of_literal path) t l
expression-ends p d (e.Truth place b) s t l = literal-ends s (bool b) t l
expression-ends p d (e.It place) s t l = it-ends s (it_of t) t l
expression-ends p d (e.Visit place strategy subject cs ty) s t l = visiting-ends s strategy subject cs ty d t l
expression-ends p d (e.Fragment place f) s t l = holes-ends s (in_holes f.pieces) (filled p f) (λ vs. filled-ends s (p.grammars.filled f vs)) [] t l
expression-ends p d (e.Parenthesized place x) s t l = value_of-ends s x d t l
expression-ends p d (e.Reducer place start step cs) s t l = reducer-ends s p start step cs d t l
expression-ends p d (e.Map place written) s t l = entries-ends s written d map_value (λ ps. literal-ends s (map_of ps)) [] t l
expression-ends p d (e.MapComprehension place key value cs) s t l = stays s (comprehension p map_of_pairs (entry_body key value) cs d) (comprehension-always p map_of_pairs (entry_body key value) cs d (entry_body-always key value d)) t l
expression-ends p d (e.Range place first second last) s t l = range-ends s first second last d t l
expression-ends p d (e.List place xs) s t l = elements-ends s xs d list_value (λ vs. literal-ends s (list_of vs)) [] t l
expression-ends p d (e.ListComprehension place xs cs) s t l = stays s (comprehension p list_of (elements_body xs) cs d) (comprehension-always p list_of (elements_body xs) cs d (elements_body-always xs d)) t l
expression-ends p d (e.Set place xs) s t l = elements-ends s xs d set_value (λ vs. literal-ends s (set_of vs)) [] t l
expression-ends p d (e.SetComprehension place xs cs) s t l = stays s (comprehension p set_of (elements_body xs) cs d) (comprehension-always p set_of (elements_body xs) cs d (elements_body-always xs d)) t l
expression-ends p d (e.Tuple place xs) s t l = parts-ends s xs d tuple_value (λ vs. literal-ends s (tuple (plains_of vs))) [] t l
expression-ends p d (e.Call place name xs) s t l = call-ends s p name xs d t l
expression-ends p d (e.Splice place x) s t l = wrong-ends s t l
expression-ends p d (e.TypeName place name) s t l = wrong-ends s t l
expression-ends p d (e.StartSort place start name) s t l = wrong-ends s t l
expression-ends p d (e.Loop place x) s t l = loop-ends s p (out-Stat x) d t l
expression-ends p d (e.Variable place name) s t l = with_value-ends s name.number name.name give (give-well IsEnd same s) t l

statement-ends : (p : Program) (d : ℕ) (layer : e.Stat-F Exp Suffix Case Handler Stat) (s : State) → S s (rule_of_statement p d layer)
statement-ends p d (e.Block place xs) s t l = scoped-ends s (statements xs d) (statements-always xs d) t l
statement-ends p d (e.If place cs x other) s t l = conditional-ends s p cs x other d t l
statement-ends p d (e.Switch place x cs) s t l = switch-ends s p x cs d t l
statement-ends p d (e.For place cs x) s t l = stays s (for_loop p cs x false d) (for-always p cs x false d) t l
statement-ends p d (e.While place cs x) s t l = stays s (while_loop cs x false d) (while-always cs x false d) t l
statement-ends p d (e.Do place x cs) s t l = stays s (do_loop x cs false d) (do-always x cs false d) t l
statement-ends p d (e.Solve place names x) s t l = variables-ends s names (first_turn names x d) (first_turn-ends s names x d) t l
statement-ends p d (e.Try place x hs last) s t l = try-ends s p x hs last d t l
statement-ends p d (e.Return place) s t l = (tt, l)
statement-ends p d (e.ReturnValue place x) s t l = part-ends s x d returned_value (λ v u k. (tt, k)) t l
statement-ends p d (e.Insert place x) s t l = insert-ends s x d t l
statement-ends p d (e.Append place x) s t l = part-ends s x d appended (λ v u k. (tt, like-trans s u _ k (append-like v u))) t l
statement-ends p d (e.Throw place x) s t l = part-ends s x d throw (λ v u k. (tt, k)) t l
statement-ends p d (e.Fail place) s t l = (tt, l)
statement-ends p d (e.Break place) s t l = (tt, l)
statement-ends p d (e.Continue place) s t l = (tt, l)
statement-ends p d (e.Empty place) s t l = (tt, l)
statement-ends p d (e.Declaration place ty name x) s t l = declaration-ends s name x d t l
statement-ends p d (e.TupleAssignment place names x) s t l = part-ends s x d (written_tuple p names) (tuple-ends s p names) t l
statement-ends p d (e.Assign place name path op x) s t l = assignment-ends s p name path op x d t l
statement-ends p d (e.Expression place x) s t l = part-ends s x d dropped (λ v u k. (tt, k)) t l

-- a form ends as its law says, and in a state that has as many
abbrev FormEnds : Form → State → Outcome → State → Type 0
FormEnds f s r t = EndsSo f r × HasAsMany s t

turn-ends : (p : Program) (d : ℕ) (w : Turn) (s : State) → HasPile (turn w) s → Ends (FormEnds (turn w) s) (rule_of p d (turn w) s)
unfolding rule_of rule_of_turn
turn-ends p d (while cs x) s h = ends-weaken (So Any s) (FormEnds (turn (while cs x)) s) (while_turn p cs x d s) (while_turn-ends p cs x d s h) (λ r t k. (tt, k.1))
turn-ends p d (do_while x cs) s h = ends-weaken (So Any s) (FormEnds (turn (do_while x cs)) s) (do_turn p x cs d s) (do_turn-ends p x cs d s h) (λ r t k. (tt, k.1))
turn-ends p d (solve xs x) s h = solve_turn-always xs x d s
turn-ends p d (visit strategy cs ty v given) s h = visit_at-ends s p strategy cs ty v given d (walk p.declarations strategy v given) s (like-refl s)

pub form-ends : (p : Program) (d : ℕ) (f : Form) (s : State) → HasPile f s → Ends (FormEnds f s) (entered p d f s)
unfolding entered rule_of
form-ends p d (expression x) s h = limited-well IsEnd same s d (rule_of_expression p d (out-Exp x)) (expression-ends p d (out-Exp x) s) s (like-refl s)
form-ends p d (statement x) s h = limited-well IsEnd same s d (rule_of_statement p d (out-Stat x)) (statement-ends p d (out-Stat x) s) s (like-refl s)
form-ends p d (alternative x vs) s h =
    limited-well IsEndOrMiss end-or_miss s d (alternative_rule p x vs d) (stays-from IsEndOrMiss end-or_miss s (alternative_rule p x vs d) (alternative-always p x vs d)) s (like-refl s)
form-ends p d (node cs v) s h = limited-well IsEndOrMiss end-or_miss s d (cases p cs d v) (stays-from IsEndOrMiss end-or_miss s (cases p cs d v) (cases-always p cs d v)) s (like-refl s)
form-ends p d (turn w) s h = turn-ends p d w s h

-- Evaluations.

abbrev RanSo : (Outcome → State → Type 0) → Ran → Type 0
RanSo P (Done r s n t) = P r s
RanSo P (Cut t) = Unit {0}
RanSo P (Stuck t) = Unit {0}

abbrev AllEndWell : Evaluation → Type 0
AllEndWell e = (f : Form) (d : ℕ) (s : State) (n : ℕ) (t : List ℕ) → HasPile f s → RanSo (FormEnds f s) (e f d s n t)

on_done-so : (P Q : Outcome → State → Type 0) (o : Ran) (go : Outcome → State → ℕ → List ℕ → Ran) → RanSo P o → ((r : Outcome) (s : State) (n : ℕ) (t : List ℕ) → P r s → RanSo Q (go r s n t)) → RanSo Q (on_done o go)
on_done-so P Q (Done r s n t) go h k = k r s n t h
on_done-so P Q (Cut t) go h k = tt
on_done-so P Q (Stuck t) go h k = tt

unit-so : (P : Outcome → State → Type 0) (n : ℕ) (t : List ℕ) (go : ℕ → Ran) → ((m : ℕ) → RanSo P (go m)) → RanSo P (with_unit n t go)
unit-so P zero t go h = tt
unit-so P (suc n) t go h = h n

wrong-so : (P : Outcome → State → Type 0) (w : Reading) (t : List ℕ) (o : Ran) → RanSo P o → RanSo P (on_wrong w t o)
wrong-so P throws t o h = h
wrong-so P stops t o h = tt

run-so : (w : Reading) (files : FileMap) (e : Evaluation) → AllEndWell e → (P : Outcome → State → Type 0) (rule : Rule) → Ends P rule → (n : ℕ) (t : List ℕ) → RanSo P (run_as w files e rule n t)
run-so w files e h P (Give r s) k n t = k
run-so w files e h P (Use f d s go) k n t =
    on_done-so (FormEnds f s) P (e f d s n t) (λ r s' m u. run_as w files e (go r s') m u) (h f d s n t k.0) (λ r s' m u x. run-so w files e h P (go r s') (k.1 r s' x.0 x.1) m u)
run-so w files e h P (Take rule) k n t = unit-so P n t (λ m. run_as w files e rule m t) (λ m. run-so w files e h P rule k m t)
run-so w files e h P (Print bytes rule) k n t = run-so w files e h P rule k n (t ++ bytes)
run-so w files e h P (Read path go) k n t = run-so w files e h P (go (file_at files path)) (k (file_at files path)) n t
run-so w files e h P (Wrong rule) k n t = wrong-so P w t (run_as w files e rule n t) (run-so w files e h P rule k n t)

entering-so : (P : Outcome → State → Type 0) (f : Form) (n : ℕ) (t : List ℕ) (go : ℕ → Ran) → ((m : ℕ) → RanSo P (go m)) → RanSo P (entering f n t go)
entering-so P (turn w) n t go h = h n
entering-so P (expression x) n t go h = unit-so P n t go h
entering-so P (statement x) n t go h = unit-so P n t go h
entering-so P (alternative x vs) n t go h = unit-so P n t go h
entering-so P (node cs v) n t go h = unit-so P n t go h

within-so : (w : Reading) (p : Program) (files : FileMap) (k : ℕ) → AllEndWell (eval_within w p files k)
unfolding eval_within
within-so w p files zero f d s n t h = tt
within-so w p files (suc k) f d s n t h =
    entering-so (FormEnds f s) f n t (λ m. run_as w files (eval_within w p files k) (entered p d f s) m t)
    (λ m. run-so w files (eval_within w p files k) (within-so w p files k) (FormEnds f s) (entered p d f s) (form-ends p d f s h) m t)

well-of : (f : Form) (s : State) (o : Ran) → RanSo (FormEnds f s) o → EndsWell f s o
well-of f s (Done r t n u) h = h
well-of f s (Cut u) h = tt
well-of f s (Stuck u) h = tt

pub eval-ends_well : (w : Reading) (p : Program) (files : FileMap) (f : Form) (d : ℕ) (s : State) (n : ℕ) (t : List ℕ) → HasPile f s → EndsWell f s (eval_as w p files f d s n t)
unfolding eval_as
eval-ends_well w p files f d s n t h = well-of f s (eval_within w p files (2 * n + 1) f d s n t) (within-so w p files (2 * n + 1) f d s n t h)
