-- How cases end, handlers of exceptions, `solve` and visits.
use Rattle.std.proofs.Common.{ℕ, ◌+◌, false, List, [], ◌∷◌, Option, Some, None}
use Rattle.rl_match.specs.Bindings.{Binding}
use Rattle.rl_syntax.specs.declared.expression.Exp.{Exp}
use Rattle.rl_syntax.specs.declared.expression.Exp.TheOpen as e
use Rattle.rl_syntax.specs.declared.expression.Suffix.{Suffix}
use Rattle.rl_syntax.specs.declared.identifier.Identifier.{Identifier}
use Rattle.rl_syntax.specs.declared.operator.Strategy.{Strategy}
use Rattle.rl_syntax.specs.declared.pattern.Pattern.{Pattern}
use Rattle.rl_syntax.specs.declared.statement.Case.{Case, out-Case}
use Rattle.rl_syntax.specs.declared.statement.Handler.{Handler, out-Handler}
use Rattle.rl_syntax.specs.declared.statement.Stat.{Stat}
use Rattle.rl_syntax.specs.declared.ty.Ty.{Ty}
use Rattle.rl_value.specs.Plain.{Plain}
use Rattle.rl_visit.specs.Walk as walks
use Rattle.rl_visit.specs.Walk.{Answer, Walked, ask, end, visit_type, too_large, walk}
use Rattle.rl_rules.specs.Calls.{body}
use Rattle.rl_rules.specs.Cases.{insert, inserted, inserted_value, case_of, on_miss, cases, switched, switch}
use Rattle.rl_rules.specs.Conditions.{members_of}
use Rattle.rl_rules.specs.Exceptions.{handler, handlers, handled, finished, finally, try, fallen_back, fallback}
use Rattle.rl_rules.specs.Laws.{IsEnd, IsEndOrMiss}
use Rattle.rl_rules.specs.Members.{members, empty_member}
use Rattle.rl_rules.specs.Parts.{nested, value_of, used}
use Rattle.rl_rules.specs.Program.{Program, has_type}
use Rattle.rl_rules.specs.Rule.{Outcome, Val, Ins, Thr, Miss, Rule, after, dropping, done}
use Rattle.rl_rules.specs.Scopes.{scoped, statements}
use Rattle.rl_rules.specs.Solving.{values_in, are_same, solved, solve_turn, with_variables, first_turn}
use Rattle.rl_rules.specs.State.{State}
use Rattle.rl_rules.specs.Visits.{answered, node_end, visit_at, visit_of, visiting}
use Rattle.rl_rules.proofs.Counts.{like-refl, like-trans}
use Rattle.rl_rules.proofs.Ends.{matched-well, Always, S, So, Stays, after-ends, at-each, either-well, end-or_miss, ends-after, fallen_back-ends, limited-well, members-well, part-ends, same, scoped-always, statements-ends, stays-from, value_of-ends, with_value-ends}
use Rattle.rl_rules.proofs.EndsOfConditions.{always-end, always-where, or_miss, used-always}

-- Cases.

on_miss-ends : (s : State) (next : State → Rule) → S s next → (r : Outcome) → IsEndOrMiss r → S s (on_miss next r)
on_miss-ends s next h Miss e t l = h t l
on_miss-ends s next h r e t l = (e, l)

on_miss-miss : (s : State) (next : State → Rule) → Stays IsEndOrMiss end-or_miss s next → (r : Outcome) → IsEndOrMiss r → Stays IsEndOrMiss end-or_miss s (on_miss next r)
on_miss-miss s next h Miss e t l = h t l
on_miss-miss s next h r e t l = (e, l)

pub insert-ends : (s : State) (x : Exp) (d : ℕ) → S s (insert x d)
insert-ends s x d = part-ends s x d inserted_value (λ v t l. (tt, l))

nested-insert-always : (x : Exp) (d : ℕ) → Always IsEnd (nested d (insert x d))
nested-insert-always x d = always-end (nested d (insert x d)) (λ s. limited-well IsEnd same s d (insert x d) (insert-ends s x d))

inserted-always : (p : Program) (x : Exp) (cs : List Exp) (d : ℕ) → Always IsEndOrMiss (inserted p x cs d)
inserted-always p x cs d = always-where IsEndOrMiss end-or_miss tt p cs d (nested (d + 1) (insert x (d + 1))) (or_miss (nested (d + 1) (insert x (d + 1))) (nested-insert-always x (d + 1)))

pub statements-always : (xs : List Stat) (d : ℕ) → Always IsEnd (statements xs d)
statements-always xs d = always-end (statements xs d) (λ s. statements-ends s xs d)

members_of-always : (p : Program) (pattern : Pattern) (rest : State → Rule) → Always IsEndOrMiss rest → (v : Plain) → Always IsEndOrMiss (members_of p pattern rest v)
members_of-always p pattern rest h v = at-each IsEndOrMiss end-or_miss (members_of p pattern rest v) (λ s. matched-well IsEndOrMiss end-or_miss s tt p pattern rest (stays-from IsEndOrMiss end-or_miss s rest h) v)

members-always : (bs : List Binding) (under : State → Rule) → Always IsEndOrMiss under → Always IsEndOrMiss (members bs false under)
members-always bs under h = at-each IsEndOrMiss end-or_miss (members bs false under) (λ s. members-well IsEndOrMiss end-or_miss s bs false tt under (stays-from IsEndOrMiss end-or_miss s under h))

case-always : (p : Program) (c : e.Case-F Exp Suffix Case Handler Stat) (d : ℕ) (v : Plain) → Always IsEndOrMiss (case_of p c d v)
case-always p (e.Default place body) d v s = members-always empty_member (statements body d) (or_miss (statements body d) (statements-always body d)) s
case-always p (e.Replacement place pattern x cs) d v s = members_of-always p pattern (inserted p x cs d) (inserted-always p x cs d) v s
case-always p (e.Statements place pattern body) d v s = members_of-always p pattern (statements body d) (or_miss (statements body d) (statements-always body d)) v s

pub cases-always : (p : Program) (cs : List Case) (d : ℕ) (v : Plain) → Always IsEndOrMiss (cases p cs d v)
cases-always p [] d v s = (tt, like-refl s)
cases-always p (c ∷ cs) d v s =
    ends-after (So IsEndOrMiss s) (So IsEndOrMiss s) (scoped (case_of p (out-Case c) d v) s) (on_miss (cases p cs d v))
    (scoped-always IsEndOrMiss (case_of p (out-Case c) d v) (case-always p (out-Case c) d v) s)
    (λ r t k. on_miss-miss s (cases p cs d v) (stays-from IsEndOrMiss end-or_miss s (cases p cs d v) (cases-always p cs d v)) r k.0 t k.1)

done-ends : (s : State) → S s done
done-ends s t l = (tt, l)

pub switch-ends : (s : State) (p : Program) (x : Exp) (cs : List Case) (d : ℕ) → S s (switch p x cs d)
switch-ends s p x cs d = part-ends s x d (switched p cs d) (λ v. after-ends s IsEndOrMiss (cases p cs d v) (on_miss done) (cases-always p cs d v) (on_miss-ends s done (done-ends s)))

-- Exceptions.

handler-always : (p : Program) (h : e.Handler-F Exp Suffix Case Handler Stat) (d : ℕ) (v : Plain) → Always IsEndOrMiss (handler p h d v)
handler-always p (e.Any place x) d v s = members-always empty_member (used x d) (or_miss (used x d) (used-always x d)) s
handler-always p (e.Matching place pattern x) d v s = members_of-always p pattern (used x d) (or_miss (used x d) (used-always x d)) v s

handlers-always : (p : Program) (hs : List Handler) (d : ℕ) (v : Plain) → Always IsEnd (handlers p hs d v)
handlers-always p [] d v s = (tt, like-refl s)
handlers-always p (h ∷ hs) d v s =
    after-ends s IsEndOrMiss (scoped (handler p (out-Handler h) d v)) (on_miss (handlers p hs d v))
    (scoped-always IsEndOrMiss (handler p (out-Handler h) d v) (handler-always p (out-Handler h) d v))
    (on_miss-ends s (handlers p hs d v) (stays-from IsEnd same s (handlers p hs d v) (handlers-always p hs d v))) s (like-refl s)

handled-ends : (s : State) (p : Program) (hs : List Handler) (d : ℕ) (r : Outcome) → IsEnd r → S s (handled p hs d r)
handled-ends s p hs d (Thr v) e t l = stays-from IsEnd same s (handlers p hs d v) (handlers-always p hs d v) t l
handled-ends s p hs d r e t l = (e, l)

finished-ends : (s : State) (before : Outcome) → IsEnd before → (r : Outcome) → IsEnd r → S s (finished before r)
finished-ends s before b (Val v) e t l = (b, l)
finished-ends s before b r e t l = (e, l)

finally-ends : (s : State) (last : Option Stat) (d : ℕ) (r : Outcome) → IsEnd r → S s (finally last d r)
finally-ends s None d r e t l = (e, l)
finally-ends s (Some x) d r e t l = after-ends s IsEnd (scoped (used x d)) (finished r) (scoped-always IsEnd (used x d) (used-always x d)) (finished-ends s r e) t l

body-always : (p : Program) (x : Stat) (hs : List Handler) (d : ℕ) → Always IsEnd (λ s. after (scoped (used x d) s) (handled p hs d))
body-always p x hs d s = after-ends s IsEnd (scoped (used x d)) (handled p hs d) (scoped-always IsEnd (used x d) (used-always x d)) (handled-ends s p hs d) s (like-refl s)

pub try-ends : (s : State) (p : Program) (x : Stat) (hs : List Handler) (last : Option Stat) (d : ℕ) → S s (try p x hs last d)
try-ends s p x hs last d = after-ends s IsEnd (λ t. after (scoped (used x d) t) (handled p hs d)) (finally last d) (body-always p x hs d) (finally-ends s last d)

pub fallback-ends : (s : State) (x y : Exp) (d : ℕ) → S s (fallback x y d)
fallback-ends s x y d = after-ends s IsEnd (value_of x d) (fallen_back y d) (always-end (value_of x d) (λ t. value_of-ends t x d)) (fallen_back-ends s y d)

-- `solve`.

pub variables-ends : (s : State) (xs : List Identifier) (rule : State → Rule) → S s rule → S s (with_variables xs rule)
variables-ends s [] rule h t l = h t l
variables-ends s (x ∷ xs) rule h t l = with_value-ends s x.number x.name (dropping (with_variables xs rule)) (λ v u k. variables-ends s xs rule h u k) t l

pub first_turn-ends : (s : State) (xs : List Identifier) (x : Stat) (d : ℕ) → S s (first_turn xs x d)
first_turn-ends s xs x d t l = (tt, λ r u e k. (e, like-trans s t u l k))

solved-ends : (s : State) (xs : List Identifier) (x : Stat) (d : ℕ) (before : List (Identifier × Option Plain)) (r : Outcome) → IsEnd r → S s (solved xs x d before r)
solved-ends s xs x d before (Val v) e t l = either-well IsEnd same s (are_same before t) _ _ (tt, l) (first_turn-ends s xs x d t l)
solved-ends s xs x d before r e t l = (e, l)

pub solve_turn-always : (xs : List Identifier) (x : Stat) (d : ℕ) → Always IsEnd (solve_turn xs x d)
solve_turn-always xs x d s = after-ends s IsEnd (scoped (used x d)) (solved xs x d (values_in s xs)) (scoped-always IsEnd (used x d) (used-always x d)) (solved-ends s xs x d (values_in s xs)) s (like-refl s)

-- Visits.

next-ends : (s : State) (strategy : Strategy) (cs : List Case) (ty : Ty) (v : Plain) (given : List Answer) (d : ℕ) (given_now : Answer) → S s (answered strategy cs ty v given d given_now)
next-ends s strategy cs ty v given d now t l = (tt, λ r u e k. (e, like-trans s t u l k))

node_end-ends : (s : State) (strategy : Strategy) (cs : List Case) (ty : Ty) (v : Plain) (given : List Answer) (d : ℕ) (r : Outcome) → IsEndOrMiss r → S s (node_end strategy cs ty v given d r)
node_end-ends s strategy cs ty v given d (Ins w) e t l = next-ends s strategy cs ty v given d (walks.changed w) t l
node_end-ends s strategy cs ty v given d (Val w) e t l = next-ends s strategy cs ty v given d walks.kept t l
node_end-ends s strategy cs ty v given d Miss e t l = next-ends s strategy cs ty v given d walks.no t l
node_end-ends s strategy cs ty v given d r e t l = (e, l)

pub visit_at-ends : (s : State) (p : Program) (strategy : Strategy) (cs : List Case) (ty : Ty) (v : Plain) (given : List Answer) (d : ℕ) (w : Walked) → S s (visit_at p strategy cs ty v given d w)
visit_at-ends s p strategy cs ty v given d (ask place u) t l = (tt, λ r w e k. node_end-ends s strategy cs ty v given d r e w (like-trans s t w l k))
visit_at-ends s p strategy cs ty v given d (end w served left) t l = either-well IsEnd same s (has_type p w ty) _ _ (tt, l) (tt, l)
visit_at-ends s p strategy cs ty v given d visit_type t l = (tt, l)
visit_at-ends s p strategy cs ty v given d too_large t l = (tt, l)

pub visiting-ends : (s : State) (strategy : Strategy) (x : Exp) (cs : List Case) (ty : Ty) (d : ℕ) → S s (visiting strategy x cs ty d)
visiting-ends s strategy x cs ty d = part-ends s x d (visit_of strategy cs ty d) (λ v t l. (tt, λ r u e k. (e, like-trans s t u l k)))
