-- How lists of conditions end, with what they govern: conditionals, loops, comprehensions and reducers.
use Rattle.std.proofs.Common.{ℕ, suc, ◌≤◌, Bool, true, false, List, [], length, Option, Some, None, arith}
use Rattle.rl_syntax.specs.declared.expression.Exp.{Exp}
use Rattle.rl_syntax.specs.declared.statement.Stat.{Stat}
use Rattle.rl_value.specs.Plain.{Plain}
use Rattle.rl_rules.specs.Calls.{body}
use Rattle.rl_rules.specs.Collections.{list_of}
use Rattle.rl_rules.specs.Comprehensions.{collecting, collected, comprehension, elements_body, entry_body, entry_key, collecting_entry, step_value, stepping, leave_reducer, reduced, reducing, reducer}
use Rattle.rl_rules.specs.Conditions.{where_all, kept_of, keeping, for_each, truth_of, holds}
use Rattle.rl_rules.specs.Form.{while, do_while}
use Rattle.rl_rules.specs.Laws.{IsEnd, IsEndOrMiss, HasAsMany}
use Rattle.rl_rules.specs.Literals.{it}
use Rattle.rl_rules.specs.Loops.{otherwise, conditional, chosen, choice, leave_body, loop_body, over, loop_end, for_loop, turn_after, while_turn, while_loop, do_test, do_turn, do_loop}
use Rattle.rl_rules.specs.Parts.{value_of, used}
use Rattle.rl_rules.specs.Program.{Program}
use Rattle.rl_rules.specs.Rule.{Outcome, Val, Ret, Brk, Cnt, Fail, Ins, Thr, Miss, Kept, Stop, Rule, done}
use Rattle.rl_rules.specs.Rules.{found}
use Rattle.rl_rules.specs.Scopes.{leave_scope, scoped}
use Rattle.rl_rules.specs.State.{State, open_scope, top_list, begin_pile, end_pile, begin_body, begin_reducer, it_of}
use Rattle.rl_rules.proofs.Counts.{close-like, collect-like, end_body-like, end_pile-like, end_reducer-like, like-refl, like-trans, set_it-like, still-one}
use Rattle.rl_rules.proofs.Ends.{where_all-well, Always, Any, Ends, IsEndOrKept, S, So, Stays, after-ends, always-more, any, at-each, elements-ends, end-or_kept, end-or_miss, ends-after, it-ends, literal-ends, on_truth-well, part-ends, same, scoped-always, scoped-ends, stays-from, used-well, value_of-ends}

-- Conditions with a body, in a scope.

pub always-where : (Q : Outcome → Type 0) (fit : (r : Outcome) → IsEnd r → Q r) → Q Miss → (p : Program) (cs : List Exp) (d : ℕ) (body : State → Rule) → Always Q body → Always Q (where_all p cs d body)
always-where Q fit miss p cs d body h = at-each Q fit (where_all p cs d body) (λ s. where_all-well Q fit s miss p cs d body (stays-from Q fit s body h))

pub always-end : (rule : State → Rule) → ((s : State) → S s rule) → Always IsEnd rule
always-end rule h s = h s s (like-refl s)

pub used-always : (x : Stat) (d : ℕ) → Always IsEnd (used x d)
used-always x d = always-end (used x d) (λ s. used-well IsEnd same s x d)

pub or_miss : (rule : State → Rule) → Always IsEnd rule → Always IsEndOrMiss rule
or_miss rule h = always-more IsEndOrMiss end-or_miss rule h

-- with a member kept, where the body had a value
kept-ends : (s : State) (r : Outcome) → IsEnd r → (t : State) → HasAsMany s t → Ends (So IsEndOrKept s) (kept_of r t)
kept-ends s (Val v) e t l = (tt, l)
kept-ends s (Ret v) e t l = (tt, l)
kept-ends s Brk e t l = (tt, l)
kept-ends s Cnt e t l = (tt, l)
kept-ends s Fail e t l = (tt, l)
kept-ends s (Ins v) e t l = (tt, l)
kept-ends s (Thr v) e t l = (tt, l)
kept-ends s Miss e t l = absurd e
kept-ends s Kept e t l = absurd e
kept-ends s Stop e t l = absurd e

keeping-always : (body : State → Rule) → Always IsEnd body → Always IsEndOrKept (keeping body)
keeping-always body h s = ends-after (So IsEnd s) (So IsEndOrKept s) (body s) kept_of (h s) (λ r t k. kept-ends s r k.0 t k.1)

truth_of-ends : (s : State) (r : Outcome) → IsEndOrMiss r → S s (truth_of r)
truth_of-ends s Miss e t l = (tt, l)
truth_of-ends s r e t l = (e, l)

pub found-ends : (s : State) (rule : State → Rule) → Always IsEndOrMiss rule → S s (found rule)
found-ends s rule h = after-ends s IsEndOrMiss (scoped rule) truth_of (scoped-always IsEndOrMiss rule h) (truth_of-ends s)

pub holds-always : Always IsEndOrMiss holds
holds-always s = (tt, like-refl s)

-- Conditionals.

otherwise-ends : (s : State) (x : Option Stat) (d : ℕ) (r : Outcome) → IsEndOrMiss r → S s (otherwise x d r)
otherwise-ends s None d Miss e t l = (tt, l)
otherwise-ends s (Some x) d Miss e t l = scoped-ends s (used x d) (used-always x d) t l
otherwise-ends s x d r e t l = (e, l)

pub conditional-ends : (s : State) (p : Program) (cs : List Exp) (x : Stat) (other : Option Stat) (d : ℕ) → S s (conditional p cs x other d)
conditional-ends s p cs x other d =
    after-ends s IsEndOrMiss (scoped (where_all p cs d (used x d))) (otherwise other d)
    (scoped-always IsEndOrMiss (where_all p cs d (used x d)) (always-where IsEndOrMiss end-or_miss tt p cs d (used x d) (or_miss (used x d) (used-always x d))))
    (otherwise-ends s other d)

pub choice-ends : (s : State) (c x y : Exp) (d : ℕ) → S s (choice c x y d)
choice-ends s c x y d = part-ends s c d (chosen x y d) (on_truth-well IsEnd same s (value_of x d) (value_of y d) (value_of-ends s x d) (value_of-ends s y d))

-- Loops. Where a body is used the loop has a pile.

leave_body-ends : (s u : State) (r : Outcome) (t : State) → 1 ≤ length u.collected → HasAsMany s u → HasAsMany (begin_body u) t → Ends (So Any s) (leave_body r t)
leave_body-ends s u Cnt t p l k = (tt, like-trans s u _ l (end_body-like u t p k))
leave_body-ends s u Brk t p l k = (tt, like-trans s u _ l (end_body-like u t p k))
leave_body-ends s u r t p l k = (tt, like-trans s u _ l (end_body-like u t p k))

body-stays : (s : State) → 1 ≤ length s.collected → (x : Stat) (d : ℕ) → Stays Any any s (loop_body x d)
body-stays s p x d u l = (tt, λ r t e k. leave_body-ends s u r t (still-one _ _ l.collected p) l k)

any-kept : (s : State) (r : Outcome) (t : State) → HasAsMany s t → Ends (So Any s) (kept_of r t)
any-kept s (Val v) t l = (tt, l)
any-kept s r t l = (tt, l)

keeping-body-stays : (s : State) → 1 ≤ length s.collected → (x : Stat) (d : ℕ) → Stays Any any s (keeping (loop_body x d))
keeping-body-stays s p x d u l = ends-after (So Any s) (So Any s) (loop_body x d u) kept_of (body-stays s p x d u l) (λ r t k. any-kept s r t k.1)

-- in a scope of its own, where there is a pile
scoped-any : (s : State) (rule : State → Rule) → Ends (So Any (open_scope s)) (rule (open_scope s)) → Ends (So Any s) (scoped rule s)
scoped-any s rule h = ends-after (So Any (open_scope s)) (So Any s) (rule (open_scope s)) leave_scope h (λ r t k. (tt, close-like s t k.1))

over-ends : (s t : State) (wanted : Bool) → HasAsMany (begin_pile s) t → Ends (So IsEnd s) (over wanted t)
over-ends s t true l = literal-ends s (list_of (top_list t.collected)) (end_pile t) (end_pile-like s t l)
over-ends s t false l = (tt, end_pile-like s t l)

loop_end-ends : (s : State) (wanted : Bool) (r : Outcome) (t : State) → HasAsMany (begin_pile s) t → Ends (So IsEnd s) (loop_end wanted r t)
loop_end-ends s wanted (Val v) t l = over-ends s t wanted l
loop_end-ends s wanted Kept t l = over-ends s t wanted l
loop_end-ends s wanted Miss t l = over-ends s t wanted l
loop_end-ends s wanted Stop t l = over-ends s t wanted l
loop_end-ends s wanted (Ret v) t l = (tt, end_pile-like s t l)
loop_end-ends s wanted Brk t l = (tt, end_pile-like s t l)
loop_end-ends s wanted Cnt t l = (tt, end_pile-like s t l)
loop_end-ends s wanted Fail t l = (tt, end_pile-like s t l)
loop_end-ends s wanted (Ins v) t l = (tt, end_pile-like s t l)
loop_end-ends s wanted (Thr v) t l = (tt, end_pile-like s t l)

one-pile : (n : ℕ) → 1 ≤ suc n
one-pile n = omega arith

pub for-always : (p : Program) (cs : List Exp) (x : Stat) (wanted : Bool) (d : ℕ) → Always IsEnd (for_loop p cs x wanted d)
for-always p cs x wanted d s =
    let start = open_scope (begin_pile s) in
    ends-after (So Any (begin_pile s)) (So IsEnd s) (scoped (for_each p cs d (loop_body x d)) (begin_pile s)) (loop_end wanted)
    (scoped-any (begin_pile s) (for_each p cs d (loop_body x d))
    (where_all-well Any any start tt p cs d (keeping (loop_body x d)) (keeping-body-stays start (one-pile (length s.collected)) x d) start (like-refl start)))
    (λ r t k. loop_end-ends s wanted r t k.1)

pub while-always : (cs : List Exp) (x : Stat) (wanted : Bool) (d : ℕ) → Always IsEnd (while_loop cs x wanted d)
while-always cs x wanted d s = (one-pile (length s.collected), λ r t e k. loop_end-ends s wanted r t k)

pub do-always : (x : Stat) (cs : List Exp) (wanted : Bool) (d : ℕ) → Always IsEnd (do_loop x cs wanted d)
do-always x cs wanted d s = (one-pile (length s.collected), λ r t e k. loop_end-ends s wanted r t k)

while-next : (s : State) → 1 ≤ length s.collected → (cs : List Exp) (x : Stat) (d : ℕ) (r : Outcome) (t : State) → HasAsMany s t → Ends (So Any s) (turn_after (while cs x) d r t)
while-next s p cs x d (Val v) t l = (still-one _ _ l.collected p, λ r u e k. (tt, like-trans s t u l k))
while-next s p cs x d r t l = (tt, l)

do-next : (s : State) → 1 ≤ length s.collected → (x : Stat) (cs : List Exp) (d : ℕ) (r : Outcome) (t : State) → HasAsMany s t → Ends (So Any s) (turn_after (do_while x cs) d r t)
do-next s p x cs d (Val v) t l = (still-one _ _ l.collected p, λ r u e k. (tt, like-trans s t u l k))
do-next s p x cs d r t l = (tt, l)

pub while_turn-ends : (p : Program) (cs : List Exp) (x : Stat) (d : ℕ) (s : State) → 1 ≤ length s.collected → Ends (So Any s) (while_turn p cs x d s)
while_turn-ends p cs x d s h =
    ends-after (So Any s) (So Any s) (scoped (where_all p cs d (loop_body x d)) s) (turn_after (while cs x) d)
    (scoped-any s (where_all p cs d (loop_body x d)) (where_all-well Any any (open_scope s) tt p cs d (loop_body x d) (body-stays (open_scope s) h x d) (open_scope s) (like-refl (open_scope s))))
    (λ r t k. while-next s h cs x d r t k.1)

any-done : (s : State) → Stays Any any s done
any-done s t l = (tt, l)

do_test-ends : (p : Program) (x : Stat) (cs : List Exp) (d : ℕ) (s : State) → 1 ≤ length s.collected → (r : Outcome) (t : State) → HasAsMany s t → Ends (So Any s) (do_test p x cs d r t)
do_test-ends p x cs d s h (Val v) t l =
    ends-after (So Any t) (So Any s) (scoped (where_all p cs d done) t) (turn_after (do_while x cs) d)
    (scoped-any t (where_all p cs d done) (where_all-well Any any (open_scope t) tt p cs d done (any-done (open_scope t)) (open_scope t) (like-refl (open_scope t))))
    (λ r u k. do-next s h x cs d r u (like-trans s t u l k.1))
do_test-ends p x cs d s h r t l = (tt, l)

pub do_turn-ends : (p : Program) (x : Stat) (cs : List Exp) (d : ℕ) (s : State) → 1 ≤ length s.collected → Ends (So Any s) (do_turn p x cs d s)
do_turn-ends p x cs d s h =
    ends-after (So Any s) (So Any s) (scoped (loop_body x d) s) (do_test p x cs d)
    (scoped-any s (loop_body x d) (body-stays (open_scope s) h x d (open_scope s) (like-refl (open_scope s))))
    (λ r t k. do_test-ends p x cs d s h r t k.1)

-- Comprehensions and reducers.

collected-ends : (s : State) (made : List Plain → Plain) (r : Outcome) → IsEndOrKept r → (t : State) → HasAsMany (begin_pile s) t → Ends (So IsEnd s) (collected made r t)
collected-ends s made Kept e t l = literal-ends s (made (top_list t.collected)) (end_pile t) (end_pile-like s t l)
collected-ends s made Miss e t l = literal-ends s (made (top_list t.collected)) (end_pile t) (end_pile-like s t l)
collected-ends s made r e t l = (e, end_pile-like s t l)

pub comprehension-always : (p : Program) (made : List Plain → Plain) (body : ℕ → State → Rule) (cs : List Exp) (d : ℕ) → Always IsEnd (body d) → Always IsEnd (comprehension p made body cs d)
comprehension-always p made body cs d h s =
    ends-after (So IsEndOrKept (begin_pile s)) (So IsEnd s) (scoped (for_each p cs d (body d)) (begin_pile s)) (collected made)
    (scoped-always IsEndOrKept (for_each p cs d (body d)) (always-where IsEndOrKept end-or_kept tt p cs d (keeping (body d)) (keeping-always (body d) h)) (begin_pile s))
    (λ r t k. collected-ends s made r k.0 t k.1)

collecting-ends : (s : State) (vs : List Plain) → S s (collecting vs)
collecting-ends s vs t l = (tt, like-trans s t _ l (collect-like vs t))

pub elements_body-always : (xs : List Exp) (d : ℕ) → Always IsEnd (elements_body xs d)
elements_body-always xs d = always-end (elements_body xs d) (λ s. elements-ends s xs d collecting (collecting-ends s) [])

pub entry_body-always : (x y : Exp) (d : ℕ) → Always IsEnd (entry_body x y d)
entry_body-always x y d = always-end (entry_body x y d) (λ s. part-ends s x d (entry_key y d) (λ k. part-ends s y d (collecting_entry k) (λ v. collecting-ends s _)))

stepping-stays : (s : State) → 1 ≤ length s.its → (step : Exp) (d : ℕ) → S s (stepping step d)
stepping-stays s h step d = part-ends s step d step_value (λ v t l. (tt, like-trans s t _ l (set_it-like v t (still-one _ _ l.its h))))

keeping-step : (s : State) → 1 ≤ length s.its → (step : Exp) (d : ℕ) → Stays IsEndOrKept end-or_kept s (keeping (stepping step d))
keeping-step s h step d t l = ends-after (So IsEnd s) (So IsEndOrKept s) (stepping step d t) kept_of (stepping-stays s h step d t l) (λ r u k. kept-ends s r k.0 u k.1)

leave_reducer-ends : (v : Plain) (s : State) (r : Outcome) → IsEnd r → (t : State) → HasAsMany (begin_reducer v s) t → Ends (So IsEnd s) (leave_reducer r t)
leave_reducer-ends v s r e t l = (e, end_reducer-like v s t l)

reduced-ends : (v : Plain) (s : State) (r : Outcome) → IsEndOrKept r → (t : State) → HasAsMany (begin_reducer v s) t → Ends (So IsEnd s) (reduced r t)
reduced-ends v s Kept e t l = ends-after (So IsEnd (begin_reducer v s)) (So IsEnd s) (it t) leave_reducer (it-ends (begin_reducer v s) (it_of t) t l) (λ r u k. leave_reducer-ends v s r k.0 u k.1)
reduced-ends v s Miss e t l = ends-after (So IsEnd (begin_reducer v s)) (So IsEnd s) (it t) leave_reducer (it-ends (begin_reducer v s) (it_of t) t l) (λ r u k. leave_reducer-ends v s r k.0 u k.1)
reduced-ends v s r e t l = (e, end_reducer-like v s t l)

reducing-always : (p : Program) (step : Exp) (cs : List Exp) (d : ℕ) (v : Plain) → Always IsEnd (reducing p step cs d v)
reducing-always p step cs d v s =
    let start = open_scope (begin_reducer v s) in
    ends-after (So IsEndOrKept (begin_reducer v s)) (So IsEnd s) (scoped (for_each p cs d (stepping step d)) (begin_reducer v s)) reduced
    (ends-after (So IsEndOrKept start) (So IsEndOrKept (begin_reducer v s)) (for_each p cs d (stepping step d) start) leave_scope
    (where_all-well IsEndOrKept end-or_kept start tt p cs d (keeping (stepping step d)) (keeping-step start (one-pile (length s.its)) step d) start (like-refl start))
    (λ r t k. (k.0, close-like (begin_reducer v s) t k.1)))
    (λ r t k. reduced-ends v s r k.0 t k.1)

pub reducer-ends : (s : State) (p : Program) (start step : Exp) (cs : List Exp) (d : ℕ) → S s (reducer p start step cs d)
reducer-ends s p start step cs d = part-ends s start d (reducing p step cs d) (λ v. stays-from IsEnd same s (reducing p step cs d v) (reducing-always p step cs d v))
