-- A rule that goes on after another one, and what follows from it for members and `finally`.
use Rattle.std.proofs.Common.{◌≡◌, ℕ, zero, suc, ◌+◌, Bool, true, false, if◌then◌else◌, Option, List, [], ◌∷◌, ◌++◌, Some, None, refl, sym, ◌∙◌, ap, subst}
use Rattle.rl_base.specs.Holds.{FileMap, file_at}
use Rattle.rl_exception.specs.Answer as answer
use Rattle.rl_exception.specs.Exceptions.{wrong_kind, uninitialized_variable}
use Rattle.rl_match.specs.Bindings.{Binding, bindings}
use Rattle.rl_match.specs.Tests.{outside_tests}
use Rattle.rl_syntax.specs.declared.pattern.Pattern.{Pattern}
use Rattle.rl_value.specs.Plain.{Plain}
use Rattle.rl_rules.specs.Conditions.{members_of, matched_members, enumerated_elements, enumerated_members, bindings_on_each, elements_of}
use Rattle.rl_syntax.specs.declared.statement.Stat.{Stat}
use Rattle.rl_rules.specs.Evaluation.{Evaluation, Ran, Done, Cut, Stuck, Reading, throws, stops, on_done, on_wrong, with_unit, run_as}
use Rattle.rl_rules.specs.Exceptions.{handled, finally, finished}
use Rattle.rl_rules.specs.Form.{statement}
use Rattle.rl_rules.specs.Laws.{IsAbandoned, AbandonedIsTakenBack, MissLeavesState, MatchLeavesState, EnumerationLeavesState, FinallyIsUsedOnce, end_with}
use Rattle.rl_rules.specs.Members.{members, under_member, raise_or, without_value}
use Rattle.rl_rules.specs.Parts.{used}
use Rattle.rl_rules.specs.Program.{Program, context}
use Rattle.rl_rules.specs.Rule.{Outcome, Val, Ret, Brk, Cnt, Fail, Ins, Thr, Miss, Kept, Stop, Rule, Give, Use, Take, Print, Read, Wrong, after, throw, wrong_operand, is_wrong_kind, give_answer}
use Rattle.rl_rules.specs.Scopes.{scoped}
use Rattle.rl_rules.specs.State.{State, declare_all, open_scope, close_scope}

on_done-on_done : (o : Ran) (f g : Outcome → State → ℕ → List ℕ → Ran) → on_done (on_done o f) g ≡ on_done o (λ r s n t. on_done (f r s n t) g)
on_done-on_done (Done r s n t) f g = refl
on_done-on_done (Cut t) f g = refl
on_done-on_done (Stuck t) f g = refl

on_done-each : (o : Ran) (f g : Outcome → State → ℕ → List ℕ → Ran) → ((r : Outcome) (s : State) (n : ℕ) (t : List ℕ) → f r s n t ≡ g r s n t) → on_done o f ≡ on_done o g
on_done-each (Done r s n t) f g h = h r s n t
on_done-each (Cut t) f g h = refl
on_done-each (Stuck t) f g h = refl

with_unit-on_done : (n : ℕ) (t : List ℕ) (f g : ℕ → Ran) (go : Outcome → State → ℕ → List ℕ → Ran) → ((m : ℕ) → f m ≡ on_done (g m) go) → with_unit n t f ≡ on_done (with_unit n t g) go
with_unit-on_done zero t f g go h = refl
with_unit-on_done (suc n) t f g go h = h n

on_wrong-on_done : (w : Reading) (t : List ℕ) (o : Ran) (go : Outcome → State → ℕ → List ℕ → Ran) → on_wrong w t (on_done o go) ≡ on_done (on_wrong w t o) go
on_wrong-on_done throws t o go = refl
on_wrong-on_done stops t o go = refl

module _ (w : Reading) (files : FileMap) (e : Evaluation) where
  abbrev goes : (Outcome → State → Rule) → Outcome → State → ℕ → List ℕ → Ran
  goes go r s m u = run_as w files e (go r s) m u

  pub run-after : (rule : Rule) (go : Outcome → State → Rule) (n : ℕ) (t : List ℕ) → run_as w files e (after rule go) n t ≡ on_done (run_as w files e rule n t) (goes go)
  run-after (Give r s) go n t = refl
  run-after (Use f d s next) go n t =
      on_done-each (e f d s n t) _ _ (λ r s' m u. run-after (next r s') go m u)
      ∙ sym (on_done-on_done (e f d s n t) (goes next) (goes go))
  run-after (Take rule) go n t = with_unit-on_done n t _ _ (goes go) (λ m. run-after rule go m t)
  run-after (Print bytes rule) go n t = run-after rule go n (t ++ bytes)
  run-after (Read path next) go n t = run-after (next (file_at files path)) go n t
  run-after (Wrong rule) go n t = ap (on_wrong w t) (run-after rule go n t) ∙ on_wrong-on_done w t (run_as w files e rule n t) (goes go)

  -- Members.

  abandoned-next : (r : Outcome) → IsAbandoned r → (next kept : State → Rule) (before s : State) → under_member next kept before r s ≡ next before
  abandoned-next Miss h next kept before s = refl
  abandoned-next Fail h next kept before s = refl
  abandoned-next (Val v) h next kept before s = absurd h
  abandoned-next (Ret v) h next kept before s = absurd h
  abandoned-next Brk h next kept before s = absurd h
  abandoned-next Cnt h next kept before s = absurd h
  abandoned-next (Ins v) h next kept before s = absurd h
  abandoned-next (Thr v) h next kept before s = absurd h
  abandoned-next Kept h next kept before s = absurd h
  abandoned-next Stop h next kept before s = absurd h

  pub abandoned-back : AbandonedIsTakenBack w files e
  abandoned-back b bs any under s n t r left m u h a =
      run-after (under (declare_all b s)) (under_member (members bs any under) (members bs true under) s) n t
      ∙ (ap (λ o. on_done o (goes (under_member (members bs any under) (members bs true under) s))) h
      ∙ ap (λ rule. run_as w files e rule m u) (abandoned-next r a (members bs any under) (members bs true under) s left))

  -- not a miss
  abbrev IsNoMiss : Ran → Type 0
  IsNoMiss (Done Miss s n t) = ⊥
  IsNoMiss o = Unit {0}

  -- a miss in this state, or no miss
  abbrev MissesIn : State → Ran → Type 0
  MissesIn s (Done Miss left n t) = left ≡ s
  MissesIn s o = Unit {0}

  either-reading : (w : Reading) (s : State) (t : List ℕ) (o : Ran) → MissesIn s o → MissesIn s (on_wrong w t o)
  either-reading throws s t o h = h
  either-reading stops s t o h = tt

  no-miss : (s : State) (o : Ran) → IsNoMiss o → MissesIn s o
  no-miss s (Done Miss left n t) h = absurd h
  no-miss s (Done (Val v) left n t) h = tt
  no-miss s (Done (Ret v) left n t) h = tt
  no-miss s (Done Brk left n t) h = tt
  no-miss s (Done Cnt left n t) h = tt
  no-miss s (Done Fail left n t) h = tt
  no-miss s (Done (Ins v) left n t) h = tt
  no-miss s (Done (Thr v) left n t) h = tt
  no-miss s (Done Kept left n t) h = tt
  no-miss s (Done Stop left n t) h = tt
  no-miss s (Cut t) h = tt
  no-miss s (Stuck t) h = tt

  with_unit-no_miss : (n : ℕ) (t : List ℕ) (go : ℕ → Ran) → ((m : ℕ) → IsNoMiss (go m)) → IsNoMiss (with_unit n t go)
  with_unit-no_miss zero t go h = tt
  with_unit-no_miss (suc n) t go h = h n

  with_unit-misses : (s : State) (n : ℕ) (t : List ℕ) (go : ℕ → Ran) → ((m : ℕ) → MissesIn s (go m)) → MissesIn s (with_unit n t go)
  with_unit-misses s zero t go h = tt
  with_unit-misses s (suc n) t go h = h n

  under-no_miss : (next kept : State → Rule) (before : State) (o : Ran) → ((s : State) (n : ℕ) (t : List ℕ) → IsNoMiss (run_as w files e (next s) n t))
      → ((s : State) (n : ℕ) (t : List ℕ) → IsNoMiss (run_as w files e (kept s) n t)) → IsNoMiss (on_done o (goes (under_member next kept before)))
  under-no_miss next kept before (Cut t) h k = tt
  under-no_miss next kept before (Stuck t) h k = tt
  under-no_miss next kept before (Done Miss s n t) h k = h before n t
  under-no_miss next kept before (Done Fail s n t) h k = h before n t
  under-no_miss next kept before (Done Kept s n t) h k = k s n t
  under-no_miss next kept before (Done (Val v) s n t) h k = tt
  under-no_miss next kept before (Done (Ret v) s n t) h k = tt
  under-no_miss next kept before (Done Brk s n t) h k = tt
  under-no_miss next kept before (Done Cnt s n t) h k = tt
  under-no_miss next kept before (Done (Ins v) s n t) h k = tt
  under-no_miss next kept before (Done (Thr v) s n t) h k = tt
  under-no_miss next kept before (Done Stop s n t) h k = tt

  -- once something is kept, the end is no miss
  kept-no_miss : (bs : List Binding) (under : State → Rule) (s : State) (n : ℕ) (t : List ℕ) → IsNoMiss (run_as w files e (members bs true under s) n t)
  kept-no_miss [] under s n t = tt
  kept-no_miss (b ∷ bs) under s n t = with_unit-no_miss n t _ (λ m.
      rw (run-after (under (declare_all b s)) (under_member (members bs true under) (members bs true under) s) m t)
      (under-no_miss (members bs true under) (members bs true under) s _ (λ s' k u. kept-no_miss bs under s' k u) (λ s' k u. kept-no_miss bs under s' k u)))

  under-misses : (next kept : State → Rule) (before : State) (o : Ran) → ((n : ℕ) (t : List ℕ) → MissesIn before (run_as w files e (next before) n t))
      → ((s : State) (n : ℕ) (t : List ℕ) → IsNoMiss (run_as w files e (kept s) n t)) → MissesIn before (on_done o (goes (under_member next kept before)))
  under-misses next kept before (Cut t) h k = tt
  under-misses next kept before (Stuck t) h k = tt
  under-misses next kept before (Done Miss s n t) h k = h n t
  under-misses next kept before (Done Fail s n t) h k = h n t
  under-misses next kept before (Done Kept s n t) h k = no-miss before _ (k s n t)
  under-misses next kept before (Done (Val v) s n t) h k = tt
  under-misses next kept before (Done (Ret v) s n t) h k = tt
  under-misses next kept before (Done Brk s n t) h k = tt
  under-misses next kept before (Done Cnt s n t) h k = tt
  under-misses next kept before (Done (Ins v) s n t) h k = tt
  under-misses next kept before (Done (Thr v) s n t) h k = tt
  under-misses next kept before (Done Stop s n t) h k = tt

  members-misses : (bs : List Binding) (under : State → Rule) (s : State) (n : ℕ) (t : List ℕ) → MissesIn s (run_as w files e (members bs false under s) n t)
  members-misses [] under s n t = refl
  members-misses (b ∷ bs) under s n t = with_unit-misses s n t _ (λ m.
      rw (run-after (under (declare_all b s)) (under_member (members bs false under) (members bs true under) s) m t)
      (under-misses (members bs false under) (members bs true under) s _ (λ k u. members-misses bs under s k u) (λ s' k u. kept-no_miss bs under s' k u)))

  pub miss-leaves : MissLeavesState w files e
  miss-leaves bs under s n t left m u h =
      let misses : MissesIn s (Done Miss left m u) = subst (MissesIn s) h (members-misses bs under s n t) in
      misses

  on_wrong-misses : (s : State) (t : List ℕ) (o : Ran) → MissesIn s o → MissesIn s (on_wrong w t o)
  on_wrong-misses s t o h = either-reading w s t o h

  refused-misses : (b : Bool) (exception : Plain) (s : State) (n : ℕ) (t : List ℕ) → MissesIn s (run_as w files e (if b then wrong_operand s else throw exception s) n t)
  refused-misses true exception s n t = on_wrong-misses s t (Done (Thr wrong_kind) s n t) tt
  refused-misses false exception s n t = tt

  answer-misses : (a : answer.Answer) (s : State) (n : ℕ) (t : List ℕ) → MissesIn s (run_as w files e (give_answer a s) n t)
  answer-misses (answer.Gives v) s n t = tt
  answer-misses (answer.Throws exception) s n t = refused-misses (is_wrong_kind exception) exception s n t

  tested-misses : (missing : Option (List ℕ)) (rule : State → Rule) (s : State) (n : ℕ) (t : List ℕ) → MissesIn s (run_as w files e (rule s) n t)
      → MissesIn s (run_as w files e (raise_or missing rule s) n t)
  tested-misses None rule s n t h = h
  tested-misses (Some name) rule s n t h = answer-misses (answer.throwing (uninitialized_variable name)) s n t

  match-misses : (p : Program) (pattern : Pattern) (rest : State → Rule) (v : Plain) (s : State) (n : ℕ) (t : List ℕ) → MissesIn s (run_as w files e (members_of p pattern rest v s) n t)
  match-misses p pattern rest v s n t =
      tested-misses (without_value s (outside_tests (pattern ∷ []))) (matched_members p pattern rest v) s n t
      (members-misses (bindings (context p s) pattern v []) rest s n t)

  elements-misses : (p : Program) (pattern : Pattern) (rest : State → Rule) (vs : Option (List Plain)) (s : State) (n : ℕ) (t : List ℕ)
      → MissesIn s (run_as w files e (enumerated_elements p pattern rest vs s) n t)
  elements-misses p pattern rest None s n t = on_wrong-misses s t (Done (Thr wrong_kind) s n t) tt
  elements-misses p pattern rest (Some vs) s n t =
      tested-misses (without_value s (outside_tests (pattern ∷ []))) (enumerated_members p pattern rest vs) s n t
      (members-misses (bindings_on_each p pattern vs s) rest s n t)

  pub match-leaves : (p : Program) → MatchLeavesState w p files e
  match-leaves p pattern rest v s n t left m u h =
      let misses : MissesIn s (Done Miss left m u) = subst (MissesIn s) h (match-misses p pattern rest v s n t) in
      misses

  pub enumeration-leaves : (p : Program) → EnumerationLeavesState w p files e
  enumeration-leaves p pattern rest v s n t left m u h =
      let misses : MissesIn s (Done Miss left m u) = subst (MissesIn s) h (elements-misses p pattern rest (elements_of v) s n t) in
      misses

  -- `finally`.

  finished-ends : (before q : Outcome) (s : State) (m : ℕ) (u : List ℕ) → run_as w files e (finished before q (close_scope s)) m u ≡ Done (end_with before q) (close_scope s) m u
  finished-ends before (Val v) s m u = refl
  finished-ends before (Ret v) s m u = refl
  finished-ends before Brk s m u = refl
  finished-ends before Cnt s m u = refl
  finished-ends before Fail s m u = refl
  finished-ends before (Ins v) s m u = refl
  finished-ends before (Thr v) s m u = refl
  finished-ends before Miss s m u = refl
  finished-ends before Kept s m u = refl
  finished-ends before Stop s m u = refl

  finally-used : (last : Stat) (d : ℕ) (r : Outcome) (s : State) (m : ℕ) (u : List ℕ) → run_as w files e (finally (Some last) d r s) m u
      ≡ on_done (e (statement last) (d + 1) (open_scope s) m u) (λ q s'' k v. Done (end_with r q) (close_scope s'') k v)
  finally-used last d r s m u = on_done-each (e (statement last) (d + 1) (open_scope s) m u) _ _ (λ q s'' k v. finished-ends r q s'' k v)

  on_done-done : (o : Ran) → on_done o (λ r s m u. Done r s m u) ≡ o
  on_done-done (Done r s m u) = refl
  on_done-done (Cut u) = refl
  on_done-done (Stuck u) = refl

  pub finally-once : (p : Program) → FinallyIsUsedOnce w p files e
  finally-once p body last hs d s n t =
      let rule = after (scoped (used body d) s) (handled p hs d) in
      run-after rule (finally (Some last) d) n t
      ∙ (on_done-each (run_as w files e rule n t) _ _ (λ r s' m u. finally-used last d r s' m u)
      ∙ ap (λ o. on_done o (λ r s' m u. on_done (e (statement last) (d + 1) (open_scope s') m u) (λ q s'' k v. Done (end_with r q) (close_scope s'') k v)))
      (sym (run-after rule (finally None d) n t ∙ on_done-done (run_as w files e rule n t))))
