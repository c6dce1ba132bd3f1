-- What was printed stays printed.
use Rattle.std.proofs.Common.{ℕ, zero, suc, ◌+◌, ◌*◌, List, [], ◌++◌, refl, sym, ◌∙◌, ap, append_assoc, append-nil}
use Rattle.rl_base.specs.Holds.{FileMap, file_at}
use Rattle.rl_rules.specs.Evaluation.{Evaluation, Ran, Done, Cut, Stuck, Reading, throws, stops, on_done, on_wrong, with_unit, entering, run_as, eval_within, eval_as, printed}
use Rattle.rl_rules.specs.Form.{Form, expression, statement, alternative, node, turn}
use Rattle.rl_rules.specs.Program.{Program}
use Rattle.rl_rules.specs.Rule.{Outcome, Rule, Give, Use, Take, Print, Read, Wrong}
use Rattle.rl_rules.specs.Rules.{entered}
use Rattle.rl_rules.specs.Laws.{GoesOnFrom}
use Rattle.rl_rules.specs.State.{State}

pub GoesOnFrom-refl : (t : List ℕ) → GoesOnFrom t t
GoesOnFrom-refl t = ([], append-nil t)

pub GoesOnFrom-trans : (a b c : List ℕ) → GoesOnFrom a b → GoesOnFrom b c → GoesOnFrom a c
GoesOnFrom-trans a b c h k = (h.0 ++ k.0, sym (append_assoc a h.0 k.0) ∙ (ap (λ v. v ++ k.0) h.1 ∙ k.1))

abbrev pub NeverUnsays : Evaluation → Type 0
NeverUnsays e = (f : Form) (d : ℕ) (s : State) (n : ℕ) (t : List ℕ) → GoesOnFrom t (printed (e f d s n t))

pub on_done-goes_on : (t : List ℕ) (o : Ran) (go : Outcome → State → ℕ → List ℕ → Ran) → GoesOnFrom t (printed o)
    → ((r : Outcome) (s : State) (m : ℕ) (u : List ℕ) → GoesOnFrom u (printed (go r s m u))) → GoesOnFrom t (printed (on_done o go))
on_done-goes_on t (Done r s m u) go l h = GoesOnFrom-trans t u (printed (go r s m u)) l (h r s m u)
on_done-goes_on t (Cut u) go l h = l
on_done-goes_on t (Stuck u) go l h = l

pub with_unit-goes_on : (t : List ℕ) (n : ℕ) (go : ℕ → Ran) → ((m : ℕ) → GoesOnFrom t (printed (go m))) → GoesOnFrom t (printed (with_unit n t go))
with_unit-goes_on t zero go h = GoesOnFrom-refl t
with_unit-goes_on t (suc n) go h = h n

on_wrong-goes_on : (w : Reading) (t : List ℕ) (o : Ran) → GoesOnFrom t (printed o) → GoesOnFrom t (printed (on_wrong w t o))
on_wrong-goes_on throws t o h = h
on_wrong-goes_on stops t o h = GoesOnFrom-refl t

pub run-goes_on : (w : Reading) (files : FileMap) (e : Evaluation) → NeverUnsays e → (rule : Rule) (n : ℕ) (t : List ℕ) → GoesOnFrom t (printed (run_as w files e rule n t))
run-goes_on w files e h (Give r s) n t = GoesOnFrom-refl t
run-goes_on w files e h (Use f d s go) n t = on_done-goes_on t (e f d s n t) _ (h f d s n t) (λ r s' m u. run-goes_on w files e h (go r s') m u)
run-goes_on w files e h (Take rule) n t = with_unit-goes_on t n _ (λ m. run-goes_on w files e h rule m t)
run-goes_on w files e h (Print bytes rule) n t = GoesOnFrom-trans t (t ++ bytes) _ (bytes, refl) (run-goes_on w files e h rule n (t ++ bytes))
run-goes_on w files e h (Read path go) n t = run-goes_on w files e h (go (file_at files path)) n t
run-goes_on w files e h (Wrong rule) n t = on_wrong-goes_on w t _ (run-goes_on w files e h rule n t)

entering-goes_on : (t : List ℕ) (f : Form) (n : ℕ) (go : ℕ → Ran) → ((m : ℕ) → GoesOnFrom t (printed (go m))) → GoesOnFrom t (printed (entering f n t go))
entering-goes_on t (turn u) n go h = h n
entering-goes_on t (expression x) n go h = with_unit-goes_on t n go h
entering-goes_on t (statement x) n go h = with_unit-goes_on t n go h
entering-goes_on t (alternative a vs) n go h = with_unit-goes_on t n go h
entering-goes_on t (node cs v) n go h = with_unit-goes_on t n go h

pub within-goes_on : (w : Reading) (p : Program) (files : FileMap) (k : ℕ) → NeverUnsays (eval_within w p files k)
unfolding eval_within
within-goes_on w p files zero f d s n t = GoesOnFrom-refl t
within-goes_on w p files (suc k) f d s n t =
    entering-goes_on t f n _ (λ m. run-goes_on w files (eval_within w p files k) (within-goes_on w p files k) (entered p d f s) m t)

pub eval-goes_on : (w : Reading) (p : Program) (files : FileMap) → NeverUnsays (eval_as w p files)
unfolding eval_as
eval-goes_on w p files f d s n t = within-goes_on w p files (2 * n + 1) f d s n t
