-- A budget only cuts: with more units what is done is done alike, with so many more left, and what was cut goes on.
use Rattle.std.proofs.Common.{◌≡◌, ℕ, zero, suc, ◌+◌, ◌*◌, ◌≤◌, List, ◌++◌, refl, arith}
use Rattle.rl_base.specs.Holds.{FileMap, file_at}
use Rattle.rl_rules.specs.Evaluation.{Evaluation, Ran, Done, Cut, Stuck, Reading, throws, stops, on_done, on_wrong, with_unit, entering, run_as, eval_within, eval_as, printed}
use Rattle.rl_rules.specs.Form.{Form, expression, statement, alternative, node, turn}
use Rattle.rl_rules.specs.Laws.{GoesOnFrom, More}
use Rattle.rl_rules.specs.Program.{Program}
use Rattle.rl_rules.specs.Rule.{Outcome, Rule, Give, Use, Take, Print, Read, Wrong}
use Rattle.rl_rules.specs.Rules.{entered}
use Rattle.rl_rules.specs.State.{State}
use Rattle.rl_rules.proofs.Growth.{NeverUnsays, on_done-goes_on, with_unit-goes_on, run-goes_on, within-goes_on}

on_done-more : (k : ℕ) (o o' : Ran) (go go' : Outcome → State → ℕ → List ℕ → Ran) → More k o o'
    → ((r : Outcome) (s : State) (m : ℕ) (t : List ℕ) → More k (go r s m t) (go' r s (m + k) t))
    → ((r : Outcome) (s : State) (m : ℕ) (t : List ℕ) → GoesOnFrom t (printed (go' r s m t))) → More k (on_done o go) (on_done o' go')
on_done-more k (Done r s m t) o' go go' h g e = rw h (g r s m t)
on_done-more k (Cut t) o' go go' h g e = on_done-goes_on t o' go' h e
on_done-more k (Stuck t) o' go go' h g e = rw h refl

with_unit-more : (k n : ℕ) (t : List ℕ) (go go' : ℕ → Ran) → ((m : ℕ) → More k (go m) (go' (m + k))) → ((m : ℕ) → GoesOnFrom t (printed (go' m))) → More k (with_unit n t go) (with_unit (n + k) t go')
with_unit-more k zero t go go' h e = with_unit-goes_on t (zero + k) go' e
with_unit-more k (suc n) t go go' h e =
    let same : suc n + k ≡ suc (n + k) = omega arith in
    rw same (h n)

abbrev pub MoreFor : ℕ → Evaluation → Evaluation → Type 0
MoreFor k a b = (f : Form) (d : ℕ) (s : State) (n : ℕ) (t : List ℕ) → More k (a f d s n t) (b f d s (n + k) t)

on_wrong-more : (w : Reading) (k : ℕ) (t : List ℕ) (o o' : Ran) → More k o o' → More k (on_wrong w t o) (on_wrong w t o')
on_wrong-more throws k t o o' h = h
on_wrong-more stops k t o o' h = refl

pub run-more : (w : Reading) (files : FileMap) (k : ℕ) (a b : Evaluation) → MoreFor k a b → NeverUnsays b → (rule : Rule) (n : ℕ) (t : List ℕ) → More k (run_as w files a rule n t) (run_as w files b rule (n + k) t)
run-more w files k a b h e (Give r s) n t = refl
run-more w files k a b h e (Use f d s go) n t =
    on_done-more k (a f d s n t) (b f d s (n + k) t) _ _ (h f d s n t) (λ r s' m u. run-more w files k a b h e (go r s') m u) (λ r s' m u. run-goes_on w files b e (go r s') m u)
run-more w files k a b h e (Take rule) n t =
    with_unit-more k n t _ _ (λ m. run-more w files k a b h e rule m t) (λ m. run-goes_on w files b e rule m t)
run-more w files k a b h e (Print bytes rule) n t = run-more w files k a b h e rule n (t ++ bytes)
run-more w files k a b h e (Read path go) n t = run-more w files k a b h e (go (file_at files path)) n t
run-more w files k a b h e (Wrong rule) n t = on_wrong-more w k t _ _ (run-more w files k a b h e rule n t)

entering-more : (k : ℕ) (f : Form) (n : ℕ) (t : List ℕ) (go go' : ℕ → Ran) → ((m : ℕ) → More k (go m) (go' (m + k))) → ((m : ℕ) → GoesOnFrom t (printed (go' m))) → More k (entering f n t go) (entering f (n + k) t go')
entering-more k (turn u) n t go go' h e = h n
entering-more k (expression x) n t go go' h e = with_unit-more k n t go go' h e
entering-more k (statement x) n t go go' h e = with_unit-more k n t go go' h e
entering-more k (alternative a vs) n t go go' h e = with_unit-more k n t go go' h e
entering-more k (node cs v) n t go go' h e = with_unit-more k n t go go' h e

within-more : (w : Reading) (p : Program) (files : FileMap) (k j i : ℕ) → j ≤ i → MoreFor k (eval_within w p files j) (eval_within w p files i)
unfolding eval_within
within-more w p files k zero i l f d s n t = within-goes_on w p files i f d s (n + k) t
within-more w p files k (suc j) zero l f d s n t = absurd (omega arith)
within-more w p files k (suc j) (suc i) l f d s n t =
    entering-more k f n t _ _
    (λ m. run-more w files k (eval_within w p files j) (eval_within w p files i) (within-more w p files k j i (omega arith)) (within-goes_on w p files i) (entered p d f s) m t)
    (λ m. run-goes_on w files (eval_within w p files i) (within-goes_on w p files i) (entered p d f s) m t)

pub eval-more : (w : Reading) (p : Program) (files : FileMap) (k : ℕ) → MoreFor k (eval_as w p files) (eval_as w p files)
unfolding eval_as
eval-more w p files k f d s n t = within-more w p files k (2 * n + 1) (2 * (n + k) + 1) (omega arith) f d s n t
