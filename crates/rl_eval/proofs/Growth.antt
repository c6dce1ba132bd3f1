-- What was printed stays printed.
use Rattle.std.proofs.Common.{ℕ, zero, suc, List, [], ◌++◌, refl, sym, ◌∙◌, ap, append_assoc, append-nil}
use Rattle.rl_base.specs.Told.{IsPrefixOf}
use Rattle.rl_value.specs.Plain.{Plain}
use Rattle.rl_eval.specs.declared.form.Form.{Form}
use Rattle.rl_eval.specs.Rule.{Rule, Give, Use, Take, Put}
use Rattle.rl_eval.specs.Rules.{rule_of}
use Rattle.rl_eval.specs.Evaluation.{Evaluation, Ran, Done, Cut, on_done, run_by, eval_within, eval, printed}

pub prefix-refl : (xs : List ℕ) → IsPrefixOf xs xs
prefix-refl xs = ([], append-nil xs)

pub prefix-after : (xs ys : List ℕ) → IsPrefixOf xs (xs ++ ys)
prefix-after xs ys = (ys, refl)

pub prefix-trans : (xs ys zs : List ℕ) → IsPrefixOf xs ys → IsPrefixOf ys zs → IsPrefixOf xs zs
prefix-trans xs ys zs h k = (h.0 ++ k.0, sym (append_assoc xs h.0 k.0) ∙ (ap (λ v. v ++ k.0) h.1 ∙ k.1))

abbrev pub NeverUnsays : Evaluation → Type 0
NeverUnsays e = (f : Form) (n : ℕ) (t : List ℕ) → IsPrefixOf t (printed (e f n t))

pub on_done-extends : (t : List ℕ) (ran : Ran) (go : Plain → ℕ → List ℕ → Ran) → IsPrefixOf t (printed ran) → ((v : Plain) (m : ℕ) (u : List ℕ) → IsPrefixOf u (printed (go v m u))) → IsPrefixOf t (printed (on_done ran go))
on_done-extends t (Done v m u) go l h = prefix-trans t u (printed (go v m u)) l (h v m u)
on_done-extends t (Cut u) go l h = l

pub run-extends : (e : Evaluation) → NeverUnsays e → (p : Rule) (n : ℕ) (t : List ℕ) → IsPrefixOf t (printed (run_by e p n t))
run-extends e h (Give v) n t = prefix-refl t
run-extends e h (Use f go) n t = on_done-extends t (e f n t) _ (h f n t) (λ v m u. run-extends e h (go v) m u)
run-extends e h (Take p) zero t = prefix-refl t
run-extends e h (Take p) (suc n) t = run-extends e h p n t
run-extends e h (Put bytes p) n t = prefix-trans t (t ++ bytes) _ (prefix-after t bytes) (run-extends e h p n (t ++ bytes))

within-extends : (k : ℕ) → NeverUnsays (eval_within k)
unfolding eval_within
within-extends k f zero t = prefix-refl t
within-extends zero f (suc n) t = prefix-refl t
within-extends (suc k) f (suc n) t = run-extends (eval_within k) (within-extends k) (rule_of f) n t

-- whatever the units and the form
pub eval-extends : NeverUnsays eval
unfolding eval
eval-extends f n t = within-extends n f n t
