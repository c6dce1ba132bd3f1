-- The equation of evaluation, for any rules.
use Rattle.std.proofs.Common.{◌≡◌, ℕ, zero, suc, ◌≤◌, List, ◌++◌, refl, ◌∙◌, ap, arith}
use Rattle.rl_value.specs.Plain.{Plain}
use Rattle.rl_eval.specs.declared.form.Form.{Form}
use Rattle.rl_eval.specs.Rule.{Rule, Give, Use, Take, Put}
use Rattle.rl_eval.specs.Rules.{rule_of}
use Rattle.rl_eval.specs.Evaluation.{Evaluation, Ran, Done, Cut, on_done, run_by, eval_within, eval}

-- no more than n units are left
abbrev pub Leaves : ℕ → Ran → Type 0
Leaves n (Done v m t) = m ≤ n
Leaves n (Cut t) = Unit {0}

Leaves-le : (m n : ℕ) → m ≤ n → (ran : Ran) → Leaves m ran → Leaves n ran
Leaves-le m n h (Done v k t) l = omega arith
Leaves-le m n h (Cut t) l = tt

on_done-leaves : (n : ℕ) (ran : Ran) (go : Plain → ℕ → List ℕ → Ran) → Leaves n ran → ((v : Plain) (m : ℕ) (t : List ℕ) → Leaves m (go v m t)) → Leaves n (on_done ran go)
on_done-leaves n (Done v m t) go l h = Leaves-le m n l (go v m t) (h v m t)
on_done-leaves n (Cut t) go l h = tt

abbrev pub NeverGains : Evaluation → Type 0
NeverGains e = (f : Form) (n : ℕ) (t : List ℕ) → Leaves n (e f n t)

run-leaves : (e : Evaluation) → NeverGains e → (p : Rule) (n : ℕ) (t : List ℕ) → Leaves n (run_by e p n t)
run-leaves e h (Give v) n t = omega arith
run-leaves e h (Use f go) n t = on_done-leaves n (e f n t) _ (h f n t) (λ v m u. run-leaves e h (go v) m u)
run-leaves e h (Take p) zero t = tt
run-leaves e h (Take p) (suc n) t = Leaves-le n (suc n) (omega arith) _ (run-leaves e h p n t)
run-leaves e h (Put bytes p) n t = run-leaves e h p n (t ++ bytes)

within-leaves : (k : ℕ) → NeverGains (eval_within k)
unfolding eval_within
within-leaves k f zero t = tt
within-leaves zero f (suc n) t = tt
within-leaves (suc k) f (suc n) t = Leaves-le n (suc n) (omega arith) _ (run-leaves (eval_within k) (within-leaves k) (rule_of f) n t)

-- alike with at most n units
abbrev pub Alike : ℕ → Evaluation → Evaluation → Type 0
Alike n a b = (f : Form) (m : ℕ) (t : List ℕ) → m ≤ n → a f m t ≡ b f m t

on_done-same : (n : ℕ) (ran : Ran) (go go' : Plain → ℕ → List ℕ → Ran) → Leaves n ran → ((v : Plain) (m : ℕ) (t : List ℕ) → m ≤ n → go v m t ≡ go' v m t) → on_done ran go ≡ on_done ran go'
on_done-same n (Done v m t) go go' l h = h v m t l
on_done-same n (Cut t) go go' l h = refl

run-same : (a b : Evaluation) (n : ℕ) → Alike n a b → NeverGains a → (p : Rule) (m : ℕ) (t : List ℕ) → m ≤ n → run_by a p m t ≡ run_by b p m t
run-same a b n h g (Give v) m t l = refl
run-same a b n h g (Use f go) m t l =
    on_done-same n (a f m t) _ _ (Leaves-le m n l _ (g f m t)) (λ v k u l'. run-same a b n h g (go v) k u l')
    ∙ ap (λ ran. on_done ran (λ v k u. run_by b (go v) k u)) (h f m t l)
run-same a b n h g (Take p) zero t l = refl
run-same a b n h g (Take p) (suc m) t l = run-same a b n h g p m t (omega arith)
run-same a b n h g (Put bytes p) m t l = run-same a b n h g p m (t ++ bytes) l

within-same : (j k n : ℕ) → n ≤ j → n ≤ k → Alike n (eval_within j) (eval_within k)
unfolding eval_within
within-same j k n hj hk f zero t l = refl
within-same zero k n hj hk f (suc m) t l = absurd (omega arith)
within-same (suc j) zero n hj hk f (suc m) t l = absurd (omega arith)
within-same (suc j) (suc k) n hj hk f (suc m) t l =
    run-same (eval_within j) (eval_within k) m (within-same j k m (omega arith) (omega arith)) (within-leaves j) (rule_of f) m t (omega arith)

-- without a unit a form is cut
pub eval-zero : (f : Form) (t : List ℕ) → eval f zero t ≡ Cut t
unfolding eval eval_within
eval-zero f t = refl

-- else it takes one, and its rule applies
pub eval-suc : (f : Form) (n : ℕ) (t : List ℕ) → eval f (suc n) t ≡ run_by eval (rule_of f) n t
unfolding eval eval_within
eval-suc f n t =
    run-same (eval_within n) eval n (λ f' m t' l. within-same n m m l (omega arith) f' m t' (omega arith)) (within-leaves n) (rule_of f) n t (omega arith)
