-- Laws of evaluation, whatever the rules say.
use Rattle.std.proofs.Common.{◌≡◌, ℕ, zero, suc, ◌+◌, ◌*◌, ◌≤◌, List, ◌++◌, refl, sym, ◌∙◌, ap, arith}
use Rattle.rl_base.specs.Holds.{FileMap, file_at}
use Rattle.rl_rules.specs.Evaluation.{Evaluation, Ran, Done, Cut, Stuck, Reading, throws, stops, on_done, on_wrong, with_unit, entering, run_as, eval_within, eval_as}
use Rattle.rl_rules.specs.Form.{Form, expression, statement, alternative, node, Turn, turn}
use Rattle.rl_rules.specs.Laws.{Leaves, TakesUnit, IsByRules}
use Rattle.rl_rules.specs.Program.{Program}
use Rattle.rl_rules.specs.Rule.{Outcome, Rule, Give, Use, Take, Print, Read, Wrong}
use Rattle.rl_rules.specs.Rules.{entered}
use Rattle.rl_rules.specs.State.{State}
use Rattle.rl_rules.proofs.Guards.{IsNoTurn, Guarded, turn-guarded}

pub Leaves-le : (m n : ℕ) → m ≤ n → (o : Ran) → Leaves m o → Leaves n o
Leaves-le m n h (Done r s k t) l = omega arith
Leaves-le m n h (Cut t) l = tt
Leaves-le m n h (Stuck t) l = tt

on_done-leaves : (n : ℕ) (o : Ran) (go : Outcome → State → ℕ → List ℕ → Ran) → Leaves n o → ((r : Outcome) (s : State) (m : ℕ) (t : List ℕ) → Leaves m (go r s m t)) → Leaves n (on_done o go)
on_done-leaves n (Done r s m t) go l h = Leaves-le m n l (go r s m t) (h r s m t)
on_done-leaves n (Cut t) go l h = tt
on_done-leaves n (Stuck t) go l h = tt

with_unit-leaves : (n : ℕ) (t : List ℕ) (go : ℕ → Ran) → ((m : ℕ) → Leaves m (go m)) → Leaves n (with_unit n t go)
with_unit-leaves zero t go h = tt
with_unit-leaves (suc n) t go h = Leaves-le n (suc n) (omega arith) (go n) (h n)

on_wrong-leaves : (w : Reading) (n : ℕ) (t : List ℕ) (o : Ran) → Leaves n o → Leaves n (on_wrong w t o)
on_wrong-leaves throws n t o l = l
on_wrong-leaves stops n t o l = tt

abbrev pub NeverGains : Evaluation → Type 0
NeverGains e = (f : Form) (d : ℕ) (s : State) (n : ℕ) (t : List ℕ) → Leaves n (e f d s n t)

pub run-leaves : (w : Reading) (files : FileMap) (e : Evaluation) → NeverGains e → (rule : Rule) (n : ℕ) (t : List ℕ) → Leaves n (run_as w files e rule n t)
run-leaves w files e h (Give r s) n t = omega arith
run-leaves w files e h (Use f d s go) n t = on_done-leaves n (e f d s n t) _ (h f d s n t) (λ r s' m u. run-leaves w files e h (go r s') m u)
run-leaves w files e h (Take rule) n t = with_unit-leaves n t _ (λ m. run-leaves w files e h rule m t)
run-leaves w files e h (Print bytes rule) n t = run-leaves w files e h rule n (t ++ bytes)
run-leaves w files e h (Read path go) n t = run-leaves w files e h (go (file_at files path)) n t
run-leaves w files e h (Wrong rule) n t = on_wrong-leaves w n t _ (run-leaves w files e h rule n t)

entering-leaves : (f : Form) (n : ℕ) (t : List ℕ) (go : ℕ → Ran) → ((m : ℕ) → Leaves m (go m)) → Leaves n (entering f n t go)
entering-leaves (turn w) n t go h = h n
entering-leaves (expression x) n t go h = with_unit-leaves n t go h
entering-leaves (statement x) n t go h = with_unit-leaves n t go h
entering-leaves (alternative a vs) n t go h = with_unit-leaves n t go h
entering-leaves (node cs v) n t go h = with_unit-leaves n t go h

pub within-leaves : (w : Reading) (p : Program) (files : FileMap) (k : ℕ) → NeverGains (eval_within w p files k)
unfolding eval_within
within-leaves w p files zero f d s n t = tt
within-leaves w p files (suc k) f d s n t =
    entering-leaves f n t _ (λ m. run-leaves w files (eval_within w p files k) (within-leaves w p files k) (entered p d f s) m t)

pub eval-never_gains : (w : Reading) (p : Program) (files : FileMap) → NeverGains (eval_as w p files)
unfolding eval_as
eval-never_gains w p files f d s n t = within-leaves w p files (2 * n + 1) f d s n t

-- Two evaluations are alike with at most n units.

abbrev pub Alike : ℕ → Evaluation → Evaluation → Type 0
Alike n a b = (f : Form) (d : ℕ) (s : State) (m : ℕ) (t : List ℕ) → m ≤ n → a f d s m t ≡ b f d s m t

on_done-same : (n : ℕ) (o : Ran) (go go' : Outcome → State → ℕ → List ℕ → Ran) → Leaves n o → ((r : Outcome) (s : State) (m : ℕ) (t : List ℕ) → m ≤ n → go r s m t ≡ go' r s m t) → on_done o go ≡ on_done o go'
on_done-same n (Done r s m t) go go' l h = h r s m t l
on_done-same n (Cut t) go go' l h = refl
on_done-same n (Stuck t) go go' l h = refl

with_unit-same : (n : ℕ) (t : List ℕ) (go go' : ℕ → Ran) → ((m : ℕ) → suc m ≤ n → go m ≡ go' m) → with_unit n t go ≡ with_unit n t go'
with_unit-same zero t go go' h = refl
with_unit-same (suc n) t go go' h = h n (omega arith)

run-same : (w : Reading) (files : FileMap) (a b : Evaluation) (n : ℕ) → Alike n a b → NeverGains a → (rule : Rule) (m : ℕ) (t : List ℕ) → m ≤ n → run_as w files a rule m t ≡ run_as w files b rule m t
run-same w files a b n h g (Give r s) m t l = refl
run-same w files a b n h g (Use f d s go) m t l =
    on_done-same n (a f d s m t) _ _ (Leaves-le m n l _ (g f d s m t)) (λ r s' k u l'. run-same w files a b n h g (go r s') k u l')
    ∙ ap (λ o. on_done o (λ r s' k u. run_as w files b (go r s') k u)) (h f d s m t l)
run-same w files a b n h g (Take rule) m t l = with_unit-same m t _ _ (λ k l'. run-same w files a b n h g rule k t (omega arith))
run-same w files a b n h g (Print bytes rule) m t l = run-same w files a b n h g rule m (t ++ bytes) l
run-same w files a b n h g (Read path go) m t l = run-same w files a b n h g (go (file_at files path)) m t l
run-same w files a b n h g (Wrong rule) m t l = ap (on_wrong w t) (run-same w files a b n h g rule m t l)

-- Where a unit is taken first, they need to be alike on turns only with less.

abbrev pub AlikeOnForms : ℕ → Evaluation → Evaluation → Type 0
AlikeOnForms n a b = (f : Form) → IsNoTurn f → (d : ℕ) (s : State) (m : ℕ) (t : List ℕ) → m ≤ n → a f d s m t ≡ b f d s m t

abbrev pub AlikeBelow : ℕ → Evaluation → Evaluation → Type 0
AlikeBelow n a b = (f : Form) (d : ℕ) (s : State) (m : ℕ) (t : List ℕ) → suc m ≤ n → a f d s m t ≡ b f d s m t

-- fewer than n units are left
abbrev pub Spends : ℕ → Ran → Type 0
Spends n (Done r s m t) = suc m ≤ n
Spends n (Cut t) = Unit {0}
Spends n (Stuck t) = Unit {0}

abbrev pub FormsSpend : Evaluation → Type 0
FormsSpend e = (f : Form) → IsNoTurn f → (d : ℕ) (s : State) (n : ℕ) (t : List ℕ) → Spends n (e f d s n t)

Spends-from : (n : ℕ) (o : Ran) → Leaves n o → Spends (suc n) o
Spends-from n (Done r s m t) l = omega arith
Spends-from n (Cut t) l = tt
Spends-from n (Stuck t) l = tt

with_unit-spends : (n : ℕ) (t : List ℕ) (go : ℕ → Ran) → ((m : ℕ) → Leaves m (go m)) → Spends n (with_unit n t go)
with_unit-spends zero t go h = tt
with_unit-spends (suc n) t go h = Spends-from n (go n) (h n)

entering-form : (f : Form) → IsNoTurn f → (n : ℕ) (t : List ℕ) (go : ℕ → Ran) → entering f n t go ≡ with_unit n t go
entering-form (turn w) h n t go = absurd h
entering-form (expression x) h n t go = refl
entering-form (statement x) h n t go = refl
entering-form (alternative a vs) h n t go = refl
entering-form (node cs v) h n t go = refl

pub within-spends : (w : Reading) (p : Program) (files : FileMap) (k : ℕ) → FormsSpend (eval_within w p files k)
unfolding eval_within
within-spends w p files zero f h d s n t = tt
within-spends w p files (suc k) f h d s n t =
    rw (entering-form f h n t (λ m. run_as w files (eval_within w p files k) (entered p d f s) m t))
    (with_unit-spends n t _ (λ m. run-leaves w files (eval_within w p files k) (within-leaves w p files k) (entered p d f s) m t))

on_done-same_less : (n : ℕ) (o : Ran) (go go' : Outcome → State → ℕ → List ℕ → Ran) → Spends n o → ((r : Outcome) (s : State) (m : ℕ) (t : List ℕ) → suc m ≤ n → go r s m t ≡ go' r s m t) → on_done o go ≡ on_done o go'
on_done-same_less n (Done r s m t) go go' l h = h r s m t l
on_done-same_less n (Cut t) go go' l h = refl
on_done-same_less n (Stuck t) go go' l h = refl

pub alike-below : (a b : Evaluation) (n m : ℕ) → suc m ≤ n → AlikeBelow n a b → Alike m a b
alike-below a b n m l h f d s k t l' = h f d s k t (omega arith)

guarded-same : (w : Reading) (files : FileMap) (a b : Evaluation) (n : ℕ) → AlikeOnForms n a b → AlikeBelow n a b → NeverGains a → FormsSpend a
    → (rule : Rule) → Guarded rule → (t : List ℕ) → run_as w files a rule n t ≡ run_as w files b rule n t
guarded-same w files a b n h less g spends (Give r s) guard t = refl
guarded-same w files a b n h less g spends (Use f d s go) guard t =
    on_done-same_less n (a f d s n t) _ _ (spends f guard d s n t) (λ r s' m u l. run-same w files a b m (alike-below a b n m l less) g (go r s') m u (omega arith))
    ∙ ap (λ o. on_done o (λ r s' m u. run_as w files b (go r s') m u)) (h f guard d s n t (omega arith))
guarded-same w files a b n h less g spends (Take rule) guard t =
    with_unit-same n t _ _ (λ m l. run-same w files a b m (alike-below a b n m l less) g rule m t (omega arith))
guarded-same w files a b n h less g spends (Print bytes rule) guard t = guarded-same w files a b n h less g spends rule guard (t ++ bytes)
guarded-same w files a b n h less g spends (Read path go) guard t =
    guarded-same w files a b n h less g spends (go (file_at files path)) (guard (file_at files path)) t
guarded-same w files a b n h less g spends (Wrong rule) guard t = ap (on_wrong w t) (guarded-same w files a b n h less g spends rule guard t)

-- Enough levels: more make no difference.

abbrev pub Enough : Form → ℕ → ℕ → Type 0
Enough (turn w) n k = 2 * n + 1 ≤ k
Enough (expression x) n k = 2 * n ≤ k
Enough (statement x) n k = 2 * n ≤ k
Enough (alternative a vs) n k = 2 * n ≤ k
Enough (node cs v) n k = 2 * n ≤ k

pub enough_for_form : (f : Form) → IsNoTurn f → (n k : ℕ) → 2 * n ≤ k → Enough f n k
enough_for_form (turn w) h n k l = absurd h
enough_for_form (expression x) h n k l = l
enough_for_form (statement x) h n k l = l
enough_for_form (alternative a vs) h n k l = l
enough_for_form (node cs v) h n k l = l

pub enough_for_all : (f : Form) (n k : ℕ) → 2 * n + 1 ≤ k → Enough f n k
enough_for_all (turn w) n k l = l
enough_for_all (expression x) n k l = omega arith
enough_for_all (statement x) n k l = omega arith
enough_for_all (alternative a vs) n k l = omega arith
enough_for_all (node cs v) n k l = omega arith

module _ (w : Reading) (p : Program) (files : FileMap) where
  abbrev E : ℕ → Evaluation
  E = eval_within w p files

  abbrev Same : ℕ → ℕ → Type 0
  Same j k = (f : Form) (d : ℕ) (s : State) (n : ℕ) (t : List ℕ) → Enough f n j → Enough f n k → E j f d s n t ≡ E k f d s n t

  pub alike-from : (j k n : ℕ) → Same j k → 2 * n + 1 ≤ j → 2 * n + 1 ≤ k → Alike n (E j) (E k)
  alike-from j k n same hj hk f d s m t l = same f d s m t (enough_for_all f m j (omega arith)) (enough_for_all f m k (omega arith))

  pub forms-alike-from : (j k n : ℕ) → Same j k → 2 * n ≤ j → 2 * n ≤ k → AlikeOnForms n (E j) (E k)
  forms-alike-from j k n same hj hk f h d s m t l = same f d s m t (enough_for_form f h m j (omega arith)) (enough_for_form f h m k (omega arith))

  pub alike-below-from : (j k n : ℕ) → Same j k → 2 * n ≤ j → 2 * n ≤ k → AlikeBelow n (E j) (E k)
  alike-below-from j k n same hj hk f d s m t l = same f d s m t (enough_for_all f m j (omega arith)) (enough_for_all f m k (omega arith))

  form-step : (j k : ℕ) → Same j k → (f : Form) → IsNoTurn f → (d : ℕ) (s : State) (n : ℕ) (t : List ℕ) → 2 * n ≤ suc j → 2 * n ≤ suc k → E (suc j) f d s n t ≡ E (suc k) f d s n t
  unfolding eval_within
  form-step j k same f h d s n t hj hk =
      entering-form f h n t (λ m. run_as w files (E j) (entered p d f s) m t)
      ∙ with_unit-same n t _ _ (λ m l. run-same w files (E j) (E k) m (alike-from j k m same (omega arith) (omega arith)) (within-leaves w p files j) (entered p d f s) m t (omega arith))
      ∙ sym (entering-form f h n t (λ m. run_as w files (E k) (entered p d f s) m t))

  turn-step : (j k : ℕ) → Same j k → (u : Turn) (d : ℕ) (s : State) (n : ℕ) (t : List ℕ) → 2 * n + 1 ≤ suc j → 2 * n + 1 ≤ suc k → E (suc j) (turn u) d s n t ≡ E (suc k) (turn u) d s n t
  unfolding eval_within
  turn-step j k same u d s n t hj hk =
      guarded-same w files (E j) (E k) n (forms-alike-from j k n same (omega arith) (omega arith)) (alike-below-from j k n same (omega arith) (omega arith))
      (within-leaves w p files j) (within-spends w p files j) (entered p d (turn u) s) (turn-guarded p d u s) t

  -- without units a form is cut, whatever the levels
  form-zero : (k : ℕ) (f : Form) → IsNoTurn f → (d : ℕ) (s : State) (n : ℕ) (t : List ℕ) → 2 * n ≤ 0 → E k f d s n t ≡ Cut t
  unfolding eval_within
  form-zero zero f h d s n t l = refl
  form-zero (suc k) f h d s zero t l = entering-form f h 0 t (λ m. run_as w files (E k) (entered p d f s) m t)
  form-zero (suc k) f h d s (suc n) t l = absurd (omega arith)

  zero-same : (k : ℕ) (f : Form) → IsNoTurn f → (d : ℕ) (s : State) (n : ℕ) (t : List ℕ) → 2 * n ≤ 0 → E 0 f d s n t ≡ E k f d s n t
  zero-same k f h d s n t l = form-zero 0 f h d s n t l ∙ sym (form-zero k f h d s n t l)

  pub within-same : (j k : ℕ) → Same j k
  within-same zero k (turn u) d s n t hj hk = absurd (omega arith)
  within-same zero k (expression x) d s n t hj hk = zero-same k (expression x) tt d s n t hj
  within-same zero k (statement x) d s n t hj hk = zero-same k (statement x) tt d s n t hj
  within-same zero k (alternative a vs) d s n t hj hk = zero-same k (alternative a vs) tt d s n t hj
  within-same zero k (node cs v) d s n t hj hk = zero-same k (node cs v) tt d s n t hj
  within-same (suc j) zero (turn u) d s n t hj hk = absurd (omega arith)
  within-same (suc j) zero (expression x) d s n t hj hk = sym (zero-same (suc j) (expression x) tt d s n t hk)
  within-same (suc j) zero (statement x) d s n t hj hk = sym (zero-same (suc j) (statement x) tt d s n t hk)
  within-same (suc j) zero (alternative a vs) d s n t hj hk = sym (zero-same (suc j) (alternative a vs) tt d s n t hk)
  within-same (suc j) zero (node cs v) d s n t hj hk = sym (zero-same (suc j) (node cs v) tt d s n t hk)
  within-same (suc j) (suc k) (turn u) d s n t hj hk = turn-step j k (within-same j k) u d s n t hj hk
  within-same (suc j) (suc k) (expression x) d s n t hj hk = form-step j k (within-same j k) (expression x) tt d s n t hj hk
  within-same (suc j) (suc k) (statement x) d s n t hj hk = form-step j k (within-same j k) (statement x) tt d s n t hj hk
  within-same (suc j) (suc k) (alternative a vs) d s n t hj hk = form-step j k (within-same j k) (alternative a vs) tt d s n t hj hk
  within-same (suc j) (suc k) (node cs v) d s n t hj hk = form-step j k (within-same j k) (node cs v) tt d s n t hj hk

  -- the levels of `eval` are enough
  pub eval-alike : (k n : ℕ) → 2 * n + 1 ≤ k → Alike n (E k) (eval_as w p files)
  unfolding eval_as
  eval-alike k n h f d s m t l = within-same k (2 * m + 1) f d s m t (enough_for_all f m k (omega arith)) (enough_for_all f m (2 * m + 1) (omega arith))

  pub eval-alike-forms : (k n : ℕ) → 2 * n ≤ k → AlikeOnForms n (E k) (eval_as w p files)
  unfolding eval_as
  eval-alike-forms k n h f i d s m t l = within-same k (2 * m + 1) f d s m t (enough_for_form f i m k (omega arith)) (enough_for_form f i m (2 * m + 1) (omega arith))

  pub eval-alike-below : (k n : ℕ) → 2 * n ≤ k → AlikeBelow n (E k) (eval_as w p files)
  unfolding eval_as
  eval-alike-below k n h f d s m t l = within-same k (2 * m + 1) f d s m t (enough_for_all f m k (omega arith)) (enough_for_all f m (2 * m + 1) (omega arith))

  -- The equations of evaluation.

  within-of-form : (k : ℕ) (f : Form) → IsNoTurn f → (d : ℕ) (s : State) (n : ℕ) (t : List ℕ) → 2 * n + 1 ≤ k → E (suc k) f d s (suc n) t ≡ run_as w files (eval_as w p files) (entered p d f s) n t
  unfolding eval_within
  within-of-form k f h d s n t l =
      entering-form f h (suc n) t (λ m. run_as w files (E k) (entered p d f s) m t)
      ∙ run-same w files (E k) (eval_as w p files) n (eval-alike k n l) (within-leaves w p files k) (entered p d f s) n t (omega arith)

  pub form-zero-units : (f : Form) → IsNoTurn f → (d : ℕ) (s : State) (t : List ℕ) → eval_as w p files f d s 0 t ≡ Cut t
  unfolding eval_as
  form-zero-units f h d s t = form-zero (2 * 0 + 1) f h d s 0 t (omega arith)

  pub form-equation : (f : Form) → IsNoTurn f → (d : ℕ) (s : State) (n : ℕ) (t : List ℕ) → eval_as w p files f d s (suc n) t ≡ run_as w files (eval_as w p files) (entered p d f s) n t
  unfolding eval_as
  form-equation f h d s n t =
      let e : 2 * suc n + 1 ≡ suc (2 * n + 2) = omega arith in
      ap (λ k. E k f d s (suc n) t) e ∙ within-of-form (2 * n + 2) f h d s n t (omega arith)

  within-of-turn : (k : ℕ) (u : Turn) (d : ℕ) (s : State) (n : ℕ) (t : List ℕ) → 2 * n ≤ k → E (suc k) (turn u) d s n t ≡ run_as w files (eval_as w p files) (entered p d (turn u) s) n t
  unfolding eval_within
  within-of-turn k u d s n t l =
      guarded-same w files (E k) (eval_as w p files) n (eval-alike-forms k n l) (eval-alike-below k n l)
      (within-leaves w p files k) (within-spends w p files k) (entered p d (turn u) s) (turn-guarded p d u s) t

  pub turn-equation : (u : Turn) (d : ℕ) (s : State) (n : ℕ) (t : List ℕ) → eval_as w p files (turn u) d s n t ≡ run_as w files (eval_as w p files) (entered p d (turn u) s) n t
  unfolding eval_as
  turn-equation u d s n t =
      let e : 2 * n + 1 ≡ suc (2 * n) = omega arith in
      ap (λ k. E k (turn u) d s n t) e ∙ within-of-turn (2 * n) u d s n t (omega arith)

pub no_turn : (f : Form) → TakesUnit f → IsNoTurn f
no_turn (turn w) h = h
no_turn (expression x) h = tt
no_turn (statement x) h = tt
no_turn (alternative a vs) h = tt
no_turn (node cs v) h = tt

pub is_by_rules : (reading : Reading) (p : Program) (files : FileMap) → IsByRules reading p files
is_by_rules reading p files = record {
  cut = λ f h d s t. form-zero-units reading p files f (no_turn f h) d s t;
  forms = λ f h d s n t. form-equation reading p files f (no_turn f h) d s n t;
  turns = λ u d s n t. turn-equation reading p files u d s n t;
}
