-- The fronts of reads by the rules, and that each is a front of what was printed.
use Rattle.std.proofs.Common.{◌≡◌, ℕ, zero, suc, ◌+◌, ◌*◌, ◌≤◌, List, [], ◌∷◌, ◌++◌, refl, sym, ◌∙◌, ap, arith, append_assoc}
use Rattle.std.proofs.lemmas.List.Elements.{All-append, All-cons, All-nil}
use Rattle.rl_base.specs.Holds.{FileMap, file_at}
use Rattle.rl_rules.specs.Evaluation.{Evaluation, Ran, Done, Cut, Stuck, throws, on_done, with_unit, entering, run_by, eval_within, eval_as, eval, printed}
use Rattle.rl_rules.specs.Form.{Form, expression, statement, alternative, node, Turn, turn}
use Rattle.rl_rules.specs.Fronts.{Fronts, behind, under_unit, under_entry, fronts_by, fronts_within, fronts, fronts_of_run}
use Rattle.rl_rules.specs.Laws.{GoesOnFrom, Leaves, FrontsAreByRules, FrontsGoOn, AreFrontsFrom}
use Rattle.rl_rules.specs.Program.{Program}
use Rattle.rl_rules.specs.Rule.{Outcome, Rule, Give, Use, Take, Print, Read, Wrong}
use Rattle.rl_rules.specs.Rules.{entered}
use Rattle.rl_rules.specs.Run.{whole, derivation, derivation_as}
use Rattle.rl_rules.specs.State.{State}
use Rattle.rl_rules.proofs.Growth.{GoesOnFrom-refl, GoesOnFrom-trans, NeverUnsays, run-goes_on, within-goes_on, eval-goes_on}
use Rattle.rl_rules.proofs.Guards.{IsNoTurn, Guarded, turn-guarded}
use Rattle.rl_rules.proofs.Units.{Alike, AlikeOnForms, AlikeBelow, NeverGains, FormsSpend, Spends, Enough, Leaves-le, alike-below, enough_for_form, enough_for_all, within-leaves, within-spends, alike-from, forms-alike-from, alike-below-from, within-same, eval-alike, eval-alike-forms, eval-alike-below, no_turn}

abbrev Told : Type 0
Told = List (List ℕ)

-- Two rules put together.

behind-on_done : (o : Ran) (f : Outcome → State → ℕ → List ℕ → Ran) (g : Outcome → State → ℕ → List ℕ → Told)
    → behind (on_done o f) g ≡ behind o (λ r s n t. behind (f r s n t) g)
behind-on_done (Done r s n t) f g = refl
behind-on_done (Cut t) f g = refl
behind-on_done (Stuck t) f g = refl

behind-each : (o : Ran) (f g : Outcome → State → ℕ → List ℕ → Told) → ((r : Outcome) (s : State) (n : ℕ) (t : List ℕ) → f r s n t ≡ g r s n t) → behind o f ≡ behind o g
behind-each (Done r s n t) f g h = h r s n t
behind-each (Cut t) f g h = refl
behind-each (Stuck t) f g h = refl

behind-both : (o : Ran) (f g : Outcome → State → ℕ → List ℕ → Told) → behind o (λ r s n t. f r s n t ++ g r s n t) ≡ behind o f ++ behind o g
behind-both (Done r s n t) f g = refl
behind-both (Cut t) f g = refl
behind-both (Stuck t) f g = refl

unit-both : (n : ℕ) (t : List ℕ) (h f : ℕ → Told) (o : ℕ → Ran) (g : Outcome → State → ℕ → List ℕ → Told)
    → ((m : ℕ) → h m ≡ f m ++ behind (o m) g) → under_unit n h ≡ under_unit n f ++ behind (with_unit n t o) g
unit-both zero t h f o g same = refl
unit-both (suc n) t h f o g same = same n

module _ (files : FileMap) (e : Evaluation) (F : Fronts) where
  abbrev going : (Outcome → State → Rule) → Outcome → State → ℕ → List ℕ → Told
  going go r s m u = fronts_by files e F (go r s) m u

  pub fronts-after : FrontsGoOn files e F
  fronts-after (Give r s) go n t = refl
  fronts-after (Use f d s next) go n t =
      ap (λ us. F f d s n t ++ us)
      (behind-each (e f d s n t) _ _ (λ r s' m u. fronts-after (next r s') go m u)
      ∙ (behind-both (e f d s n t) (going next) (λ r s' m u. behind (run_by files e (next r s') m u) (going go))
      ∙ ap (λ us. behind (e f d s n t) (going next) ++ us) (sym (behind-on_done (e f d s n t) (λ r s' m u. run_by files e (next r s') m u) (going go)))))
      ∙ sym (append_assoc (F f d s n t) _ _)
  fronts-after (Take rule) go n t = unit-both n t _ _ _ (going go) (λ m. fronts-after rule go m t)
  fronts-after (Print bytes rule) go n t = fronts-after rule go n (t ++ bytes)
  fronts-after (Read path next) go n t = ap (λ us. t ∷ us) (fronts-after (next (file_at files path)) go n t)
  fronts-after (Wrong rule) go n t = fronts-after rule go n t

-- Two evaluations and their fronts are alike with at most n units.

abbrev FrontsAlike : ℕ → Fronts → Fronts → Type 0
FrontsAlike n F G = (f : Form) (d : ℕ) (s : State) (m : ℕ) (t : List ℕ) → m ≤ n → F f d s m t ≡ G f d s m t

abbrev FrontsAlikeOnForms : ℕ → Fronts → Fronts → Type 0
FrontsAlikeOnForms n F G = (f : Form) → IsNoTurn f → (d : ℕ) (s : State) (m : ℕ) (t : List ℕ) → m ≤ n → F f d s m t ≡ G f d s m t

abbrev FrontsAlikeBelow : ℕ → Fronts → Fronts → Type 0
FrontsAlikeBelow n F G = (f : Form) (d : ℕ) (s : State) (m : ℕ) (t : List ℕ) → suc m ≤ n → F f d s m t ≡ G f d s m t

fronts-below : (F G : Fronts) (n m : ℕ) → suc m ≤ n → FrontsAlikeBelow n F G → FrontsAlike m F G
fronts-below F G n m l h f d s k t l' = h f d s k t (omega arith)

behind-same : (n : ℕ) (o : Ran) (go go' : Outcome → State → ℕ → List ℕ → Told) → Leaves n o → ((r : Outcome) (s : State) (m : ℕ) (t : List ℕ) → m ≤ n → go r s m t ≡ go' r s m t) → behind o go ≡ behind o go'
behind-same n (Done r s m t) go go' l h = h r s m t l
behind-same n (Cut t) go go' l h = refl
behind-same n (Stuck t) go go' l h = refl

behind-same_less : (n : ℕ) (o : Ran) (go go' : Outcome → State → ℕ → List ℕ → Told) → Spends n o → ((r : Outcome) (s : State) (m : ℕ) (t : List ℕ) → suc m ≤ n → go r s m t ≡ go' r s m t) → behind o go ≡ behind o go'
behind-same_less n (Done r s m t) go go' l h = h r s m t l
behind-same_less n (Cut t) go go' l h = refl
behind-same_less n (Stuck t) go go' l h = refl

unit-same : (n : ℕ) (go go' : ℕ → Told) → ((m : ℕ) → suc m ≤ n → go m ≡ go' m) → under_unit n go ≡ under_unit n go'
unit-same zero go go' h = refl
unit-same (suc n) go go' h = h n (omega arith)

joined : (a b c d : Told) → a ≡ c → b ≡ d → a ++ b ≡ c ++ d
joined a b c d p q = λ i. p i ++ q i

module _ (files : FileMap) (a b : Evaluation) (F G : Fronts) where
  rule-same : (n : ℕ) → Alike n a b → FrontsAlike n F G → NeverGains a → (rule : Rule) (m : ℕ) (t : List ℕ) → m ≤ n → fronts_by files a F rule m t ≡ fronts_by files b G rule m t
  rule-same n h k g (Give r s) m t l = refl
  rule-same n h k g (Use f d s go) m t l =
      joined _ _ _ _ (k f d s m t l)
      (behind-same n (a f d s m t) _ _ (Leaves-le m n l _ (g f d s m t)) (λ r s' i u l'. rule-same n h k g (go r s') i u l')
      ∙ ap (λ o. behind o (λ r s' i u. fronts_by files b G (go r s') i u)) (h f d s m t l))
  rule-same n h k g (Take rule) m t l = unit-same m _ _ (λ i l'. rule-same n h k g rule i t (omega arith))
  rule-same n h k g (Print bytes rule) m t l = rule-same n h k g rule m (t ++ bytes) l
  rule-same n h k g (Read path go) m t l = ap (λ us. t ∷ us) (rule-same n h k g (go (file_at files path)) m t l)
  rule-same n h k g (Wrong rule) m t l = rule-same n h k g rule m t l

  guarded-rule-same : (n : ℕ) → AlikeOnForms n a b → AlikeBelow n a b → FrontsAlikeOnForms n F G → FrontsAlikeBelow n F G → NeverGains a → FormsSpend a
      → (rule : Rule) → Guarded rule → (t : List ℕ) → fronts_by files a F rule n t ≡ fronts_by files b G rule n t
  guarded-rule-same n h less k fewer g spends (Give r s) guard t = refl
  guarded-rule-same n h less k fewer g spends (Use f d s go) guard t =
      joined _ _ _ _ (k f guard d s n t (omega arith))
      (behind-same_less n (a f d s n t) _ _ (spends f guard d s n t) (λ r s' m u l. rule-same m (alike-below a b n m l less) (fronts-below F G n m l fewer) g (go r s') m u (omega arith))
      ∙ ap (λ o. behind o (λ r s' m u. fronts_by files b G (go r s') m u)) (h f guard d s n t (omega arith)))
  guarded-rule-same n h less k fewer g spends (Take rule) guard t =
      unit-same n _ _ (λ m l. rule-same m (alike-below a b n m l less) (fronts-below F G n m l fewer) g rule m t (omega arith))
  guarded-rule-same n h less k fewer g spends (Print bytes rule) guard t = guarded-rule-same n h less k fewer g spends rule guard (t ++ bytes)
  guarded-rule-same n h less k fewer g spends (Read path go) guard t =
      ap (λ us. t ∷ us) (guarded-rule-same n h less k fewer g spends (go (file_at files path)) (guard (file_at files path)) t)
  guarded-rule-same n h less k fewer g spends (Wrong rule) guard t = guarded-rule-same n h less k fewer g spends rule guard t

-- Enough levels.

entry-form : (f : Form) → IsNoTurn f → (n : ℕ) (go : ℕ → Told) → under_entry f n go ≡ under_unit n go
entry-form (turn w) h n go = absurd h
entry-form (expression x) h n go = refl
entry-form (statement x) h n go = refl
entry-form (alternative a vs) h n go = refl
entry-form (node cs v) h n go = refl

module _ (p : Program) (files : FileMap) where
  abbrev E : ℕ → Evaluation
  E = eval_within throws p files

  abbrev W : ℕ → Fronts
  W = fronts_within p files

  abbrev AsMany : ℕ → ℕ → Type 0
  AsMany j k = (f : Form) (d : ℕ) (s : State) (n : ℕ) (t : List ℕ) → Enough f n j → Enough f n k → W j f d s n t ≡ W k f d s n t

  form-fronts : (j k : ℕ) → AsMany j k → (f : Form) → IsNoTurn f → (d : ℕ) (s : State) (n : ℕ) (t : List ℕ) → 2 * n ≤ suc j → 2 * n ≤ suc k → W (suc j) f d s n t ≡ W (suc k) f d s n t
  unfolding fronts_within
  form-fronts j k same f h d s n t hj hk =
      entry-form f h n (λ m. fronts_by files (E j) (W j) (entered p d f s) m t)
      ∙ unit-same n _ _ (λ m l. rule-same files (E j) (E k) (W j) (W k) m
      (alike-from throws p files j k m (within-same throws p files j k) (omega arith) (omega arith))
      (λ f' d' s' m' t' l'. same f' d' s' m' t' (enough_for_all f' m' j (omega arith)) (enough_for_all f' m' k (omega arith)))
      (within-leaves throws p files j) (entered p d f s) m t (omega arith))
      ∙ sym (entry-form f h n (λ m. fronts_by files (E k) (W k) (entered p d f s) m t))

  turn-fronts : (j k : ℕ) → AsMany j k → (u : Turn) (d : ℕ) (s : State) (n : ℕ) (t : List ℕ) → 2 * n + 1 ≤ suc j → 2 * n + 1 ≤ suc k → W (suc j) (turn u) d s n t ≡ W (suc k) (turn u) d s n t
  unfolding fronts_within
  turn-fronts j k same u d s n t hj hk =
      guarded-rule-same files (E j) (E k) (W j) (W k) n
      (forms-alike-from throws p files j k n (within-same throws p files j k) (omega arith) (omega arith))
      (alike-below-from throws p files j k n (within-same throws p files j k) (omega arith) (omega arith))
      (λ f h d' s' m t' l. same f d' s' m t' (enough_for_form f h m j (omega arith)) (enough_for_form f h m k (omega arith)))
      (λ f d' s' m t' l. same f d' s' m t' (enough_for_all f m j (omega arith)) (enough_for_all f m k (omega arith)))
      (within-leaves throws p files j) (within-spends throws p files j) (entered p d (turn u) s) (turn-guarded p d u s) t

  no-fronts : (k : ℕ) (f : Form) → IsNoTurn f → (d : ℕ) (s : State) (n : ℕ) (t : List ℕ) → 2 * n ≤ 0 → W k f d s n t ≡ []
  unfolding fronts_within
  no-fronts zero f h d s n t l = refl
  no-fronts (suc k) f h d s zero t l = entry-form f h 0 (λ m. fronts_by files (E k) (W k) (entered p d f s) m t)
  no-fronts (suc k) f h d s (suc n) t l = absurd (omega arith)

  none-same : (j k : ℕ) (f : Form) → IsNoTurn f → (d : ℕ) (s : State) (n : ℕ) (t : List ℕ) → 2 * n ≤ 0 → W j f d s n t ≡ W k f d s n t
  none-same j k f h d s n t l = no-fronts j f h d s n t l ∙ sym (no-fronts k f h d s n t l)

  as-many : (j k : ℕ) → AsMany j k
  as-many zero k (turn u) d s n t hj hk = absurd (omega arith)
  as-many zero k (expression x) d s n t hj hk = none-same 0 k (expression x) tt d s n t hj
  as-many zero k (statement x) d s n t hj hk = none-same 0 k (statement x) tt d s n t hj
  as-many zero k (alternative a vs) d s n t hj hk = none-same 0 k (alternative a vs) tt d s n t hj
  as-many zero k (node cs v) d s n t hj hk = none-same 0 k (node cs v) tt d s n t hj
  as-many (suc j) zero (turn u) d s n t hj hk = absurd (omega arith)
  as-many (suc j) zero (expression x) d s n t hj hk = none-same (suc j) 0 (expression x) tt d s n t hk
  as-many (suc j) zero (statement x) d s n t hj hk = none-same (suc j) 0 (statement x) tt d s n t hk
  as-many (suc j) zero (alternative a vs) d s n t hj hk = none-same (suc j) 0 (alternative a vs) tt d s n t hk
  as-many (suc j) zero (node cs v) d s n t hj hk = none-same (suc j) 0 (node cs v) tt d s n t hk
  as-many (suc j) (suc k) (turn u) d s n t hj hk = turn-fronts j k (as-many j k) u d s n t hj hk
  as-many (suc j) (suc k) (expression x) d s n t hj hk = form-fronts j k (as-many j k) (expression x) tt d s n t hj hk
  as-many (suc j) (suc k) (statement x) d s n t hj hk = form-fronts j k (as-many j k) (statement x) tt d s n t hj hk
  as-many (suc j) (suc k) (alternative a vs) d s n t hj hk = form-fronts j k (as-many j k) (alternative a vs) tt d s n t hj hk
  as-many (suc j) (suc k) (node cs v) d s n t hj hk = form-fronts j k (as-many j k) (node cs v) tt d s n t hj hk

  -- the levels of `fronts` are enough
  fronts-alike : (k n : ℕ) → 2 * n + 1 ≤ k → FrontsAlike n (W k) (fronts p files)
  unfolding fronts
  fronts-alike k n h f d s m t l = as-many k (2 * m + 1) f d s m t (enough_for_all f m k (omega arith)) (enough_for_all f m (2 * m + 1) (omega arith))

  fronts-alike-forms : (k n : ℕ) → 2 * n ≤ k → FrontsAlikeOnForms n (W k) (fronts p files)
  unfolding fronts
  fronts-alike-forms k n h f i d s m t l = as-many k (2 * m + 1) f d s m t (enough_for_form f i m k (omega arith)) (enough_for_form f i m (2 * m + 1) (omega arith))

  fronts-alike-below : (k n : ℕ) → 2 * n ≤ k → FrontsAlikeBelow n (W k) (fronts p files)
  unfolding fronts
  fronts-alike-below k n h f d s m t l = as-many k (2 * m + 1) f d s m t (enough_for_all f m k (omega arith)) (enough_for_all f m (2 * m + 1) (omega arith))

  within-fronts-of-form : (k : ℕ) (f : Form) → IsNoTurn f → (d : ℕ) (s : State) (n : ℕ) (t : List ℕ) → 2 * n + 1 ≤ k
      → W (suc k) f d s (suc n) t ≡ fronts_by files (eval p files) (fronts p files) (entered p d f s) n t
  unfolding fronts_within
  within-fronts-of-form k f h d s n t l =
      entry-form f h (suc n) (λ m. fronts_by files (E k) (W k) (entered p d f s) m t)
      ∙ rule-same files (E k) (eval p files) (W k) (fronts p files) n (eval-alike throws p files k n l) (fronts-alike k n l) (within-leaves throws p files k) (entered p d f s) n t (omega arith)

  fronts-of-form : (f : Form) → IsNoTurn f → (d : ℕ) (s : State) (n : ℕ) (t : List ℕ) → fronts p files f d s (suc n) t ≡ fronts_by files (eval p files) (fronts p files) (entered p d f s) n t
  unfolding fronts
  fronts-of-form f h d s n t =
      let e : 2 * suc n + 1 ≡ suc (2 * n + 2) = omega arith in
      ap (λ k. W k f d s (suc n) t) e ∙ within-fronts-of-form (2 * n + 2) f h d s n t (omega arith)

  fronts-without-units : (f : Form) → IsNoTurn f → (d : ℕ) (s : State) (t : List ℕ) → fronts p files f d s 0 t ≡ []
  unfolding fronts
  fronts-without-units f h d s t = no-fronts (2 * 0 + 1) f h d s 0 t (omega arith)

  within-fronts-of-turn : (k : ℕ) (u : Turn) (d : ℕ) (s : State) (n : ℕ) (t : List ℕ) → 2 * n ≤ k
      → W (suc k) (turn u) d s n t ≡ fronts_by files (eval p files) (fronts p files) (entered p d (turn u) s) n t
  unfolding fronts_within
  within-fronts-of-turn k u d s n t l =
      guarded-rule-same files (E k) (eval p files) (W k) (fronts p files) n
      (eval-alike-forms throws p files k n l) (eval-alike-below throws p files k n l) (fronts-alike-forms k n l) (fronts-alike-below k n l)
      (within-leaves throws p files k) (within-spends throws p files k) (entered p d (turn u) s) (turn-guarded p d u s) t

  fronts-of-turn : (u : Turn) (d : ℕ) (s : State) (n : ℕ) (t : List ℕ) → fronts p files (turn u) d s n t ≡ fronts_by files (eval p files) (fronts p files) (entered p d (turn u) s) n t
  unfolding fronts
  fronts-of-turn u d s n t =
      let e : 2 * n + 1 ≡ suc (2 * n) = omega arith in
      ap (λ k. W k (turn u) d s n t) e ∙ within-fronts-of-turn (2 * n) u d s n t (omega arith)

  pub fronts-by-rules : FrontsAreByRules p files
  fronts-by-rules = record {
    cut = λ f h d s t. fronts-without-units f (no_turn f h) d s t;
    forms = λ f h d s n t. fronts-of-form f (no_turn f h) d s n t;
    turns = λ u d s n t. fronts-of-turn u d s n t;
  }

-- Each front goes on from what was printed before, and what is printed goes on from it.

longer : (t u v : List ℕ) (fs : Told) → GoesOnFrom u v → AreFrontsFrom t u fs → AreFrontsFrom t v fs
longer t u v fs h all = λ k d l. ((all k d l).0, GoesOnFrom-trans _ u v (all k d l).1 h)

later : (t u v : List ℕ) (fs : Told) → GoesOnFrom t u → AreFrontsFrom u v fs → AreFrontsFrom t v fs
later t u v fs h all = λ k d l. (GoesOnFrom-trans t u _ h (all k d l).0, (all k d l).1)

one_more_front : (t u : List ℕ) (fs : Told) → GoesOnFrom t u → AreFrontsFrom t u fs → AreFrontsFrom t u (t ∷ fs)
one_more_front t u fs h all = All-cons (λ front. GoesOnFrom t front × GoesOnFrom front u) t fs (GoesOnFrom-refl t, h) all

none : (t u : List ℕ) → AreFrontsFrom t u []
none t u = All-nil _

behind-fronts : (t : List ℕ) (o : Ran) (go : Outcome → State → ℕ → List ℕ → Ran) (gof : Outcome → State → ℕ → List ℕ → Told) → GoesOnFrom t (printed o)
    → ((r : Outcome) (s : State) (m : ℕ) (u : List ℕ) → AreFrontsFrom u (printed (go r s m u)) (gof r s m u)) → AreFrontsFrom t (printed (on_done o go)) (behind o gof)
behind-fronts t (Done r s m u) go gof l h = later t u _ (gof r s m u) l (h r s m u)
behind-fronts t (Cut u) go gof l h = none t _
behind-fronts t (Stuck u) go gof l h = none t _

on_done-longer : (o : Ran) (go : Outcome → State → ℕ → List ℕ → Ran) → ((r : Outcome) (s : State) (m : ℕ) (u : List ℕ) → GoesOnFrom u (printed (go r s m u))) → GoesOnFrom (printed o) (printed (on_done o go))
on_done-longer (Done r s m u) go h = h r s m u
on_done-longer (Cut u) go h = GoesOnFrom-refl u
on_done-longer (Stuck u) go h = GoesOnFrom-refl u

unit-fronts : (t : List ℕ) (n : ℕ) (go : ℕ → Ran) (gof : ℕ → Told) → ((m : ℕ) → AreFrontsFrom t (printed (go m)) (gof m)) → AreFrontsFrom t (printed (with_unit n t go)) (under_unit n gof)
unit-fronts t zero go gof h = none t t
unit-fronts t (suc n) go gof h = h n

abbrev HasFronts : Evaluation → Fronts → Type 0
HasFronts e F = (f : Form) (d : ℕ) (s : State) (n : ℕ) (t : List ℕ) → AreFrontsFrom t (printed (e f d s n t)) (F f d s n t)

module _ (files : FileMap) (e : Evaluation) (F : Fronts) (grows : NeverUnsays e) (has : HasFronts e F) where
  rule-fronts : (rule : Rule) (n : ℕ) (t : List ℕ) → AreFrontsFrom t (printed (run_by files e rule n t)) (fronts_by files e F rule n t)
  rule-fronts (Give r s) n t = none t t
  rule-fronts (Use f d s go) n t =
      let ran : Outcome → State → ℕ → List ℕ → Ran = λ r s' m u. run_by files e (go r s') m u in
      let told : Outcome → State → ℕ → List ℕ → Told = λ r s' m u. fronts_by files e F (go r s') m u in
      All-append (λ front. GoesOnFrom t front × GoesOnFrom front (printed (on_done (e f d s n t) ran))) (F f d s n t) (behind (e f d s n t) told)
      (longer t (printed (e f d s n t)) (printed (on_done (e f d s n t) ran)) (F f d s n t) (on_done-longer (e f d s n t) ran (λ r s' m u. run-goes_on throws files e grows (go r s') m u)) (has f d s n t))
      (behind-fronts t (e f d s n t) ran told (grows f d s n t) (λ r s' m u. rule-fronts (go r s') m u))
  rule-fronts (Take rule) n t = unit-fronts t n (λ m. run_by files e rule m t) (λ m. fronts_by files e F rule m t) (λ m. rule-fronts rule m t)
  rule-fronts (Print bytes rule) n t =
      later t (t ++ bytes) (printed (run_by files e rule n (t ++ bytes))) (fronts_by files e F rule n (t ++ bytes)) (bytes, refl) (rule-fronts rule n (t ++ bytes))
  rule-fronts (Read path go) n t =
      one_more_front t (printed (run_by files e (go (file_at files path)) n t)) (fronts_by files e F (go (file_at files path)) n t)
      (run-goes_on throws files e grows (go (file_at files path)) n t) (rule-fronts (go (file_at files path)) n t)
  rule-fronts (Wrong rule) n t = rule-fronts rule n t

entry-fronts : (t : List ℕ) (f : Form) (n : ℕ) (go : ℕ → Ran) (gof : ℕ → Told) → ((m : ℕ) → AreFrontsFrom t (printed (go m)) (gof m)) → AreFrontsFrom t (printed (entering f n t go)) (under_entry f n gof)
entry-fronts t (turn u) n go gof h = h n
entry-fronts t (expression x) n go gof h = unit-fronts t n go gof h
entry-fronts t (statement x) n go gof h = unit-fronts t n go gof h
entry-fronts t (alternative a vs) n go gof h = unit-fronts t n go gof h
entry-fronts t (node cs v) n go gof h = unit-fronts t n go gof h

within-has : (p : Program) (files : FileMap) (k : ℕ) → HasFronts (eval_within throws p files k) (fronts_within p files k)
unfolding eval_within fronts_within
within-has p files zero f d s n t = none t t
within-has p files (suc k) f d s n t =
    entry-fronts t f n (λ m. run_by files (eval_within throws p files k) (entered p d f s) m t) (λ m. fronts_by files (eval_within throws p files k) (fronts_within p files k) (entered p d f s) m t)
    (λ m. rule-fronts files (eval_within throws p files k) (fronts_within p files k) (within-goes_on throws p files k) (within-has p files k) (entered p d f s) m t)

pub eval-has : (p : Program) (files : FileMap) → HasFronts (eval p files) (fronts p files)
unfolding eval_as fronts
eval-has p files f d s n t = within-has p files (2 * n + 1) f d s n t

pub run-has : (p : Program) (files : FileMap) (go : State → Rule) (n : ℕ) → AreFrontsFrom [] (printed (derivation p files go n)) (fronts_of_run p files go n)
unfolding derivation_as fronts_of_run
run-has p files go n = rule-fronts files (eval p files) (fronts p files) (eval-goes_on throws p files) (eval-has p files) (whole p go) n []
