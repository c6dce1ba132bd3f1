-- Parentheses and conjunctions are taken apart whole: more levels than there are make no difference.
use Rattle.std.proofs.Common.{◌≡◌, ℕ, zero, suc, ◌+◌, ◌-◌, ◌≤◌, List, [], ◌∷◌, ◌++◌, flat_map, map, refl, sym, ◌∙◌, ap, arith}
use Rattle.rl_syntax.specs.declared.expression.Exp.{Exp, out-Exp}
use Rattle.rl_syntax.specs.declared.expression.Exp.TheFolds.{map-Exp, fold_out-Exp, fold-Suffix, fold-Case, fold-Handler, fold-Stat}
use Rattle.rl_syntax.specs.declared.expression.Exp.TheOpen as e
use Rattle.rl_syntax.specs.declared.expression.Suffix.{Suffix}
use Rattle.rl_syntax.specs.declared.statement.Case.{Case}
use Rattle.rl_syntax.specs.declared.statement.Handler.{Handler}
use Rattle.rl_syntax.specs.declared.statement.Stat.{Stat}
use Rattle.rl_rules.specs.Conditions.{conditions_in, conditions_within, taken_apart}
use Rattle.rl_rules.specs.Laws.{BareIsByForm, ConditionsAreByForm}
use Rattle.rl_rules.specs.Nesting.{greatest, nesting, nesting_of_form, levels}
use Rattle.rl_rules.specs.Parts.{bare, inside, unwrapped}

abbrev Layer : Type 0
Layer = e.Exp-F Exp Suffix Case Handler Stat

abbrev of_layer : (Exp → ℕ) → Layer → ℕ
of_layer f (e.Parenthesized place y) = suc (f y)
of_layer f (e.Conjunction place ys) = suc (greatest (map f ys))
of_layer f layer = 0

mapped : (f : Exp → ℕ) (g : Suffix → ℕ) (h : Case → ℕ) (i : Handler → ℕ) (j : Stat → ℕ) (l : Layer)
    → nesting_of_form (map-Exp Exp Suffix Case Handler Stat ℕ ℕ ℕ ℕ ℕ f g h i j l) ≡ of_layer f l
mapped f g h i j (e.Parenthesized place y) = refl
mapped f g h i j (e.Conjunction place ys) = refl
mapped f g h i j l = refl

nesting-layer : (x : Exp) → nesting x ≡ of_layer nesting (out-Exp x)
unfolding nesting
nesting-layer x = fold_out-Exp ℕ ℕ ℕ ℕ ℕ nesting_of_form (λ s. 0) (λ s. 0) (λ s. 0) (λ s. 0) x
    ∙ mapped nesting (fold-Suffix ℕ ℕ ℕ ℕ ℕ nesting_of_form (λ s. 0) (λ s. 0) (λ s. 0) (λ s. 0)) (fold-Case ℕ ℕ ℕ ℕ ℕ nesting_of_form (λ s. 0) (λ s. 0) (λ s. 0) (λ s. 0)) (fold-Handler ℕ ℕ ℕ ℕ ℕ nesting_of_form (λ s. 0) (λ s. 0) (λ s. 0) (λ s. 0)) (fold-Stat ℕ ℕ ℕ ℕ ℕ nesting_of_form (λ s. 0) (λ s. 0) (λ s. 0) (λ s. 0)) (out-Exp x)

layer-le : (x : Exp) (n : ℕ) → nesting x ≤ n → of_layer nesting (out-Exp x) ≤ n
layer-le x n h = omega (arith, nesting-layer x)

module _ (R : Type 0) (base : Exp → R) (step : Exp → (Exp → R) → Layer → R) (W : ℕ → Exp → R)
    (W0 : (x : Exp) → W 0 x ≡ base x) (Ws : (n : ℕ) (x : Exp) → W (suc n) x ≡ step x (W n) (out-Exp x))
    (flat : (x : Exp) (go : Exp → R) (l : Layer) → of_layer nesting l ≤ 0 → base x ≡ step x go l)
    (alike : (x : Exp) (n : ℕ) (f g : Exp → R) (l : Layer) → of_layer nesting l ≤ suc n → ((y : Exp) → nesting y ≤ n → f y ≡ g y) → step x f l ≡ step x g l) where
  once : (n : ℕ) (x : Exp) → nesting x ≤ n → W n x ≡ W (suc n) x
  once zero x h = W0 x ∙ (flat x (W 0) (out-Exp x) (layer-le x 0 h) ∙ sym (Ws 0 x))
  once (suc n) x h = Ws n x ∙ (alike x n (W n) (W (suc n)) (out-Exp x) (layer-le x (suc n) h) (once n) ∙ sym (Ws (suc n) x))

  often : (k n : ℕ) (x : Exp) → nesting x ≤ n → W n x ≡ W (n + k) x
  often zero n x h =
      let same : n ≡ n + 0 = omega arith in
      ap (λ m. W m x) same
  often (suc k) n x h =
      let same : suc (n + k) ≡ n + suc k = omega arith in
      let le : nesting x ≤ n + k = omega arith in
      often k n x h ∙ (once (n + k) x le ∙ ap (λ m. W m x) same)

  settled : (n : ℕ) (x : Exp) → nesting x ≤ n → W n x ≡ W (nesting x) x
  settled n x h =
      let same : n ≡ nesting x + (n - nesting x) = omega arith in
      let le : nesting x ≤ nesting x = omega arith in
      ap (λ m. W m x) same ∙ sym (often (n - nesting x) (nesting x) x le)

  pub by_form : (x : Exp) → W (levels x) x ≡ step x (λ y. W (levels y) y) (out-Exp x)
  by_form x =
      let n : ℕ = suc (suc (suc (nesting x))) in
      let le : nesting x ≤ suc (suc (suc (suc (nesting x)))) = omega arith in
      Ws (suc (suc (suc (nesting x)))) x
      ∙ alike x (suc (suc (suc (nesting x)))) (W (suc (suc (suc (nesting x))))) (λ y. W (levels y) y) (out-Exp x) (layer-le x _ le)
      (λ y h. settled _ y h ∙ sym (settled (levels y) y (omega arith)))

bare-flat : (x : Exp) (go : Exp → Exp) (l : Layer) → of_layer nesting l ≤ 0 → x ≡ inside x go l
bare-flat x go (e.Parenthesized place y) h = absurd (omega arith)
bare-flat x go l h = refl

bare-alike : (x : Exp) (n : ℕ) (f g : Exp → Exp) (l : Layer) → of_layer nesting l ≤ suc n → ((y : Exp) → nesting y ≤ n → f y ≡ g y) → inside x f l ≡ inside x g l
bare-alike x n f g (e.Parenthesized place y) h same = same y (omega arith)
bare-alike x n f g l h same = refl

pub bare-by_form : BareIsByForm
unfolding bare
bare-by_form x = by_form Exp (λ y. y) inside unwrapped (λ y. refl) (λ n y. refl) bare-flat bare-alike x

conditions-flat : (x : Exp) (go : Exp → List Exp) (l : Layer) → of_layer nesting l ≤ 0 → x ∷ [] ≡ taken_apart x go l
conditions-flat x go (e.Parenthesized place y) h = absurd (omega arith)
conditions-flat x go (e.Conjunction place ys) h = absurd (omega arith)
conditions-flat x go l h = refl

each-alike : (n : ℕ) (f g : Exp → List Exp) (ys : List Exp) → greatest (map nesting ys) ≤ n → ((y : Exp) → nesting y ≤ n → f y ≡ g y) → flat_map f ys ≡ flat_map g ys
each-alike n f g [] h same = refl
each-alike n f g (y ∷ ys) h same =
    let first : f y ≡ g y = same y (omega arith) in
    let others : flat_map f ys ≡ flat_map g ys = each-alike n f g ys (omega arith) same in
    λ i. first i ++ others i

conditions-alike : (x : Exp) (n : ℕ) (f g : Exp → List Exp) (l : Layer) → of_layer nesting l ≤ suc n → ((y : Exp) → nesting y ≤ n → f y ≡ g y) → taken_apart x f l ≡ taken_apart x g l
conditions-alike x n f g (e.Parenthesized place y) h same = same y (omega arith)
conditions-alike x n f g (e.Conjunction place ys) h same = each-alike n f g ys (omega arith) same
conditions-alike x n f g l h same = refl

pub conditions-by_form : ConditionsAreByForm
unfolding conditions_in
conditions-by_form x = by_form (List Exp) (λ y. y ∷ []) taken_apart conditions_within (λ y. refl) (λ n y. refl) conditions-flat conditions-alike x
