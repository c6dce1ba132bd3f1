-- How many levels a fold opens makes no difference.
use Rattle.std.proofs.Common.{◌≡◌, ℕ, zero, suc, refl, sym, ◌∙◌, ap}
use mathlib.Core.Path.{fun_ext}
use Rattle.rl_syntax.specs.declared.pattern.Pattern.{Pattern, out-Pattern}
use Rattle.rl_syntax.specs.declared.pattern.Pattern.TheOpen as p
use Rattle.rl_syntax.specs.declared.pattern.PatternElement.{PatternElement}
use Rattle.rl_syntax.specs.declared.pattern.Pattern.TheFolds.{fold-Pattern, fold-PatternElement, fold_out-Pattern, fold_out-PatternElement}
use Rattle.rl_match.specs.Bindings.{Matching, Element, bindings, element, on_form, on_element}
use Rattle.rl_match.specs.Folds.{form_of, of_element, fold_within, levels}
use Rattle.rl_match.specs.Laws.{AreByForm, VariablesAreByForm}
use Rattle.rl_match.specs.Tests.{Variables, variables_in, element_variables, in_form, in_element}

module _ (M E : Type 0) (f : p.Pattern-F M E → M) (g : p.PatternElement-F M E → E) where
  abbrev pat : Pattern → M
  pat = fold-Pattern M E f g

  abbrev elem : PatternElement → E
  elem = fold-PatternElement M E f g

  element-fold : (e : PatternElement) → of_element g pat e ≡ elem e
  element-fold e = sym (fold_out-PatternElement M E f g e)

  opened : (q : Pattern) → f (form_of pat elem (out-Pattern q)) ≡ pat q
  opened q = sym (fold_out-Pattern M E f g q)

  step : (h : Pattern → M) → ((q : Pattern) → h q ≡ pat q) → (q : Pattern) → f (form_of h (of_element g h) (out-Pattern q)) ≡ pat q
  step h e q =
      ap (λ k. f (form_of k (of_element g k) (out-Pattern q))) (fun_ext e)
      ∙ (ap (λ k. f (form_of pat k (out-Pattern q))) (fun_ext element-fold)
      ∙ opened q)

  within : (n : ℕ) (q : Pattern) → fold_within n f g q ≡ pat q
  unfolding fold_within
  within zero q = refl
  within (suc n) q = step (fold_within n f g) (within n) q

  pub by_form : (q : Pattern) → fold_within levels f g q ≡ f (form_of (fold_within levels f g) (of_element g (fold_within levels f g)) (out-Pattern q))
  by_form q = within levels q ∙ sym (step (fold_within levels f g) (within levels) q)

pub bindings-by_form : AreByForm
unfolding bindings element
bindings-by_form c pattern = by_form Matching Element (on_form c) (on_element c) pattern

pub variables-by_form : VariablesAreByForm
unfolding variables_in element_variables
variables-by_form pattern = by_form Variables Variables in_form in_element pattern
