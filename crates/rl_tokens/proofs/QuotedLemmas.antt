-- Text between two marks, one turn at a time.
use Rattle.std.proofs.Common.{◌≡◌, ℕ, zero, suc, ◌+◌, ◌<◌, ◌≤◌, List, [], ◌∷◌, ◌++◌, length, drop, refl, sym, ap, ◌∙◌, arith, add-zero, length-drop}
use Rattle.std.proofs.lemmas.List.{drop-drop}
use Rattle.std.specs.Prelude.{Option}
use Rattle.rl_tokens.specs.declared.quoted.Form.{Form}
use Rattle.rl_tokens.specs.declared.quoted.Next.{Next}
use Rattle.rl_tokens.specs.declared.quoted.Next.TheVariants.{Blank, Dash, Passes, Bad}
use Rattle.rl_tokens.specs.declared.quoted.Before.{Before}
use Rattle.rl_tokens.specs.declared.fault.Fault.{Fault}
use Rattle.rl_tokens.specs.Fault.{sooner, leftmost_from}
use Rattle.rl_tokens.specs.Quoted.{next, turn, behind, bad_escape, behind_item, behind_dash, faults_of_dash, inside}

pub leftmost_from-append : (first : Option Fault) (xs ys : List Fault) → leftmost_from first (xs ++ ys) ≡ leftmost_from (leftmost_from first xs) ys
leftmost_from-append first [] ys = refl
leftmost_from-append first (x ∷ xs) ys = leftmost_from-append (sooner first x) xs ys

-- characters that belong to the one before are passed
inside_pass : (form : Form) (n : ℕ) (before : Before) (offset : ℕ) (text : List ℕ) → n ≤ length text → inside form n before offset text ≡ inside form 0 before (offset + n) (drop n text)
inside_pass form zero before offset text h = ap (λ o. inside form 0 before o text) (sym (add-zero offset))
inside_pass form (suc n) before offset [] h = absurd (omega arith)
inside_pass form (suc n) before offset (c ∷ text) h =
    let e : (offset + 1) + n ≡ offset + suc n = omega arith in
    inside_pass form n before (offset + 1) text (omega arith) ∙ ap (λ o. inside form 0 before o (drop n text)) e

inside_at : (form : Form) (before : Before) (offset : ℕ) (text : List ℕ) (i : ℕ) → i < length text → inside form 0 before offset (drop i text) ≡ turn (next form (drop i text)) before offset (λ pass before. inside form pass before (offset + 1) (drop (suc i) text))
inside_at form before offset [] i h = absurd (omega arith)
inside_at form before offset (c ∷ text) zero h = refl
inside_at form before offset (c ∷ text) (suc i) h = inside_at form before offset text i (omega arith)

module _ (form : Form) (before : Before) (offset : ℕ) (text : List ℕ) (i : ℕ) (more : i < length text) where
  turned : (here : Next) → here ≡ next form (drop i text) → inside form 0 before (offset + i) (drop i text) ≡ turn here before (offset + i) (λ pass before. inside form pass before (offset + (i + 1)) (drop (i + 1) text))
  turned here is =
      let e : (offset + i) + 1 ≡ offset + (i + 1) = omega arith in
      let d : suc i ≡ i + 1 = omega arith in
      (inside_at form before (offset + i) text i more
      ∙ ap (λ h. turn h before (offset + i) (λ pass before. inside form pass before ((offset + i) + 1) (drop (suc i) text))) (sym is))
      ∙ (ap (λ o. turn here before (offset + i) (λ pass before. inside form pass before o (drop (suc i) text))) e
      ∙ ap (λ k. turn here before (offset + i) (λ pass before. inside form pass before (offset + (i + 1)) (drop k text))) d)

  pub inside_blank : Blank ≡ next form (drop i text) → inside form 0 before (offset + i) (drop i text) ≡ inside form 0 before (offset + (i + 1)) (drop (i + 1) text)
  inside_blank is = turned Blank is

  pub inside_dash : Dash ≡ next form (drop i text) → inside form 0 before (offset + i) (drop i text) ≡ behind (faults_of_dash before (offset + i)) (inside form 0 (behind_dash before (offset + i)) (offset + (i + 1)) (drop (i + 1) text))
  inside_dash is = turned Dash is

  pub inside_bad : Bad ≡ next form (drop i text) → inside form 0 before (offset + i) (drop i text) ≡ behind (bad_escape (offset + i) ∷ []) (inside form 0 before (offset + (i + 1)) (drop (i + 1) text))
  inside_bad is = turned Bad is

  pub inside_passes : (n : ℕ) → Passes n ≡ next form (drop i text) → i + (1 + n) ≤ length text → inside form 0 before (offset + i) (drop i text) ≡ inside form 0 (behind_item before) (offset + (i + (1 + n))) (drop (i + (1 + n)) text)
  inside_passes n is within =
      let o : (offset + (i + 1)) + n ≡ offset + (i + (1 + n)) = omega arith in
      let k : (i + 1) + n ≡ i + (1 + n) = omega arith in
      ((turned (Passes n) is ∙ inside_pass form n (behind_item before) (offset + (i + 1)) (drop (i + 1) text) (omega (arith, length-drop (i + 1) text)))
      ∙ ap (λ t. inside form 0 (behind_item before) ((offset + (i + 1)) + n) t) (drop-drop n (i + 1) text))
      ∙ (ap (λ p. inside form 0 (behind_item before) p (drop ((i + 1) + n) text)) o
      ∙ ap (λ p. inside form 0 (behind_item before) (offset + (i + (1 + n))) (drop p text)) k)
