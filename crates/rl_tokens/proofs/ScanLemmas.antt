-- The tokens of a text, one step at a time.
use Rattle.std.proofs.Common.{◌≡◌, ℕ, zero, suc, ◌+◌, ◌-◌, ◌<◌, ◌≤◌, Bool, List, [], ◌∷◌, ◌++◌, length, drop, refl, sym, ap, subst, ◌∙◌, arith, add-zero, length-append, length-drop}
use Rattle.std.proofs.lemmas.List.{drop-drop, append_assoc}
use Rattle.std.specs.Prelude.{Option, Some, None}
use Rattle.rl_tokens.specs.declared.fault.Fault.{Fault}
use Rattle.rl_tokens.specs.declared.lexeme.Lexeme.{Lexeme}
use Rattle.rl_tokens.specs.declared.lexeme.Nest.{Nest}
use Rattle.rl_tokens.specs.Token.{Token}
use Rattle.rl_tokens.specs.Fault.{leftmost_from}
use Rattle.rl_tokens.proofs.QuotedLemmas.{leftmost_from-append}
use Rattle.rl_tokens.specs.declared.lexeme.Open.{Open}
use Rattle.rl_tokens.specs.Lexeme.{Step, front, grammar_behind}
use Rattle.rl_tokens.specs.Scan.{Scan, innermost, nested, tokens_of, joined, scan}

-- characters that belong to the token before are passed
scan_pass : (n : ℕ) (grammar : Bool) (opens : List Open) (offset : ℕ) (text : List ℕ) → n ≤ length text → scan n grammar opens offset text ≡ scan 0 grammar opens (offset + n) (drop n text)
scan_pass zero grammar opens offset text h = ap (λ o. scan 0 grammar opens o text) (sym (add-zero offset))
scan_pass (suc n) grammar opens offset [] h = absurd (omega arith)
scan_pass (suc n) grammar opens offset (c ∷ text) h =
    let e : (offset + 1) + n ≡ offset + suc n = omega arith in
    scan_pass n grammar opens (offset + 1) text (omega arith) ∙ ap (λ o. scan 0 grammar opens o (drop n text)) e

-- what follows a step whose lexeme ends at an offset
abbrev pub behind_step : Bool → List Open → ℕ → List ℕ → Step → ℕ → List ℕ → Scan
behind_step grammar opens offset text step pass rest =
    joined (tokens_of offset text step.lexeme) step.faults
    (scan pass (grammar_behind grammar step.lexeme.kind) (nested opens step.lexeme.nest) (offset + 1) rest)

scan_at : (grammar : Bool) (opens : List Open) (offset : ℕ) (text : List ℕ) (i : ℕ) → i < length text →
    let step = front offset grammar (innermost opens) (drop i text) in
    scan 0 grammar opens offset (drop i text) ≡ behind_step grammar opens offset (drop i text) step (step.lexeme.end - (offset + 1)) (drop (suc i) text)
scan_at grammar opens offset [] i h = absurd (omega arith)
scan_at grammar opens offset (c ∷ text) zero h = refl
scan_at grammar opens offset (c ∷ text) (suc i) h = scan_at grammar opens offset text i (omega arith)

-- the tokens and faults from an offset on are those of its lexeme and then those behind it
pub scan_step : (grammar : Bool) (opens : List Open) (text : List ℕ) (at : ℕ) (step : Step) → step ≡ front at grammar (innermost opens) (drop at text) → at < step.lexeme.end → step.lexeme.end ≤ length text →
    scan 0 grammar opens at (drop at text) ≡ joined (tokens_of at (drop at text) step.lexeme) step.faults
    (scan 0 (grammar_behind grammar step.lexeme.kind) (nested opens step.lexeme.nest) step.lexeme.end (drop step.lexeme.end text))
scan_step grammar opens text at step is moves within =
    let end = step.lexeme.end in
    let grammar_then = grammar_behind grammar step.lexeme.kind in
    let opens_then = nested opens step.lexeme.nest in
    let o : (at + 1) + (end - (at + 1)) ≡ end = omega arith in
    let k : suc at + (end - (at + 1)) ≡ end = omega arith in
    let one = scan_at grammar opens at text at (omega arith) in
    let left = length-drop (suc at) text in
    let passed = scan_pass (end - (at + 1)) grammar_then opens_then (at + 1) (drop (suc at) text) (omega arith) in
    let dropped = drop-drop (end - (at + 1)) (suc at) text in
    let there : scan (end - (at + 1)) grammar_then opens_then (at + 1) (drop (suc at) text) ≡ scan 0 grammar_then opens_then end (drop end text) =
    passed ∙ (ap (λ t. scan 0 grammar_then opens_then ((at + 1) + (end - (at + 1))) t) dropped
    ∙ (ap (λ p. scan 0 grammar_then opens_then p (drop (suc at + (end - (at + 1))) text)) o
    ∙ ap (λ p. scan 0 grammar_then opens_then end (drop p text)) k)) in
    (one ∙ ap (λ s. behind_step grammar opens at (drop at text) s (s.lexeme.end - (at + 1)) (drop (suc at) text)) (sym is))
    ∙ ap (λ later. joined (tokens_of at (drop at text) step.lexeme) step.faults later) there

-- the list so far, and the leftmost fault so far, with those of what is left, are those of the whole text
pub record Keeps (list : List Token) (first : Option Fault) (left whole : Scan) : Type 0 where
  pub tokens : list ++ left.tokens ≡ whole.tokens
  pub faults : leftmost_from first left.faults ≡ leftmost_from None whole.faults

-- what is left behind the lexeme
abbrev pub left_behind : Bool → List Open → List ℕ → Lexeme → Scan
left_behind grammar opens text lexeme =
    scan 0 (grammar_behind grammar lexeme.kind) (nested opens lexeme.nest) lexeme.end (drop lexeme.end text)

module _ (grammar : Bool) (opens : List Open) (text : List ℕ) (at : ℕ) (list : List Token) (first : Option Fault) (whole : Scan) where
  kept_by : (step : Step) → step ≡ front at grammar (innermost opens) (drop at text) → at < step.lexeme.end → step.lexeme.end ≤ length text →
      Keeps list first (scan 0 grammar opens at (drop at text)) whole →
      Keeps (list ++ tokens_of at (drop at text) step.lexeme) (leftmost_from first step.faults) (left_behind grammar opens text step.lexeme) whole
  kept_by step is moves within kept =
      let e = scan_step grammar opens text at step is moves within in
      let later = left_behind grammar opens text step.lexeme in
      let tokens = tokens_of at (drop at text) step.lexeme in
      record {
        tokens = (append_assoc list tokens later.tokens ∙ ap (λ s. list ++ s.tokens) (sym e)) ∙ kept.tokens;
        faults = (sym (leftmost_from-append first step.faults later.faults) ∙ ap (λ s. leftmost_from first s.faults) (sym e)) ∙ kept.faults;
      }

  pub kept : (lexeme : Lexeme) → lexeme ≡ (front at grammar (innermost opens) (drop at text)).lexeme → at < lexeme.end → lexeme.end ≤ length text →
      Keeps list first (scan 0 grammar opens at (drop at text)) whole →
      Keeps (list ++ tokens_of at (drop at text) lexeme) (leftmost_from first (front at grammar (innermost opens) (drop at text)).faults) (left_behind grammar opens text lexeme) whole
  kept lexeme is moves within keeps =
      let step = front at grammar (innermost opens) (drop at text) in
      let ends = ap (λ l. l.end) is in
      let P : Lexeme → Type 0 = λ l. Keeps (list ++ tokens_of at (drop at text) l) (leftmost_from first step.faults) (left_behind grammar opens text l) whole in
      subst P (sym is) (kept_by step refl (omega arith) (omega arith) keeps)

-- there are no more tokens than characters
pub few_step : (list : List Token) (at : ℕ) (text : List ℕ) (lexeme : Lexeme) → length list ≤ at → at < lexeme.end → length (list ++ tokens_of at text lexeme) ≤ lexeme.end
few_step list at text lexeme few moves = few_by lexeme.kind lexeme.end lexeme.nest few moves
  where
    few_by : (kind : Option ℕ) (end : ℕ) (nest : Nest) → length list ≤ at → at < end →
        let l : Lexeme = record { kind = kind; end = end; nest = nest } in length (list ++ tokens_of at text l) ≤ end
    few_by None end nest few moves = let longer = length-append list [] in omega (arith, longer, few, moves)
    few_by (Some kind) end nest few moves =
        let l : Lexeme = record { kind = Some kind; end = end; nest = nest } in
        let longer = length-append list (tokens_of at text l) in omega (arith, longer, few, moves)
