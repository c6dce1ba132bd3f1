use Rattle.std.proofs.Common.{◌≡◌, ◌≤◌, ◌++◌, ◌∙◌, false, [], ◌∷◌, List, length, drop, length-drop, refl, sym, subst, ap, arith}
use Rattle.std.proofs.lemmas.List.{take_rest, drop_all}
use Rattle.rl_tokens.specs.Fault.{leftmost_from}
use Rattle.rl_tokens.specs.Lexeme.{front}
use Rattle.rl_tokens.specs.Scan.{innermost, unclosed, end_token, tokens_of, scan, tokens_in}
use Rattle.rl_tokens.specs.Token.{Token}
use Rattle.rl_tokens.specs.Placed.{IsPlaced}
use Rattle.rl_tokens.proofs.PlacedLemmas.{placed_push, placed_step}
use Rattle.std.specs.Prelude.{None}
use Rattle.rl_tokens.proofs.ScanLemmas.{kept, few_step}
use Rattle.rl_tokens.proofs.scan.scan.Goals as goal

pub loop-at-preserved : goal.loop-at-preserved
loop-at-preserved c =
    let text = c.args.text.now in
    let at = c.loop-at.at in
    let grammar = c.loop-at.grammar in
    let opens = c.loop-at.opens.items in
    let lexeme = c.front-lexeme.result in
    let here = take_rest text at in
    let inner : c.innermost.result ≡ innermost opens = c.innermost.ensures ∙ ap innermost c.deref.ensures.value in
    let is : lexeme ≡ (front at grammar (innermost opens) (drop at text)).lexeme =
    c.front-lexeme.ensures.value ∙ (ap (λ t. (front at grammar c.innermost.result t).lexeme) here ∙ ap (λ i. (front at grammar i (drop at text)).lexeme) inner) in
    let faults : c.front-lexeme.new.faults.first ≡ leftmost_from c.loop-at.faults.first (front at grammar (innermost opens) (drop at text)).faults =
    c.front-lexeme.ensures.faults
    ∙ (ap (λ t. leftmost_from c.loop-at.faults.first (front at grammar c.innermost.result t).faults) here
    ∙ ap (λ i. leftmost_from c.loop-at.faults.first (front at grammar i (drop at text)).faults) inner) in
    let added = c.in_ok-push.ensures ∙ ap (λ t. c.loop-at.list ++ tokens_of at t lexeme) here in
    let within = c.front-lexeme.ensures.within in
    let length_here = ap (λ t. length t) here in
    let left = length-drop at text in
    let keeps = kept grammar opens text at c.loop-at.list c.loop-at.faults.first (scan 0 false [] 0 text) lexeme is (omega arith) (omega arith)
    (record { tokens = c.loop-at.invariant.tokens; faults = c.loop-at.invariant.faults }) in
    let few : length (c.loop-at.list ++ tokens_of at (drop at text) lexeme) ≤ lexeme.end =
    few_step c.loop-at.list at (drop at text) lexeme c.loop-at.invariant.few (omega arith) in
    rw (added, faults, c.grammar_behind-grammar.ensures, c.in_ok-apply.ensures) (record { within = omega arith; placed = placed_step text 0 at c.loop-at.list lexeme c.loop-at.invariant.placed (omega arith); few = few; tokens = keeps.tokens; faults = keeps.faults })

pub returns : goal.returns
unfolding tokens_in
returns c =
    let text = c.args.text.now in
    let at = c.loop-at.at in
    let grammar = c.loop-at.grammar in
    let opens = c.loop-at.opens.items in
    let list = c.loop-at.list in
    let first = c.loop-at.faults.first in
    let whole = scan 0 false [] 0 text in
    let done : drop at text ≡ [] = drop_all at text (omega arith) in
    let tokens : list ++ end_token at ∷ [] ≡ whole.tokens =
    sym (ap (λ t. list ++ (scan 0 grammar opens at t).tokens) done) ∙ c.loop-at.invariant.tokens in
    let faults : leftmost_from first (unclosed opens) ≡ leftmost_from None whole.faults =
    sym (ap (λ t. leftmost_from first (scan 0 grammar opens at t).faults) done) ∙ c.loop-at.invariant.faults in
    let items : c.push-2.new.self ≡ list ++ end_token at ∷ [] = c.in_ok-push-2.ensures in
    let Placed : List Token → Type 0 = λ tokens. IsPlaced text 0 (length text) tokens in
    record {
      tokens = items ∙ tokens;
      faults = c.note_unclosed.ensures ∙ (ap (λ o. leftmost_from first (unclosed o)) c.deref-2.ensures.value ∙ faults);
      placed = subst Placed (sym items) (placed_push text 0 at (length text) list (end_token at) c.loop-at.invariant.placed (omega arith) refl (omega arith));
    }
