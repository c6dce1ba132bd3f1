use Rattle.rl_tokens.specs.Terminal.{symbols, grammar_symbols}
use Rattle.std.proofs.Common.{refl}
use Rattle.rl_tokens.specs.Word.{symbol, grammar_symbol}
use Rattle.rl_tokens.proofs.WordLemmas.{alone}
use Rattle.rl_tokens.proofs.word.mark.Goals as goal

pub returns-in-40-clause-value : goal.returns-in-40-clause-value
unfolding symbol grammar_symbol symbols grammar_symbols
returns-in-40-clause-value c = rw c.in-40.is (alone 40 11 (λ rest. refl) (λ rest. refl))

pub returns-in-41-clause-value : goal.returns-in-41-clause-value
unfolding symbol grammar_symbol symbols grammar_symbols
returns-in-41-clause-value c = rw c.in-41.is (alone 41 13 (λ rest. refl) (λ rest. refl))

pub returns-in-91-clause-value : goal.returns-in-91-clause-value
unfolding symbol grammar_symbol symbols grammar_symbols
returns-in-91-clause-value c = rw c.in-91.is (alone 91 22 (λ rest. refl) (λ rest. refl))

pub returns-in-93-clause-value : goal.returns-in-93-clause-value
unfolding symbol grammar_symbol symbols grammar_symbols
returns-in-93-clause-value c = rw c.in-93.is (alone 93 23 (λ rest. refl) (λ rest. refl))

pub returns-in-123-clause-value : goal.returns-in-123-clause-value
unfolding symbol grammar_symbol symbols grammar_symbols
returns-in-123-clause-value c = rw c.in-123.is (alone 123 18 (λ rest. refl) (λ rest. refl))

pub returns-in-125-clause-value : goal.returns-in-125-clause-value
unfolding symbol grammar_symbol symbols grammar_symbols
returns-in-125-clause-value c = rw c.in-125.is (alone 125 19 (λ rest. refl) (λ rest. refl))

pub returns-in-44-clause-value : goal.returns-in-44-clause-value
unfolding symbol grammar_symbol symbols grammar_symbols
returns-in-44-clause-value c = rw c.in-44.is (alone 44 12 (λ rest. refl) (λ rest. refl))

pub returns-in-59-clause-value : goal.returns-in-59-clause-value
unfolding symbol grammar_symbol symbols grammar_symbols
returns-in-59-clause-value c = rw c.in-59.is (alone 59 6 (λ rest. refl) (λ rest. refl))
