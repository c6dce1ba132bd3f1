use Rattle.std.proofs.Common.{◌∙◌, ap}
use Rattle.rl_tokens.specs.Word.{grammar_symbol, first_row}
use Rattle.rl_tokens.proofs.TableLemmas.{grammar_symbols_are, grammar_symbols_no_empty}
use Rattle.rl_tokens.proofs.word.grammar_symbol.Goals as goal

pub first_row-requires : goal.first_row-requires
first_row-requires c = grammar_symbols_no_empty

pub returns-then-grammar-clause-value : goal.returns-then-grammar-clause-value
unfolding grammar_symbol
returns-then-grammar-clause-value c =
    rw c.if-grammar.true (c.first_row.ensures.value ∙ ap (λ table. first_row table c.args.text.now) grammar_symbols_are)
