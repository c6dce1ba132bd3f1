use Rattle.std.proofs.Common.{◌∙◌, ap}
use Rattle.rl_tokens.specs.Word.{symbol, symbol_or, first_row}
use Rattle.rl_tokens.proofs.TableLemmas.{symbols_are, symbols_no_empty}
use Rattle.rl_tokens.proofs.word.longest_symbol.Goals as goal

pub first_row-requires : goal.first_row-requires
first_row-requires c = symbols_no_empty

pub returns-in-None-clause-value : goal.returns-in-None-clause-value
unfolding symbol
returns-in-None-clause-value c =
    (c.first_row.ensures.value ∙ ap (λ table. first_row table c.args.text.now) symbols_are) ∙ ap (λ found. symbol_or found c.args.text.now) c.in-None.ensures.value
