use Rattle.std.proofs.Common.{◌∙◌, ap}
use Rattle.rl_tokens.specs.Word.{word, word_or, first_row}
use Rattle.rl_tokens.proofs.TableLemmas.{hyphened_are, hyphened_no_empty}
use Rattle.rl_tokens.proofs.word.word.Goals as goal

pub first_row-requires : goal.first_row-requires
first_row-requires c = hyphened_no_empty

pub returns-in-Some-clause-value : goal.returns-in-Some-clause-value
unfolding word
returns-in-Some-clause-value c =
    ap (λ found. word_or found c.args.text.now) (c.in-Some.ensures.value ∙ ap (λ table. first_row table c.args.text.now) hyphened_are)

pub returns-in-None-clause-value : goal.returns-in-None-clause-value
unfolding word
returns-in-None-clause-value c =
    let len = c.run-len.ensures.value in
    let number = c.plain_word.ensures in
    let none = ap (λ found. word_or found c.args.text.now) (c.in-None.ensures.value ∙ ap (λ table. first_row table c.args.text.now) hyphened_are) in
    cc
