use Rattle.std.proofs.Common.{[], map, refl, sym, arith}
use Rattle.rl_tokens.specs.Terminal.{words}
use Rattle.rl_tokens.specs.Word.{reserved}
use Rattle.rl_tokens.specs.declared.terminal.TheConstants.{WORDS_OF_ONE, WORDS_OF_TWO, WORDS_OF_THREE, WORDS_OF_FOUR, WORDS_OF_FIVE, WORDS_OF_SIX, WORDS_OF_SEVEN, WORDS_OF_EIGHT, WORDS_OF_NINE}
use Rattle.rl_tokens.proofs.WordLemmas.{by_length, none_of}
use Rattle.rl_tokens.proofs.word.words_of.Goals as goal

pub returns-in-1 : goal.returns-in-1
unfolding reserved words
returns-in-1 c = rw c.in-1.is (by_length 1 (map (λ row. (row.0.now, row.1)) WORDS_OF_ONE) words (λ word. refl))

pub returns-in-2 : goal.returns-in-2
unfolding reserved words
returns-in-2 c = rw c.in-2.is (by_length 2 (map (λ row. (row.0.now, row.1)) WORDS_OF_TWO) words (λ word. refl))

pub returns-in-3 : goal.returns-in-3
unfolding reserved words
returns-in-3 c = rw c.in-3.is (by_length 3 (map (λ row. (row.0.now, row.1)) WORDS_OF_THREE) words (λ word. refl))

pub returns-in-4 : goal.returns-in-4
unfolding reserved words
returns-in-4 c = rw c.in-4.is (by_length 4 (map (λ row. (row.0.now, row.1)) WORDS_OF_FOUR) words (λ word. refl))

pub returns-in-5 : goal.returns-in-5
unfolding reserved words
returns-in-5 c = rw c.in-5.is (by_length 5 (map (λ row. (row.0.now, row.1)) WORDS_OF_FIVE) words (λ word. refl))

pub returns-in-6 : goal.returns-in-6
unfolding reserved words
returns-in-6 c = rw c.in-6.is (by_length 6 (map (λ row. (row.0.now, row.1)) WORDS_OF_SIX) words (λ word. refl))

pub returns-in-7 : goal.returns-in-7
unfolding reserved words
returns-in-7 c = rw c.in-7.is (by_length 7 (map (λ row. (row.0.now, row.1)) WORDS_OF_SEVEN) words (λ word. refl))

pub returns-in-8 : goal.returns-in-8
unfolding reserved words
returns-in-8 c = rw c.in-8.is (by_length 8 (map (λ row. (row.0.now, row.1)) WORDS_OF_EIGHT) words (λ word. refl))

pub returns-in-9 : goal.returns-in-9
unfolding reserved words
returns-in-9 c = rw c.in-9.is (by_length 9 (map (λ row. (row.0.now, row.1)) WORDS_OF_NINE) words (λ word. refl))

pub returns-in_default : goal.returns-in_default
unfolding reserved words
returns-in_default c = by_length c.args.len [] words (λ word. sym (none_of c.args.len (λ k some few e. omega (arith, some, few, e, c.in_default)) words refl word))
