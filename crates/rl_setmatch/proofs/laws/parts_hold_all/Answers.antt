use Rattle.rl_setmatch.proofs.Parts.{by_numbers, holds_all}
use Rattle.rl_setmatch.proofs.laws.parts_hold_all.Goals as goal

pub returns-clause-by_numbers : goal.returns-clause-by_numbers
returns-clause-by_numbers c = by_numbers

pub returns-clause-all : goal.returns-clause-all
returns-clause-all c = λ es k choice h holds. holds_all holds es k choice h
