use Rattle.std.proofs.Common.{refl}
use Rattle.rl_phrase_table.proofs.laws.rules_are_the_grammar.Goals as goal

pub returns : goal.returns
returns c = record { table = refl; terminals = refl; constants = refl }
