use Rattle.std.proofs.Common.{arith}
use Rattle.std.proofs.lemmas.Grind.{common_steps}
use Rattle.rl_print.proofs.PrintedLemmas.{tree_shown}
use Rattle.rl_print.proofs.print.show_tree.Goals as goal

pub returns : goal.returns
returns c = let p = tree_shown c.args.tree.now c.requires in rw p (grind (arith, common_steps))
