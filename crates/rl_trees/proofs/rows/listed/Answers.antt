use Rattle.rl_arguments.specs.Arguments.{list_of}
use Rattle.rl_trees.specs.Rows.{spans_in}
use Rattle.rl_trees.proofs.RowsLemmas.{unbuilt_list}
use Rattle.rl_trees.proofs.rows.listed.Goals as goal

pub returns-in-Err : goal.returns-in-Err
returns-in-Err c = c.unbuilt.ensures (list_of (spans_in c.args.sort.now c.args.whole.now)) (unbuilt_list (spans_in c.args.sort.now c.args.whole.now) c.in-Err.end c.in-Err.ensures)
