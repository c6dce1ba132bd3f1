use Rattle.rl_exception.proofs.FittingLemmas.{bare}
use Rattle.rl_exception.proofs.exceptions.thrown.Goals as goal

pub returns : goal.returns
returns c = bare c.args.name.now _ c.thrown_node.result (cc) c.thrown_node.ensures
