use Rattle.rl_exception.proofs.building.fitted_node.Goals as goal

pub returns : goal.returns
returns c = c.fitted.ensures _ c.node.ensures
