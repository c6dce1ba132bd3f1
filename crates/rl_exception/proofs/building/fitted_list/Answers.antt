use Rattle.rl_exception.proofs.building.fitted_list.Goals as goal

pub returns : goal.returns
returns c = c.fitted.ensures _ c.list.ensures
