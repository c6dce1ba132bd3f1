use Rattle.cases_values.proofs.+show.Given as goal

abbrev pub decreases-show : goal.decreases-show
decreases-show g l = l.depth
