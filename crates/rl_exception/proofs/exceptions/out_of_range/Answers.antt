use Rattle.rl_exception.specs.Answer.{fits, throwing}
use Rattle.rl_exception.proofs.exceptions.out_of_range.Goals as goal

pub returns : goal.returns
unfolding throwing fits
returns c = c.arithmetic_exception.ensures
