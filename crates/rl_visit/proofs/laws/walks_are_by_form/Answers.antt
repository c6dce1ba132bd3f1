use Rattle.rl_visit.proofs.Bounds.{by_form}
use Rattle.rl_visit.proofs.laws.walks_are_by_form.Goals as goal

pub returns : goal.returns
returns c = by_form
