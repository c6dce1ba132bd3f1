use Rattle.rl_visit.proofs.Fields.{fields}
use Rattle.rl_visit.proofs.laws.fields_are_as_many.Goals as goal

pub returns : goal.returns
returns c = fields
