use Rattle.rl_phrase.proofs.Determined.{one, some, gives_outcome}
use Rattle.rl_phrase.proofs.laws.one_outcome.Goals as goal

pub returns : goal.returns
returns c = record { one = one; some = some; first = gives_outcome }
