use Rattle.rl_reading.proofs.Whole.{never_unknown}
use Rattle.rl_reading.proofs.laws.no_phrase_is_unknown.Goals as goal

pub returns : goal.returns
returns c = never_unknown
