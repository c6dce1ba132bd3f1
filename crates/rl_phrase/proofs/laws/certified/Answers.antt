use Rattle.rl_phrase.proofs.Certified.{certificate}
use Rattle.rl_phrase.proofs.laws.certified.Goals as goal

pub returns : goal.returns
returns c = certificate
