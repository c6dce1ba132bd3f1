use Rattle.rl_rules.proofs.Computed.{three_elements}
use Rattle.rl_rules.proofs.examples.three_elements.Goals as goal

pub returns : goal.returns
returns c = three_elements
