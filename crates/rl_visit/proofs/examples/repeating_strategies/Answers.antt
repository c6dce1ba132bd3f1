use Rattle.std.proofs.Common.{refl}
use Rattle.rl_types.specs.Types.{has}
use Rattle.rl_visit.specs.Examples.{ends_in}
use Rattle.rl_visit.specs.Walk.{walk}
use Rattle.rl_visit.proofs.examples.repeating_strategies.Goals as goal

pub returns : goal.returns
unfolding walk has ends_in
returns c = (refl, refl, refl, refl)
