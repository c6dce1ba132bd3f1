use Rattle.std.proofs.Common.{subst}
use Rattle.rl_value.specs.Built.{Builds}
use Rattle.rl_exception.proofs.FittingLemmas.{given}
use Rattle.rl_exception.proofs.building.fitted.Goals as goal

pub returns-in-Ok : goal.returns-in-Ok
returns-in-Ok c = λ t built. given t c.in-Ok.value c.args.built c.in-Ok.is built

pub returns-in-Err : goal.returns-in-Err
returns-in-Err c = λ t built. c.unbuilt.ensures t (subst (Builds t) c.in-Err.is built)
