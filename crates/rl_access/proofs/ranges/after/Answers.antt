use Rattle.std.proofs.lemmas.Int.{to_z-of_z}
use mir.Syntax.{w128}
use Rattle.rl_access.proofs.StepLemmas.{in_range_fits}
use Rattle.rl_access.proofs.ranges.after.Goals as goal

pub returns-in-None : goal.returns-in-None
returns-in-None c =
    let none = rw (to_z-of_z w128 c.args.number c.ranges.number, to_z-of_z w128 c.args.step c.ranges.step) at c.in-None.ensures in
    λ e. absurd (none (in_range_fits _ e))
