use Rattle.std.proofs.Common.{Err, ap}
use Rattle.rl_relation.specs.Pairs.{set_of, joined}
use Rattle.rl_relation.proofs.LargeLemmas.{set_large, Builds-large}
use Rattle.rl_relation.proofs.composition.compose_pairs.Goals as goal

pub returns-in-Err : goal.returns-in-Err
returns-in-Err c =
    c.unbuilt.ensures (set_of (joined c.args.left.now c.args.right.now))
    (Builds-large c.in-Err.end _ (λ e. set_large (joined c.args.left.now c.args.right.now) (c.in-Err.ensures.large (ap Err e))))
