use Rattle.std.proofs.Common.{◌≡◌, Err, ap}
use Rattle.rl_value.specs.declared.build_end.BuildEnd.TheVariants.{TooLarge}
use Rattle.rl_relation.proofs.LargeLemmas.{joined_large}
use Rattle.rl_relation.proofs.composition.joined.Goals as goal

pub returns-in-Err-clause-large : goal.returns-in-Err-clause-large
returns-in-Err-clause-large c =
    λ e. joined_large c.args.left.now c.args.right.now c.loop-pair.pair-index c.pair-item.result c.loop-pair-test.true c.pair-item.is
    (c.in-Err.ensures.large (let same : c.in-Err.end ≡ TooLarge = cc in ap Err same))
