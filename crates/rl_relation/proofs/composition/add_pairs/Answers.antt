use Rattle.std.proofs.Common.{◌≡◌}
use Rattle.rl_value.specs.declared.build_end.BuildEnd.TheVariants.{TooLarge}
use Rattle.rl_relation.proofs.LargeLemmas.{pair_large}
use Rattle.rl_relation.proofs.composition.add_pairs.Goals as goal

pub returns-in-Err-clause-large : goal.returns-in-Err-clause-large
returns-in-Err-clause-large c =
    λ e. pair_large c.args.x.now c.args.ys.now c.loop-y.y-index c.y-item.result c.in-Err.end c.loop-y-test.true c.y-item.is c.in-Err.ensures
    (let same : c.in-Err.end ≡ TooLarge = cc in same)
