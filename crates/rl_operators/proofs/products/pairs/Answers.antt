use Rattle.std.proofs.Common.{◌≡◌, Err, ap}
use Rattle.rl_value.specs.declared.build_end.BuildEnd.TheVariants.{TooLarge}
use Rattle.rl_operators.proofs.ProductLemmas.{pairs_large}
use Rattle.rl_operators.proofs.products.pairs.Goals as goal

pub returns-in-Err-clause-large : goal.returns-in-Err-clause-large
returns-in-Err-clause-large c =
    λ e. pairs_large c.args.xs.now c.args.ys.now c.loop-x.x-index c.x-item.result c.loop-x-test.true c.x-item.is
    (c.in-Err.ensures.large (let same : c.in-Err.end ≡ TooLarge = cc in ap Err same))
