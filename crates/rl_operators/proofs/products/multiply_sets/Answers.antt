use Rattle.std.proofs.Common.{Err, ap}
use Rattle.rl_exception.proofs.FittingLemmas.{ends_large}
use Rattle.rl_operators.specs.Sets.{set_of, all_pairs}
use Rattle.rl_operators.proofs.PairLemmas.{many_pairs}
use Rattle.rl_operators.proofs.ProductLemmas.{set_large, Builds-large}
use Rattle.rl_operators.proofs.products.multiply_sets.Goals as goal

pub returns-then-has_too_many_pairs : goal.returns-then-has_too_many_pairs
returns-then-has_too_many_pairs c =
    ends_large (set_of (all_pairs c.args.a.now c.args.b.now)) c.too_large.result
    (many_pairs c.args.a.now c.args.b.now c.requires.a c.requires.b (c.has_too_many_pairs.ensures c.if-has_too_many_pairs.true)) c.too_large.ensures

pub returns-in-Err : goal.returns-in-Err
returns-in-Err c =
    c.unbuilt.ensures (set_of (all_pairs c.args.a.now c.args.b.now))
    (Builds-large c.in-Err.end _ (λ e. set_large (all_pairs c.args.a.now c.args.b.now) (c.in-Err.ensures.large (ap Err e))))
