use Rattle.std.proofs.Common.{Err, refl}
use Rattle.rl_exception.proofs.FittingLemmas.{large, ends_large}
use Rattle.rl_exception.proofs.building.unbuilt.Goals as goal

pub returns-in-TooLarge : goal.returns-in-TooLarge
returns-in-TooLarge c =
    λ t built. ends_large t c.too_large.result (large t (Err c.args.end) c.args.end refl c.in-TooLarge.is built) c.too_large.ensures
