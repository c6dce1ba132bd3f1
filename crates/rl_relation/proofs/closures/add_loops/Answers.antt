use Rattle.std.proofs.Common.{◌≡◌, arith}
use Rattle.rl_value.specs.declared.build_end.BuildEnd.TheVariants.{TooLarge}
use Rattle.rl_relation.specs.Pairs.{pair_of}
use Rattle.rl_relation.proofs.ClosureLemmas.{mapped_large}
use Rattle.rl_relation.proofs.closures.add_loops.Goals as goal

pub returns-in-Err-clause-large : goal.returns-in-Err-clause-large
returns-in-Err-clause-large c =
    λ e. mapped_large (λ x. pair_of x x) c.args.values.now c.loop-value.value-index c.value-item.result c.in-Err.end (omega arith) c.value-item.is c.in-Err.ensures
    (let same : c.in-Err.end ≡ TooLarge = cc in same)
