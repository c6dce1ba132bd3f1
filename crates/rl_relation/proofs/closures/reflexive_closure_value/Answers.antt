use Rattle.std.proofs.Common.{◌++◌, Err, ap, subst}
use Rattle.rl_exception.specs.Answer.{Answers, fitting}
use Rattle.rl_relation.specs.Pairs.{set_of}
use Rattle.rl_relation.specs.Closures.{closure, loops}
use Rattle.rl_relation.proofs.ClosureLemmas.{same_set}
use Rattle.rl_relation.proofs.LargeLemmas.{set_large, Builds-large}
use Rattle.rl_relation.proofs.closures.reflexive_closure_value.Goals as goal

pub returns-in-Ok : goal.returns-in-Ok
returns-in-Ok c =
    subst (λ t. Answers (fitting t) c.fitted_set.result) (same_set c.in-Ok.found.items (closure c.args.pairs.now ++ loops c.args.pairs.now) c.in-Ok.ensures.same)
    c.fitted_set.ensures

pub returns-in-Err : goal.returns-in-Err
returns-in-Err c =
    c.unbuilt.ensures (set_of (closure c.args.pairs.now ++ loops c.args.pairs.now))
    (Builds-large c.in-Err.end _ (λ e. set_large (closure c.args.pairs.now ++ loops c.args.pairs.now) (c.in-Err.ensures.large (ap Err e))))
