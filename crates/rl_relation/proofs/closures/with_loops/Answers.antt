use Rattle.std.proofs.Common.{◌≡◌, ◌++◌, Vec, Global}
use Rattle.rl_value.specs.declared.value.Value.{Value}
use Rattle.rl_relation.specs.Closures.{closure, loops, HasSame}
use Rattle.rl_relation.proofs.ClosureLemmas.{if_ok, same_append}
use Rattle.rl_relation.proofs.closures.with_loops.Goals as goal

pub returns-in-Ok-clause-same : goal.returns-in-Ok-clause-same
returns-in-Ok-clause-same c =
    if_ok (λ (all : Vec Value Global). all.items ≡ c.in-Ok.found.items ++ loops c.args.pairs.now)
    (λ (all : Vec Value Global). HasSame all.items (closure c.args.pairs.now ++ loops c.args.pairs.now)) c.looped.result
    (λ all e. same_append c.in-Ok.found.items (closure c.args.pairs.now) (loops c.args.pairs.now) all.items c.in-Ok.ensures.same e) c.looped.ensures.ok
