use Rattle.std.proofs.Common.{◌≡◌, suc, ◌-◌, arith, sym, ap, ◌∙◌, not, true, false}
use Rattle.std.specs.Option.{is_some}
use Rattle.rl_store.proofs.Inner.{value_of-past, step_down, found}
use Rattle.rl_store.proofs.scopes.Scopes.place_of.Goals as goal

pub loop-place-init : goal.loop-place-init
loop-place-init c = (omega arith, value_of-past c.args.self.now.scopes (suc (c.len-place.result - 1)) c.args.variable (omega arith))

pub loop-place-preserved : goal.loop-place-preserved
loop-place-preserved c =
    let less : is_some c.value.result ≡ false = c.is_none.ensures ∙ ap not c.if-is_none.true in
    (omega (arith, c.loop-place.invariant.0), step_down c.args.self.now.scopes c.loop-place.place c.args.variable c.value.result c.loop-place-test.true c.loop-place.invariant.1 c.value.ensures less)

pub returns-else-is_none-clause-value : goal.returns-else-is_none-clause-value
returns-else-is_none-clause-value c =
    let less : is_some c.value.result ≡ true = c.is_none.ensures ∙ ap not c.if-is_none.false in
    sym (found c.args.self.now.scopes c.loop-place.place c.args.variable c.value.result c.loop-place.invariant.1 c.value.ensures less)
