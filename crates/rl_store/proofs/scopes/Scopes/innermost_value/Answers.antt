use Rattle.std.proofs.Common.{◌≡◌, ℕ, suc, ◌-◌, drop, None, arith, sym, ap, ◌∙◌, true, false}
use Rattle.std.specs.Option.{is_some}
use Rattle.rl_store.specs.Scope.{value_of}
use Rattle.rl_store.proofs.Inner.{innermost, one_more_without}
use Rattle.rl_store.proofs.scopes.Scopes.innermost_value.Goals as goal

pub returns-then-is_some : goal.returns-then-is_some
returns-then-is_some c =
    let behind : suc (c.loop-place.place - 1) ≡ c.loop-place.place = omega (arith, c.loop-place-test.true) in
    innermost c.args.self.now.scopes (c.loop-place.place - 1) c.args.variable c.value-found.result
    (ap (λ (q : ℕ). value_of (drop q c.args.self.now.scopes) c.args.variable) behind ∙ c.loop-place.invariant.1) c.value-found.ensures (sym c.is_some.ensures ∙ c.if-is_some.true)

pub loop-place-preserved : goal.loop-place-preserved
loop-place-preserved c =
    let behind : suc (c.loop-place.place - 1) ≡ c.loop-place.place = omega (arith, c.loop-place-test.true) in (
      omega (arith, c.loop-place.invariant.0),
      one_more_without c.args.self.now.scopes (c.loop-place.place - 1) c.args.variable c.value-found.result
          (ap (λ (q : ℕ). value_of (drop q c.args.self.now.scopes) c.args.variable) behind ∙ c.loop-place.invariant.1) c.value-found.ensures (sym c.is_some.ensures ∙ c.if-is_some.false),
    )
