use Rattle.std.proofs.Common.{◌≡◌, ◌<◌, ◌++◌, [], ◌∷◌, true, ap, ◌∙◌, rules, arith}
use Rattle.std.specs.Prelude.{ℤ, ◌+ℤ◌}
use Rattle.std.proofs.lemmas.Int.{to_z-of_z}
use mir.Syntax.{w128}
use mir.Val.{SFits, to_z, of_z}
use Rattle.rl_value.specs.Plain.{Plain, int}
use Rattle.rl_access.specs.Ranges.{is_in_range}
use Rattle.rl_access.proofs.StepLemmas.{steps_found, steps_in_range}
use Rattle.rl_access.proofs.ranges.steps.Goals as goal

pub loop-i-preserved : goal.loop-i-preserved
loop-i-preserved c =
    let fits : SFits w128 c.after-number.result = search rules in
    let step : ℤ = to_z w128 (of_z w128 c.args.step) in
    let number : ℤ = to_z w128 c.loop-i.number-bits in
    let next : ℤ = to_z w128 (of_z w128 c.after-number.result) in
    let is_next : is_in_range (number +ℤ step) ≡ true → next ≡ (number +ℤ step) = λ e. to_z-of_z w128 c.after-number.result fits ∙ c.after-number.ensures e in
    let below : c.loop-i.i < c.args.count = omega arith in
    let items : c.push.new.self.items ≡ c.loop-i.found.items ++ (int number ∷ []) =
    c.in_ok-push.ensures.items ∙ ap (λ (t : Plain). c.loop-i.found.items ++ (t ∷ [])) c.int.ensures in
    record {
      found = rw items (steps_found c.args.count c.loop-i.i number next step below is_next c.loop-i.invariant.in_range c.loop-i.found.items _ c.loop-i.invariant.found);
      in_range = steps_in_range c.args.count c.loop-i.i number next step below is_next c.loop-i.invariant.in_range;
    }
