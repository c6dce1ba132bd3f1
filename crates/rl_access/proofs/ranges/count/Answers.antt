use Rattle.std.proofs.Common.{ap, ◌∙◌, arith}
use Rattle.std.proofs.lemmas.Int.{ints, to_z-of_z}
use mir.Syntax.{w128}
use Rattle.rl_access.specs.Ranges.{by_steps}
use Rattle.rl_access.proofs.StepLemmas.{count_up, count_down, count_none}
use Rattle.rl_access.proofs.ranges.count.Goals as goal
use Rattle.rl_access.proofs.ranges.count.Goals.{else-step-gt0-via-then-step-gt0+else-a-b, else-step-gt0-via-else-step-gt0, else-step-lt0-via-then-step-lt0+else-b-a, else-step-lt0-via-else-step-lt0}

pub returns-then-a-b : goal.returns-then-a-b
returns-then-a-b c =
    let over = rw (to_z-of_z w128 c.args.a c.ranges.a, to_z-of_z w128 c.args.b c.ranges.b, to_z-of_z w128 c.args.step c.ranges.step) at c.count_over.ensures in
    ap (λ n. by_steps n c.args.a c.args.step) over ∙ count_up c.args.a c.args.step c.args.b (omega (arith, ints)) (omega (arith, ints))

pub returns-then-b-a : goal.returns-then-b-a
returns-then-b-a c =
    let over = rw (to_z-of_z w128 c.args.a c.ranges.a, to_z-of_z w128 c.args.b c.ranges.b, to_z-of_z w128 c.args.step c.ranges.step) at c.count_over-then-b-a.ensures in
    ap (λ n. by_steps n c.args.a c.args.step) over ∙ count_down c.args.a c.args.step c.args.b (omega (arith, ints)) (omega (arith, ints))

pub returns-else-step-lt0 : goal.returns-else-step-lt0
returns-else-step-lt0 c =
    elim c.else-step-gt0.branch [
      | else-step-gt0-via-then-step-gt0+else-a-b w ↦
          elim c.else-step-lt0.branch [
            | else-step-lt0-via-then-step-lt0+else-b-a v ↦ count_none c.args.a c.args.step c.args.b (λ h. omega (arith, ints)) (λ h. omega (arith, ints))
            | else-step-lt0-via-else-step-lt0 v ↦ count_none c.args.a c.args.step c.args.b (λ h. omega (arith, ints)) (λ h. omega (arith, ints))
          ]
      | else-step-gt0-via-else-step-gt0 w ↦
          elim c.else-step-lt0.branch [
            | else-step-lt0-via-then-step-lt0+else-b-a v ↦ count_none c.args.a c.args.step c.args.b (λ h. omega (arith, ints)) (λ h. omega (arith, ints))
            | else-step-lt0-via-else-step-lt0 v ↦ count_none c.args.a c.args.step c.args.b (λ h. omega (arith, ints)) (λ h. omega (arith, ints))
          ]
    ]
