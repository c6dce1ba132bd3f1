use Rattle.std.proofs.Common.{◌≡◌, true, sym, subst, arith}
use Rattle.std.proofs.lemmas.Int.{ints, to_z-of_z}
use mir.Syntax.{w128}
use Rattle.std.specs.List.{list_all}
use Rattle.rl_value.specs.Plain.{Fits}
use Rattle.rl_exception.proofs.FittingLemmas.{ends_large}
use Rattle.rl_access.specs.Ranges.{numbers, counted_to, is_in_range}
use Rattle.rl_access.proofs.StepLemmas.{numbers_large, counted_in_range}
use Rattle.rl_access.proofs.ranges.counted.Goals as goal

pub returns-then-count : goal.returns-then-count
returns-then-count c =
    let counted = rw (to_z-of_z w128 c.args.a c.ranges.a, to_z-of_z w128 c.args.b c.ranges.b, to_z-of_z w128 c.args.step c.ranges.step) at c.count-count.ensures in
    ends_large (numbers (counted_to c.args.b c.args.a c.args.step)) c.too_large.result
    (subst (λ ns. ¬ Fits (numbers ns)) counted (numbers_large c.count-count.result c.args.a c.args.step (omega arith))) c.too_large.ensures

pub steps-requires : goal.steps-requires
steps-requires c =
    let counted = rw (to_z-of_z w128 c.args.a c.ranges.a, to_z-of_z w128 c.args.b c.ranges.b, to_z-of_z w128 c.args.step c.ranges.step) at c.count-count.ensures in
    rw (to_z-of_z w128 c.args.a c.ranges.a, to_z-of_z w128 c.args.step c.ranges.step)
    (subst (λ ns. list_all is_in_range ns ≡ true) (sym counted)
    (counted_in_range c.args.a c.args.step c.args.b (omega (arith, ints)) (omega (arith, ints)) (omega (arith, ints)) (omega (arith, ints))))
