use Rattle.std.proofs.Common.{◌<◌, ◌∙◌, ap, length, arith}
use Rattle.std.specs.List.{remove}
use Rattle.rl_sequence.specs.Whole.{body_elements}
use Rattle.rl_sequence.proofs.WholeLemmas.{removed_front, removed_back, whole_without}
use Rattle.rl_sequence.proofs.sequence.Sequence.remove.Goals as goal

pub returns-then-at-before : goal.returns-then-at-before
returns-then-at-before g c =
    let h : c.args.at < length (body_elements c.self.inside.body) = omega (arith, c.if-at-before.true, c.self.invariant.body_right.count_is) in
    removed_front _ _ _ _ h c.in_ok-body.ensures.holds ∙ ap (λ xs. remove xs c.args.at) c.self.view_is

pub invariant_of-result-2 : goal.invariant_of-result-2
invariant_of-result-2 g c =
    whole_without _ _ _ _ c.args.at c.self.invariant c.self.view_is c.if-at-before.false c.requires c.in_ok-tail.ensures.holds

pub returns : goal.returns
returns g c =
    removed_back _ _ _ _ _ c.self.invariant.body_right.count_is c.if-at-before.false c.in_ok-tail.ensures.holds ∙ ap (λ xs. remove xs c.args.at) c.self.view_is
