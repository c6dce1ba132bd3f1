use Rattle.std.proofs.Common.{◌<◌, ◌∙◌, ap, length, set, arith}
use Rattle.rl_sequence.specs.Whole.{body_elements}
use Rattle.rl_sequence.proofs.WholeLemmas.{replaced_front, replaced_back}
use Rattle.rl_sequence.proofs.sequence.Sequence.replace.Goals as goal

pub returns-then-at-before : goal.returns-then-at-before
returns-then-at-before g c =
    let h : c.args.at < length (body_elements c.self.inside.body) = omega (arith, c.if-at-before.true, c.self.invariant.body_right.count_is) in
    replaced_front _ _ _ _ _ h c.in_ok-body.ensures.holds ∙ ap (λ xs. set xs c.args.at c.args.item) c.self.view_is

pub returns : goal.returns
returns g c =
    replaced_back _ _ _ _ _ _ c.self.invariant.body_right.count_is c.if-at-before.false c.in_ok-tail.ensures.holds ∙ ap (λ xs. set xs c.args.at c.args.item) c.self.view_is
