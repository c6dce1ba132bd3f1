use Rattle.std.proofs.Common.{◌≤◌, ◌∙◌, ap, take, arith}
use Rattle.rl_sequence.proofs.WholeLemmas.{taken_back}
use Rattle.rl_sequence.proofs.sequence.Sequence.front.Goals as goal

pub returns : goal.returns
returns g c =
    let h : c.self.inside.body.count ≤ c.args.n = omega (arith, c.if-n-before.false) in
    taken_back _ _ _ _ _ c.self.invariant.body_right.count_is h c.in_ok-tail.ensures.holds ∙ ap (λ xs. take c.args.n xs) c.self.view_is
