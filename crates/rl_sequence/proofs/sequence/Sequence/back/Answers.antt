use Rattle.std.proofs.Common.{◌∙◌, ap, drop}
use Rattle.rl_sequence.proofs.WholeLemmas.{dropped_back}
use Rattle.rl_sequence.proofs.sequence.Sequence.back.Goals as goal

pub returns : goal.returns
returns g c =
    rw c.new.ensures.items (dropped_back _ _ _ _ _ c.self.invariant.body_right.count_is c.if-n-before.false c.in_ok-tail.ensures.holds ∙ ap (λ xs. drop c.args.n xs) c.self.view_is)
