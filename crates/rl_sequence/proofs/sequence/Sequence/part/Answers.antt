use Rattle.std.proofs.Common.{subst}
use Rattle.rl_sequence.specs.Parts.{IsPart}
use Rattle.rl_sequence.proofs.WholeLemmas.{part_back}
use Rattle.rl_sequence.proofs.sequence.Sequence.part.Goals as goal

pub returns-else-at-before : goal.returns-else-at-before
returns-else-at-before g c =
    subst (λ xs. IsPart xs c.args.at c.part.result.now) c.self.view_is (part_back _ _ _ _ _ c.self.invariant.body_right.count_is c.if-at-before.false c.part.ensures)
