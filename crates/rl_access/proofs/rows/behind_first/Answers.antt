use Rattle.std.proofs.Common.{◌≡◌, IfOk, ap, subst, ◌∙◌, arith}
use Rattle.rl_value.specs.Plain.{tuple, plains_of}
use Rattle.rl_access.proofs.RowLemmas.{rest_wide}
use Rattle.rl_access.proofs.rows.behind_first.Goals as goal

pub returns-in_ok-rest : goal.returns-in_ok-rest
returns-in_ok-rest c =
    subst (λ t. IfOk c.narrower.result (λ rest. rest ≡ t))
    (ap (λ us. tuple (plains_of us)) c.in_ok-rest.ensures ∙ rest_wide c.args.parts.now c.requires.long (λ e. omega arith))
    c.narrower.ensures
