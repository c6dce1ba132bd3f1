use Rattle.std.proofs.Common.{[], ap, subst, ◌∙◌}
use Rattle.rl_value.specs.Plain.{mapping, pairs_of}
use Rattle.rl_value.specs.Entries.{put_all}
use Rattle.rl_exception.specs.Answer.{Answers, fitting}
use Rattle.rl_access.proofs.EntryOrder.{put_one}
use Rattle.rl_access.proofs.changes.with_entry.Goals as goal

pub returns : goal.returns
returns c =
    subst (λ ps. Answers (fitting (mapping (pairs_of ps))) c.fitted_map.result)
    (ap (put_all []) c.in_ok-pairs.ensures ∙ put_one c.args.entries.now c.args.key.now c.args.v.now c.requires)
    c.fitted_map.ensures
