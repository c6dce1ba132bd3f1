use Rattle.std.proofs.Common.{inl, inr, ◌∙◌}
use Rattle.std.specs.BTreeSet.{contains}
use Rattle.rl_value.specs.Order.{plain_cmp}
use Rattle.rl_relation.proofs.PathLemmas.{seen_from}
use Rattle.rl_relation.proofs.closures.is_new.Goals as goal

pub returns-clause-kept : goal.returns-clause-kept
returns-clause-kept c =
    λ q e.
    elim (seen_from c.in_ok-share.field-0 q (contains plain_cmp c.args.seen.now q) (contains plain_cmp c.insert.new.self q) (c.in_ok-new.ensures.updates.0 q) e) [
      | inl k ↦ inl k
      | inr k ↦ inr (k ∙ c.in_ok-share.ensures)
    ]
