use Rattle.std.proofs.Common.{subst, sym}
use Rattle.std.specs.List.{dedup}
use Rattle.std.proofs.lemmas.List.Filters.{dedup_is}
use Rattle.std.proofs.lemmas.List.Kept.{Contains-dedup}
use Rattle.rl_value.specs.Laws.{plain_eq, plain_eq_equiv, plain_same}
use Rattle.rl_value.specs.Rising.{In}
use Rattle.rl_value.proofs.RisingLemmas.{In-from_Contains, Contains-from_In}
use Rattle.rl_relation.proofs.closures.starts.Goals as goal

pub returns : goal.returns
returns c =
    λ x h.
    let is = dedup_is _ _ _ c.dedup.ensures.filtered in
    subst (In x) (sym is)
    (In-from_Contains (dedup plain_eq c.in_ok-starts.starts.items) x
    (Contains-dedup plain_eq_equiv plain_same c.in_ok-starts.starts.items x
    (Contains-from_In c.in_ok-starts.starts.items x (subst (In x) (sym c.in_ok-starts.ensures) h))))
