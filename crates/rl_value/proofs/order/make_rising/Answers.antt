use Rattle.std.proofs.lemmas.List.Filters.{dedup_is}
use Rattle.std.proofs.lemmas.List.Kept.{IsStrictlySortedBy-dedup, Contains-dedup, Contains-from_dedup}
use Rattle.std.proofs.lemmas.List.Sorted.{Contains-permutation, IsPermutation-sym}
use Rattle.std.proofs.Common.{refl}
use Rattle.rl_value.specs.Order.{plain_cmp}
use Rattle.rl_value.specs.Laws.{plain_eq, plain_eq_equiv, plain_cmp_total, plain_exact, plain_same}
use Rattle.rl_value.proofs.RisingLemmas.{is_rising, Rises-from_sorted}
use Rattle.rl_value.proofs.order.make_rising.Goals as goal

pub returns : goal.returns
returns c =
    let is = dedup_is _ _ _ c.dedup.ensures.filtered in
    let moved = c.sort_unstable.ensures.permutation in
    let rises = Rises-from_sorted plain_cmp _ (IsStrictlySortedBy-dedup plain_cmp_total (λ _ _. refl) _ c.sort_unstable.ensures.sorted) in
    record {
      elements = rw is (is_rising plain_cmp_total plain_exact _ _ rises
          (λ z h. Contains-dedup plain_eq_equiv plain_same _ z (Contains-permutation _ _ z moved h))
          (λ z h. Contains-permutation _ _ z (IsPermutation-sym _ _ moved) (Contains-from_dedup plain_eq _ z h)));
      rises = rw is rises;
    }
