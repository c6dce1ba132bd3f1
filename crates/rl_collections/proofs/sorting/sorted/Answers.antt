use Rattle.std.proofs.Common.{subst, IsPermutation}
use Rattle.rl_collections.proofs.SortingLemmas.{is_sorted}
use Rattle.rl_collections.proofs.sorting.sorted.Goals as goal

pub returns : goal.returns
returns c =
    is_sorted c.args.items.now c.sort_unstable.new.self.items (subst (λ xs. IsPermutation xs c.sort_unstable.new.self.items) c.in_ok-sorted.ensures c.sort_unstable.ensures.permutation)
    c.sort_unstable.ensures.sorted
