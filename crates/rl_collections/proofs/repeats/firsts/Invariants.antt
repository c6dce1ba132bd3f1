use Rattle.std.proofs.Common.{◌≡◌, ◌++◌, [], drop}
use Rattle.std.specs.BTreeSet.{contains}
use Rattle.rl_value.specs.Plain.{Plain}
use Rattle.rl_value.specs.Order.{plain_cmp}
use Rattle.rl_collections.specs.Repeats.{firsts, is_among}
use Rattle.rl_collections.proofs.repeats.firsts.Given as goal

abbrev pub invariant-loop-item : goal.invariant-loop-item
invariant-loop-item l =
    record {
      done : l.firsts.items ++ firsts l.firsts.items (drop l.item-index l.items) ≡ firsts [] l.items;
      seen : (t : Plain) → contains plain_cmp l.seen t ≡ is_among l.firsts.items t;
    }
