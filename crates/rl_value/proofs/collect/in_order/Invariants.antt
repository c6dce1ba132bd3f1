use Rattle.std.proofs.Common.{◌≡◌, ◌++◌, [], map}
use Rattle.rl_value.specs.Entries.{put_all}
use Rattle.rl_value.specs.View.{pair_of}
use Rattle.rl_value.proofs.collect.in_order.Given as goal

abbrev pub invariant-loop-key : goal.invariant-loop-key
invariant-loop-key l = put_all l.ordered.entries l.key-iterator.rest.items ≡ put_all [] l.fn.pairs.items

abbrev pub invariant-loop-k : goal.invariant-loop-k
invariant-loop-k l = map pair_of l.entries.items ++ l.k-iterator ≡ put_all [] l.fn.pairs.items
