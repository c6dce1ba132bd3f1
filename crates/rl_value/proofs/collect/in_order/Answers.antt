use Rattle.std.proofs.Common.{◌≡◌, [], map, rules, arith}
use Rattle.std.proofs.lemmas.Grind.{common_steps}
use Rattle.rl_value.specs.Entries.{put_all}
use Rattle.rl_value.specs.View.{pair_of}
use Rattle.rl_value.proofs.EntryLemmas.{entries_rise}
use Rattle.rl_value.proofs.collect.in_order.Goals as goal

pub returns-clause-rises : goal.returns-clause-rises
returns-clause-rises c =
    let is : map pair_of c.loop-k.entries.items ≡ put_all [] c.args.pairs.items = first_of (search rules, grind (arith, common_steps)) in
    entries_rise c.loop-k.entries.items c.args.pairs.items is
