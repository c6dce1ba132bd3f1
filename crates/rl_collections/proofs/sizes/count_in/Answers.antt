use Rattle.rl_collections.proofs.SizesLemmas.{entry_count}
use Rattle.rl_collections.proofs.sizes.count_in.Goals as goal

pub returns-in-Map : goal.returns-in-Map
returns-in-Map c = entry_count c.args.v.now c.in-Map.entries.now c.in-Map.ensures.value
