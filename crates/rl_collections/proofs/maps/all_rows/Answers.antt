use Rattle.std.proofs.Common.{map, ◌∙◌, ap}
use Rattle.rl_value.specs.View.{pair_of}
use Rattle.rl_collections.specs.Maps.{row}
use Rattle.rl_collections.proofs.MapsLemmas.{row_spoils}
use Rattle.rl_collections.proofs.maps.all_rows.Goals as goal

pub returns-in-Err : goal.returns-in-Err
returns-in-Err c = row_spoils c.args.entries.now c.loop-entry.entry-index c.entry-item.result c.in-Err.end c.loop-entry-test.true c.entry-item.is c.in-Err.ensures
