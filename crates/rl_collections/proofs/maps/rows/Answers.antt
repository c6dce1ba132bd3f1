use Rattle.std.proofs.Common.{map}
use Rattle.rl_value.specs.View.{pair_of}
use Rattle.rl_arguments.specs.Arguments.{list_of}
use Rattle.rl_collections.specs.Maps.{row}
use Rattle.rl_collections.proofs.MapsLemmas.{rows_unbuilt}
use Rattle.rl_collections.proofs.maps.rows.Goals as goal

pub returns-in-Err : goal.returns-in-Err
returns-in-Err c = c.unbuilt.ensures (list_of (map row (map pair_of c.args.entries.now))) (rows_unbuilt c.args.entries.now c.in-Err.end c.in-Err.ensures)
