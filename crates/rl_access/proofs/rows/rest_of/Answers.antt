use Rattle.std.proofs.Common.{ap, ◌∙◌}
use Rattle.rl_access.specs.Rows.{is_row}
use Rattle.rl_access.proofs.RowLemmas.{is_row_length}
use Rattle.rl_access.proofs.rows.rest_of.Goals as goal

pub behind_first-requires-clause-long : goal.behind_first-requires-clause-long
behind_first-requires-clause-long c = is_row_length c.in-Tuple.parts.now (ap is_row c.in-Tuple.ensures.value ∙ c.requires)
