use Rattle.std.proofs.Common.{sym, ap, ◌∙◌}
use Rattle.rl_access.specs.Rows.{is_row}
use Rattle.rl_access.proofs.RowLemmas.{is_row_parts}
use Rattle.rl_access.proofs.rows.is_row.Goals as goal

pub returns-in-Tuple : goal.returns-in-Tuple
returns-in-Tuple c = sym (is_row_parts c.in-Tuple.parts.now) ∙ ap is_row c.in-Tuple.ensures.value
