use Rattle.std.proofs.Common.{refl}
use Rattle.rl_tokens.proofs.terminal.terminals_in_order.Goals as goal

pub returns : goal.returns
returns c = record { classes = refl; names = refl; count = refl }
