use Rattle.std.proofs.Common.{◌≡◌, drop}
use Rattle.rl_tokens.specs.Number.{number_from}
use Rattle.rl_tokens.proofs.number.is_wide.Given as goal

abbrev pub invariant-loop-c : goal.invariant-loop-c
invariant-loop-c l = number_from l.number (drop l.c-index l.digits) ≡ number_from 0 l.digits
