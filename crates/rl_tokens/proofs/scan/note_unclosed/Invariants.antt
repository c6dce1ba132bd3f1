use Rattle.std.proofs.Common.{◌≡◌, drop}
use Rattle.rl_tokens.specs.Fault.{leftmost_from}
use Rattle.rl_tokens.specs.Scan.{unclosed}
use Rattle.rl_tokens.proofs.scan.note_unclosed.Given as goal

abbrev pub invariant-loop-open : goal.invariant-loop-open
invariant-loop-open l =
    leftmost_from l.faults.first (unclosed (drop l.open-index l.opens)) ≡ leftmost_from l.initial.faults.first (unclosed l.opens)
