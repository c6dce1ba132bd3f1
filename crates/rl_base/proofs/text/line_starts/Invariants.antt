use Rattle.std.proofs.Common.{◌≡◌, ◌++◌, drop}
use Rattle.rl_base.specs.Lines.{line_starts}
use Rattle.rl_base.proofs.text.line_starts.Given as goal

-- the starts so far and those of what is left are those of all
abbrev pub invariant-loop-i : goal.invariant-loop-i
invariant-loop-i l = l.starts.items ++ line_starts l.i (drop l.i l.items) ≡ line_starts 0 l.items
