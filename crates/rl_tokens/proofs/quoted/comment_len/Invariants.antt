use Rattle.std.proofs.Common.{◌≡◌, drop}
use Rattle.rl_tokens.specs.Quoted.{comment_len_from}
use Rattle.rl_tokens.proofs.quoted.comment_len.Given as goal

abbrev pub invariant-loop-at : goal.invariant-loop-at
invariant-loop-at l = comment_len_from l.at (drop l.at l.text) ≡ comment_len_from 0 l.text
