use Rattle.std.proofs.Common.{◌≡◌, ◌≤◌, length, drop}
use Rattle.rl_tokens.specs.Word.{begins}
use Rattle.rl_tokens.proofs.word.begins_with.Given as goal

abbrev pub invariant-loop-k : goal.invariant-loop-k
invariant-loop-k l = (begins (drop l.k l.word) (drop l.k l.text) ≡ begins l.word l.text) × (l.k ≤ length l.text)
