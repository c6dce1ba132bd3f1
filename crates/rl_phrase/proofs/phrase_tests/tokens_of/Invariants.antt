use Rattle.std.proofs.Common.{◌≡◌, length}
use Rattle.rl_phrase.proofs.phrase_tests.tokens_of.Given as goal

abbrev pub invariant-loop-kind : goal.invariant-loop-kind
invariant-loop-kind l = length l.list ≡ l.kind-index
