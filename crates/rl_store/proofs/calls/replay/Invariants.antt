use Rattle.std.proofs.Common.{◌≡◌, drop}
use Rattle.rl_store.specs.Copies.{copies_of, after_calls, at_first}
use Rattle.rl_store.proofs.calls.replay.Given as goal

abbrev pub invariant-loop-call : goal.invariant-loop-call
invariant-loop-call l = after_calls (drop l.call-index l.calls) (copies_of l.store) ≡ after_calls l.calls at_first
