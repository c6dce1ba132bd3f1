use Rattle.std.proofs.Common.{◌≡◌, ◌≤◌, length, drop, None}
use Rattle.rl_store.specs.Scope.{value_of}
use Rattle.rl_store.proofs.scopes.Scopes.innermost_value.Given as goal

abbrev pub invariant-loop-place : goal.invariant-loop-place
invariant-loop-place l = (l.place ≤ length l.self.scopes) × (value_of (drop l.place l.self.scopes) l.variable ≡ None)

abbrev pub decreases-loop-place : goal.decreases-loop-place
decreases-loop-place l = l.place
