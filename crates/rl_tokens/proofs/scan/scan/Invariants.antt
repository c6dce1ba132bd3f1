use Rattle.std.proofs.Common.{◌≡◌, ◌++◌, ◌-◌, ◌≤◌, false, [], length, drop, None}
use Rattle.rl_tokens.specs.Fault.{leftmost_from}
use Rattle.rl_tokens.specs.Placed.{IsPlaced}
use Rattle.rl_tokens.specs.Scan as spec
use Rattle.rl_tokens.proofs.scan.scan.Given as goal

-- the tokens and faults so far, with those of what is left, are those of the whole text
abbrev pub invariant-loop-at : goal.invariant-loop-at
invariant-loop-at l =
    let left = spec.scan 0 l.grammar l.opens.items l.at (drop l.at l.text) in
    let whole = spec.scan 0 false [] 0 l.text in
    record {
      within : l.at ≤ length l.text;
      placed : IsPlaced l.text 0 l.at l.list;
      few : length l.list ≤ l.at;
      tokens : l.list ++ left.tokens ≡ whole.tokens;
      faults : leftmost_from l.faults.first left.faults ≡ leftmost_from None whole.faults;
    }

abbrev pub decreases-loop-at : goal.decreases-loop-at
decreases-loop-at l = length l.text - l.at
