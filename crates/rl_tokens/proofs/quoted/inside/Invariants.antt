use Rattle.std.proofs.Common.{◌≡◌, ◌+◌, ◌-◌, ◌≤◌, length, drop}
use Rattle.rl_tokens.specs.Fault.{leftmost_from}
use Rattle.rl_tokens.specs.declared.quoted.Before.TheVariants.{Nothing}
use Rattle.rl_tokens.specs.Quoted as spec
use Rattle.rl_tokens.proofs.quoted.inside.Given as goal

-- what is left reads as the whole does, with the faults so far
abbrev pub invariant-loop-at : goal.invariant-loop-at
invariant-loop-at l =
    let left = spec.inside l.form 0 l.before (l.offset + l.at) (drop l.at l.text) in
    let whole = spec.inside l.form 0 Nothing l.offset l.text in
    record {
      within : l.at ≤ length l.text;
      quoted : left.quoted ≡ whole.quoted;
      faults : leftmost_from l.faults.first left.faults ≡ leftmost_from l.initial.faults.first whole.faults;
    }

abbrev pub decreases-loop-at : goal.decreases-loop-at
decreases-loop-at l = length l.text - l.at
