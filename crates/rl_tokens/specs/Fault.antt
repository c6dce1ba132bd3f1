-- Faults of a text, and the leftmost of them.
use Rattle.std.specs.Prelude.{◌≡◌, ℕ, List, [], ◌∷◌, Option, Some, None, if◌then◌else◌, nat_le}
use Rattle.rl_tokens.specs.declared.fault.Flaw.{Flaw}
use Rattle.rl_tokens.specs.declared.fault.Flaw.TheVariants as flaw
use Rattle.rl_tokens.specs.declared.fault.Fault.{Fault}
use Rattle.rl_tokens.specs.declared.fault.Faults.{Faults}
use Rattle.rl_tokens.specs.declared.fault.TokenFault.{TokenFault}
use Rattle.rl_tokens.specs.declared.fault.TokenFault.TheVariants.{BadCharacter, OpenString, OpenComment, WideNumber, BadEscape}

-- the one further left
abbrev pub sooner : Option Fault → Fault → Option Fault
sooner None fault = Some fault
sooner (Some first) fault = if nat_le first.offset fault.offset then Some first else Some fault

-- the leftmost of the faults and of one that is known already
abbrev pub leftmost_from : Option Fault → List Fault → Option Fault
leftmost_from first [] = first
leftmost_from first (fault ∷ faults) = leftmost_from (sooner first fault) faults

-- the leftmost of the faults noted, after these
abbrev pub Notes : Faults → Faults → List Fault → Type 0
Notes old new faults = new.first ≡ leftmost_from old.first faults

abbrev pub leftmost : List Fault → Option Fault
leftmost faults = leftmost_from None faults

-- the fault as the caller is told it
abbrev pub told_as : Flaw → ℕ → TokenFault
told_as flaw.BadCharacter offset = BadCharacter offset
told_as flaw.OpenString offset = OpenString offset
told_as flaw.OpenComment offset = OpenComment offset
told_as flaw.WideNumber offset = WideNumber offset
told_as flaw.BadEscape offset = BadEscape offset

abbrev pub told : Fault → TokenFault
told fault = told_as fault.flaw fault.offset
