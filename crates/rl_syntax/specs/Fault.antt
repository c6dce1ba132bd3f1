-- Where a fault of a module stands.
use Rattle.std.specs.Prelude.{ℕ, List}
use Rattle.rl_base.specs.declared.place.Place.{Place}
use Rattle.rl_syntax.specs.declared.fault.Fault.{Fault}

-- the path of a file, and a place in it
abbrev pub Spot : Type 0
Spot = List ℕ × Place

abbrev pub fault_at : Spot → (code : ℕ) → Fault
fault_at spot code = record { path = spot.0; place = spot.1; code = code }

-- where a file begins
abbrev pub start : Place
start = record { «module» = 0; offset = 0; line = 1; column = 1 }
