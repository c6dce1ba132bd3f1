-- The lines on err.
use Rattle.std.specs.Prelude.{ℕ, List, [], ◌∷◌, ◌++◌, codes}
use Rattle.std.specs.Fmt.{decimal}
use Rattle.rl_syntax.specs.declared.fault.Fault.{Fault}

abbrev pub usage_line : List ℕ
usage_line = codes "usage: rascal JOB MODULE [ARG].. [--root DIR] [--steps N]" ++ 10 ∷ []

-- PATH:LINE:COLUMN: CODE
abbrev pub fault_line : Fault → List ℕ
fault_line fault = fault.path ++ codes ":" ++ decimal fault.place.line ++ codes ":" ++ decimal fault.place.column ++ codes ": M" ++ decimal fault.code ++ 10 ∷ []

abbrev pub budget_line : (units : ℕ) → List ℕ
budget_line units = codes "budget: " ++ decimal units ++ 10 ∷ []
