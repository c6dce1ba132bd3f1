-- What an ending of the run loop says of an evaluation.
use Rattle.std.specs.Prelude.{◌≡◌, ℕ}
use Rattle.rl_base.specs.Told.{Told, Grows}
use Rattle.rl_eval.specs.Evaluation as evaluation
use Rattle.rl_eval.specs.Evaluation.{Ran, printed}
use Rattle.rl_eval.specs.declared.machine.Ending.{Ending}
use Rattle.rl_eval.specs.declared.machine.Ending.TheVariants.{Done, Cut}

-- it ended so, with these units left, and what was put out is what it printed
abbrev pub IsEndingOf : Ran → Ending → Told → Told → ℕ → Type 0
IsEndingOf ran (Done v) before after left = (ran ≡ evaluation.Done v left (printed ran)) × Grows before (printed ran) after
IsEndingOf ran Cut before after left = (ran ≡ evaluation.Cut (printed ran)) × Grows before (printed ran) after × (left ≡ 0)
