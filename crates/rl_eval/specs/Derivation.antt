-- The derivation of a program, and what an end of the machine says of it.
use Rattle.std.specs.Prelude.{◌≡◌, ℕ, List, []}
use Rattle.rl_base.specs.Told.{Told, Grows, TakesPart}
use Rattle.rl_eval.specs.declared.form.Form.TheVariants as form
use Rattle.rl_eval.specs.Evaluation.{Ran, Done, Cut, eval, printed}
use Rattle.rl_eval.specs.declared.machine.End.{End}
use Rattle.rl_eval.specs.declared.machine.End.TheVariants.{Value, Failed, Uncaught, Budget, FileFault, SinkFault, OutOfMemory}

-- with these units: that of the one alternative of `main`
abbrev pub derivation : List (List ℕ) → ℕ → Ran
derivation literals n = eval (form.Alternative literals) n []

-- The derivation ended so; what was put out is what it printed, and the units that are left are its own. No form fails or throws yet. Where the outside or memory failed, a front of what it prints was put out.
abbrev pub IsEndOf : Ran → End → Told → Told → ℕ → Type 0
IsEndOf ran (Value v) before after left = (ran ≡ Done v left (printed ran)) × Grows before (printed ran) after
IsEndOf ran (Failed v) before after left = ⊥
IsEndOf ran (Uncaught v) before after left = ⊥
IsEndOf ran Budget before after left = (ran ≡ Cut (printed ran)) × Grows before (printed ran) after × (left ≡ 0)
IsEndOf ran FileFault before after left = TakesPart before (printed ran) after
IsEndOf ran SinkFault before after left = TakesPart before (printed ran) after
IsEndOf ran OutOfMemory before after left = TakesPart before (printed ran) after
