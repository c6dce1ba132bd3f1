-- The exit status of each ending.
use Rattle.std.specs.Prelude.{ℕ}
use Rattle.rl_main.specs.declared.status.Status.{Status}
use Rattle.rl_main.specs.declared.status.Status.TheVariants.{Value, Usage, ModuleFault, FileFault, InputFault, Uncaught, Failed, ValueRange, SinkFault, OutOfMemory, Budget}

abbrev pub code_of : Status → ℕ
code_of (Value n) = n
code_of Usage = 64
code_of ModuleFault = 65
code_of FileFault = 66
code_of InputFault = 67
code_of Uncaught = 69
code_of Failed = 70
code_of ValueRange = 71
code_of SinkFault = 73
code_of OutOfMemory = 74
code_of Budget = 75
