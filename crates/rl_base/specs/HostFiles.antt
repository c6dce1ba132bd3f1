-- The count of faults of real files.
use Rattle.std.specs.Prelude.{ℕ, Result, Ok, Err}
use Rattle.std.specs.declared.vec.Vec.{Vec}
use Rattle.std.specs.declared.alloc.Global.{Global}
use Rattle.rl_base.specs.Faults.{count_after}
use Rattle.rl_base.specs.declared.files.ReadEnd.{ReadEnd}
use Rattle.rl_base.specs.declared.files.ReadEnd.TheVariants.{Missing, TooLong, Failed, OutOfMemory}

-- it rises where a read failed
abbrev pub faults_after_read : ℕ → Result (Vec ℕ Global) ReadEnd → ℕ
faults_after_read faults (Err Failed) = count_after faults
faults_after_read faults (Err Missing) = faults
faults_after_read faults (Err TooLong) = faults
faults_after_read faults (Err OutOfMemory) = faults
faults_after_read faults (Ok bytes) = faults
