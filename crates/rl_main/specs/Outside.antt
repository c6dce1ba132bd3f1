-- What becomes of the files and the sinks, whatever they tell.
use Rattle.std.specs.Prelude.{◌≡◌, ◌⊎◌, ◌≤◌, ℕ}
use Rattle.rl_base.specs.Faults.{Rose}
use Rattle.rl_base.specs.Holds.{Holds}
use Rattle.rl_main.specs.declared.status.Status.{Status}
use Rattle.rl_main.specs.declared.status.Status.TheVariants.{FileFault, SinkFault}

-- the files, where they say which there are, and the counts of the faults of the files, of out and of err
pub record Outside : Type 0 where
  pub holds : Holds
  pub file_faults : ℕ
  pub out_faults : ℕ
  pub err_faults : ℕ

abbrev pub outside : Holds → (file_faults out_faults err_faults : ℕ) → Outside
outside holds file_faults out_faults err_faults = record { holds = holds; file_faults = file_faults; out_faults = out_faults; err_faults = err_faults }

-- how a run that ends in this status leaves the outside
pub record Leaves (status : Status) (before after : Outside) : Type 0 where
  -- a failed read, or a failed put, is told only where a count of such faults rose
  pub file_fault : status ≡ FileFault → Rose before.file_faults after.file_faults
  pub sink_fault : status ≡ SinkFault → Rose before.out_faults after.out_faults ⊎ Rose before.err_faults after.err_faults
  -- the files stay what they are
  pub held : after.holds ≡ before.holds
  -- no count falls
  pub files_counted : before.file_faults ≤ after.file_faults
  pub out_counted : before.out_faults ≤ after.out_faults
  pub err_counted : before.err_faults ≤ after.err_faults
