-- Files in memory, with reads that fail.
use Rattle.std.specs.Prelude.{ℕ, Bool, ◌==◌, if◌then◌else◌, List, refl}
use Rattle.std.specs.List.{list_any}
use Rattle.std.specs.Coded.{Coded, code_by, coded×, coded_list, coded_ℕ}
use Rattle.rl_base.specs.Faults.{count_after}
use Rattle.rl_base.specs.Holds.{FileMap, file_map_code}

-- the files, the numbers of the reads that fail, and how many reads and faults there were
pub record FilesState : Type 0 where
  pub files : FileMap
  pub fails : List ℕ
  pub reads : ℕ
  pub faults : ℕ

abbrev pub files_state_code : Coded FilesState
files_state_code =
    code_by (FileMap × (List ℕ × (ℕ × ℕ))) (coded× file_map_code (coded× (coded_list coded_ℕ) (coded× coded_ℕ coded_ℕ))) (λ s. (s.files, (s.fails, (s.reads, s.faults)))) (λ p. record { files = p.0; fails = p.1.0; reads = p.1.1.0; faults = p.1.1.1 }) (λ _. refl)

-- the next read is one of those that fail; they count from 1
abbrev pub next_fails : FilesState → Bool
next_fails s = list_any (λ call. call == count_after s.reads) s.fails

-- a read counts itself, and a fault if it fails; nothing else changes
abbrev pub after_read : FilesState → FilesState
after_read s = record s { reads = count_after s.reads; faults = if next_fails s then count_after s.faults else s.faults }
