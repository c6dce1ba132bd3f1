-- Files that keep the paths of their reads.
use Rattle.std.specs.Prelude.{ℕ, List, refl}
use Rattle.std.specs.Coded.{Coded, code_by, coded×, coded_list, coded_ℕ}

-- the files, and the paths of the reads in order
pub record FilesRecorded (F : Type 0) : Type 0 where
  pub files : F
  pub paths : List (List ℕ)

abbrev pub files_recorded_code : {F : Type 0} → Coded F → Coded (FilesRecorded F)
files_recorded_code {F} files = code_by (F × List (List ℕ)) (coded× files (coded_list (coded_list coded_ℕ))) (λ s. (s.files, s.paths)) (λ p. record { files = p.0; paths = p.1 }) (λ _. refl)
