-- What the words of the command mean, over these files.
use Rattle.std.specs.Prelude.{ℕ, List, [], Option, Some, None, Result, Ok, Err}
use Rattle.rl_base.specs.Holds.{FileMap}
use Rattle.rl_eval.specs.Evaluation.{Ran, Done, Cut}
use Rattle.rl_eval.specs.Derivation.{derivation}
use Rattle.rl_eval.specs.Preparation.{prepared_of}
use Rattle.rl_syntax.specs.declared.fault.Fault.{Fault}
use Rattle.rl_syntax.specs.declared.module.Modules.{Modules}
use Rattle.rl_modules.specs.Load.{load_of, paths_of}
use Rattle.rl_main.specs.declared.status.Status.{Status}
use Rattle.rl_main.specs.declared.status.Status.TheVariants.{Value, Usage, ModuleFault, Budget}
use Rattle.rl_words.specs.Words.{Asked, asked_of}
use Rattle.rl_main.specs.Lines.{usage_line, fault_line, budget_line}

-- the bytes of out and err, and the status
pub record Meaning : Type 0 where
  pub out : List ℕ
  pub err : List ℕ
  pub status : Status

-- `main` has no result, which counts as 0; a derivation that is cut is the end of the budget
abbrev pub meaning_of_ran : (units : ℕ) → Ran → Meaning
meaning_of_ran units (Done v n printed) = record { out = printed; err = []; status = Value 0 }
meaning_of_ran units (Cut printed) = record { out = printed; err = budget_line units; status = Budget }

abbrev pub meaning_of_program : (units : ℕ) → List (List ℕ) → Meaning
meaning_of_program units texts = meaning_of_ran units (derivation texts units)

abbrev pub meaning_of_fault : Fault → Meaning
meaning_of_fault fault = record { out = []; err = fault_line fault; status = ModuleFault }

-- modules of which no program is made are refused, else the program is run
abbrev pub meaning_of_prepared : (units : ℕ) → Result (List (List ℕ)) Fault → Meaning
meaning_of_prepared units (Err fault) = meaning_of_fault fault
meaning_of_prepared units (Ok texts) = meaning_of_program units texts

-- modules with a fault are refused
abbrev pub meaning_of_loaded : (units : ℕ) → Result Modules Fault → Meaning
meaning_of_loaded units (Err fault) = meaning_of_fault fault
meaning_of_loaded units (Ok modules) = meaning_of_prepared units (prepared_of modules.list)

abbrev pub meaning_of_asked : Option Asked → FileMap → Meaning
meaning_of_asked None files = record { out = []; err = usage_line; status = Usage }
meaning_of_asked (Some asked) files = meaning_of_loaded asked.units (load_of files asked.root asked.name)

abbrev pub meaning : List (List ℕ) → FileMap → Meaning
meaning words files = meaning_of_asked (asked_of words) files

abbrev pub paths_asked : Option Asked → FileMap → List (List ℕ)
paths_asked None files = []
paths_asked (Some asked) files = paths_of files asked.root asked.name

-- the paths of the files that are asked for, in order
abbrev pub paths : List (List ℕ) → FileMap → List (List ℕ)
paths words files = paths_asked (asked_of words) files
