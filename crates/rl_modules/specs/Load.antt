-- How modules are loaded: depth first, in text order, each once.
use Rattle.std.specs.Prelude.{◌≡◌, ℕ, zero, suc, ◌+◌, ◌^◌, ◌<◌, ◌||◌, nat_le, if◌then◌else◌, List, [], ◌∷◌, ◌++◌, length, map, take, Option, Some, None, Result, Ok, Err}
use Rattle.std.specs.List.{list_any}
use Rattle.std.specs.Str.{bytes_eq}
use Rattle.rl_base.specs.Asked.{Asked, asked_after}
use Rattle.rl_base.specs.Holds.{FileMap, file_at}
use Rattle.rl_base.specs.declared.place.Place.{Place}
use Rattle.rl_syntax.specs.Fault.{Spot, fault_at, start}
use Rattle.rl_syntax.specs.declared.fault.Fault.{Fault}
use Rattle.rl_syntax.specs.declared.module.Module.{Module}
use Rattle.rl_syntax.specs.declared.module.Modules.{Modules}
use Rattle.rl_syntax.specs.declared.declaration.Decl.{Decl}
use Rattle.rl_syntax.specs.declared.declaration.Decl.TheVariants as d
use Rattle.rl_reader.specs.Read.{Reading, Read, Refused, read_of}
use Rattle.rl_modules.specs.declared.loaded.LoadEnd.{LoadEnd}
use Rattle.rl_modules.specs.declared.loaded.LoadEnd.TheVariants as end
use Rattle.rl_visibility.specs.BuiltIn.{is_built_in}
use Rattle.rl_modules.specs.Path.{path_of}

-- a part of loading: the paths of the files that it asks for, in order, and what it gives, or the first fault
pub record Part (A : Type 0) : Type 0 where
  pub asked : List (List ℕ)
  pub outcome : Result A Fault

-- the modules that were met and those that are finished
abbrev pub Loading : Type 0
Loading = Part Modules

-- asks for these paths first
abbrev pub asking : {A : Type 0} → List (List ℕ) → Part A → Part A
asking paths part = record { asked = paths ++ part.asked; outcome = part.outcome }

abbrev pub gives : {A : Type 0} → A → Part A
gives x = record { asked = []; outcome = Ok x }

abbrev pub refuses : {A : Type 0} → Fault → Part A
refuses fault = record { asked = []; outcome = Err fault }

-- goes on where there was no fault
abbrev pub go_on : {A B : Type 0} → Result A Fault → (A → Part B) → Part B
go_on (Err fault) go = refuses fault
go_on (Ok x) go = go x

abbrev pub and_then : {A B : Type 0} → Part A → (A → Part B) → Part B
and_then part go = asking part.asked (go_on part.outcome go)

-- one after another, up to the first fault
abbrev pub in_turn : {A : Type 0} → (A → Modules → Loading) → List A → Modules → Loading
in_turn load [] met = gives met
in_turn load (x ∷ xs) met = and_then (load x met) (in_turn load xs)

-- what a module reads as, or its fault
abbrev pub reading_at : List ℕ → Reading → Result Module Fault
reading_at path (Read it) = Ok it
reading_at path (Refused place code) = Err (fault_at (path, place) code)

-- Where a fault stands on the way to a module: at its import, or at the start of its own path where it is the root. Faults of its text stand in its own file. M1 where its file is missing, M2 where it is too long.
abbrev pub file_read : Spot → (number : ℕ) → (path name : List ℕ) → Option (List ℕ) → Result Module Fault
file_read spot number path name None = Err (fault_at spot 1)
file_read spot number path name (Some bytes) =
    if nat_le (length bytes) (2 ^ 24) then reading_at path (read_of number path name bytes) else Err (fault_at spot 2)

-- its file is asked for
abbrev pub module_read : FileMap → (root : List ℕ) → Spot → (number : ℕ) → (name : List ℕ) → Part Module
module_read files root spot number name =
    let path = path_of root name in record { asked = path ∷ []; outcome = file_read spot number path name (file_at files path) }

-- what an import or extend names, and where it stands
abbrev pub import_of : Decl → Option (Place × List ℕ)
import_of (d.Import place name) = Some (place, name)
import_of (d.Extend place name) = Some (place, name)
import_of declaration = None

abbrev pub names_of : List Module → List (List ℕ)
names_of modules = map (λ it. it.name) modules

-- the module that an import or extend names, unless it is built in or was met
abbrev pub wanted : (names : List (List ℕ)) → Option (Place × List ℕ) → Option (Place × List ℕ)
wanted names None = None
wanted names (Some found) = if is_built_in found.1 || list_any (bytes_eq found.1) names then None else Some found

-- loads what is wanted, if anything is
abbrev pub load_wanted : (Spot → List ℕ → Modules → Loading) → (path : List ℕ) → Option (Place × List ℕ) → Modules → Loading
load_wanted load path None met = gives met
load_wanted load path (Some found) met = load (path, found.0) found.1 met

abbrev pub load_import : (Spot → List ℕ → Modules → Loading) → (path : List ℕ) → Decl → Modules → Loading
load_import load path declaration met = load_wanted load path (wanted (names_of met.list) (import_of declaration)) met

abbrev pub with_module : Module → Modules → Modules
with_module it met = record { list = met.list ++ it ∷ []; finished = met.finished }

abbrev pub with_finished : ℕ → Modules → Modules
with_finished number met = record { list = met.list; finished = met.finished ++ number ∷ [] }

abbrev pub most_modules : ℕ
most_modules = 1000

-- A module has the number of modules that were met before it. Its file is read, then its imports and extends are loaded in turn, and then it is finished. One that is too many is M13, before its file is read. Each module within another is one more that was met, so that none nests deeper than there may be modules.
unfoldable pub load_within : ℕ → FileMap → (root : List ℕ) → Spot → (name : List ℕ) → Modules → Loading
load_within zero files root spot name met = refuses (fault_at spot 13)
load_within (suc k) files root spot name met =
    let number = length met.list in
    if nat_le most_modules number then refuses (fault_at spot 13)
    else and_then (module_read files root spot number name) (λ it.
    and_then (in_turn (load_import (load_within k files root) it.path) it.declarations (with_module it met)) (λ loaded.
    gives (with_finished number loaded)))

abbrev pub no_modules : Modules
no_modules = record { list = []; finished = [] }

-- from the root on, which is read from its file whatever its name is
abbrev pub loading_of : FileMap → (root name : List ℕ) → Loading
loading_of files root name = load_within most_modules files root (path_of root name, start) name no_modules

-- the modules of a program, or the first fault
abbrev pub load_of : FileMap → (root name : List ℕ) → Result Modules Fault
load_of files root name = (loading_of files root name).outcome

-- the paths of the files that are asked for, in order
abbrev pub paths_of : FileMap → (root name : List ℕ) → List (List ℕ)
paths_of files root name = (loading_of files root name).asked

-- it is loaded so, unless the outside or memory failed
abbrev pub IsLoaded : {A : Type 0} → Result A Fault → Result A LoadEnd → Type 0
IsLoaded meant (Ok loaded) = meant ≡ Ok loaded
IsLoaded meant (Err (end.Fault fault)) = meant ≡ Err fault
IsLoaded meant (Err end.FileFault) = Unit {0}
IsLoaded meant (Err end.OutOfMemory) = Unit {0}

-- Which of these paths are asked for: all of them, where there is an answer or a fault. Where a read fails, it is that of the last path that is asked for, and those before it are asked for too. Where memory is wanting, a front of them is asked for.
abbrev pub Asks : {A : Type 0} → List (List ℕ) → Asked → Result A LoadEnd → Asked → Type 0
Asks paths before (Ok _) after = after ≡ asked_after before paths
Asks paths before (Err (end.Fault fault)) after = after ≡ asked_after before paths
Asks paths before (Err end.FileFault) after = (last : ℕ) × (last < length paths) × (after ≡ asked_after before (take (last + 1) paths))
Asks paths before (Err end.OutOfMemory) after = (count : ℕ) × (after ≡ asked_after before (take count paths))
