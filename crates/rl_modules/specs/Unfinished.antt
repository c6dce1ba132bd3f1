-- What is left to do while modules are loaded.
use Rattle.std.specs.Prelude.{◌≡◌, ◌≢◌, ℕ, ◌-◌, ◌<◌, ◌≤◌, List, [], ◌∷◌, ◌++◌, length, drop, map, Some, None, Result, Ok, Err, IfSome}
use Rattle.std.specs.List.{All, AllPairs, slice_get}
use Rattle.rl_base.specs.Asked.{Asked, asked_after}
use Rattle.rl_base.specs.Holds.{FileMap}
use Rattle.rl_syntax.specs.declared.module.Module.{Module}
use Rattle.rl_syntax.specs.declared.module.Modules.{Modules}
use Rattle.rl_syntax.specs.declared.declaration.Decl.{Decl}
use Rattle.rl_modules.specs.declared.loaded.LoadEnd.{LoadEnd}
use Rattle.rl_modules.specs.declared.loader.Unfinished.{Unfinished}
use Rattle.rl_modules.specs.declared.loader.Loader.{Loader}
use Rattle.rl_modules.specs.Complete.{EachOnce}
use Rattle.rl_modules.specs.Load.{Loading, Asks, IsLoaded, asking, gives, and_then, in_turn, import_of, wanted, names_of, load_import, load_within, with_finished, most_modules}

-- the rest of a module: its further imports, and then it is finished
abbrev pub rest_of : ℕ → FileMap → List ℕ → Unfinished → Modules → Loading
rest_of k files root unfinished met =
    and_then (in_turn (load_import (load_within k files root) unfinished.path) (drop unfinished.next unfinished.declarations) met) (λ loaded.
    gives (with_finished unfinished.number loaded))

-- the rests of the modules that are not finished, the last one first; each is nested one deeper than the one before it
unfoldable pub rests_of : ℕ → FileMap → List ℕ → List Unfinished → Modules → Loading
rests_of k files root [] met = gives met
rests_of k files root (one ∷ more) met = and_then (rests_of (k - 1) files root more met) (rest_of k files root one)

abbrev pub met_by : Loader → Modules
met_by loader = record { list = loader.list.items; finished = loader.finished.items }

-- what comes of all that a loader has not finished
abbrev pub outcome_of : FileMap → List ℕ → Loader → Loading
outcome_of files root loader = rests_of (most_modules - 1) files root loader.unfinished.items (met_by loader)

-- a module as it is opened
abbrev pub opened : ℕ → Module → Unfinished
opened number it = record { number = number; path = it.path; declarations = it.declarations; next = 0 }

-- nothing is wanted from one place up to another
abbrev pub SkipsTo : (names : List (List ℕ)) → List Decl → (start end : ℕ) → Type 0
SkipsTo names declarations start end = (k : ℕ) → start ≤ k → k < end → IfSome (slice_get declarations k) (λ declaration. wanted names (import_of declaration) ≡ None)

-- the names are those of the modules that were met, of which there are not too many, and each one that is not finished is among them
pub record IsSound (loader : Loader) : Type 0 where
  pub named : loader.names ≡ names_of loader.list.items
  pub few : length loader.list.items ≤ most_modules
  pub nested : length loader.unfinished.items ≤ length loader.list.items

-- all that the module of this number imports was met
abbrev pub ImportsAreMet : List Module → (number : ℕ) → Type 0
ImportsAreMet list number = (it : Module) × (slice_get list number ≡ Some it) × SkipsTo (names_of list) it.declarations 0 (length it.declarations)

-- a module of the list is not finished, and all that it imports before its next declaration was met
abbrev pub IsBegun : List Module → Unfinished → Type 0
IsBegun list one = (it : Module) × (slice_get list one.number ≡ Some it) × (it.declarations ≡ one.declarations) × SkipsTo (names_of list) one.declarations 0 one.next

-- these modules were met, with names of their own and each at its number, and each of them is finished or one of those that are not, once
pub record IsUnderWay (list : List Module) (finished : List ℕ) (unfinished : List Unfinished) : Type 0 where
  pub some : 1 ≤ length list
  pub distinct : AllPairs (λ a b. a ≢ b) (names_of list)
  pub numbered : (k : ℕ) → IfSome (slice_get list k) (λ it. it.place.«module» ≡ k)
  pub once : EachOnce (length list) (finished ++ map (λ one. one.number) unfinished)
  pub met : All (ImportsAreMet list) finished
  pub begun : All (IsBegun list) unfinished

-- a module was added
pub record Opens (it : Module) (old new : Loader) : Type 0 where
  pub sound : IsSound new
  pub list : new.list.items ≡ old.list.items ++ it ∷ []
  pub finished : new.finished.items ≡ old.finished.items
  pub unfinished : new.unfinished.items ≡ old.unfinished.items ++ opened (length old.list.items) it ∷ []

-- a module was finished
pub record Finishes (number : ℕ) (old new : Loader) : Type 0 where
  pub list : new.list.items ≡ old.list.items
  pub names : new.names ≡ old.names
  pub finished : new.finished.items ≡ old.finished.items ++ number ∷ []
  pub unfinished : new.unfinished.items ≡ old.unfinished.items

-- the rest of a module was put off
pub record PutsOff (one : Unfinished) (old new : Loader) : Type 0 where
  pub list : new.list.items ≡ old.list.items
  pub names : new.names ≡ old.names
  pub finished : new.finished.items ≡ old.finished.items
  pub unfinished : new.unfinished.items ≡ old.unfinished.items ++ one ∷ []

-- What was left to do asks for some paths, and what comes after them is left; or it ends so, unless the outside or memory failed.
abbrev pub GoesOn : {A : Type 0} → (before : Loading) → Asked → Result A LoadEnd → Asked → (after : Loading) → Type 0
GoesOn before asked (Ok _) asked' after = (paths : List (List ℕ)) × (before ≡ asking paths after) × (asked' ≡ asked_after asked paths)
GoesOn before asked (Err end) asked' after = IsLoaded {A = Modules} before.outcome (Err end) × Asks {A = Modules} before.asked asked (Err end) asked'
