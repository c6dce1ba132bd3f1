-- What a step of the loader comes to.
use Rattle.std.proofs.Common.{◌≡◌, ℕ, zero, suc, ◌+◌, ◌-◌, ◌<◌, ◌≤◌, List, [], ◌∷◌, ◌++◌, length, take, Some, None, Result, Ok, Err, IfSome, IsErrAnd, false, arith, sym, subst, ap, ◌∙◌, refl, length-append}
use Rattle.std.specs.List.{slice_get, list_any}
use Rattle.std.specs.Str.{bytes_eq}
use Rattle.rl_base.specs.Asked.{Asked, asked_after}
use Rattle.rl_base.specs.Holds.{FileMap, Holds}
use Rattle.rl_base.specs.declared.place.Place.{Place}
use Rattle.rl_syntax.specs.Fault.{fault_at}
use Rattle.rl_syntax.specs.declared.fault.Fault.{Fault}
use Rattle.rl_syntax.specs.declared.module.Module.{Module}
use Rattle.rl_syntax.specs.declared.module.Modules.{Modules}
use Rattle.rl_syntax.specs.declared.declaration.Decl.{Decl}
use Rattle.rl_modules.specs.declared.loaded.LoadEnd.{LoadEnd}
use Rattle.rl_modules.specs.declared.loaded.LoadEnd.TheVariants as end
use Rattle.rl_modules.specs.declared.loader.Unfinished.{Unfinished}
use Rattle.rl_modules.specs.declared.loader.Loader.{Loader}
use Rattle.rl_modules.specs.Load.{Loading, Asks, no_modules, IsLoaded, asking, import_of, wanted, names_of, module_read, most_modules}
use Rattle.rl_modules.specs.Path.{path_of}
use Rattle.rl_modules.specs.Unfinished.{rests_of, outcome_of, met_by, SkipsTo, IsSound, IsUnderWay, Opens, Finishes, PutsOff, GoesOn}
use Rattle.rl_modules.proofs.Asked.{asked_after-nil, asked_after-append, take-behind}
use Rattle.rl_modules.proofs.Steps.{Wants, asking-append, rests_of-finishes, rests_of-opens, rests_of-asks, rests_of-fault, rests_of-many, wanted_at-new}
use Rattle.rl_modules.proofs.UnderWay.{opens, finishes}

abbrev as_loading : Result Module Fault → Result Modules Fault
as_loading (Ok it) = Ok no_modules
as_loading (Err e) = Err e

-- A part that ends.

-- of a file that is asked for first, before others
pub asks-first : (path : List ℕ) (more : List (List ℕ)) (a a' : Asked) (e : LoadEnd) → (((fault : Fault) → e ≡ end.Fault fault → ⊥)) → Asks {A = Module} (path ∷ []) a (Err e) a' → Asks {A = Modules} (path ∷ more) a (Err e) a'
asks-first path more a a' (end.Fault fault) never h = absurd (never fault refl)
asks-first path more a a' end.FileFault never h = (0, omega arith, h.2 ∙ ap (asked_after a) (only path h.0 h.1)) where
  only : (path : List ℕ) (last : ℕ) → last < length (path ∷ []) → take (last + 1) (path ∷ []) ≡ path ∷ []
  only path zero l = refl
  only path (suc last) l = absurd (omega arith)
asks-first path more a a' end.OutOfMemory never (zero, h) = (0, h)
asks-first path more a a' end.OutOfMemory never (suc count, h) = (1, h ∙ ap (asked_after a) (whole count)) where
  whole : (count : ℕ) → path ∷ take count [] ≡ path ∷ []
  whole zero = refl
  whole (suc count) = refl

-- a module is finished
pub goes-finished : (holds : Holds) (root : List ℕ) (a : Asked) (old new : Loader) (one : Unfinished) → IsSound old → SkipsTo old.names one.declarations one.next (length one.declarations) → Finishes one.number old new
    → IfSome holds (λ held. GoesOn {A = Unit {0}} (rests_of (most_modules - 1) held root (old.unfinished.items ++ one ∷ []) (met_by old)) a (Ok tt) a (outcome_of held root new))
goes-finished None root a old new one sound h f = tt
goes-finished (Some held) root a old new one sound h f =
    ([], rw (f.list, f.finished, f.unfinished) (sym (rests_of-finishes 999 held root old.unfinished.items one (met_by old) (rw sound.named at h))), asked_after-nil a)

-- what the last module wants, by the names that the loader keeps
pub record Finds (old : Loader) (one : Unfinished) (ds : List Decl) (path : List ℕ) (number : ℕ) (place : Place) (name : List ℕ) (i : ℕ) : Type 0 where
  pub sound : IsSound old
  pub declarations : ds ≡ one.declarations
  pub path_is : path ≡ one.path
  pub number_is : number ≡ length old.list.items
  pub skips : SkipsTo old.names ds one.next i
  pub behind : one.next ≤ i
  pub within : i < length ds
  pub found : IfSome (slice_get ds i) (λ d. wanted old.names (import_of d) ≡ Some (place, name))
  pub nested : length old.unfinished.items < length old.list.items

wants : (old : Loader) (one : Unfinished) (ds : List Decl) (path : List ℕ) (number : ℕ) (place : Place) (name : List ℕ) (i : ℕ) → Finds old one ds path number place name i → Wants one (met_by old) (place, name) i
wants old one ds path number place name i f = record {
  skips = rw (f.declarations, f.sound.named) at f.skips;
  behind = f.behind;
  within = rw f.declarations at f.within;
  finds = rw (f.declarations, f.sound.named) at f.found;
}

-- a module is opened
pub goes-opened : (holds : Holds) (root : List ℕ) (a a' : Asked) (old mid new : Loader) (one : Unfinished) (ds : List Decl) (path : List ℕ) (number : ℕ) (place : Place) (name : List ℕ) (i : ℕ) (it : Module) → Finds old one ds path number place name i
    → number < 1000 → IfSome holds (λ held. (module_read held root (path, place) number name).outcome ≡ Ok it)
    → a' ≡ asked_after a (path_of root name ∷ [])
    → PutsOff (record one { next = i + 1 }) old mid → Opens it mid new
    → IfSome holds (λ held. GoesOn {A = Unit {0}} (rests_of (most_modules - 1) held root (old.unfinished.items ++ one ∷ []) (met_by old)) a (Ok tt) a' (outcome_of held root new))
goes-opened None root a a' old mid new one ds path number place name i it f few h asked p o = tt
goes-opened (Some held) root a a' old mid new one ds path number place name i it f few h asked p o = (
  path_of root name ∷ [],
  rw (o.list, o.finished, o.unfinished, p.list, p.finished, p.unfinished)
      (sym (rests_of-opens held root old.unfinished.items one (met_by old) (place, name) i it (wants old one ds path number place name i f) f.nested (rw f.number_is at few) (rw (f.number_is, f.path_is) at h))),
  asked,
)

-- the file of the module that is wanted was asked for
asks-wanted : (held : FileMap) (root : List ℕ) (a a' : Asked) (old : Loader) (one : Unfinished) (ds : List Decl) (path : List ℕ) (number : ℕ) (place : Place) (name : List ℕ) (i : ℕ) (e : LoadEnd) → Finds old one ds path number place name i
    → number < 1000 → (((fault : Fault) → e ≡ end.Fault fault → ⊥)) → Asks {A = Module} (path_of root name ∷ []) a (Err e) a'
    → Asks {A = Modules} (rests_of (most_modules - 1) held root (old.unfinished.items ++ one ∷ []) (met_by old)).asked a (Err e) a'
asks-wanted held root a a' old one ds path number place name i e f few never h =
    let first = rests_of-asks held root old.unfinished.items one (met_by old) (place, name) i (wants old one ds path number place name i f) f.nested (rw f.number_is at few) in
    let P : List (List ℕ) → Type 0 = λ paths. Asks {A = Modules} paths a (Err e) a' in
    subst P (sym first.1) (asks-first (path_of root name) first.0 a a' e never h)

-- the module that is wanted has a fault
pub goes-fault : (holds : Holds) (root : List ℕ) (a a' : Asked) (old : Loader) (after : FileMap → Loading) (one : Unfinished) (ds : List Decl) (path : List ℕ) (number : ℕ) (place : Place) (name : List ℕ) (i : ℕ) (e : LoadEnd) → Finds old one ds path number place name i
    → number < 1000 → IfSome holds (λ held. IsLoaded (module_read held root (path, place) number name).outcome (Err e))
    → Asks {A = Module} (path_of root name ∷ []) a (Err e) a'
    → IfSome holds (λ held. GoesOn {A = Unit {0}} (rests_of (most_modules - 1) held root (old.unfinished.items ++ one ∷ []) (met_by old)) a (Err e) a' (after held))
goes-fault None root a a' old after one ds path number place name i e f few h asked = tt
goes-fault (Some held) root a a' old after one ds path number place name i (end.Fault fault) f few h asked =
    rw (rests_of-fault held root old.unfinished.items one (met_by old) (place, name) i fault (wants old one ds path number place name i f) f.nested (rw f.number_is at few) (rw (f.number_is, f.path_is) at h)) (refl, asked)
goes-fault (Some held) root a a' old after one ds path number place name i end.FileFault f few h asked =
    (tt, asks-wanted held root a a' old one ds path number place name i end.FileFault f few (λ fault e. absurd cc) asked)
goes-fault (Some held) root a a' old after one ds path number place name i end.OutOfMemory f few h asked =
    (tt, asks-wanted held root a a' old one ds path number place name i end.OutOfMemory f few (λ fault e. absurd cc) asked)

-- memory is wanting once its file was read
pub goes-memory : (holds : Holds) (root : List ℕ) (a a' : Asked) (old : Loader) (after : FileMap → Loading) (one : Unfinished) (ds : List Decl) (path : List ℕ) (number : ℕ) (place : Place) (name : List ℕ) (i : ℕ) (r : Result (Unit {0}) LoadEnd) → IsErrAnd r (λ e. e ≡ end.OutOfMemory) → Finds old one ds path number place name i
    → number < 1000 → a' ≡ asked_after a (path_of root name ∷ [])
    → IfSome holds (λ held. GoesOn {A = Unit {0}} (rests_of (most_modules - 1) held root (old.unfinished.items ++ one ∷ []) (met_by old)) a r a' (after held))
goes-memory holds root a a' old after one ds path number place name i (Ok u) h f few asked = absurd h
goes-memory None root a a' old after one ds path number place name i (Err e) h f few asked = tt
goes-memory (Some held) root a a' old after one ds path number place name i (Err e) h f few asked =
    rw h (tt, asks-wanted held root a a' old one ds path number place name i end.OutOfMemory f few (λ fault e. absurd cc) (1, asked))

-- the module that is wanted is one too many
pub goes-many : (holds : Holds) (root : List ℕ) (a : Asked) (old : Loader) (after : FileMap → Loading) (one : Unfinished) (ds : List Decl) (path : List ℕ) (number : ℕ) (place : Place) (name : List ℕ) (i : ℕ) (e : LoadEnd) → Finds old one ds path number place name i
    → 1000 ≤ number → IsLoaded {A = Module} (Err (fault_at (path, place) 13)) (Err e) → (e ≡ end.FileFault → ⊥)
    → IfSome holds (λ held. GoesOn {A = Unit {0}} (rests_of (most_modules - 1) held root (old.unfinished.items ++ one ∷ []) (met_by old)) a (Err e) a (after held))
goes-many None root a old after one ds path number place name i e f many h never = tt
goes-many (Some held) root a old after one ds path number place name i (end.Fault fault) f many h never =
    rw (rests_of-many held root old.unfinished.items one (met_by old) (place, name) i (wants old one ds path number place name i f) (rw f.number_is at many)) (ap as_loading (rw f.path_is at h), asked_after-nil a)
goes-many (Some held) root a old after one ds path number place name i end.FileFault f many h never = absurd (never refl)
goes-many (Some held) root a old after one ds path number place name i end.OutOfMemory f many h never = (tt, (0, asked_after-nil a))

-- what is wanted was not met
pub found-new : (old : Loader) (one : Unfinished) (ds : List Decl) (path : List ℕ) (number : ℕ) (place : Place) (name : List ℕ) (i : ℕ) → Finds old one ds path number place name i → list_any (bytes_eq name) old.names ≡ false
found-new old one ds path number place name i f = wanted_at-new old.names ds i (place, name) f.within f.found

-- What is under way stays so.

-- a module is finished
pub keeps-finished : (old new : Loader) (one : Unfinished) → IsSound old → IsUnderWay old.list.items old.finished.items (old.unfinished.items ++ one ∷ []) → SkipsTo old.names one.declarations one.next (length one.declarations) → Finishes one.number old new
    → IsUnderWay new.list.items new.finished.items new.unfinished.items
keeps-finished old new one sound u h f = rw (f.list, f.finished, f.unfinished) (finishes old.list.items old.finished.items old.unfinished.items one u (rw sound.named at h))

-- a module is opened
pub keeps-opened : (old mid new : Loader) (one : Unfinished) (ds : List Decl) (path : List ℕ) (number : ℕ) (place : Place) (name : List ℕ) (i : ℕ) (it : Module) → Finds old one ds path number place name i
    → IsUnderWay old.list.items old.finished.items (old.unfinished.items ++ one ∷ []) → it.name ≡ name → it.place.«module» ≡ number
    → PutsOff (record one { next = i + 1 }) old mid → Opens it mid new
    → IsUnderWay new.list.items new.finished.items new.unfinished.items
keeps-opened old mid new one ds path number place name i it f u named numbered p o =
    let fresh : list_any (bytes_eq it.name) (names_of old.list.items) ≡ false = rw (named, ← f.sound.named) (found-new old one ds path number place name i f) in
    rw (o.list, o.finished, o.unfinished, p.list, p.finished, p.unfinished)
    (opens old.list.items old.finished.items old.unfinished.items one it (place, name) i u (rw (f.declarations, f.sound.named) at f.skips) (rw (f.declarations, f.sound.named) at f.found) named (numbered ∙ f.number_is) fresh)

-- One step after another.

asks-then : (paths : List (List ℕ)) (rest : Loading) (a a' a'' : Asked) (e : LoadEnd) → a' ≡ asked_after a paths → Asks {A = Modules} rest.asked a' (Err e) a'' → Asks {A = Modules} (paths ++ rest.asked) a (Err e) a''
asks-then paths rest a a' a'' (end.Fault fault) e h = rw e at h ∙ asked_after-append a paths rest.asked
asks-then paths rest a a' a'' end.FileFault e (last, within, h) =
    let more : (length paths + last) + 1 ≡ length paths + (last + 1) = omega arith in (
      length paths + last,
      omega (arith, length-append paths rest.asked),
      rw e at h ∙ asked_after-append a paths (take (last + 1) rest.asked) ∙ ap (asked_after a) (sym (take-behind paths rest.asked (last + 1)) ∙ ap (λ n. take n (paths ++ rest.asked)) (sym more)),
    )
asks-then paths rest a a' a'' end.OutOfMemory e (count, h) =
    (length paths + count, rw e at h ∙ asked_after-append a paths (take count rest.asked) ∙ ap (asked_after a) (sym (take-behind paths rest.asked count)))

pub goes-then : (first middle last : Loading) (a a' a'' : Asked) (r : Result (Unit {0}) LoadEnd) → GoesOn {A = Unit {0}} first a (Ok tt) a' middle → GoesOn middle a' r a'' last → GoesOn first a r a'' last
goes-then first middle last a a' a'' (Ok u) (paths, same, asked) (paths', same', asked') =
    (paths ++ paths', same ∙ ap (asking paths) same' ∙ sym (asking-append paths paths' last), rw asked at asked' ∙ asked_after-append a paths paths')
goes-then first middle last a a' a'' (Err e) (paths, same, asked) (loaded, asks) =
    let P : Loading → Type 0 = λ part. IsLoaded {A = Modules} part.outcome (Err e) × Asks {A = Modules} part.asked a (Err e) a'' in
    subst P (sym same) (loaded, asks-then paths middle a a' a'' e asked asks)

-- the outcome stays, or it is told
pub goes-on : (holds : Holds) (root : List ℕ) (a a' a'' : Asked) (first old new : Loader) (fs : List Unfinished) (one : Unfinished) (r : Result (Unit {0}) LoadEnd) → old.unfinished.items ≡ fs ++ one ∷ []
    → IfSome holds (λ held. GoesOn {A = Unit {0}} (outcome_of held root first) a (Ok tt) a' (outcome_of held root old))
    → IfSome holds (λ held. GoesOn (rests_of (most_modules - 1) held root (fs ++ one ∷ []) (met_by old)) a' r a'' (outcome_of held root new))
    → IfSome holds (λ held. GoesOn (outcome_of held root first) a r a'' (outcome_of held root new))
goes-on None root a a' a'' first old new fs one r e same h = tt
goes-on (Some held) root a a' a'' first old new fs one r e same h = goes-then (outcome_of held root first) (outcome_of held root old) (outcome_of held root new) a a' a'' r same (rw e h)
