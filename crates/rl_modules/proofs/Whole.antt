-- Loading from its first module to its end.
use Rattle.std.proofs.Common.{◌≡◌, ℕ, List, [], ◌∷◌, length, Some, None, Result, Ok, Err, IfSome, IsErrAnd, refl, sym, subst, ap, ◌∙◌, append-nil, arith}
use Rattle.std.proofs.lemmas.List.{take_all}
use Rattle.rl_base.specs.Asked.{Asked, asked_after}
use Rattle.rl_base.specs.Holds.{FileMap, Holds}
use Rattle.rl_syntax.specs.Fault.{start}
use Rattle.rl_syntax.specs.declared.module.Module.{Module}
use Rattle.rl_syntax.specs.declared.module.Modules.{Modules}
use Rattle.rl_modules.specs.declared.loaded.LoadEnd.{LoadEnd}
use Rattle.rl_modules.specs.declared.loaded.LoadEnd.TheVariants as end
use Rattle.rl_modules.specs.declared.loader.Loader.{Loader}
use Rattle.rl_modules.specs.Load.{Loading, Asks, IsLoaded, asking, gives, module_read, loading_of}
use Rattle.rl_modules.specs.Path.{path_of}
use Rattle.rl_modules.specs.Unfinished.{rests_of, outcome_of, met_by, IsUnderWay, Opens, GoesOn}
use Rattle.rl_modules.proofs.Goes.{asks-first, goes-then}
use Rattle.rl_modules.proofs.Steps.{load_of-opens, load_of-fault, load_of-asks}
use Rattle.rl_modules.proofs.UnderWay.{starts}

-- nothing was loaded
pub record IsNew (loader : Loader) : Type 0 where
  pub list : loader.list.items ≡ []
  pub finished : loader.finished.items ≡ []
  pub unfinished : loader.unfinished.items ≡ []

-- the first module is opened
pub keeps-first : (it : Module) (new added : Loader) → IsNew new → Opens it new added → it.place.«module» ≡ 0 → IsUnderWay added.list.items added.finished.items added.unfinished.items
keeps-first it new added n o h = rw (o.list, o.finished, o.unfinished, n.list, n.finished, n.unfinished) (starts it h)

load_of-opened : (files : FileMap) (root name : List ℕ) (it : Module) (new added : Loader) → IsNew new → Opens it new added → (module_read files root (path_of root name, start) 0 name).outcome ≡ Ok it
    → loading_of files root name ≡ asking (path_of root name ∷ []) (outcome_of files root added)
load_of-opened files root name it new added n o h = rw (o.unfinished, o.list, o.finished, n.list, n.finished, n.unfinished) (load_of-opens files root name it h)

-- What comes of the whole.
abbrev pub Comes : Holds → (root name : List ℕ) → Asked → LoadEnd → Asked → Type 0
Comes holds root name a e a' = IfSome holds (λ held. GoesOn {A = Unit {0}} (loading_of held root name) a (Err e) a' (loading_of held root name))

-- its file was not asked for, or it may be so
pub first-memory : (holds : Holds) (root name : List ℕ) (a a' : Asked) (e : LoadEnd) → e ≡ end.OutOfMemory → Asks {A = Module} (path_of root name ∷ []) a (Err end.OutOfMemory) a' → Comes holds root name a e a'
first-memory None root name a a' e h k = tt
first-memory (Some held) root name a a' e h k =
    let first = load_of-asks held root name in
    let P : List (List ℕ) → Type 0 = λ paths. Asks {A = Modules} paths a (Err end.OutOfMemory) a' in
    rw h (tt, subst P (sym first.1) (asks-first (path_of root name) first.0 a a' end.OutOfMemory (λ fault e. absurd cc) k))

-- it has a fault
pub first-fault : (holds : Holds) (root name path : List ℕ) (a a' : Asked) (e : LoadEnd) → path ≡ path_of root name
    → IfSome holds (λ held. IsLoaded (module_read held root (path, start) 0 name).outcome (Err e)) → Asks {A = Module} (path_of root name ∷ []) a (Err e) a' → Comes holds root name a e a'
first-fault None root name path a a' e same h k = tt
first-fault (Some held) root name path a a' (end.Fault fault) same h k = rw (load_of-fault held root name fault (rw same at h)) (refl, k)
first-fault (Some held) root name path a a' end.FileFault same h k =
    let first = load_of-asks held root name in
    let P : List (List ℕ) → Type 0 = λ paths. Asks {A = Modules} paths a (Err end.FileFault) a' in
    (tt, subst P (sym first.1) (asks-first (path_of root name) first.0 a a' end.FileFault (λ fault e. absurd cc) k))
first-fault (Some held) root name path a a' end.OutOfMemory same h k = first-memory (Some held) root name a a' end.OutOfMemory refl k

-- what was left once the first module was opened
pub later : (holds : Holds) (root name path : List ℕ) (a a' a'' : Asked) (it : Module) (new added last : Loader) (r : Result (Unit {0}) LoadEnd) → path ≡ path_of root name → IsNew new → Opens it new added
    → IfSome holds (λ held. (module_read held root (path, start) 0 name).outcome ≡ Ok it) → a' ≡ asked_after a (path_of root name ∷ [])
    → IfSome holds (λ held. GoesOn (outcome_of held root added) a' r a'' (outcome_of held root last))
    → IfSome holds (λ held. GoesOn (loading_of held root name) a r a'' (outcome_of held root last))
later None root name path a a' a'' it new added last r same n o h k g = tt
later (Some held) root name path a a' a'' it new added last r same n o h k g =
    goes-then (loading_of held root name) (outcome_of held root added) (outcome_of held root last) a a' a'' r
    (path_of root name ∷ [], load_of-opened held root name it new added n o (rw same at h), k) g

outcome_of-all : (files : FileMap) (root : List ℕ) (last : Loader) → last.unfinished.items ≡ [] → outcome_of files root last ≡ gives (met_by last)
unfolding rests_of
outcome_of-all files root last e = rw e refl

whole : (held : FileMap) (root name : List ℕ) (a a'' : Asked) (last : Loader) → last.unfinished.items ≡ []
    → GoesOn {A = Unit {0}} (loading_of held root name) a (Ok tt) a'' (outcome_of held root last)
    → (paths : List (List ℕ)) × (loading_of held root name ≡ record { asked = paths; outcome = Ok (met_by last) }) × (a'' ≡ asked_after a paths)
whole held root name a a'' last e (paths, same, k) =
    (paths, same ∙ ap (asking paths) (outcome_of-all held root last e) ∙ ap (λ v. record { asked = v; outcome = Ok (met_by last) }) (append-nil paths), k)

-- all are loaded
pub all-loaded : (holds : Holds) (root name : List ℕ) (a a'' : Asked) (last : Loader) (list : List Module) (finished : List ℕ) → last.unfinished.items ≡ []
    → IfSome holds (λ held. GoesOn {A = Unit {0}} (loading_of held root name) a (Ok tt) a'' (outcome_of held root last))
    → list ≡ last.list.items → finished ≡ last.finished.items
    → IfSome holds (λ held. (loading_of held root name).outcome ≡ Ok (record { list = list; finished = finished }))
all-loaded None root name a a'' last list finished e g l f = tt
all-loaded (Some held) root name a a'' last list finished e g l f = rw (l, f) (ap (λ (part : Loading). part.outcome) (whole held root name a a'' last e g).1)

pub all-asked : (holds : Holds) (root name : List ℕ) (a a'' : Asked) (last : Loader) → last.unfinished.items ≡ []
    → IfSome holds (λ held. GoesOn {A = Unit {0}} (loading_of held root name) a (Ok tt) a'' (outcome_of held root last))
    → IfSome holds (λ held. a'' ≡ asked_after a (loading_of held root name).asked)
all-asked None root name a a'' last e g = tt
all-asked (Some held) root name a a'' last e g =
    let w = whole held root name a a'' last e g in
    w.2 ∙ ap (asked_after a) (sym (ap (λ (part : Loading). part.asked) w.1))

-- memory is wanting once all are loaded
pub later-memory : (holds : Holds) (root name : List ℕ) (a a'' : Asked) (last : Loader) (e : LoadEnd) → e ≡ end.OutOfMemory → last.unfinished.items ≡ []
    → IfSome holds (λ held. GoesOn {A = Unit {0}} (loading_of held root name) a (Ok tt) a'' (outcome_of held root last)) → Comes holds root name a e a''
later-memory None root name a a'' last e h u g = tt
later-memory (Some held) root name a a'' last e h u g =
    let all : a'' ≡ asked_after a (loading_of held root name).asked = all-asked (Some held) root name a a'' last u g in
    let paths = (loading_of held root name).asked in
    rw h (tt, (length paths, all ∙ ap (asked_after a) (sym (take_all (length paths) paths (omega arith)))))

-- what a whole that ends answers, and what it asks for
pub answer_of : (holds : Holds) (root name : List ℕ) (a a' : Asked) (e : LoadEnd) → Comes holds root name a e a' → IfSome holds (λ held. IsLoaded {A = Modules} (loading_of held root name).outcome (Err e))
answer_of None root name a a' e h = tt
answer_of (Some held) root name a a' e h = h.0

pub asked_of : (holds : Holds) (root name : List ℕ) (a a' : Asked) (e : LoadEnd) → Comes holds root name a e a' → IfSome holds (λ held. Asks {A = Modules} (loading_of held root name).asked a (Err e) a')
asked_of None root name a a' e h = tt
asked_of (Some held) root name a a' e h = h.1

pub memory_asked : (holds : Holds) (root name : List ℕ) (a a' : Asked) (r : Result Modules LoadEnd) → IsErrAnd r (λ e. e ≡ end.OutOfMemory) → Comes holds root name a end.OutOfMemory a' → IfSome holds (λ held. Asks (loading_of held root name).asked a r a')
memory_asked holds root name a a' (Ok it) h k = absurd h
memory_asked None root name a a' (Err e) h k = tt
memory_asked (Some held) root name a a' (Err e) h k = rw h k.1
