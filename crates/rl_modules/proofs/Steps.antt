-- What each step of loading does to what is left to do.
use Rattle.std.proofs.Common.{◌≡◌, ℕ, zero, suc, ◌+◌, ◌-◌, ◌<◌, ◌≤◌, Bool, true, false, ◌||◌, cond, List, [], ◌∷◌, ◌++◌, length, drop, Option, Some, None, Result, Ok, Err, IfSome, refl, sym, ap, ◌∙◌, arith, leb, add-one, append_assoc, append-nil, length-append, lit<}
use Rattle.std.proofs.lemmas.Bool.Decides.{nat_tests}
use Rattle.std.specs.List.{slice_get, list_any}
use Rattle.std.specs.Str.{bytes_eq}
use Rattle.rl_base.specs.Holds.{FileMap}
use Rattle.rl_base.specs.declared.place.Place.{Place}
use Rattle.rl_syntax.specs.declared.module.Module.{Module}
use Rattle.rl_syntax.specs.declared.declaration.Decl.{Decl}
use Rattle.rl_syntax.specs.declared.module.Modules.{Modules}
use Rattle.rl_syntax.specs.declared.fault.Fault.{Fault}
use Rattle.rl_syntax.specs.Fault.{Spot, fault_at, start}
use Rattle.rl_modules.specs.declared.loader.Unfinished.{Unfinished}
use Rattle.rl_visibility.specs.BuiltIn.{is_built_in}
use Rattle.rl_modules.specs.Load.{Part, Loading, asking, gives, refuses, go_on, and_then, in_turn, import_of, wanted, names_of, load_import, load_within, module_read, with_module, with_finished, no_modules, loading_of}
use Rattle.rl_modules.specs.Path.{path_of}
use Rattle.rl_modules.specs.Unfinished.{rest_of, rests_of, opened, SkipsTo}
use Rattle.std.proofs.Math.Nat.{sub-zero}

-- Going on.

pub asking-append : {A : Type 0} (xs ys : List (List ℕ)) (part : Part A) → asking (xs ++ ys) part ≡ asking xs (asking ys part)
asking-append xs ys part = ap (λ paths. record { asked = paths; outcome = part.outcome }) (append_assoc xs ys part.asked)

go_on-gives : {A : Type 0} (r : Result A Fault) → go_on r (λ x. gives x) ≡ record { asked = []; outcome = r }
go_on-gives (Ok x) = refl
go_on-gives (Err e) = refl

and_then-gives : {A : Type 0} (part : Part A) → and_then part (λ x. gives x) ≡ part
and_then-gives part = ap (asking part.asked) (go_on-gives part.outcome) ∙ ap (λ paths. record { asked = paths; outcome = part.outcome }) (append-nil part.asked)

go_on-assoc : {A B C : Type 0} (paths : List (List ℕ)) (r : Result A Fault) (f : A → Part B) (g : B → Part C) → and_then (asking paths (go_on r f)) g ≡ asking paths (go_on r (λ x. and_then (f x) g))
go_on-assoc paths (Ok x) f g = asking-append paths (f x).asked (go_on (f x).outcome g)
go_on-assoc paths (Err e) f g = asking-append paths [] (refuses e)

and_then-assoc : {A B C : Type 0} (part : Part A) (f : A → Part B) (g : B → Part C) → and_then (and_then part f) g ≡ and_then part (λ x. and_then (f x) g)
and_then-assoc part f g = go_on-assoc part.asked part.outcome f g

go_on-same : {A B : Type 0} (r : Result A Fault) (f g : A → Part B) → ((x : A) → f x ≡ g x) → go_on r f ≡ go_on r g
go_on-same (Ok x) f g h = h x
go_on-same (Err e) f g h = refl

and_then-same : {A B : Type 0} (part : Part A) (f g : A → Part B) → ((x : A) → f x ≡ g x) → and_then part f ≡ and_then part g
and_then-same part f g h = ap (asking part.asked) (go_on-same part.outcome f g h)

-- What is not wanted.

skipped : (load : Spot → List ℕ → Modules → Loading) (path : List ℕ) (d : Decl) (met : Modules) → wanted (names_of met.list) (import_of d) ≡ None → load_import load path d met ≡ gives met
skipped load path d met h = rw h refl

skips : (load : Spot → List ℕ → Modules → Loading) (path : List ℕ) (met : Modules) (ds : List Decl) (from to : ℕ) → from ≤ to → SkipsTo (names_of met.list) ds from to → in_turn (load_import load path) (drop from ds) met ≡ in_turn (load_import load path) (drop to ds) met
skips load path met [] zero zero le h = refl
skips load path met [] zero (suc to) le h = refl
skips load path met [] (suc from) zero le h = absurd (omega arith)
skips load path met [] (suc from) (suc to) le h = refl
skips load path met (d ∷ ds) zero zero le h = refl
skips load path met (d ∷ ds) zero (suc to) le h =
    rw (skipped load path d met (h zero (omega arith) (omega arith)))
    (skips load path met ds zero to (omega arith) (λ k a b. h (suc k) (omega arith) (omega arith)))
skips load path met (d ∷ ds) (suc from) zero le h = absurd (omega arith)
skips load path met (d ∷ ds) (suc from) (suc to) le h = skips load path met ds from to (omega arith) (λ k a b. h (suc k) (omega arith) (omega arith))

skips_all : (load : Spot → List ℕ → Modules → Loading) (path : List ℕ) (met : Modules) (ds : List Decl) (from : ℕ) → SkipsTo (names_of met.list) ds from (length ds) → in_turn (load_import load path) (drop from ds) met ≡ gives met
skips_all load path met [] zero h = refl
skips_all load path met [] (suc from) h = refl
skips_all load path met (d ∷ ds) zero h =
    rw (skipped load path d met (h zero (omega arith) (omega arith))) (skips_all load path met ds zero (λ k a b. h (suc k) (omega arith) (omega arith)))
skips_all load path met (d ∷ ds) (suc from) h = skips_all load path met ds from (λ k a b. h (suc k) (omega arith) (omega arith))

-- what is wanted is loaded, and then the rest
loads_found : (load : Spot → List ℕ → Modules → Loading) (path : List ℕ) (met : Modules) (found : Place × List ℕ) (ds : List Decl) (i : ℕ) → i < length ds → IfSome (slice_get ds i) (λ d. wanted (names_of met.list) (import_of d) ≡ Some found)
    → in_turn (load_import load path) (drop i ds) met ≡ and_then (load (path, found.0) found.1 met) (in_turn (load_import load path) (drop (suc i) ds))
loads_found load path met found [] i within h = absurd (omega arith)
loads_found load path met found (d ∷ ds) zero within h = rw h refl
loads_found load path met found (d ∷ ds) (suc i) within h = loads_found load path met found ds i (omega arith) h

-- The rest of one module.

rest_of-finished : (k : ℕ) (files : FileMap) (root : List ℕ) (one : Unfinished) (met : Modules) → SkipsTo (names_of met.list) one.declarations one.next (length one.declarations) → rest_of k files root one met ≡ gives (with_finished one.number met)
rest_of-finished k files root one met h = rw (skips_all (load_within k files root) one.path met one.declarations one.next h) refl

rest_of-found : (k : ℕ) (files : FileMap) (root : List ℕ) (one : Unfinished) (met : Modules) (found : Place × List ℕ) (i : ℕ) → SkipsTo (names_of met.list) one.declarations one.next i → one.next ≤ i → i < length one.declarations
    → IfSome (slice_get one.declarations i) (λ d. wanted (names_of met.list) (import_of d) ≡ Some found)
    → rest_of k files root one met ≡ and_then (load_within k files root (one.path, found.0) found.1 met) (rest_of k files root (record one { next = i + 1 }))
rest_of-found k files root one met found i skip le within h =
    rw (skips (load_within k files root) one.path met one.declarations one.next i le skip)
    (rw (loads_found (load_within k files root) one.path met found one.declarations i within h)
    (rw (add-one i)
    (and_then-assoc (load_within k files root (one.path, found.0) found.1 met) (in_turn (load_import (load_within k files root) one.path) (drop (suc i) one.declarations)) (λ loaded. gives (with_finished one.number loaded)))))

-- One module within others.

load_within-opens : (k : ℕ) (files : FileMap) (root : List ℕ) (spot : Spot) (name : List ℕ) (met : Modules) (it : Module) → length met.list < 1000 → (module_read files root spot (length met.list) name).outcome ≡ Ok it
    → load_within (suc k) files root spot name met ≡ asking (path_of root name ∷ []) (rest_of k files root (opened (length met.list) it) (with_module it met))
unfolding load_within
load_within-opens k files root spot name met it few h = let low : leb 1000 (length met.list) ≡ false = grind (arith, nat_tests) in rw (low, h) refl

load_within-fault : (k : ℕ) (files : FileMap) (root : List ℕ) (spot : Spot) (name : List ℕ) (met : Modules) (e : Fault) → length met.list < 1000 → (module_read files root spot (length met.list) name).outcome ≡ Err e
    → load_within (suc k) files root spot name met ≡ asking (path_of root name ∷ []) (refuses e)
unfolding load_within
load_within-fault k files root spot name met e few h = let low : leb 1000 (length met.list) ≡ false = grind (arith, nat_tests) in rw (low, h) refl

load_within-many : (k : ℕ) (files : FileMap) (root : List ℕ) (spot : Spot) (name : List ℕ) (met : Modules) → 1000 ≤ length met.list → load_within k files root spot name met ≡ refuses (fault_at spot 13)
unfolding load_within
load_within-many zero files root spot name met many = refl
load_within-many (suc k) files root spot name met many = let high : leb 1000 (length met.list) ≡ true = grind (arith, nat_tests) in rw high refl

-- The rests of all.

rests_of-push : (k : ℕ) (files : FileMap) (root : List ℕ) (fs : List Unfinished) (one : Unfinished) (met : Modules)
    → rests_of k files root (fs ++ one ∷ []) met ≡ and_then (rest_of (k - length fs) files root one met) (rests_of k files root fs)
unfolding rests_of
rests_of-push k files root [] one met = rw sub-zero (sym (and_then-gives (rest_of k files root one met)))
rests_of-push k files root (f ∷ fs) one met =
    let fewer : k - length (f ∷ fs) ≡ (k - 1) - length fs = omega arith in
    rw (rests_of-push (k - 1) files root fs one met, fewer)
    (and_then-assoc (rest_of ((k - 1) - length fs) files root one met) (rests_of (k - 1) files root fs) (rest_of k files root f))

-- the last one is finished
pub rests_of-finishes : (k : ℕ) (files : FileMap) (root : List ℕ) (fs : List Unfinished) (one : Unfinished) (met : Modules) → SkipsTo (names_of met.list) one.declarations one.next (length one.declarations)
    → rests_of k files root fs (with_finished one.number met) ≡ rests_of k files root (fs ++ one ∷ []) met
rests_of-finishes k files root fs one met h =
    sym (rests_of-push k files root fs one met ∙ ap (λ (part : Loading). and_then part (rests_of k files root fs)) (rest_of-finished (k - length fs) files root one met h))

-- what the last one wants
pub record Wants (one : Unfinished) (met : Modules) (found : Place × List ℕ) (i : ℕ) : Type 0 where
  pub skips : SkipsTo (names_of met.list) one.declarations one.next i
  pub behind : one.next ≤ i
  pub within : i < length one.declarations
  pub finds : IfSome (slice_get one.declarations i) (λ d. wanted (names_of met.list) (import_of d) ≡ Some found)

rests_of-found : (k : ℕ) (files : FileMap) (root : List ℕ) (fs : List Unfinished) (one : Unfinished) (met : Modules) (found : Place × List ℕ) (i : ℕ) → Wants one met found i
    → rests_of k files root (fs ++ one ∷ []) met ≡ and_then (load_within (k - length fs) files root (one.path, found.0) found.1 met) (λ m. and_then (rest_of (k - length fs) files root (record one { next = i + 1 }) m) (rests_of k files root fs))
rests_of-found k files root fs one met found i w =
    rests_of-push k files root fs one met
    ∙ ap (λ (part : Loading). and_then part (rests_of k files root fs)) (rest_of-found (k - length fs) files root one met found i w.skips w.behind w.within w.finds)
    ∙ (and_then-assoc (load_within (k - length fs) files root (one.path, found.0) found.1 met) (rest_of (k - length fs) files root (record one { next = i + 1 })) (rests_of k files root fs))

-- the module that it wants is opened
pub rests_of-opens : (files : FileMap) (root : List ℕ) (fs : List Unfinished) (one : Unfinished) (met : Modules) (found : Place × List ℕ) (i : ℕ) (it : Module) → Wants one met found i
    → length fs < length met.list → length met.list < 1000 → (module_read files root (one.path, found.0) (length met.list) found.1).outcome ≡ Ok it
    → asking (path_of root found.1 ∷ []) (rests_of 999 files root ((fs ++ record one { next = i + 1 } ∷ []) ++ opened (length met.list) it ∷ []) (with_module it met)) ≡ rests_of 999 files root (fs ++ one ∷ []) met
rests_of-opens files root fs one met found i it w nested few h =
    let k : ℕ = 999 - length (fs ++ record one { next = i + 1 } ∷ []) in
    let deep : 999 - length fs ≡ suc k = omega (arith, length-append fs (record one { next = i + 1 } ∷ [])) in
    let path = path_of root found.1 ∷ [] in
    let further = λ (m : Modules). and_then (rest_of (999 - length fs) files root (record one { next = i + 1 }) m) (rests_of 999 files root fs) in
    ap (asking path) (rests_of-push 999 files root (fs ++ record one { next = i + 1 } ∷ []) (opened (length met.list) it) (with_module it met)
    ∙ and_then-same (rest_of k files root (opened (length met.list) it) (with_module it met)) (rests_of 999 files root (fs ++ record one { next = i + 1 } ∷ [])) further
    (λ m. rests_of-push 999 files root fs (record one { next = i + 1 }) m))
    ∙ sym (asking-append path (rest_of k files root (opened (length met.list) it) (with_module it met)).asked (go_on (rest_of k files root (opened (length met.list) it) (with_module it met)).outcome further))
    ∙ ap (λ r. and_then r further)
    (sym (load_within-opens k files root (one.path, found.0) found.1 met it few h) ∙ ap (λ n. load_within n files root (one.path, found.0) found.1 met) (sym deep))
    ∙ sym (rests_of-found 999 files root fs one met found i w)

-- its file is asked for first
load_within-asks : (k : ℕ) (files : FileMap) (root : List ℕ) (spot : Spot) (name : List ℕ) (met : Modules) → length met.list < 1000 → (more : List (List ℕ)) × ((load_within (suc k) files root spot name met).asked ≡ path_of root name ∷ more)
unfolding load_within
load_within-asks k files root spot name met few = let low : leb 1000 (length met.list) ≡ false = grind (arith, nat_tests) in rw low (_, refl)

pub rests_of-asks : (files : FileMap) (root : List ℕ) (fs : List Unfinished) (one : Unfinished) (met : Modules) (found : Place × List ℕ) (i : ℕ) → Wants one met found i
    → length fs < length met.list → length met.list < 1000 → (more : List (List ℕ)) × ((rests_of 999 files root (fs ++ one ∷ []) met).asked ≡ path_of root found.1 ∷ more)
rests_of-asks files root fs one met found i w nested few =
    let deep : 999 - length fs ≡ suc (998 - length fs) = omega arith in
    let first = load_within-asks (998 - length fs) files root (one.path, found.0) found.1 met few in
    let further = λ (m : Modules). and_then (rest_of (999 - length fs) files root (record one { next = i + 1 }) m) (rests_of 999 files root fs) in (
      first.0 ++ (go_on (load_within (suc (998 - length fs)) files root (one.path, found.0) found.1 met).outcome further).asked,
      ap (λ part. part.asked) (rests_of-found 999 files root fs one met found i w ∙ ap (λ n. and_then (load_within n files root (one.path, found.0) found.1 met) further) deep)
          ∙ ap (λ paths. paths ++ (go_on (load_within (suc (998 - length fs)) files root (one.path, found.0) found.1 met).outcome further).asked) first.1,
    )

-- or it has a fault
pub rests_of-fault : (files : FileMap) (root : List ℕ) (fs : List Unfinished) (one : Unfinished) (met : Modules) (found : Place × List ℕ) (i : ℕ) (e : Fault) → Wants one met found i
    → length fs < length met.list → length met.list < 1000 → (module_read files root (one.path, found.0) (length met.list) found.1).outcome ≡ Err e
    → rests_of 999 files root (fs ++ one ∷ []) met ≡ asking (path_of root found.1 ∷ []) (refuses e)
rests_of-fault files root fs one met found i e w nested few h =
    let deep : 999 - length fs ≡ suc (998 - length fs) = omega arith in
    rw (rests_of-found 999 files root fs one met found i w)
    (ap (λ r. and_then r (λ m. and_then (rest_of (999 - length fs) files root (record one { next = i + 1 }) m) (rests_of 999 files root fs)))
    (ap (λ n. load_within n files root (one.path, found.0) found.1 met) deep ∙ load_within-fault (998 - length fs) files root (one.path, found.0) found.1 met e few h))

-- or it is one too many
pub rests_of-many : (files : FileMap) (root : List ℕ) (fs : List Unfinished) (one : Unfinished) (met : Modules) (found : Place × List ℕ) (i : ℕ) → Wants one met found i
    → 1000 ≤ length met.list → rests_of 999 files root (fs ++ one ∷ []) met ≡ refuses (fault_at (one.path, found.0) 13)
rests_of-many files root fs one met found i w many =
    rw (rests_of-found 999 files root fs one met found i w, load_within-many (999 - length fs) files root (one.path, found.0) found.1 met many) refl

picked : (built met : Bool) (f found : Place × List ℕ) → cond (built || met) None (Some f) ≡ Some found → (met ≡ false) × (f ≡ found)
picked true met f found h = absurd cc
picked false true f found h = absurd cc
picked false false f found h = (refl, cc)

-- what is wanted was not met
pub wanted-new : (names : List (List ℕ)) (o : Option (Place × List ℕ)) (found : Place × List ℕ) → wanted names o ≡ Some found → list_any (bytes_eq found.1) names ≡ false
wanted-new names None found h = absurd cc
wanted-new names (Some f) found h =
    let p = picked (is_built_in f.1) (list_any (bytes_eq f.1) names) f found h in
    rw (← p.1) p.0

pub wanted_at-new : (names : List (List ℕ)) (ds : List Decl) (i : ℕ) (found : Place × List ℕ) → i < length ds → IfSome (slice_get ds i) (λ d. wanted names (import_of d) ≡ Some found) → list_any (bytes_eq found.1) names ≡ false
wanted_at-new names [] i found within h = absurd (omega arith)
wanted_at-new names (d ∷ ds) zero found within h = wanted-new names (import_of d) found h
wanted_at-new names (d ∷ ds) (suc i) found within h = wanted_at-new names ds i found (omega arith) h

-- from the root on
pub load_of-asks : (files : FileMap) (root name : List ℕ) → (more : List (List ℕ)) × ((loading_of files root name).asked ≡ path_of root name ∷ more)
load_of-asks files root name = load_within-asks 999 files root (path_of root name, start) name no_modules (lit< tt)

pub load_of-opens : (files : FileMap) (root name : List ℕ) (it : Module) → (module_read files root (path_of root name, start) 0 name).outcome ≡ Ok it
    → loading_of files root name ≡ asking (path_of root name ∷ []) (rests_of 999 files root (opened 0 it ∷ []) (with_module it no_modules))
unfolding rests_of
load_of-opens files root name it h = load_within-opens 999 files root (path_of root name, start) name no_modules it (lit< tt) h

pub load_of-fault : (files : FileMap) (root name : List ℕ) (e : Fault) → (module_read files root (path_of root name, start) 0 name).outcome ≡ Err e → loading_of files root name ≡ asking (path_of root name ∷ []) (refuses e)
load_of-fault files root name e h = load_within-fault 999 files root (path_of root name, start) name no_modules e (lit< tt) h
