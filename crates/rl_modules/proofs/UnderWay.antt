-- Loading under way, from the first module to the last.
use Rattle.std.proofs.Common.{◌≡◌, ◌≢◌, ℕ, zero, suc, ◌+◌, ◌<◌, ◌≤◌, nat_lt, nat_eq, Bool, true, false, ◌||◌, cond, List, [], ◌∷◌, ◌++◌, length, map, Option, Some, None, IfSome, ◌⊎◌, inl, inr, refl, sym, subst, ap, ◌∙◌, arith, append_assoc, append-nil, length-append, get_or, lit<}
use Rattle.std.proofs.lemmas.Bool.{cases_lt, cases_Bool, true≢false}
use Rattle.std.proofs.lemmas.Bool.Decides.{nat_tests, Decides-eqb}
use Rattle.std.proofs.lemmas.List.{map-append}
use Rattle.std.proofs.lemmas.List.Elements.{All-nil, All-cons, All-head, All-tail, All-push, All-pop, All-weaker}
use Rattle.std.proofs.lemmas.List.Folds.{list_any-append, list_any_at}
use Rattle.std.proofs.lemmas.List.Quantifiers.{all_pairs_push}
use Rattle.std.proofs.lemmas.List.Sums.{sum_by-append, sum_by_push}
use Rattle.std.proofs.lemmas.Map.Views.{Contains-from_any}
use Rattle.std.proofs.lemmas.Option.{IfSome_then, slice_get-get_or, get_or_from_slice_get}
use Rattle.std.proofs.lemmas.Slice.Eq.{bytes_eq-Decides}
use Rattle.std.specs.List.{All, Contains, count_by, list_any, slice_get}
use Rattle.std.specs.Str.{bytes_eq}
use Rattle.rl_base.specs.declared.place.Place.{Place}
use Rattle.rl_syntax.specs.declared.module.Module.{Module}
use Rattle.rl_syntax.specs.declared.declaration.Decl.{Decl}
use Rattle.rl_visibility.specs.BuiltIn.{is_built_in}
use Rattle.rl_modules.specs.declared.loader.Unfinished.{Unfinished}
use Rattle.rl_modules.specs.Complete.{EachOnce, LeadsTo, IsComplete}
use Rattle.rl_modules.specs.Load.{import_of, most_modules, names_of, wanted}
use Rattle.rl_modules.specs.Unfinished.{ImportsAreMet, IsBegun, IsUnderWay, SkipsTo, opened}

-- What was met stays met.

picked-more : (built met more : Bool) (found : Place × List ℕ) → cond (built || met) None (Some found) ≡ None → cond (built || (met || more)) None (Some found) ≡ None
picked-more true met more found h = refl
picked-more false true more found h = refl
picked-more false false more found h = absurd cc

wanted-more : (names more : List (List ℕ)) (o : Option (Place × List ℕ)) → wanted names o ≡ None → wanted (names ++ more) o ≡ None
wanted-more names more None h = refl
wanted-more names more (Some found) h =
    rw (list_any-append (bytes_eq found.1) names more)
    (picked-more (is_built_in found.1) (list_any (bytes_eq found.1) names) (list_any (bytes_eq found.1) more) found h)

picked-now : (built met : Bool) (f found : Place × List ℕ) → cond (built || met) None (Some f) ≡ Some found → f ≡ found
picked-now true met f found h = absurd cc
picked-now false true f found h = absurd cc
picked-now false false f found h = cc

none-now : (built met : Bool) (f : Place × List ℕ) → cond (built || (met || true)) None (Some f) ≡ None
none-now true met f = refl
none-now false true f = refl
none-now false false f = refl

-- what was wanted is met once a module of its name is among the others
wanted-now : (names : List (List ℕ)) (o : Option (Place × List ℕ)) (found : Place × List ℕ) → wanted names o ≡ Some found → wanted (names ++ found.1 ∷ []) o ≡ None
wanted-now names None found h = absurd cc
wanted-now names (Some f) found h =
    let same : f ≡ found = picked-now (is_built_in f.1) (list_any (bytes_eq f.1) names) f found h in
    let here : bytes_eq f.1 found.1 ≡ true = (bytes_eq-Decides f.1 found.1).1 (ap (λ (p : Place × List ℕ). p.1) same) in
    rw (list_any-append (bytes_eq f.1) names (found.1 ∷ []), here) (none-now (is_built_in f.1) (list_any (bytes_eq f.1) names) f)

skips-more : (names more : List (List ℕ)) (ds : List Decl) (from to : ℕ) → SkipsTo names ds from to → SkipsTo (names ++ more) ds from to
skips-more names more ds from to h k a b = IfSome_then (slice_get ds k) (h k a b) (λ d e. wanted-more names more (import_of d) e)

skips-on : (names : List (List ℕ)) (ds : List Decl) (from mid to : ℕ) → SkipsTo names ds from mid → SkipsTo names ds mid to → SkipsTo names ds from to
skips-on names ds from mid to h g k a b = elim (cases_lt k mid) [ inl l ↦ h k a l | inr l ↦ g k l b ]

skips-one : (names : List (List ℕ)) (ds : List Decl) (from i : ℕ) → SkipsTo names ds from i → IfSome (slice_get ds i) (λ d. wanted names (import_of d) ≡ None) → SkipsTo names ds from (i + 1)
skips-one names ds from i h here k a b =
    elim (cases_lt k i) [
      | inl l ↦ h k a l
      | inr l ↦ (let e : i ≡ k = omega arith in let P : ℕ → Type 0 = λ n. IfSome (slice_get ds n) (λ d. wanted names (import_of d) ≡ None) in subst P e here)
    ]

-- One more module.

names-push : (list : List Module) (it : Module) → names_of (list ++ it ∷ []) ≡ names_of list ++ it.name ∷ []
names-push list it = map-append (λ m. m.name) list (it ∷ [])

get-stays : (list : List Module) (it : Module) (n : ℕ) (m : Module) → slice_get list n ≡ Some m → slice_get (list ++ it ∷ []) n ≡ Some m
get-stays [] it n m h = absurd cc
get-stays (x ∷ xs) it zero m h = h
get-stays (x ∷ xs) it (suc n) m h = get-stays xs it n m h

get-last : (list : List Module) (it : Module) → slice_get (list ++ it ∷ []) (length list) ≡ Some it
get-last [] it = refl
get-last (x ∷ xs) it = get-last xs it

get-push : (list : List Module) (it : Module) (P : ℕ → Module → Type 0) → ((k : ℕ) → IfSome (slice_get list k) (P k)) → P (length list) it → (k : ℕ) → IfSome (slice_get (list ++ it ∷ []) k) (P k)
get-push [] it P h p zero = p
get-push [] it P h p (suc k) = tt
get-push (x ∷ xs) it P h p zero = h zero
get-push (x ∷ xs) it P h p (suc k) = get-push xs it (λ n. P (suc n)) (λ n. h (suc n)) p k

name-differs : (names : List (List ℕ)) (name : List ℕ) → list_any (bytes_eq name) names ≡ false → (k : ℕ) (d : List ℕ) → k < length names → get_or names k d ≢ name
name-differs names name new k d l e = true≢false (sym (list_any_at (bytes_eq name) names k d l ((bytes_eq-Decides name (get_or names k d)).1 (sym e))) ∙ new)

met-more : (list : List Module) (it : Module) (n : ℕ) → ImportsAreMet list n → ImportsAreMet (list ++ it ∷ []) n
met-more list it n (m, at, h) = (m, get-stays list it n m at, rw names-push (skips-more (names_of list) (it.name ∷ []) m.declarations 0 (length m.declarations) h))

begun-more : (list : List Module) (it : Module) (one : Unfinished) → IsBegun list one → IsBegun (list ++ it ∷ []) one
begun-more list it one (m, at, same, h) = (m, get-stays list it one.number m at, same, rw names-push (skips-more (names_of list) (it.name ∷ []) one.declarations 0 one.next h))

-- Each number once.

one-below : (n bound : ℕ) → cond (nat_lt n bound) 1 0 + cond (nat_eq bound n) 1 0 ≡ cond (nat_lt n (bound + 1)) 1 0
one-below n bound = grind (arith, nat_tests)

once-first : EachOnce 1 (0 ∷ [])
once-first n = grind (arith, nat_tests)

once-moves : (bound : ℕ) (finished more : List ℕ) (number : ℕ) → EachOnce bound (finished ++ (more ++ number ∷ [])) → EachOnce bound ((finished ++ number ∷ []) ++ more)
once-moves bound finished more number h n =
    let f : ℕ → ℕ = λ k. cond (nat_eq k n) 1 0 in
    let a = sum_by-append f (finished ++ number ∷ []) more in
    let b = sum_by_push f finished number in
    let c = sum_by-append f finished (more ++ number ∷ []) in
    let d = sum_by_push f more number in
    let e = h n in omega arith

once-more : (bound : ℕ) (finished others : List ℕ) → EachOnce bound (finished ++ others) → EachOnce (bound + 1) (finished ++ (others ++ bound ∷ []))
once-more bound finished others h n =
    rw (← append_assoc finished others (bound ∷ []))
    (sum_by_push (λ k. cond (nat_eq k n) 1 0) (finished ++ others) bound ∙ ap (λ m. m + cond (nat_eq bound n) 1 0) (h n) ∙ one-below n bound)

-- what stands in a list once and more has what each of its elements has
of-counted : (P : ℕ → Type 0) (numbers : List ℕ) (n : ℕ) → All P numbers → 0 < count_by (λ k. nat_eq k n) numbers → P n
of-counted P [] n h l = absurd (omega arith)
of-counted P (x ∷ xs) n h l =
    elim (cases_Bool (nat_eq x n)) [
      | inl e ↦ subst P ((Decides-eqb x n).0 e) (All-head P x xs h)
      | inr e ↦ of-counted P xs n (All-tail P x xs h) (rw e at l)
    ]

-- The steps.

numbers-push : (fs : List Unfinished) (one : Unfinished) → map (λ o. o.number) (fs ++ one ∷ []) ≡ map (λ o. o.number) fs ++ one.number ∷ []
numbers-push fs one = map-append (λ o. o.number) fs (one ∷ [])

-- the first module
pub starts : (it : Module) → it.place.«module» ≡ 0 → IsUnderWay (it ∷ []) [] (opened 0 it ∷ [])
starts it h = record {
  some = lit< tt;
  distinct = λ i j d a b. absurd (omega arith);
  numbered = get-push [] it (λ k m. m.place.«module» ≡ k) (λ k. tt) h;
  once = once-first;
  met = All-nil (ImportsAreMet (it ∷ []));
  begun = All-cons (IsBegun (it ∷ [])) (opened 0 it) [] (it, refl, refl, λ k a b. absurd (omega arith)) (All-nil (IsBegun (it ∷ [])));
}

-- a module is finished
pub finishes : (list : List Module) (finished : List ℕ) (fs : List Unfinished) (one : Unfinished) → IsUnderWay list finished (fs ++ one ∷ []) → SkipsTo (names_of list) one.declarations one.next (length one.declarations) → IsUnderWay list (finished ++ one.number ∷ []) fs
finishes list finished fs one u h =
    let b = All-pop (IsBegun list) (fs ++ one ∷ []) fs (Some one) refl u.begun in
    let all : SkipsTo (names_of list) one.declarations 0 (length one.declarations) = skips-on (names_of list) one.declarations 0 one.next (length one.declarations) b.1.3 h in
    record {
      some = u.some;
      distinct = u.distinct;
      numbered = u.numbered;
      once = once-moves (length list) finished (map (λ o. o.number) fs) one.number (rw (numbers-push fs one) at u.once);
      met = All-push (ImportsAreMet list) finished one.number u.met (b.1.0, b.1.1, rw b.1.2 all);
      begun = b.0;
    }

-- a module is met
pub opens : (list : List Module) (finished : List ℕ) (fs : List Unfinished) (one : Unfinished) (it : Module) (found : Place × List ℕ) (i : ℕ) → IsUnderWay list finished (fs ++ one ∷ [])
    → SkipsTo (names_of list) one.declarations one.next i → IfSome (slice_get one.declarations i) (λ d. wanted (names_of list) (import_of d) ≡ Some found)
    → it.name ≡ found.1 → it.place.«module» ≡ length list → list_any (bytes_eq it.name) (names_of list) ≡ false
    → IsUnderWay (list ++ it ∷ []) finished ((fs ++ (record one { next = i + 1 }) ∷ []) ++ opened (length list) it ∷ [])
opens list finished fs one it found i u h wants named numbered new =
    let b = All-pop (IsBegun list) (fs ++ one ∷ []) fs (Some one) refl u.begun in
    let names = names_of list ++ it.name ∷ [] in
    let before : SkipsTo names one.declarations 0 i =
    skips-more (names_of list) (it.name ∷ []) one.declarations 0 i (skips-on (names_of list) one.declarations 0 one.next i b.1.3 h) in
    let here : IfSome (slice_get one.declarations i) (λ d. wanted names (import_of d) ≡ None) =
    IfSome_then (slice_get one.declarations i) wants (λ d e. rw named (wanted-now (names_of list) (import_of d) found e)) in
    record {
      some = omega (arith, length-append list (it ∷ []));
      distinct = rw (names-push list it) (all_pairs_push (λ a b. a ≢ b) (names_of list) it.name u.distinct (name-differs (names_of list) it.name new));
      numbered = get-push list it (λ k m. m.place.«module» ≡ k) u.numbered numbered;
      once =
          rw (numbers-push (fs ++ (record one { next = i + 1 }) ∷ []) (opened (length list) it), numbers-push fs (record one { next = i + 1 }), length-append list (it ∷ []))
          (once-more (length list) finished (map (λ o. o.number) fs ++ one.number ∷ []) (rw (numbers-push fs one) at u.once));
      met = All-weaker (ImportsAreMet list) (ImportsAreMet (list ++ it ∷ [])) (met-more list it) finished u.met;
      begun =
          All-push (IsBegun (list ++ it ∷ [])) (fs ++ (record one { next = i + 1 }) ∷ []) (opened (length list) it)
          (All-push (IsBegun (list ++ it ∷ [])) fs (record one { next = i + 1 })
          (All-weaker (IsBegun list) (IsBegun (list ++ it ∷ [])) (begun-more list it) fs b.0)
          (b.1.0, get-stays list it one.number b.1.0 b.1.1, b.1.2, rw names-push (skips-one names one.declarations 0 i before here)))
          (it, get-last list it, refl, λ k a c. absurd (omega arith));
    }

-- The end.

leads : (built met : Bool) (found : Place × List ℕ) → cond (built || met) None (Some found) ≡ None → (built ≡ true) ⊎ (met ≡ true)
leads true met found h = inl refl
leads false true found h = inr refl
leads false false found h = absurd cc

leads-to : (names : List (List ℕ)) (o : Option (Place × List ℕ)) → wanted names o ≡ None → IfSome o (λ found. (is_built_in found.1 ≡ true) ⊎ Contains names found.1)
leads-to names None h = tt
leads-to names (Some found) h =
    elim (leads (is_built_in found.1) (list_any (bytes_eq found.1) names) found h) [
      | inl e ↦ inl e
      | inr e ↦ inr (Contains-from_any {eq = bytes_eq} (λ x y. (bytes_eq-Decides x y).0) found.1 names e)
    ]

all-lead : (names : List (List ℕ)) (ds : List Decl) → SkipsTo names ds 0 (length ds) → All (LeadsTo names) ds
all-lead names ds h k d l =
    let at : slice_get ds k ≡ Some (get_or ds k d) = slice_get-get_or ds k d l in
    let P : Option Decl → Type 0 = λ o. IfSome o (λ it. wanted names (import_of it) ≡ None) in
    leads-to names (import_of (get_or ds k d)) (subst P at (h k (omega arith) l))

module-leads : (list : List Module) (finished : List ℕ) → IsUnderWay list finished [] → (k : ℕ) (d : Module) → k < length list → All (LeadsTo (names_of list)) (get_or list k d).declarations
module-leads list finished u k d l =
    let once : count_by (λ n. nat_eq n k) finished ≡ cond (nat_lt k (length list)) 1 0 = rw (append-nil finished) at (u.once k) in
    let some : 0 < count_by (λ n. nat_eq n k) finished = grind (arith, nat_tests) in
    let met = of-counted (ImportsAreMet list) finished k u.met some in
    rw (get_or_from_slice_get list k met.0 d met.1) (all-lead (names_of list) met.0.declarations met.2)

-- all are finished
pub completes : (list l : List Module) (finished f : List ℕ) (unfinished : List Unfinished) → IsUnderWay list finished unfinished → unfinished ≡ [] → length list ≤ most_modules → l ≡ list → f ≡ finished → IsComplete (record { list = l; finished = f })
completes list l finished f unfinished u e few same same' =
    let P : List Unfinished → Type 0 = IsUnderWay list finished in
    let u' : IsUnderWay list finished [] = subst P e u in
    let Q : List Module → List ℕ → Type 0 = λ ms ns. IsComplete (record { list = ms; finished = ns }) in
    let whole : Q list finished = record {
      some = u'.some;
      few = few;
      distinct = u'.distinct;
      numbered = u'.numbered;
      finished = rw (append-nil finished) at u'.once;
      closed = module-leads list finished u';
    } in
    subst (λ (ms : List Module). Q ms f) (sym same) (subst (λ (ns : List ℕ). Q list ns) (sym same') whole)
