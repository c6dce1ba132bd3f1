-- Notes that are made, laid back and given to an older mark.
use Rattle.std.proofs.Common.{◌≡◌, ℕ, zero, suc, ◌+◌, ◌-◌, ◌≤◌, Bool, true, false, cond, not, ◌&&◌, ◌==◌, nat_lt, List, [], ◌∷◌, ◌++◌, length, take, drop, Option, Some, None, refl, sym, ap, ◌∙◌, subst, arith, eqb-true, ltb-true, append-nil}
use Rattle.std.specs.Option.{IsSome, is_some, option_or}
use Rattle.std.specs.List.{slice_get, filter}
use Rattle.std.specs.Ordering.{is_eq}
use Rattle.std.specs.declared.cmp.Ordering.TheVariants.{Equal}
use Rattle.std.specs.Cmp.{nat_cmp_is}
use Rattle.std.specs.FinMap.{find}
use Rattle.std.proofs.Math.ListN.{drop_of_length-le}
use Rattle.std.proofs.Math.Seq.{take-append-add, take-length}
use Rattle.std.proofs.lemmas.List.{drop-append-le, map-append}
use Rattle.rl_value.specs.Plain.{Plain}
use Rattle.rl_store.specs.Scope.{Scope, changed_at}
use Rattle.rl_store.specs.Store.{Key, key_cmp, laid_entries}
use Rattle.rl_store.specs.Journal.{entry_of, entries_of, is_of, is_noted, is_taken}
use Rattle.rl_store.specs.declared.journal.Note.{Note}
use Rattle.rl_store.specs.declared.journal.MarkAt.{MarkAt}
use Rattle.rl_store.proofs.Laying.{key_same, is_eq-Equal, laid_entries-push}

pub key_self : (k : Key) → is_eq (key_cmp k k) ≡ true
key_self k = rw (sym (nat_cmp_is k.0 k.0 Equal refl)) (rw (sym (nat_cmp_is k.1 k.1 Equal refl)) refl)

pub entries_of-push : (notes : List Note) (n : Note) → entries_of (notes ++ n ∷ []) ≡ entries_of notes ++ entry_of n ∷ []
entries_of-push notes n = map-append entry_of notes (n ∷ [])

pub laid-push : (notes : List Note) (n : Note) (ss : List Scope) (from : ℕ) → from ≤ length notes → laid_entries (entries_of (drop from (notes ++ n ∷ []))) ss ≡ laid_entries (entries_of (drop from notes)) (changed_at ss n.place n.variable n.before)
laid-push notes n ss from h =
    ap (λ ns. laid_entries (entries_of ns) ss) (drop-append-le from notes (n ∷ []) h)
    ∙ ap (λ es. laid_entries es ss) (entries_of-push (drop from notes) n)
    ∙ laid_entries-push (entries_of (drop from notes)) (entry_of n) ss

pub laid-none : (notes : List Note) (ss : List Scope) (from : ℕ) → length notes ≤ from → laid_entries (entries_of (drop from notes)) ss ≡ ss
laid-none notes ss from h = ap (λ ns. laid_entries (entries_of ns) ss) (drop_of_length-le notes h)

pub both : (a b : Bool) → (a && b) ≡ true → (a ≡ true) × (b ≡ true)
both true b e = (refl, e)
both false b e = (cc)

found_first : (n : Note) (place variable : ℕ) (es : List (Key × Option Plain)) → is_of (Some n) place variable ≡ true → IsSome (find key_cmp (place, variable) (entry_of n ∷ es))
found_first n place variable es h =
    let b = both (n.place == place) (n.variable == variable) h in
    let p : n.place ≡ place = eqb-true n.place place b.0 in
    let x : n.variable ≡ variable = eqb-true n.variable variable b.1 in
    let P : Key → Type 0 = λ k. IsSome (find key_cmp k (entry_of n ∷ es)) in
    let same : entry_of n ≡ entry_of n = refl in
    subst P (λ i. (p i, x i)) (rw (key_self (n.place, n.variable)) refl)

later_found : (b : Bool) (o : Option Plain) (f : Option (Option Plain)) → IsSome f → IsSome (cond b (Some o) f)
later_found true o f h = refl
later_found false o f h = h

pub find-slice_get : (notes : List Note) (from i place variable : ℕ) → from ≤ i → is_of (slice_get notes i) place variable ≡ true → IsSome (find key_cmp (place, variable) (entries_of (drop from notes)))
find-slice_get [] from i place variable h e = (cc)
find-slice_get (n ∷ notes) zero zero place variable h e = found_first n place variable (entries_of notes) e
find-slice_get (n ∷ notes) zero (suc i) place variable h e =
    later_found (is_eq (key_cmp (place, variable) (n.place, n.variable))) n.before (find key_cmp (place, variable) (entries_of notes)) (find-slice_get notes zero i place variable (omega arith) e)
find-slice_get (n ∷ notes) (suc from) zero place variable h e = absurd (omega arith)
find-slice_get (n ∷ notes) (suc from) (suc i) place variable h e = find-slice_get notes from i place variable (omega arith) e

-- a variable that is noted has a note
pub is_noted-find : (notes : List Note) (from last place variable : ℕ) → is_noted notes from last place variable ≡ true → IsSome (find key_cmp (place, variable) (entries_of (drop from notes)))
is_noted-find notes from last place variable h =
    let b = both (nat_lt from last) (is_of (slice_get notes (last - 1)) place variable) h in
    find-slice_get notes from (last - 1) place variable (omega (arith, ltb-true from last b.0)) b.1

taken_step : (A : Option (Option Plain)) (o : Option Plain) (F G : Option (Option Plain)) (e below noted low : Bool)
    → (e ≡ true → low ≡ below) → (e ≡ true → noted ≡ true → IsSome A)
    → option_or A F ≡ option_or A (cond low G None)
    → option_or A (cond (below && not noted) (cond e (Some o) F) F) ≡ option_or A (cond low (cond e (Some o) G) None)
taken_step A o F G false true true low f g h = h
taken_step A o F G false true false low f g h = h
taken_step A o F G false false noted low f g h = h
taken_step A o F G true true false low f g h = rw (f refl) refl
taken_step None o F G true true true low f g h = let i : is_some {T = Option Plain} None ≡ true = g refl refl in (cc)
taken_step (Some a) o F G true true true low f g h = refl
taken_step A o F G true false noted low f g h =
    let i : low ≡ false = f refl in
    h ∙ ap (λ b. option_or A (cond b G None)) i ∙ ap (λ b. option_or A (cond b (Some o) None)) (sym i)

find-cond : (k : Key) (b : Bool) (n : Note) (ns : List Note) → find key_cmp k (entries_of (cond b (n ∷ ns) ns)) ≡ cond b (cond (is_eq (key_cmp k (entry_of n).0)) (Some n.before) (find key_cmp k (entries_of ns))) (find key_cmp k (entries_of ns))
find-cond k true n ns = refl
find-cond k false n ns = refl

-- of the older mark's own notes and those that it takes, the first of a variable is its own, or else the newer mark's where the scope stood there
pub find-taken : (front : List Note) (older : MarkAt) (k : Key) (notes : List Note)
    → option_or (find key_cmp k (entries_of (drop older.notes front))) (find key_cmp k (entries_of (filter (is_taken front older) notes)))
    ≡ option_or (find key_cmp k (entries_of (drop older.notes front))) (cond (nat_lt k.0 older.scopes) (find key_cmp k (entries_of notes)) None)
find-taken front older k [] = elim (nat_lt k.0 older.scopes) as (λ b. option_or (find key_cmp k (entries_of (drop older.notes front))) None ≡ option_or (find key_cmp k (entries_of (drop older.notes front))) (cond b None None)) [ true ↦ refl | false ↦ refl ]
find-taken front older k (n ∷ notes) =
    let A : Option (Option Plain) = find key_cmp k (entries_of (drop older.notes front)) in
    let same : is_eq (key_cmp k (n.place, n.variable)) ≡ true → k ≡ (n.place, n.variable) = λ e. key_same k (n.place, n.variable) (is_eq-Equal _ e) in
    let P : Key → Type 0 = λ q. IsSome (find key_cmp q (entries_of (drop older.notes front))) in
    ap (option_or A) (find-cond k (is_taken front older n) n (filter (is_taken front older) notes))
    ∙ taken_step A n.before (find key_cmp k (entries_of (filter (is_taken front older) notes))) (find key_cmp k (entries_of notes))
    (is_eq (key_cmp k (n.place, n.variable))) (nat_lt n.place older.scopes) (is_noted front older.notes n.earlier n.place n.variable) (nat_lt k.0 older.scopes)
    (λ e. ap (λ (q : Key). nat_lt q.0 older.scopes) (same e))
    (λ e h. subst P (sym (same e)) (is_noted-find front older.notes n.earlier n.place n.variable h))
    (find-taken front older k notes)

-- the two parts of the notes, joined and cut
pub parts_joined : (notes front back new : List Note) (from kept : ℕ) (older : MarkAt) → front ≡ take from notes → back ≡ drop from notes → length front ≡ from → take kept new ≡ filter (is_taken front older) back
    → take (from + kept) (front ++ new) ≡ take from notes ++ filter (is_taken (take from notes) older) (drop from notes)
parts_joined notes front back new from kept older f b l k =
    let e : take (length front + kept) (front ++ new) ≡ front ++ take kept new = take-append-add front new kept in
    ap (λ n. take (n + kept) (front ++ new)) (sym l) ∙ e ∙ ap (λ ns. front ++ ns) k
    ∙ ap (λ fs. fs ++ filter (is_taken fs older) back) f
    ∙ ap (λ bs. take from notes ++ filter (is_taken (take from notes) older) bs) b

-- a list that is written over another of its length
pub written_over : (xs ys : List Note) (n : ℕ) → length xs ≡ n → length ys ≡ n → take n (xs ++ drop (length xs) ys) ≡ xs
written_over xs ys n h i =
    ap (λ zs. take n (xs ++ zs)) (drop_of_length-le ys (omega arith)) ∙ ap (take n) (append-nil xs) ∙ ap (λ m. take m xs) (sym h) ∙ take-length xs
