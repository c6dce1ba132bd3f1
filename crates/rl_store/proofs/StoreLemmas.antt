-- What the marks keep, after each call.
use Rattle.std.proofs.Common.{◌≡◌, ℕ, ◌<◌, ◌≤◌, Bool, true, false, cond, nat_lt, List, [], ◌∷◌, ◌++◌, length, take, drop, Option, Some, None, refl, sym, ap, ◌∙◌, subst, arith, inl, inr, ltb-true, length-append, not}
use Rattle.std.specs.Option.{IsSome, is_some, option_or, unwrap_or}
use Rattle.std.specs.List.{filter, All}
use Rattle.std.specs.Ordering.{is_eq}
use Rattle.std.specs.FinMap.{get, find, insert, empty, entries, contains_key, from_entries, retain_keys, get-insert, get-entries, get-from_entries, get-retain_keys, same_map}
use Rattle.std.proofs.Math.Seq.{take-length, drop-length}
use Rattle.std.proofs.lemmas.List.{drop-append-le, take-append-le, take-append-drop, length-take-le, map-append}
use Rattle.std.proofs.lemmas.List.Elements.{All-append, All-push, All-weaker, All-take, All-drop, All-nil, All-same, All-filter, filter_passes}
use Rattle.std.proofs.lemmas.Bool.{lt-ltb, ltb-false, le-ltb}
use Rattle.rl_value.specs.Plain.{Plain}
use Rattle.rl_store.specs.Scope.{Scope, value_at, changed_at}
use Rattle.rl_store.specs.Rooms.{HasRoom}
use Rattle.rl_store.specs.Store.{Key, key_cmp, Noted, Mark, laid, laid_entries, note, noting, joined, without_newest}
use Rattle.rl_store.specs.Journal.{entry_of, entries_of, is_noted, is_taken, HasRoomIn, Notes, marks_of, IsJournal, HasNoNote, IsLinked, AreNotedOnce}
use Rattle.rl_store.specs.declared.journal.Note.{Note}
use Rattle.rl_store.specs.declared.journal.MarkAt.{MarkAt}
use Rattle.rl_store.proofs.Inner.{HasRoom-take}
use Rattle.rl_store.proofs.Laying.{key_total, key_same, is_eq-Equal, same_scopes, length-changed_at, value_at-changed_at, value_at-laid, length-laid, laid-from_entries, value_at-take, take-changed_at}
use Rattle.rl_store.proofs.JournalLemmas.{entries_of-push, find-taken, both}
use Rattle.rl_store.proofs.LastNotes.{once_push, taken_once, taken_linked}

option_or-cond : (b : Bool) (o : Option Plain) (f g : Option (Option Plain)) → cond b (Some o) (option_or f g) ≡ option_or (cond b (Some o) f) g
option_or-cond true o f g = refl
option_or-cond false o f g = refl

find-both : (q : Key) (es fs : List (Key × Option Plain)) → find key_cmp q (es ++ fs) ≡ option_or (find key_cmp q es) (find key_cmp q fs)
find-both q [] fs = refl
find-both q (e ∷ es) fs =
    ap (cond (is_eq (key_cmp q e.0)) (Some e.1)) (find-both q es fs)
    ∙ option_or-cond (is_eq (key_cmp q e.0)) e.1 (find key_cmp q es) (find key_cmp q fs)

noted_get : (F : Option (Option Plain)) (o : Option Plain) (e : Bool) (G : Option (Option Plain)) → (e ≡ true → G ≡ F) → cond (is_some F) G (cond e (Some o) G) ≡ option_or G (cond e (Some o) None)
noted_get None o true G h = rw (h refl) refl
noted_get None o false None h = refl
noted_get None o false (Some g) h = refl
noted_get (Some f) o true G h = rw (h refl) refl
noted_get (Some f) o false None h = refl
noted_get (Some f) o false (Some g) h = refl

get-cond : (b : Bool) (m n : Noted) (q : Key) → get (cond b m n) q ≡ cond b (get m q) (get n q)
get-cond true m n q = refl
get-cond false m n q = refl

get-note : (m : Noted) (k : Key) (o : Option Plain) (q : Key) → get (note m k o) q ≡ option_or (get m q) (cond (is_eq (key_cmp q k)) (Some o) None)
get-note m k o q =
    get-cond (contains_key m k) m (insert m k o) q
    ∙ ap (cond (contains_key m k) (get m q)) (get-insert key_total m k o q)
    ∙ noted_get (get m k) o (is_eq (key_cmp q k)) (get m q) (λ e. ap (get m) (key_same q k (is_eq-Equal _ e)))

known : (m : Noted) (k : Key) (o : Option Plain) → IsSome (get m k) → note m k o ≡ m
known m k o h = ap (λ b. cond b m (insert m k o)) h

same_cond : (b : Bool) (m n : Noted) → m ≡ n → n ≡ cond b m n
same_cond true m n e = sym e
same_cond false m n e = refl

noted-push : (es : List (Key × Option Plain)) (k : Key) (o : Option Plain) → from_entries (es ++ (k, o) ∷ []) ≡ note (from_entries {R = key_cmp} es) k o
noted-push es k o = same_map key_total key_same _ _ (λ q.
    get-from_entries key_total (es ++ (k, o) ∷ []) q
    ∙ find-both q es ((k, o) ∷ [])
    ∙ ap (λ f. option_or f (cond (is_eq (key_cmp q k)) (Some o) None)) (sym (get-from_entries key_total es q))
    ∙ sym (get-note (from_entries es) k o q))

abbrev pub noted_in : ℕ → List Note → Noted
noted_in from notes = from_entries (entries_of (drop from notes))

noted_after : (m : MarkAt) (k : Key) (o : Option Plain) (old new : List Note) → m.notes ≤ length old → Notes m k o old new → noted_in m.notes new ≡ cond (nat_lt k.0 m.scopes) (note (noted_in m.notes old) k o) (noted_in m.notes old)
noted_after m k o old new h (inl (e, inl ge)) = rw (le-ltb k.0 m.scopes ge) (ap (noted_in m.notes) e)
noted_after m k o old new h (inl (e, inr has)) =
    let N : Noted = noted_in m.notes old in
    let i : IsSome (get N k) = rw (get-from_entries key_total (entries_of (drop m.notes old)) k) has in
    ap (noted_in m.notes) e ∙ same_cond (nat_lt k.0 m.scopes) (note N k o) N (known N k o i)
noted_after m k o old new h (inr (n, e, en, lt, new_one, linked)) =
    rw (lt-ltb k.0 m.scopes lt)
    (ap (noted_in m.notes) e
    ∙ ap (λ ns. from_entries (entries_of ns)) (drop-append-le m.notes old (n ∷ []) h)
    ∙ ap from_entries (entries_of-push (drop m.notes old) n)
    ∙ ap (λ d. from_entries (entries_of (drop m.notes old) ++ d ∷ [])) en
    ∙ noted-push (entries_of (drop m.notes old)) k o)

front_after : (m : MarkAt) (k : Key) (o : Option Plain) (old new : List Note) → m.notes ≤ length old → Notes m k o old new → take m.notes new ≡ take m.notes old
front_after m k o old new h (inl (e, x)) = ap (take m.notes) e
front_after m k o old new h (inr (n, e, en, lt, new_one, linked)) = ap (take m.notes) e ∙ take-append-le m.notes old (n ∷ []) h

kept_value : (F : Option (Option Plain)) (v w : Option Plain) (e : Bool) → unwrap_or (option_or F (cond e (Some w) None)) (cond e v w) ≡ unwrap_or F w
kept_value None v w true = refl
kept_value None v w false = refl
kept_value (Some f) v w true = refl
kept_value (Some f) v w false = refl

same_value : (ss : List Scope) (p x q y : ℕ) (e : Bool) → (e ≡ true → ◌≡◌ {A = Key} (q, y) (p, x)) → cond e (value_at ss p x) (value_at ss q y) ≡ value_at ss q y
same_value ss p x q y true h = ap (λ (k : Key). value_at ss k.0 k.1) (sym (h refl))
same_value ss p x q y false h = refl

swapped_old : (F : Option (Option Plain)) (e : Bool) (old w : Option Plain) → cond e old w ≡ w → option_or F (cond e (Some old) None) ≡ option_or F (cond e (Some w) None)
swapped_old None true old w h = ap Some h
swapped_old None false old w h = refl
swapped_old (Some f) e old w h = refl

kept_below : (N : Noted) (ss : List Scope) (n p x : ℕ) (o : Option Plain) → n ≤ length ss → laid (note N (p, x) (value_at ss p x)) (take n (changed_at ss p x o)) ≡ laid N (take n ss)
kept_below N ss n p x o h =
    let ts : List Scope = changed_at ss p x o in
    let l : length (take n ts) ≡ n = length-take-le n ts (rw (length-changed_at ss p x o) h) in
    let k : length (take n ss) ≡ n = length-take-le n ss h in
    let M : Noted = note N (p, x) (value_at ss p x) in
    same_scopes (laid M (take n ts)) (laid N (take n ss)) (length-laid M (take n ts) ∙ l ∙ sym k ∙ sym (length-laid N (take n ss)))
    (λ q y i.
    let j : q < n = omega (arith, length-laid M (take n ts)) in
    let b : Bool = is_eq (key_cmp (q, y) (p, x)) in
    let w : Option Plain = value_at ss q y in
    value_at-laid M (take n ts) q y (rw l j)
    ∙ ap (unwrap_or (get M (q, y))) (value_at-take n ts q y j ∙ value_at-changed_at ss p x o q y (omega arith))
    ∙ ap (λ f. unwrap_or f (cond b o w)) (get-note N (p, x) (value_at ss p x) (q, y) ∙ swapped_old (get N (q, y)) b (value_at ss p x) w (same_value ss p x q y b (λ e. key_same (q, y) (p, x) (is_eq-Equal _ e))))
    ∙ kept_value (get N (q, y)) o w b
    ∙ ap (unwrap_or (get N (q, y))) (sym (value_at-take n ss q y j))
    ∙ sym (value_at-laid N (take n ss) q y (rw k j)))

kept_after : (N : Noted) (ss : List Scope) (n p x : ℕ) (o : Option Plain) (b : Bool) → nat_lt p n ≡ b → n ≤ length ss → laid (cond b (note N (p, x) (value_at ss p x)) N) (take n (changed_at ss p x o)) ≡ laid N (take n ss)
kept_after N ss n p x o true e h = kept_below N ss n p x o h
kept_after N ss n p x o false e h = ap (laid N) (take-changed_at n ss p x o (ltb-false p n e))

abbrev mark_of : Noted → List Scope → Mark
mark_of noted kept = record { kept = kept; noted = noted }

noting_one : (K : List Scope) (N : Noted) (n : ℕ) (k : Key) (o : Option Plain) (ms : List Mark) → length K ≡ n → mark_of (cond (nat_lt k.0 n) (note N k o) N) K ∷ ms ≡ noting (mark_of N K ∷ ms) k o
noting_one K N n k o ms e = rw (sym e) (elim (nat_lt k.0 (length K)) as (λ b. mark_of (cond b (note N k o) N) K ∷ ms ≡ cond b (mark_of (note N k o) K) (mark_of N K) ∷ ms) [ true ↦ refl | false ↦ refl ])

-- the newest mark notes, and what is kept stays
pub marks-set : (m : MarkAt) (ms : List MarkAt) (old new : List Note) (ss : List Scope) (p x : ℕ) (v : Option Plain) → m.notes ≤ length old → m.scopes ≤ length ss → Notes m (p, x) (value_at ss p x) old new
    → marks_of (m ∷ ms) new (changed_at ss p x v) ≡ noting (marks_of (m ∷ ms) old ss) (p, x) (value_at ss p x)
marks-set m ms old new ss p x v h i c =
    let N : Noted = noted_in m.notes old in
    let K : List Scope = laid N (take m.scopes ss) in
    let M : Noted = cond (nat_lt p m.scopes) (note N (p, x) (value_at ss p x)) N in
    ap (λ L. mark_of L (laid L (take m.scopes (changed_at ss p x v))) ∷ marks_of ms (take m.notes new) (laid L (take m.scopes (changed_at ss p x v)))) (noted_after m (p, x) (value_at ss p x) old new h c)
    ∙ ap (λ J. mark_of M J ∷ marks_of ms (take m.notes new) J) (kept_after N ss m.scopes p x v (nat_lt p m.scopes) refl i)
    ∙ ap (λ ns. mark_of M K ∷ marks_of ms ns K) (front_after m (p, x) (value_at ss p x) old new h c)
    ∙ noting_one K N m.scopes (p, x) (value_at ss p x) (marks_of ms (take m.notes old) K) (length-laid N (take m.scopes ss) ∙ length-take-le m.scopes ss i)

pub marks-mark : (ms : List MarkAt) (notes : List Note) (ss : List Scope) → marks_of (record { scopes = length ss; notes = length notes } ∷ ms) notes ss ≡ record { kept = ss; noted = empty } ∷ marks_of ms notes ss
marks-mark ms notes ss =
    ap (λ ns. let N : Noted = from_entries (entries_of ns) in mark_of N (laid N (take (length ss) ss)) ∷ marks_of ms (take (length notes) notes) (laid N (take (length ss) ss))) (drop-length notes)
    ∙ ap (λ K. mark_of empty K ∷ marks_of ms (take (length notes) notes) K) (laid-from_entries [] (take (length ss) ss) ∙ take-length ss)
    ∙ ap (λ ns. mark_of empty ss ∷ marks_of ms ns ss) (take-length notes)

-- the marks see only scopes that stood there
pub marks-same : (ms : List MarkAt) (notes : List Note) (ss ts : List Scope) → ((m : MarkAt) (ns : List MarkAt) → ms ≡ m ∷ ns → take m.scopes ts ≡ take m.scopes ss) → marks_of ms notes ts ≡ marks_of ms notes ss
marks-same [] notes ss ts h = refl
marks-same (m ∷ ms) notes ss ts h =
    ap (λ us. let K : List Scope = laid (noted_in m.notes notes) us in mark_of (noted_in m.notes notes) K ∷ marks_of ms (take m.notes notes) K) (h m ms refl)

get-entries_or : (m n : Noted) (q : Key) → get (from_entries {R = key_cmp} (entries m ++ entries n)) q ≡ option_or (get m q) (get n q)
get-entries_or m n q =
    get-from_entries key_total (entries m ++ entries n) q ∙ find-both q (entries m) (entries n)
    ∙ ap (λ f. option_or f (find key_cmp q (entries n))) (sym (get-entries m q))
    ∙ ap (option_or (get m q)) (sym (get-entries n q))

get-joined : (L U : Mark) (q : Key) → get (joined L U) q ≡ option_or (get L.noted q) (cond (nat_lt q.0 (length L.kept)) (get U.noted q) None)
get-joined L U q =
    let test : Key → Bool = λ key. nat_lt key.0 (length L.kept) in
    get-entries_or L.noted (retain_keys U.noted test) q
    ∙ ap (option_or (get L.noted q)) (get-retain_keys U.noted test q (λ k e. ap test (sym (key_same q k e))))

-- the older mark takes the notes of the newest
noted-released : (l u : MarkAt) (notes : List Note) (L U : Mark) → l.notes ≤ u.notes → u.notes ≤ length notes → L.noted ≡ noted_in l.notes (take u.notes notes) → U.noted ≡ noted_in u.notes notes → length L.kept ≡ l.scopes
    → noted_in l.notes (take u.notes notes ++ filter (is_taken (take u.notes notes) l) (drop u.notes notes)) ≡ joined L U
noted-released l u notes L U h i f g k =
    let A : List Note = take u.notes notes in
    let B : List Note = drop u.notes notes in
    let F : List Note = filter (is_taken A l) B in
    let within : l.notes ≤ length A = rw (length-take-le u.notes notes i) h in
    same_map key_total key_same _ _ (λ q.
    get-from_entries key_total (entries_of (drop l.notes (A ++ F))) q
    ∙ ap (λ ns. find key_cmp q (entries_of ns)) (drop-append-le l.notes A F within)
    ∙ ap (find key_cmp q) (map-append entry_of (drop l.notes A) F)
    ∙ find-both q (entries_of (drop l.notes A)) (entries_of F)
    ∙ find-taken A l q B
    ∙ ap (λ o. option_or o (cond (nat_lt q.0 l.scopes) (find key_cmp q (entries_of B)) None)) (sym (get-from_entries key_total (entries_of (drop l.notes A)) q) ∙ ap (λ m. get m q) (sym f))
    ∙ ap (λ o. option_or (get L.noted q) (cond (nat_lt q.0 l.scopes) o None)) (sym (get-from_entries key_total (entries_of B) q) ∙ ap (λ m. get m q) (sym g))
    ∙ ap (λ n. option_or (get L.noted q) (cond (nat_lt q.0 n) (get U.noted q) None)) (sym k)
    ∙ sym (get-joined L U q))

unwrap_or-option_or : (a b : Option (Option Plain)) (v : Option Plain) → unwrap_or (option_or a b) v ≡ unwrap_or a (unwrap_or b v)
unwrap_or-option_or None b v = refl
unwrap_or-option_or (Some x) b v = refl

kept-released : (L U : Mark) (ss : List Scope) (n m : ℕ) → n ≤ m → m ≤ length ss → length L.kept ≡ n → laid (joined L U) (take n ss) ≡ laid L.noted (take n (laid U.noted (take m ss)))
kept-released L U ss n m h i k =
    let K : List Scope = laid U.noted (take m ss) in
    let lk : length K ≡ m = length-laid U.noted (take m ss) ∙ length-take-le m ss i in
    let a : length (take n ss) ≡ n = length-take-le n ss (omega arith) in
    let b : length (take n K) ≡ n = length-take-le n K (omega arith) in
    same_scopes (laid (joined L U) (take n ss)) (laid L.noted (take n K)) (length-laid (joined L U) (take n ss) ∙ a ∙ sym b ∙ sym (length-laid L.noted (take n K)))
    (λ q y j.
    let c : q < n = omega (arith, length-laid (joined L U) (take n ss)) in
    let low : nat_lt q (length L.kept) ≡ true = lt-ltb q (length L.kept) (omega arith) in
    value_at-laid (joined L U) (take n ss) q y (rw a c)
    ∙ ap (unwrap_or (get (joined L U) (q, y))) (value_at-take n ss q y c)
    ∙ ap (λ f. unwrap_or f (value_at ss q y)) (get-joined L U (q, y) ∙ ap (λ t. option_or (get L.noted (q, y)) (cond t (get U.noted (q, y)) None)) low)
    ∙ unwrap_or-option_or (get L.noted (q, y)) (get U.noted (q, y)) (value_at ss q y)
    ∙ ap (λ v. unwrap_or (get L.noted (q, y)) (unwrap_or (get U.noted (q, y)) v)) (sym (value_at-take m ss q y (omega arith)))
    ∙ ap (unwrap_or (get L.noted (q, y))) (sym (value_at-laid U.noted (take m ss) q y (omega (arith, length-take-le m ss i))))
    ∙ ap (unwrap_or (get L.noted (q, y))) (sym (value_at-take n K q y c))
    ∙ sym (value_at-laid L.noted (take n K) q y (rw b c)))

pub marks-release : (l u : MarkAt) (ms : List MarkAt) (notes : List Note) (ss : List Scope) → IsJournal (u ∷ l ∷ ms) notes (length ss)
    → marks_of (l ∷ ms) (take u.notes notes ++ filter (is_taken (take u.notes notes) l) (drop u.notes notes)) ss ≡ without_newest (marks_of (u ∷ l ∷ ms) notes ss)
marks-release l u ms notes ss j =
    let A : List Note = take u.notes notes in
    let F : List Note = filter (is_taken A l) (drop u.notes notes) in
    let Nu : Noted = noted_in u.notes notes in
    let Ku : List Scope = laid Nu (take u.scopes ss) in
    let Nl : Noted = noted_in l.notes A in
    let Kl : List Scope = laid Nl (take l.scopes Ku) in
    let L : Mark = mark_of Nl Kl in
    let U : Mark = mark_of Nu Ku in
    let la : length A ≡ u.notes = length-take-le u.notes notes j.2 in
    let within : l.notes ≤ length A = j.4.2 in
    let lku : length Ku ≡ u.scopes = length-laid Nu (take u.scopes ss) ∙ length-take-le u.scopes ss j.1 in
    let below : l.scopes ≤ u.scopes = j.4.1 in
    let lkl : length Kl ≡ l.scopes = length-laid Nl (take l.scopes Ku) ∙ length-take-le l.scopes Ku (omega (arith, below, lku)) in
    ap (λ N. let K : List Scope = laid N (take l.scopes ss) in mark_of N K ∷ marks_of ms (take l.notes (A ++ F)) K) (noted-released l u notes L U (omega (arith, within, la)) j.2 refl refl lkl)
    ∙ ap (λ K. mark_of (joined L U) K ∷ marks_of ms (take l.notes (A ++ F)) K) (kept-released L U ss l.scopes u.scopes below j.1 lkl)
    ∙ ap (λ ns. mark_of (joined L U) Kl ∷ marks_of ms ns Kl) (take-append-le l.notes A F within)

-- what a rollback leaves
pub marks-rollback : (m : MarkAt) (ms : List MarkAt) (notes : List Note) (ss ts : List Scope) → ts ≡ laid_entries (entries_of (drop m.notes notes)) (take m.scopes ss) → ts ≡ laid (noted_in m.notes notes) (take m.scopes ss)
marks-rollback m ms notes ss ts e = e ∙ sym (laid-from_entries (entries_of (drop m.notes notes)) (take m.scopes ss))

pub IsJournal-grow : (ms : List MarkAt) (notes : List Note) (a b : ℕ) → a ≤ b → IsJournal ms notes a → IsJournal ms notes b
IsJournal-grow [] notes a b h j = j
IsJournal-grow (m ∷ ms) notes a b h j = (j.0, omega (arith, j.1), j.2, j.3, j.4, j.5, j.6)

all_parts : (P : Note → Type 0) (n : ℕ) (notes : List Note) → All P (take n notes) → All P (drop n notes) → All P notes
all_parts P n notes a b = subst (All P) (take-append-drop n notes) (All-append P (take n notes) (drop n notes) a b)

pub IsJournal-places : (ms : List MarkAt) (notes : List Note) (count : ℕ) → IsJournal ms notes count → All (λ n. n.place < count) notes
IsJournal-places [] notes count j = All-same (λ n. n.place < count) notes [] j (All-nil (λ n. n.place < count))
IsJournal-places (m ∷ ms) notes count j =
    All-weaker (λ n. n.place < m.scopes) (λ n. n.place < count) (λ n h. omega (arith, j.1)) notes
    (all_parts (λ n. n.place < m.scopes) m.notes notes (IsJournal-places ms (take m.notes notes) m.scopes j.4) j.3)

pub IsJournal-set : (m : MarkAt) (ms : List MarkAt) (k : Key) (o : Option Plain) (old new : List Note) (count : ℕ) → Notes m k o old new → IsJournal (m ∷ ms) old count → IsJournal (m ∷ ms) new count
IsJournal-set m ms k o old new count (inl (e, x)) j = let P : List Note → Type 0 = λ ns. IsJournal (m ∷ ms) ns count in subst P (sym e) j
IsJournal-set m ms k o old new count (inr (n, e, en, lt, new_one, linked)) j =
    let P : List Note → Type 0 = λ ns. IsJournal (m ∷ ms) ns count in
    let Q : Note → Type 0 = λ n. n.place < m.scopes in
    let R : List Note → Type 0 = λ ns. IsJournal ms ns m.scopes in
    let place : n.place < m.scopes = omega (arith, lt, ap (λ (d : Key × Option Plain). d.0.0) en) in
    let same : k ≡ (n.place, n.variable) = sym (ap (λ (d : Key × Option Plain). d.0) en) in
    let none : HasNoNote (drop m.notes old) (n.place, n.variable) = subst (HasNoNote (drop m.notes old)) same new_one in
    let S : List Note → Type 0 = λ ns. AreNotedOnce ns in
    let T : (List Note) × List Note → Type 0 = λ t. All (IsLinked t.0) t.1 in
    let back : drop m.notes (old ++ n ∷ []) ≡ drop m.notes old ++ n ∷ [] = drop-append-le m.notes old (n ∷ []) j.2 in
    let front : take m.notes (old ++ n ∷ []) ≡ take m.notes old = take-append-le m.notes old (n ∷ []) j.2 in
    subst P (sym e) (
      j.0,
      j.1,
      omega (arith, j.2, length-append old (n ∷ [])),
      subst (All Q) (sym back) (All-push Q (drop m.notes old) n j.3 place),
      subst R (sym front) j.4,
      subst S (sym back) (once_push (drop m.notes old) n j.5 none),
      subst T (λ i. (sym front i, sym back i)) (All-push (IsLinked (take m.notes old)) (drop m.notes old) n j.6 linked),
    )

pub IsJournal-mark : (ms : List MarkAt) (notes : List Note) (count : ℕ) → 1 ≤ count → IsJournal ms notes count → IsJournal (record { scopes = count; notes = length notes } ∷ ms) notes count
IsJournal-mark ms notes count h j =
    let Q : Note → Type 0 = λ n. n.place < count in
    let R : List Note → Type 0 = λ ns. IsJournal ms ns count in
    let S : List Note → Type 0 = λ ns. AreNotedOnce ns in
    let T : Note → Type 0 = IsLinked (take (length notes) notes) in
    (h, omega arith, omega arith, subst (All Q) (sym (drop-length notes)) (All-nil Q), subst R (sym (take-length notes)) j, subst S (sym (drop-length notes)) tt, subst (All T) (sym (drop-length notes)) (All-nil T))

taken_place : (front : List Note) (l : MarkAt) (notes : List Note) → All (λ n. n.place < l.scopes) (filter (is_taken front l) notes)
taken_place front l notes =
    All-weaker (λ n. is_taken front l n ≡ true) (λ n. n.place < l.scopes) (λ n h. ltb-true n.place l.scopes (both (nat_lt n.place l.scopes) (not (is_noted front l.notes n.earlier n.place n.variable)) h).0) (filter (is_taken front l) notes) (filter_passes (is_taken front l) notes)

pub IsJournal-release : (l u : MarkAt) (ms : List MarkAt) (notes : List Note) (count : ℕ) → IsJournal (u ∷ l ∷ ms) notes count → IsJournal (l ∷ ms) (take u.notes notes ++ filter (is_taken (take u.notes notes) l) (drop u.notes notes)) count
IsJournal-release l u ms notes count j =
    let A : List Note = take u.notes notes in
    let F : List Note = filter (is_taken A l) (drop u.notes notes) in
    let Q : Note → Type 0 = λ n. n.place < l.scopes in
    let R : List Note → Type 0 = λ ns. IsJournal ms ns l.scopes in
    let S : List Note → Type 0 = λ ns. AreNotedOnce ns in
    let T : (List Note) × List Note → Type 0 = λ t. All (IsLinked t.0) t.1 in
    let back : drop l.notes (A ++ F) ≡ drop l.notes A ++ F = drop-append-le l.notes A F j.4.2 in
    let front : take l.notes (A ++ F) ≡ take l.notes A = take-append-le l.notes A F j.4.2 in (
      j.4.0,
      omega (arith, j.1, j.4.1),
      omega (arith, j.4.2, length-append A F),
      subst (All Q) (sym back) (All-append Q (drop l.notes A) F j.4.3 (taken_place A l (drop u.notes notes))),
      subst R (sym front) j.4.4,
      subst S (sym back) (taken_once A l (drop u.notes notes) j.6 j.4.5 j.5),
      subst T (λ i. (sym front i, sym back i)) (taken_linked A l (drop u.notes notes) j.6 j.4.6),
    )

-- the variables of the notes keep their room
pub room-set : (m : MarkAt) (p x : ℕ) (o : Option Plain) (old new : List Note) (rs qs : List (List ℕ)) → Notes m (p, x) o old new → ((q y : ℕ) → HasRoom rs q y → HasRoom qs q y) → HasRoom qs p x → All (HasRoomIn rs) old → All (HasRoomIn qs) new
room-set m p x o old new rs qs (inl (e, c)) stays here a =
    subst (All (HasRoomIn qs)) (sym e) (All-weaker (HasRoomIn rs) (HasRoomIn qs) (λ n h. stays n.place n.variable h) old a)
room-set m p x o old new rs qs (inr (n, e, en, lt, new_one, linked)) stays here a =
    let P : Key → Type 0 = λ k. HasRoom qs k.0 k.1 in
    subst (All (HasRoomIn qs)) (sym e)
    (All-push (HasRoomIn qs) old n (All-weaker (HasRoomIn rs) (HasRoomIn qs) (λ n h. stays n.place n.variable h) old a) (subst P (sym (ap (λ (d : Key × Option Plain). d.0) en)) here))

pub room-stays : (notes : List Note) (rs qs : List (List ℕ)) → ((q y : ℕ) → HasRoom rs q y → HasRoom qs q y) → All (HasRoomIn rs) notes → All (HasRoomIn qs) notes
room-stays notes rs qs stays a = All-weaker (HasRoomIn rs) (HasRoomIn qs) (λ n h. stays n.place n.variable h) notes a

pub room-take : (notes : List Note) (rs : List (List ℕ)) (n : ℕ) → All (λ d. d.place < n) notes → All (HasRoomIn rs) notes → All (HasRoomIn (take n rs)) notes
room-take notes rs n a b = λ k d h. HasRoom-take n rs _ _ (a k d h) (b k d h)

pub room-release : (front : List Note) (l : MarkAt) (n : ℕ) (notes : List Note) (rs : List (List ℕ)) → All (HasRoomIn rs) notes → All (HasRoomIn rs) (take n notes ++ filter (is_taken front l) (drop n notes))
room-release front l n notes rs a =
    All-append (HasRoomIn rs) (take n notes) (filter (is_taken front l) (drop n notes)) (All-take (HasRoomIn rs) n notes a)
    (All-filter (is_taken front l) (HasRoomIn rs) (drop n notes) (All-drop (HasRoomIn rs) n notes a))
