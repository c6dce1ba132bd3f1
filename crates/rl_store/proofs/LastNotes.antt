-- Where the last notes of variables stand.
use Rattle.std.proofs.Common.{◌≡◌, ℕ, zero, suc, ◌+◌, ◌-◌, ◌<◌, ◌≤◌, Bool, true, false, cond, not, ◌&&◌, ◌==◌, nat_lt, List, [], ◌∷◌, ◌++◌, length, take, drop, get_or, Option, Some, None, refl, sym, ap, ◌∙◌, subst, arith, inl, inr, ◌⊎◌, ⊎_elim, eqb-true, ltb-true, length-append}
use Rattle.std.specs.Option.{IsSome, is_some}
use Rattle.std.specs.List.{slice_get, filter, All}
use Rattle.std.specs.Ordering.{nat_cmp, ordering_then, is_eq}
use Rattle.std.specs.declared.cmp.Ordering.{Ordering}
use Rattle.std.specs.declared.cmp.Ordering.TheVariants.{Less, Equal, Greater}
use Rattle.std.specs.Cmp.{eq_by_cmp_equiv, nat_cmp_total}
use Rattle.std.specs.FinMap.{find}
use Rattle.std.proofs.Math.Dec.{eqb-suc-zero, eqb-zero-suc, eqb-suc-suc}
use Rattle.std.proofs.lemmas.Bool.{lt-ltb}
use Rattle.std.proofs.lemmas.List.{take-append-drop, length-take-le, take_more, drop_more}
use Rattle.std.proofs.lemmas.List.Elements.{All-head, All-tail, All-filter, filter_passes, All-append}
use Rattle.rl_value.specs.Plain.{Plain}
use Rattle.rl_store.specs.Rooms.{LastNotes, last_note_at, KeepsLastNotes, SetsLastNote}
use Rattle.rl_store.specs.Store.{Key, key_cmp}
use Rattle.rl_store.specs.Journal.{entries_of, is_of, is_noted, is_taken, IsLast, AreLast, IsLinked, HasNoNote, AreNotedOnce}
use Rattle.rl_store.specs.declared.journal.Note.{Note}
use Rattle.rl_store.specs.declared.journal.MarkAt.{MarkAt}
use Rattle.rl_store.proofs.Laying.{nat_cmp-suc, nat_cmp-zero_suc, nat_cmp-suc_zero}
use Rattle.rl_store.proofs.JournalLemmas.{both, find-slice_get}

-- keys

pub nat_cmp-eqb : (m n : ℕ) → is_eq (nat_cmp m n) ≡ (m == n)
nat_cmp-eqb zero zero = refl
nat_cmp-eqb zero (suc n) = ap is_eq (nat_cmp-zero_suc n) ∙ sym (eqb-zero-suc n)
nat_cmp-eqb (suc m) zero = ap is_eq (nat_cmp-suc_zero m) ∙ sym (eqb-suc-zero m)
nat_cmp-eqb (suc m) (suc n) = ap is_eq (nat_cmp-suc m n) ∙ nat_cmp-eqb m n ∙ sym (eqb-suc-suc m n)

pub turned : (x y : ℕ) → is_eq (nat_cmp x y) ≡ is_eq (nat_cmp y x)
turned = (eq_by_cmp_equiv nat_cmp_total).symm

is_eq-then : (a b : Ordering) → is_eq (ordering_then a b) ≡ (is_eq a && is_eq b)
is_eq-then Less b = refl
is_eq-then Equal b = refl
is_eq-then Greater b = refl

-- the test by the search of a key, and that by the two numbers
is_of-key : (n : Note) (k : Key) → is_eq (key_cmp k (n.place, n.variable)) ≡ is_of (Some n) k.0 k.1
is_of-key n k =
    is_eq-then (nat_cmp k.0 n.place) (nat_cmp k.1 n.variable)
    ∙ ap (λ b. b && is_eq (nat_cmp k.1 n.variable)) (turned k.0 n.place ∙ nat_cmp-eqb n.place k.0)
    ∙ ap (λ b. (n.place == k.0) && b) (turned k.1 n.variable ∙ nat_cmp-eqb n.variable k.1)

eqb-self : (n : ℕ) → (n == n) ≡ true
eqb-self zero = refl
eqb-self (suc n) = eqb-suc-suc n n ∙ eqb-self n

and_true : (a b : Bool) → a ≡ true → b ≡ true → (a && b) ≡ true
and_true true b e f = f
and_true false b e f = (cc)

is_of-self : (n : Note) → is_of (Some n) n.place n.variable ≡ true
is_of-self n = and_true (n.place == n.place) (n.variable == n.variable) (eqb-self n.place) (eqb-self n.variable)

true_false : (b : Bool) → b ≡ true → b ≡ false → ⊥
true_false true e f = (cc)
true_false false e f = (cc)

not_true : (b : Bool) → (b ≡ true → ⊥) → b ≡ false
not_true true h = absurd (h refl)
not_true false h = refl

not_some : (o : Option (Option Plain)) → o ≡ None → IsSome o → ⊥
not_some None e h = let i : is_some {T = Option Plain} None ≡ true = h in (cc)
not_some (Some v) e h = (cc)

-- variables without a note

cond_none : (b : Bool) (v : Option Plain) (o : Option (Option Plain)) → b ≡ false → o ≡ None → cond b (Some v) o ≡ None
cond_none true v o e h = (cc)
cond_none false v o e h = h

none_cond : (b : Bool) (v : Option Plain) (o : Option (Option Plain)) → cond b (Some v) o ≡ None → (b ≡ false) × (o ≡ None)
none_cond true v o e = (cc)
none_cond false v o e = (refl, e)

pub no_note_cons : (n : Note) (ns : List Note) (k : Key) → is_of (Some n) k.0 k.1 ≡ false → HasNoNote ns k → HasNoNote (n ∷ ns) k
no_note_cons n ns k e h = cond_none (is_eq (key_cmp k (n.place, n.variable))) n.before (find key_cmp k (entries_of ns)) (is_of-key n k ∙ e) h

no_note_parts : (n : Note) (ns : List Note) (k : Key) → HasNoNote (n ∷ ns) k → (is_of (Some n) k.0 k.1 ≡ false) × HasNoNote ns k
no_note_parts n ns k h =
    let p = none_cond (is_eq (key_cmp k (n.place, n.variable))) n.before (find key_cmp k (entries_of ns)) h in
    (sym (is_of-key n k) ∙ p.0, p.1)

no_note_append : (ns fs : List Note) (k : Key) → HasNoNote ns k → HasNoNote fs k → HasNoNote (ns ++ fs) k
no_note_append [] fs k g h = h
no_note_append (n ∷ ns) fs k g h =
    let p = no_note_parts n ns k g in
    no_note_cons n (ns ++ fs) k p.0 (no_note_append ns fs k p.1 h)

pub no_note_push : (ns : List Note) (n : Note) (k : Key) → is_of (Some n) k.0 k.1 ≡ false → HasNoNote ns k → HasNoNote (ns ++ n ∷ []) k
no_note_push ns n k e h = no_note_append ns (n ∷ []) k h (no_note_cons n [] k e refl)

no_note_at : (ns : List Note) (i p x : ℕ) → HasNoNote ns (p, x) → is_of (slice_get ns i) p x ≡ true → ⊥
no_note_at ns i p x h e = not_some (find key_cmp (p, x) (entries_of ns)) h (find-slice_get ns 0 i p x (omega arith) e)

no_note_from : (notes : List Note) (from p x : ℕ) → ((i : ℕ) → from ≤ i → is_of (slice_get notes i) p x ≡ true → ⊥) → HasNoNote (drop from notes) (p, x)
no_note_from [] zero p x h = refl
no_note_from [] (suc from) p x h = refl
no_note_from (n ∷ notes) zero p x h = no_note_cons n notes (p, x) (not_true (is_of (Some n) p x) (λ e. h 0 (omega arith) e)) (no_note_from notes zero p x (λ i l e. h (suc i) (omega arith) e))
no_note_from (n ∷ notes) (suc from) p x h = no_note_from notes from p x (λ i l e. h (suc i) (omega (arith, l)) e)

kept_none : (b : Bool) (n : Note) (ns : List Note) (k : Key) → is_of (Some n) k.0 k.1 ≡ false → HasNoNote ns k → HasNoNote (cond b (n ∷ ns) ns) k
kept_none true n ns k e h = no_note_cons n ns k e h
kept_none false n ns k e h = h

no_note_filter : (test : Note → Bool) (ns : List Note) (k : Key) → HasNoNote ns k → HasNoNote (filter test ns) k
no_note_filter test [] k h = h
no_note_filter test (n ∷ ns) k h =
    let p = no_note_parts n ns k h in
    kept_none (test n) n (filter test ns) k p.0 (no_note_filter test ns k p.1)

-- notes of which no two are of one variable

kept_once : (b : Bool) (n : Note) (ns : List Note) → HasNoNote ns (n.place, n.variable) → AreNotedOnce ns → AreNotedOnce (cond b (n ∷ ns) ns)
kept_once true n ns h o = (h, o)
kept_once false n ns h o = o

once_filter : (test : Note → Bool) (ns : List Note) → AreNotedOnce ns → AreNotedOnce (filter test ns)
once_filter test [] o = o
once_filter test (n ∷ ns) o = kept_once (test n) n (filter test ns) (no_note_filter test ns (n.place, n.variable) o.0) (once_filter test ns o.1)

apart_step : (ns fs : List Note) (f : Note) (k : Key) (b : Bool) → is_of (Some f) k.0 k.1 ≡ b → HasNoNote ns (f.place, f.variable) → HasNoNote ns k ⊎ HasNoNote fs k → HasNoNote ns k ⊎ HasNoNote (f ∷ fs) k
apart_step ns fs f k true e h c =
    let p = both (f.place == k.0) (f.variable == k.1) e in
    let x : f.place ≡ k.0 = eqb-true f.place k.0 p.0 in
    let y : f.variable ≡ k.1 = eqb-true f.variable k.1 p.1 in
    let P : Key → Type 0 = λ q. HasNoNote ns q in
    inl (subst P (λ i. (x i, y i)) h)
apart_step ns fs f k false e h c = ⊎_elim (λ g. inl g) (λ g. inr (no_note_cons f fs k e g)) c

apart : (ns fs : List Note) → All (λ n. HasNoNote ns (n.place, n.variable)) fs → (k : Key) → HasNoNote ns k ⊎ HasNoNote fs k
apart ns [] a k = inr refl
apart ns (f ∷ fs) a k =
    let P : Note → Type 0 = λ n. HasNoNote ns (n.place, n.variable) in
    apart_step ns fs f k (is_of (Some f) k.0 k.1) refl (All-head P f fs a) (apart ns fs (All-tail P f fs a) k)

once_append : (ns fs : List Note) → AreNotedOnce ns → AreNotedOnce fs → ((k : Key) → HasNoNote ns k ⊎ HasNoNote fs k) → AreNotedOnce (ns ++ fs)
once_append [] fs a b h = b
once_append (n ∷ ns) fs a b h =
    let own : HasNoNote (n ∷ ns) (n.place, n.variable) → HasNoNote fs (n.place, n.variable) =
    λ g. absurd (true_false (is_of (Some n) n.place n.variable) (is_of-self n) (no_note_parts n ns (n.place, n.variable) g).0) in (
      no_note_append ns fs (n.place, n.variable) a.0 (⊎_elim own (λ g. g) (h (n.place, n.variable))),
      once_append ns fs a.1 b (λ k. ⊎_elim (λ g. inl (no_note_parts n ns k g).1) (λ g. inr g) (h k)),
    )

pub once_push : (ns : List Note) (n : Note) → AreNotedOnce ns → HasNoNote ns (n.place, n.variable) → AreNotedOnce (ns ++ n ∷ [])
once_push ns n o h =
    let P : Note → Type 0 = λ n. HasNoNote ns (n.place, n.variable) in
    once_append ns (n ∷ []) o (refl, tt) (λ k. apart_step ns [] n k (is_of (Some n) k.0 k.1) refl h (inr refl))

-- the last of a variable's notes

of_left : (a b : List Note) (i p x : ℕ) → is_of (slice_get a i) p x ≡ true → is_of (slice_get (a ++ b) i) p x ≡ true
of_left [] b i p x e = (cc)
of_left (n ∷ a) b zero p x e = e
of_left (n ∷ a) b (suc i) p x e = of_left a b i p x e

of_front : (a b : List Note) (i p x : ℕ) → HasNoNote b (p, x) → is_of (slice_get (a ++ b) i) p x ≡ true → is_of (slice_get a i) p x ≡ true
of_front [] b i p x h e = absurd (no_note_at b i p x h e)
of_front (n ∷ a) b zero p x h e = e
of_front (n ∷ a) b (suc i) p x h e = of_front a b i p x h e

pub last_front : (a b : List Note) (last p x : ℕ) → HasNoNote b (p, x) → IsLast (a ++ b) last p x → IsLast a last p x
last_front a b last p x h l = λ i e.
    let k = both (nat_lt i last) (is_of (slice_get (a ++ b) (last - 1)) p x) (l i (of_left a b i p x e)) in
    and_true (nat_lt i last) (is_of (slice_get a (last - 1)) p x) k.0 (of_front a b (last - 1) p x h k.1)

pub last_more : (a b : List Note) (last p x : ℕ) → HasNoNote b (p, x) → IsLast a last p x → IsLast (a ++ b) last p x
last_more a b last p x h l = λ i e.
    let k = both (nat_lt i last) (is_of (slice_get a (last - 1)) p x) (l i (of_front a b i p x h e)) in
    and_true (nat_lt i last) (is_of (slice_get (a ++ b) (last - 1)) p x) k.0 (of_left a b (last - 1) p x k.1)

of_within : (notes : List Note) (i p x : ℕ) → is_of (slice_get notes i) p x ≡ true → i < length notes
of_within [] i p x e = (cc)
of_within (n ∷ notes) zero p x e = omega arith
of_within (n ∷ notes) (suc i) p x e = let h : i < length notes = of_within notes i p x e in omega (arith, h)

of_pushed : (notes : List Note) (n : Note) → is_of (slice_get (notes ++ n ∷ []) (length notes)) n.place n.variable ≡ true
of_pushed [] n = is_of-self n
of_pushed (m ∷ notes) n = of_pushed notes n

one_less : (n : ℕ) → n + 1 - 1 ≡ n
one_less n = omega arith

pub last_pushed : (notes : List Note) (n : Note) → IsLast (notes ++ n ∷ []) (length notes + 1) n.place n.variable
last_pushed notes n = λ i e.
    let h : i < length notes + 1 = omega (arith, of_within (notes ++ n ∷ []) i n.place n.variable e, length-append notes (n ∷ [])) in
    and_true (nat_lt i (length notes + 1)) (is_of (slice_get (notes ++ n ∷ []) (length notes + 1 - 1)) n.place n.variable) (lt-ltb i (length notes + 1) h)
    (ap (λ j. is_of (slice_get (notes ++ n ∷ []) j) n.place n.variable) (one_less (length notes)) ∙ of_pushed notes n)

-- a variable that is not noted has no note
pub not_noted : (notes : List Note) (from last p x : ℕ) → IsLast notes last p x → is_noted notes from last p x ≡ false → HasNoNote (drop from notes) (p, x)
not_noted notes from last p x l f = no_note_from notes from p x (λ i h e.
    let k = both (nat_lt i last) (is_of (slice_get notes (last - 1)) p x) (l i e) in
    let lt : i < last = ltb-true i last k.0 in
    true_false (is_noted notes from last p x) (and_true (nat_lt from last) (is_of (slice_get notes (last - 1)) p x) (lt-ltb from last (omega (arith, lt, h))) k.1) f)

-- the last note before a place, where none stands behind
pub last_before : (notes : List Note) (from last p x : ℕ) → HasNoNote (drop from notes) (p, x) → IsLast notes last p x → IsLast (take from notes) last p x
last_before notes from last p x h l =
    let P : List Note → Type 0 = λ ns. IsLast ns last p x in
    last_front (take from notes) (drop from notes) last p x h (subst P (sym (take-append-drop from notes)) l)

-- the last notes of all variables

set_last : (new : List Note) (ks : List LastNotes) (last p x q y old : ℕ) (b : Bool) → ((p == q) && (x == y)) ≡ b → last_note_at ks q y ≡ cond b last old → IsLast new last p x → (b ≡ false → IsLast new old q y) → IsLast new (last_note_at ks q y) q y
set_last new ks last p x q y old true e s here others =
    let k = both (p == q) (x == y) e in
    let f : p ≡ q = eqb-true p q k.0 in
    let g : x ≡ y = eqb-true x y k.1 in
    let P : ℕ × ℕ × ℕ → Type 0 = λ t. IsLast new t.0 t.1 t.2 in
    subst P (λ i. (sym s i, f i, g i)) here
set_last new ks last p x q y old false e s here others = let P : ℕ → Type 0 = λ l. IsLast new l q y in subst P (sym s) (others refl)

-- one variable's last note is set
pub are_last_set : (new : List Note) (hs ks : List LastNotes) (last p x : ℕ) → SetsLastNote hs ks p x last → IsLast new last p x → ((q y : ℕ) → ((p == q) && (x == y)) ≡ false → IsLast new (last_note_at hs q y) q y) → AreLast new ks
are_last_set new hs ks last p x s here others = λ q y. set_last new ks last p x q y (last_note_at hs q y) ((p == q) && (x == y)) refl (s q y) here (others q y)

-- a note is added and is the last of its variable
pub are_last_push : (notes : List Note) (n : Note) (hs ks : List LastNotes) (last : ℕ) → SetsLastNote hs ks n.place n.variable last → last ≡ length notes + 1 → AreLast notes hs → AreLast (notes ++ n ∷ []) ks
are_last_push notes n hs ks last s l a =
    let P : ℕ → Type 0 = λ l. IsLast (notes ++ n ∷ []) l n.place n.variable in
    are_last_set (notes ++ n ∷ []) hs ks last n.place n.variable s (subst P (sym l) (last_pushed notes n))
    (λ q y e. last_more notes (n ∷ []) (last_note_at hs q y) q y (no_note_cons n [] (q, y) e refl) (a q y))

pub are_last_keeps : (notes : List Note) (hs ks : List LastNotes) → KeepsLastNotes hs ks → AreLast notes hs → AreLast notes ks
are_last_keeps notes hs ks k a = λ p x. let P : ℕ → Type 0 = λ l. IsLast notes l p x in subst P (sym (k p x)) (a p x)

all_of : (P : ℕ → ℕ → Type 0) (notes : List Note) (i p x : ℕ) → is_of (slice_get notes i) p x ≡ true → All (λ n. P n.place n.variable) notes → P p x
all_of P [] i p x e a = (cc)
all_of P (n ∷ notes) zero p x e a =
    let k = both (n.place == p) (n.variable == x) e in
    let f : n.place ≡ p = eqb-true n.place p k.0 in
    let g : n.variable ≡ x = eqb-true n.variable x k.1 in
    let Q : Key → Type 0 = λ k. P k.0 k.1 in
    let R : Note → Type 0 = λ n. P n.place n.variable in
    subst Q (λ i. (f i, g i)) (All-head R n notes a)
all_of P (n ∷ notes) (suc i) p x e a = let R : Note → Type 0 = λ n. P n.place n.variable in all_of P notes i p x e (All-tail R n notes a)

last_note_at-take : (n : ℕ) (hs : List LastNotes) (p x : ℕ) → p < n → last_note_at (take n hs) p x ≡ last_note_at hs p x
last_note_at-take zero hs p x h = absurd (omega arith)
last_note_at-take (suc n) [] p x h = refl
last_note_at-take (suc n) (l ∷ hs) zero x h = refl
last_note_at-take (suc n) (l ∷ hs) (suc p) x h = last_note_at-take n hs p x (omega arith)

-- scopes of which no note is are dropped
pub are_last_take : (notes : List Note) (hs ks : List LastNotes) (n : ℕ) → ks ≡ take n hs → All (λ d. d.place < n) notes → AreLast notes hs → AreLast notes ks
are_last_take notes hs ks n e b a =
    let Q : List LastNotes → Type 0 = λ ls. AreLast notes ls in
    subst Q (sym e) (λ p x i h.
    let below : p < n = all_of (λ q y. q < n) notes i p x h b in
    let P : ℕ → Type 0 = λ l. is_noted notes i l p x ≡ true in
    subst P (sym (last_note_at-take n hs p x below)) (a p x i h))

-- the last notes among the first, of the variables that have no note among the rest
abbrev pub AreLastBut : List Note → List Note → List LastNotes → Type 0
AreLastBut front rest hs = (p x : ℕ) → HasNoNote rest (p, x) → IsLast front (last_note_at hs p x) p x

pub last_but : (notes : List Note) (from : ℕ) (hs : List LastNotes) → AreLast notes hs → AreLastBut (take from notes) (drop from notes) hs
last_but notes from hs a = λ p x h. last_before notes from (last_note_at hs p x) p x h (a p x)

-- a note of the rest goes
pub but_less : (front : List Note) (n : Note) (more less : List Note) (hs ks : List LastNotes) → ((k : Key) → is_of (Some n) k.0 k.1 ≡ false → HasNoNote less k → HasNoNote more k) → SetsLastNote hs ks n.place n.variable n.earlier → IsLinked front n → AreLastBut front more hs → AreLastBut front less ks
but_less front n more less hs ks f s l a = λ q y h.
    set_last front ks n.earlier n.place n.variable q y (last_note_at hs q y) ((n.place == q) && (n.variable == y)) refl (s q y) l (λ e. a q y (f (q, y) e h))

pub but_none : (front rest : List Note) (hs : List LastNotes) → rest ≡ [] → AreLastBut front rest hs → AreLast front hs
but_none front rest hs e a = λ p x. a p x (ap (λ ns. find key_cmp (p, x) (entries_of ns)) e)

-- the notes that an older mark takes

taken_apart : (front : List Note) (l : MarkAt) (n : Note) → IsLinked front n → is_taken front l n ≡ true → HasNoNote (drop l.notes front) (n.place, n.variable)
taken_apart front l n k t =
    let free : (b : Bool) → not b ≡ true → b ≡ false = λ b. elim b as (λ b. not b ≡ true → b ≡ false) [ true ↦ λ e. (cc) | false ↦ λ e. refl ] in
    not_noted front l.notes n.earlier n.place n.variable k (free (is_noted front l.notes n.earlier n.place n.variable) (both (nat_lt n.place l.scopes) (not (is_noted front l.notes n.earlier n.place n.variable)) t).1)

pub taken_all : (front : List Note) (l : MarkAt) (notes : List Note) → All (IsLinked front) notes → All (λ n. HasNoNote (drop l.notes front) (n.place, n.variable)) (filter (is_taken front l) notes)
taken_all front l notes a =
    let k : All (IsLinked front) (filter (is_taken front l) notes) = All-filter (is_taken front l) (IsLinked front) notes a in
    let t : All (λ n. is_taken front l n ≡ true) (filter (is_taken front l) notes) = filter_passes (is_taken front l) notes in
    λ i d h. taken_apart front l (get_or (filter (is_taken front l) notes) i d) (k i d h) (t i d h)

pub taken_once : (front : List Note) (l : MarkAt) (notes : List Note) → All (IsLinked front) notes → AreNotedOnce (drop l.notes front) → AreNotedOnce notes → AreNotedOnce (drop l.notes front ++ filter (is_taken front l) notes)
taken_once front l notes a o q =
    once_append (drop l.notes front) (filter (is_taken front l) notes) o (once_filter (is_taken front l) notes q) (apart (drop l.notes front) (filter (is_taken front l) notes) (taken_all front l notes a))

pub taken_linked : (front : List Note) (l : MarkAt) (notes : List Note) → All (IsLinked front) notes → All (IsLinked (take l.notes front)) (drop l.notes front) → All (IsLinked (take l.notes front)) (drop l.notes front ++ filter (is_taken front l) notes)
taken_linked front l notes a o =
    let F : List Note = filter (is_taken front l) notes in
    let k : All (IsLinked front) F = All-filter (is_taken front l) (IsLinked front) notes a in
    let t : All (λ n. HasNoNote (drop l.notes front) (n.place, n.variable)) F = taken_all front l notes a in
    All-append (IsLinked (take l.notes front)) (drop l.notes front) F o
    (λ i d h. let n : Note = get_or F i d in last_before front l.notes n.earlier n.place n.variable (t i d h) (k i d h))

-- note by note

all_behind : (P : Note → Type 0) (from : ℕ) (notes : List Note) (i : ℕ) (n : Note) → from ≤ i → i < length notes → All P (drop from notes) → P (get_or notes i n)
all_behind P zero notes i n l h a = a i n h
all_behind P (suc from) [] i n l h a = absurd (omega arith)
all_behind P (suc from) (m ∷ notes) zero n l h a = absurd (omega arith)
all_behind P (suc from) (m ∷ notes) (suc i) n l h a = all_behind P from notes i n (omega arith) (omega arith) a

pub but_next : (front notes : List Note) (from i : ℕ) (n : Note) (hs ks : List LastNotes) → i < length notes → n ≡ get_or notes i n → from ≤ i → All (IsLinked front) (drop from notes) → SetsLastNote hs ks n.place n.variable n.earlier → AreLastBut front (drop i notes) hs → AreLastBut front (drop (i + 1) notes) ks
but_next front notes from i n hs ks h e l a s b =
    let P : List Note → Type 0 = λ ns. AreLastBut front ns hs in
    let more : drop i notes ≡ n ∷ drop (i + 1) notes = drop_more notes i n h ∙ ap (λ m. m ∷ drop (i + 1) notes) (sym e) in
    but_less front n (n ∷ drop (i + 1) notes) (drop (i + 1) notes) hs ks (λ k f g. no_note_cons n (drop (i + 1) notes) k f g) s
    (subst (IsLinked front) (sym e) (all_behind (IsLinked front) from notes i n l h a)) (subst P more b)

pub last_next : (notes : List Note) (i l : ℕ) (n : Note) (hs ks : List LastNotes) → i < length notes → n ≡ get_or notes i n → l ≡ i + 1 → SetsLastNote hs ks n.place n.variable l → AreLast (take i notes) hs → AreLast (take (i + 1) notes) ks
last_next notes i l n hs ks h e f s a =
    let P : List Note → Type 0 = λ ns. AreLast ns ks in
    let len : length (take i notes) ≡ i = length-take-le i notes (omega (arith, h)) in
    subst P (sym (take_more notes i n h ∙ ap (λ m. take i notes ++ m ∷ []) (sym e)))
    (are_last_push (take i notes) n hs ks l s (f ∙ ap (λ j. j + 1) (sym len)) a)
