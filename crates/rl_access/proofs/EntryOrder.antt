-- Maps whose keys rise: where a key stands, and what becomes of it.
use Rattle.std.proofs.Common.{◌≡◌, ℕ, zero, suc, ◌<◌, ◌≤◌, ◌⊎◌, inl, inr, Bool, true, false, List, [], ◌∷◌, ◌++◌, length, get_or, map, Some, None, refl, ap, sym, ◌∙◌, subst, arith}
use Rattle.std.proofs.lemmas.Bool.{cases_lt}
use Rattle.std.specs.List.Sorted.{IsPartitionedBy}
use Rattle.std.specs.declared.cmp.Ordering.{Ordering}
use Rattle.std.specs.declared.cmp.Ordering.TheVariants.{Less, Equal, Greater}
use Rattle.std.specs.Ordering.{ordering_reverse, is_lt, is_eq}
use Rattle.std.specs.BTreeMap.{insert_entry}
use Rattle.rl_value.specs.Plain.{Plain, mapping, pairs_of}
use Rattle.rl_value.specs.Opened.{IsInOrder}
use Rattle.rl_value.proofs.EntryLemmas.{opened}
use Rattle.rl_value.specs.Order.{plain_cmp}
use Rattle.rl_value.specs.Laws.{plain_eq, plain_cmp_total, plain_exact, plain_eq_itself}
use Rattle.rl_value.specs.Rising.{AllAbove, Rises}
use Rattle.rl_value.specs.Entries.{put_all}
use Rattle.rl_value.specs.View.{pair_of}
use Rattle.rl_value.specs.declared.value.Entry.{Entry}
use Rattle.rl_access.specs.Elements.{value_at}

abbrev pub keys_in : List Entry → List Plain
keys_in = map (λ (e : Entry). e.key)

abbrev pub stands_before : Plain → Entry → Bool
stands_before k e = is_lt (plain_cmp e.key k)

key_above : (x : Plain) (es : List Entry) (j : ℕ) (d : Entry) → AllAbove plain_cmp x (keys_in es) → j < length es → plain_cmp x (get_or es j d).key ≡ Less
key_above x [] j d a h = absurd (omega arith)
key_above x (e ∷ es) zero d a h = a.0
key_above x (e ∷ es) (suc j) d a h = key_above x es j d a.1 (omega arith)

pub keys_rise : (es : List Entry) (i j : ℕ) (d : Entry) → Rises plain_cmp (keys_in es) → i < j → j < length es → plain_cmp (get_or es i d).key (get_or es j d).key ≡ Less
keys_rise [] i j d r h k = absurd (omega arith)
keys_rise (e ∷ es) i zero d r h k = absurd (omega arith)
keys_rise (e ∷ es) zero (suc j) d r h k = key_above e.key es j d r.0 (omega arith)
keys_rise (e ∷ es) (suc i) (suc j) d r h k = keys_rise es i j d r.1 (omega arith) (omega arith)

less_than : (x y k : Plain) → plain_cmp x y ≡ Less → is_lt (plain_cmp y k) ≡ true → is_lt (plain_cmp x k) ≡ true
less_than x y k e f = by (plain_cmp y k) refl f
  where
    by : (o : Ordering) → plain_cmp y k ≡ o → is_lt o ≡ true → is_lt (plain_cmp x k) ≡ true
    by Less q f = ap is_lt (plain_cmp_total.trans x y k e q)
    by Equal q f = cc
    by Greater q f = cc

pub keys_parted : (k : Plain) (es : List Entry) → Rises plain_cmp (keys_in es) → IsPartitionedBy (stands_before k) es
keys_parted k es r i j d h l e = by (cases_lt i j)
  where
    by : (i < j) ⊎ (j ≤ i) → stands_before k (get_or es i d) ≡ true
    by (inl m) = less_than (get_or es i d).key (get_or es j d).key k (keys_rise es i j d r m l) e
    by (inr m) = let same : i ≡ j = omega arith in rw same e

less_apart : (o : Ordering) → is_lt o ≡ true → is_eq o ≡ false
less_apart Less e = refl
less_apart Equal e = cc
less_apart Greater e = cc

-- the value at the place where a key stands
pub value_found : (k : Plain) (es : List Entry) (p : ℕ) (e : Entry) → p < length es → e ≡ get_or es p e → Rises plain_cmp (keys_in es) → e.key ≡ k
    → value_at k (map pair_of es) ≡ Some e.value
value_found k [] p e h is r same = absurd (omega arith)
value_found k (x ∷ xs) zero e h is r same =
    let tied : plain_eq x.key k ≡ true = plain_eq_itself x.key k (ap (λ (w : Entry). w.key) (sym is) ∙ same) in
    rw tied (ap (λ (w : Entry). Some w.value) (sym is))
value_found k (x ∷ xs) (suc p) e h is r same =
    let below : plain_cmp x.key k ≡ Less = subst (λ w. plain_cmp x.key w ≡ Less) (ap (λ (w : Entry). w.key) (sym is) ∙ same) (key_above x.key xs p e r.0 (omega arith)) in
    let apart : plain_eq x.key k ≡ false = ap is_eq below in
    rw apart (value_found k xs p e (omega arith) is r.1 same)

value_none : (k : Plain) (es : List Entry) → ((i : ℕ) (d : Entry) → i < length es → plain_eq (get_or es i d).key k ≡ false) → value_at k (map pair_of es) ≡ None
value_none k [] h = refl
value_none k (e ∷ es) h =
    let apart : plain_eq e.key k ≡ false = h 0 e (omega arith) in
    rw apart (value_none k es (λ i d l. h (suc i) d (omega arith)))

greater_apart : (x y k : Plain) → plain_cmp x y ≡ Less → is_lt (plain_cmp x k) ≡ false → plain_eq y k ≡ false
greater_apart x y k e f = by (plain_cmp x k) refl f
  where
    greater : plain_cmp k y ≡ Less → plain_eq y k ≡ false
    greater h = ap is_eq (plain_cmp_total.antisymm y k ∙ ap ordering_reverse h)

    by : (o : Ordering) → plain_cmp x k ≡ o → is_lt o ≡ false → plain_eq y k ≡ false
    by Less q f = cc
    by Equal q f = greater (subst (λ w. plain_cmp w y ≡ Less) (plain_exact x k q) e)
    by Greater q f = greater (plain_cmp_total.trans k x y (plain_cmp_total.antisymm k x ∙ ap ordering_reverse q) e)

-- no entry has a key that the entry at its place has not
pub value_missing : (k : Plain) (es : List Entry) (p : ℕ) → Rises plain_cmp (keys_in es)
    → ((i : ℕ) (d : Entry) → 0 ≤ i → i < p → stands_before k (get_or es i d) ≡ true)
    → ((i : ℕ) (d : Entry) → p ≤ i → i < length es → stands_before k (get_or es i d) ≡ false)
    → ((d : Entry) → p < length es → plain_eq (get_or es p d).key k ≡ false)
    → value_at k (map pair_of es) ≡ None
value_missing k es p r before after here = value_none k es (λ i d l. by i d l (cases_lt i p))
  where
    later : (i : ℕ) (d : Entry) → i < length es → p ≤ i → (p < i) ⊎ (i ≤ p) → plain_eq (get_or es i d).key k ≡ false
    later i d l m (inl n) = greater_apart (get_or es p d).key (get_or es i d).key k (keys_rise es p i d r n l) (after p d (omega arith) (omega arith))
    later i d l m (inr n) = let same : i ≡ p = omega arith in rw same (here d (omega arith))

    by : (i : ℕ) (d : Entry) → i < length es → (i < p) ⊎ (p ≤ i) → plain_eq (get_or es i d).key k ≡ false
    by i d l (inl m) = less_apart (plain_cmp (get_or es i d).key k) (before i d (omega arith) m)
    by i d l (inr m) = later i d l m (cases_lt p i)

-- ---- a map with one more entry
abbrev firsts : List (Plain × Plain) → List Plain
firsts = map (λ p. p.0)

firsts-pairs : (es : List Entry) → firsts (map pair_of es) ≡ keys_in es
firsts-pairs [] = refl
firsts-pairs (e ∷ es) = ap (λ ks. e.key ∷ ks) (firsts-pairs es)

put_all-append : (es ps qs : List (Plain × Plain)) → put_all es (ps ++ qs) ≡ put_all (put_all es ps) qs
put_all-append es [] qs = refl
put_all-append es (p ∷ ps) qs = put_all-append (insert_entry plain_cmp es p.0 p.1) ps qs

above_first : (x : Plain) (es : List (Plain × Plain)) (p : Plain × Plain) (ps : List (Plain × Plain)) → AllAbove plain_cmp x (firsts (es ++ (p ∷ ps))) → plain_cmp x p.0 ≡ Less
above_first x [] p ps a = a.0
above_first x (e ∷ es) p ps a = above_first x es p ps a.1

insert_last : (es : List (Plain × Plain)) (p : Plain × Plain) (ps : List (Plain × Plain)) → Rises plain_cmp (firsts (es ++ (p ∷ ps))) → insert_entry plain_cmp es p.0 p.1 ≡ es ++ (p ∷ [])
insert_last [] p ps r = refl
insert_last (e ∷ es) p ps r =
    let above : plain_cmp p.0 e.0 ≡ Greater = plain_cmp_total.antisymm p.0 e.0 ∙ ap ordering_reverse (above_first e.0 es p ps r.0) in
    rw above (ap (λ qs. e ∷ qs) (insert_last es p ps r.1))

append_one : (es : List (Plain × Plain)) (p : Plain × Plain) (ps : List (Plain × Plain)) → (es ++ (p ∷ [])) ++ ps ≡ es ++ (p ∷ ps)
append_one [] p ps = refl
append_one (e ∷ es) p ps = ap (λ qs. e ∷ qs) (append_one es p ps)

append_none : (es : List (Plain × Plain)) → es ++ [] ≡ es
append_none [] = refl
append_none (e ∷ es) = ap (λ qs. e ∷ qs) (append_none es)

put_rising : (es ps : List (Plain × Plain)) → Rises plain_cmp (firsts (es ++ ps)) → put_all es ps ≡ es ++ ps
put_rising es [] r = sym (append_none es)
put_rising es (p ∷ ps) r =
    let last : insert_entry plain_cmp es p.0 p.1 ≡ es ++ (p ∷ []) = insert_last es p ps r in
    ap (λ qs. put_all qs ps) last
    ∙ put_rising (es ++ (p ∷ [])) ps (subst (λ qs. Rises plain_cmp (firsts qs)) (sym (append_one es p ps)) r)
    ∙ append_one es p ps

pub put_one : (es : List Entry) (k v : Plain) → Rises plain_cmp (keys_in es)
    → put_all [] (map pair_of es ++ ((k, v) ∷ [])) ≡ insert_entry plain_cmp (map pair_of es) k v
put_one es k v r =
    put_all-append [] (map pair_of es) ((k, v) ∷ [])
    ∙ ap (λ ps. insert_entry plain_cmp ps k v) (put_rising [] (map pair_of es) (subst (Rises plain_cmp) (sym (firsts-pairs es)) r))

-- an element is the same whatever stands past the end
pub same_at : {A : Type 0} (xs : List A) (i : ℕ) (d x : A) → i < length xs → get_or xs i d ≡ get_or xs i x
same_at [] i d x h = absurd (omega arith)
same_at (y ∷ ys) zero d x h = refl
same_at (y ∷ ys) (suc i) d x h = same_at ys i d x (omega arith)

-- what opening a map says of its entries
pub entries_order : (t : Plain) (es : List Entry) → mapping (pairs_of (map pair_of es)) ≡ t → IsInOrder t → Rises plain_cmp (keys_in es)
entries_order t es e o = subst (Rises plain_cmp) (opened es) (subst IsInOrder (sym e) o)
