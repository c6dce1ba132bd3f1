-- The kids of syntax trees, and how many there are.
use Rattle.std.proofs.Common.{◌≡◌, ℕ, zero, suc, ◌+◌, ◌-◌, ◌*◌, ◌<◌, ◌≤◌, List, [], ◌∷◌, ◌++◌, length, map, Option, Some, slice_get, refl, ap, sym, ◌∙◌, arith, length-append, unwrap_or, get_or, drop, drop-cons, add-one, true, false}
use Rattle.std.proofs.lemmas.Option.{unwrap_or-slice_get}
use Rattle.rl_value.specs.declared.shape.Role.{Role}
use Rattle.rl_value.specs.declared.shape.Role.TheVariants.{Syntax, Lexical, Layout, Keyword, Rep, Opt}
use Rattle.rl_value.specs.Plain.{Plain, bool, tree, leaf, Plains, nil, cons, plains_of, pairs_of, plain_size, plains_size, pairs_size, IsPart, IsTree}
use Rattle.rl_value.specs.Kids.{by_role, before, is_opened, kids, part_kids, parts_kids, pairs_kids, kid_ends}
use Rattle.rl_value.specs.View.{pair_of}
use Rattle.rl_value.specs.declared.value.Entry.{Entry}

pub size_one : (t : Plain) → 1 ≤ plain_size t
size_one (bool b) = omega arith
size_one t = omega arith

-- no list has more values than its size
pub length_le_size : (ts : List Plain) → length ts ≤ plains_size (plains_of ts)
length_le_size [] = omega arith
length_le_size (t ∷ ts) = omega (arith, size_one t, length_le_size ts)

pub pairs_le_size : (es : List Entry) → 2 * length es ≤ pairs_size (pairs_of (map pair_of es))
pairs_le_size [] = omega arith
pairs_le_size (e ∷ es) = omega (arith, size_one e.key, size_one e.value, pairs_le_size es)

pub count_pairs_kids : (es : List Entry) → length (pairs_kids (pairs_of (map pair_of es))) ≡ 2 * length es
count_pairs_kids [] = omega arith
count_pairs_kids (e ∷ es) = omega (arith, count_pairs_kids es)

by_role_length : (r : Role) (xs : List Plain) (t : Plain) (n : ℕ) → length xs ≤ n → 1 ≤ n → length (by_role r [] xs (t ∷ [])) ≤ n
by_role_length Syntax xs t n h k = k
by_role_length Lexical xs t n h k = k
by_role_length Layout xs t n h k = omega arith
by_role_length Keyword xs t n h k = k
by_role_length Rep xs t n h k = h
by_role_length Opt xs t n h k = h

mutual
  -- no part gives more kids than its size
  pub part_kids_le : (t : Plain) → length (part_kids t) ≤ plain_size t
  part_kids_le (tree shape ts) = by_role_length shape.role (parts_kids ts) (tree shape ts) (1 + plains_size ts) (omega (arith, parts_kids_le ts)) (omega arith)
  part_kids_le (leaf bytes) = omega arith
  part_kids_le t = size_one t

  pub parts_kids_le : (ts : Plains) → length (parts_kids ts) ≤ plains_size ts
  parts_kids_le nil = omega arith
  parts_kids_le (cons t ts) = omega (arith, length-append (part_kids t) (parts_kids ts), part_kids_le t, parts_kids_le ts)

-- the last end is the number of kids
last_end : (n : ℕ) (t : Plain) (ts : List Plain) → slice_get (kid_ends n (t ∷ ts)) (length ts) ≡ Some (n + length (parts_kids (plains_of (t ∷ ts))))
last_end n t [] = ap Some (omega (arith, length-append (part_kids t) []))
last_end n t (u ∷ us) =
    last_end (n + length (part_kids t)) u us ∙ ap Some (omega (arith, length-append (part_kids t) (parts_kids (plains_of (u ∷ us)))))

pub length-kid_ends : (n : ℕ) (ts : List Plain) → length (kid_ends n ts) ≡ length ts
length-kid_ends n [] = refl
length-kid_ends n (t ∷ ts) = ap suc (length-kid_ends (n + length (part_kids t)) ts)

-- the last end, or 0 without one, is the number of kids
pub kid_count : (ts : List Plain) (ends : List ℕ) (o : Option ℕ) → ends ≡ kid_ends 0 ts → o ≡ slice_get ends (length ends - 1) → unwrap_or o 0 ≡ length (parts_kids (plains_of ts))
kid_count [] ends o e is = rw (is, e) refl
kid_count (t ∷ ts) ends o e is =
    let at : length ends - 1 ≡ length ts = omega (arith, ap length e, length-kid_ends (0 + length (part_kids t)) ts) in
    rw (is, at, e, last_end 0 t ts) (omega arith)

-- one step over the parts
pub size_at : (ts : List Plain) (i : ℕ) (x : Plain) → i < length ts → x ≡ get_or ts i x → plains_size (plains_of (drop i ts)) ≡ plain_size x + plains_size (plains_of (drop (i + 1) ts))
size_at ts i x h e = rw (add-one, drop-cons ts i x) (ap (λ t. plain_size t + plains_size (plains_of (drop (suc i) ts))) (sym e))

pub ends_at : (n : ℕ) (ts : List Plain) (i : ℕ) (x : Plain) → i < length ts → x ≡ get_or ts i x
    → kid_ends n (drop i ts) ≡ (n + length (part_kids x)) ∷ kid_ends (n + length (part_kids x)) (drop (i + 1) ts)
ends_at n ts i x h e =
    rw (add-one, drop-cons ts i x) (ap (λ t. (n + length (part_kids t)) ∷ kid_ends (n + length (part_kids t)) (drop (suc i) ts)) (sym e))

-- ---- where a kid stands
before-cons : (n e : ℕ) (es : List ℕ) (j : ℕ) → before n (e ∷ es) (suc j) ≡ before e es j
before-cons n e es zero = refl
before-cons n e es (suc j) = refl

slice_get-append-left : {A : Type 0} (xs ys : List A) (k : ℕ) → k < length xs → slice_get (xs ++ ys) k ≡ slice_get xs k
slice_get-append-left [] ys k h = absurd (omega arith)
slice_get-append-left (x ∷ xs) ys zero h = refl
slice_get-append-left (x ∷ xs) ys (suc k) h = slice_get-append-left xs ys k (omega arith)

slice_get-append-right : {A : Type 0} (xs ys : List A) (k m : ℕ) → k ≡ length xs + m → slice_get (xs ++ ys) k ≡ slice_get ys m
slice_get-append-right [] ys k m e = let same : k ≡ m = omega arith in rw same refl
slice_get-append-right (x ∷ xs) ys zero m e = absurd (omega arith)
slice_get-append-right (x ∷ xs) ys (suc k) m e = slice_get-append-right xs ys k m (omega arith)

before_from : (n : ℕ) (ts : List Plain) (j : ℕ) → j < length ts → n ≤ before n (kid_ends n ts) j
before_from n ts zero h = omega arith
before_from n [] (suc j) h = absurd (omega arith)
before_from n (t ∷ ts) (suc j) h =
    let later = before_from (n + length (part_kids t)) ts j (omega arith) in
    omega (arith, before-cons n (n + length (part_kids t)) (kid_ends (n + length (part_kids t)) ts) j)

pub record Stands (ts : List Plain) (k : ℕ) (t : Plain) (m : ℕ) : Type 0 where
  pub inside : m < length (part_kids t)
  pub kid : slice_get (parts_kids (plains_of ts)) k ≡ slice_get (part_kids t) m

pub stands : (n : ℕ) (ts : List Plain) (j i : ℕ) (d : Plain) → j < length ts → before n (kid_ends n ts) j ≤ i → i < get_or (kid_ends n ts) j 0
    → Stands ts (i - n) (get_or ts j d) (i - before n (kid_ends n ts) j)
stands n [] j i d h b a = absurd (omega arith)
stands n (t ∷ ts) zero i d h b a =
    record {
      inside = omega arith;
      kid = slice_get-append-left (part_kids t) (parts_kids (plains_of ts)) (i - n) (omega arith);
    }
stands n (t ∷ ts) (suc j) i d h b a =
    let e : ℕ = n + length (part_kids t) in
    let same = before-cons n e (kid_ends e ts) j in
    let within : j < length ts = omega arith in
    let from = before_from e ts j within in
    let rest = stands e ts j i d within (rw (← same) b) a in
    record {
      inside = rw same rest.inside;
      kid = rw same (slice_get-append-right (part_kids t) (parts_kids (plains_of ts)) (i - n) (i - e) (omega arith) ∙ rest.kid);
    }

opened_role : (r : Role) (xs ys zs : List Plain) → by_role r false true false ≡ true → by_role r xs ys zs ≡ ys
opened_role Syntax xs ys zs e = cc
opened_role Lexical xs ys zs e = cc
opened_role Layout xs ys zs e = cc
opened_role Keyword xs ys zs e = cc
opened_role Rep xs ys zs e = refl
opened_role Opt xs ys zs e = refl

-- what is opened gives its own kids
pub opened_kids : (t : Plain) → is_opened t ≡ true → part_kids t ≡ kids t
opened_kids (tree shape ts) e = opened_role shape.role [] (parts_kids ts) (tree shape ts ∷ []) e
opened_kids (leaf bytes) e = refl
opened_kids t e = cc

closed_role : (r : Role) (t : Plain) (ys : List Plain) (k : ℕ) → by_role r false true false ≡ false → k < length (by_role r [] ys (t ∷ [])) → (k ≡ 0) × (by_role r [] ys (t ∷ []) ≡ t ∷ [])
closed_role Syntax t ys k e h = (omega arith, refl)
closed_role Lexical t ys k e h = (omega arith, refl)
closed_role Layout t ys k e h = absurd (omega arith)
closed_role Keyword t ys k e h = (omega arith, refl)
closed_role Rep t ys k e h = cc
closed_role Opt t ys k e h = cc

itself : (t : Plain) (ks : List Plain) (k : ℕ) → (k ≡ 0) × (ks ≡ t ∷ []) → slice_get ks k ≡ Some t
itself t ks k (e, f) = rw (e, f) refl

-- what is not opened and gives a kid gives itself
pub closed_kid : (t : Plain) (k : ℕ) → is_opened t ≡ false → k < length (part_kids t) → slice_get (part_kids t) k ≡ Some t
closed_kid (tree shape ts) k e h = itself (tree shape ts) _ k (closed_role shape.role (tree shape ts) (parts_kids ts) k e h)
closed_kid (leaf bytes) k e h = absurd (omega arith)
closed_kid t zero e h = refl
closed_kid t (suc k) e h = absurd (omega arith)

-- a part that gives a kid is a tree
pub giving_tree : (t : Plain) (k : ℕ) → IsPart t → k < length (part_kids t) → IsTree t
giving_tree (tree shape ts) k p h = tt
giving_tree (leaf bytes) k p h = absurd (omega arith)
giving_tree t k p h = absurd p

-- the last end is after each kid
pub record EndsAfter (ends : List ℕ) (i : ℕ) : Type 0 where
  pub some : 0 < length ends
  pub within : i < get_or ends (length ends - 1) 0

pub ends_after : (ts : List Plain) (ends : List ℕ) (i : ℕ) → ends ≡ kid_ends 0 ts → i < length (parts_kids (plains_of ts)) → EndsAfter ends i
ends_after ts ends i e h =
    let last : get_or ends (length ends - 1) 0 ≡ length (parts_kids (plains_of ts)) =
    sym (unwrap_or-slice_get ends (length ends - 1) 0) ∙ kid_count ts ends (slice_get ends (length ends - 1)) e refl in
    record { some = filled ends (omega arith); within = omega arith }
  where
    filled : (xs : List ℕ) → i < get_or xs (length xs - 1) 0 → 0 < length xs
    filled [] k = absurd (omega arith)
    filled (x ∷ xs) k = omega arith

before_le : (ends : List ℕ) (j i : ℕ) → (0 < j → get_or ends (j - 1) 0 ≤ i) → before 0 ends j ≤ i
before_le ends zero i h = omega arith
before_le ends (suc j) i h = let e : suc j - 1 ≡ j = omega arith in let k = h (omega arith) in rw e at k

-- the kid at i stands in the part whose end is the first after i
pub place : (ts : List Plain) (ends : List ℕ) (i j : ℕ) (d : Plain) → ends ≡ kid_ends 0 ts → j < length ends → i < get_or ends j 0 → (0 < j → get_or ends (j - 1) 0 ≤ i)
    → Stands ts i (get_or ts j d) (i - before 0 ends j)
place ts ends i j d e h after from =
    let within : j < length ts = omega (arith, ap length e, length-kid_ends 0 ts) in
    let start : before 0 (kid_ends 0 ts) j ≤ i = rw (← e) (before_le ends j i from) in
    let end : i < get_or (kid_ends 0 ts) j 0 = rw (← e) after in
    let same : i - 0 ≡ i = omega arith in
    rw e (rw same at (stands 0 ts j i d within start end))

pub pair_at : (es : List Entry) (k : ℕ) (e : Entry) → k < length es → e ≡ get_or es k e
    → (slice_get (pairs_kids (pairs_of (map pair_of es))) (2 * k) ≡ Some e.key) × (slice_get (pairs_kids (pairs_of (map pair_of es))) (2 * k + 1) ≡ Some e.value)
pair_at [] k e h is = absurd (omega arith)
pair_at (x ∷ xs) zero e h is = (ap (λ (w : Entry). Some w.key) (sym is), ap (λ (w : Entry). Some w.value) (sym is))
pair_at (x ∷ xs) (suc k) e h is =
    let key : 2 * suc k ≡ suc (suc (2 * k)) = omega arith in
    let value : suc (suc (2 * k)) + 1 ≡ suc (suc (2 * k + 1)) = omega arith in
    rw key (rw value (pair_at xs k e (omega arith) is))
