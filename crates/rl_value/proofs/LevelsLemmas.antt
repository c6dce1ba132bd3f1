-- Steps of a walk over the leaves of a syntax tree.
use Rattle.std.proofs.Common.{subst, ◌-◌, length-append, length-take, ◌≡◌, ℕ, ◌+◌, ◌*◌, ◌<◌, ◌≤◌, List, [], ◌∷◌, ◌++◌, length, get_or, take, slice_set, refl, ap, sym, ◌∙◌, append_assoc, arith, add-one, Bor}
use Rattle.std.proofs.lemmas.List.{length-set}
use Rattle.std.proofs.lemmas.Grind.{take-set_at}
use Rattle.std.proofs.Math.Seq.{take-suc}
use Rattle.rl_value.specs.Plain.{Plain, bool, tree, leaf, Plains, nil, cons, plains_of, items_of, plain_text, plains_text, plain_size, plains_size, plain_height, plains_height}
use Rattle.rl_value.specs.Readers.{parts_of, leaf_bytes}
use Rattle.rl_value.specs.Levels.{levels_text, LeavesRoom, levels_weight}

pub plains_of-items_of : (ts : Plains) → plains_of (items_of ts) ≡ ts
plains_of-items_of nil = refl
plains_of-items_of (cons t ts) = ap (cons t) (plains_of-items_of ts)

pub append-nil : {A : Type 0} (xs : List A) → xs ++ [] ≡ xs
append-nil [] = refl
append-nil (x ∷ xs) = ap (λ ys. x ∷ ys) (append-nil xs)

-- the text of a part: what stands in it if it is a leaf, and that of its parts
pub part_text : (t : Plain) → plain_text t ≡ leaf_bytes t ++ plains_text (plains_of (parts_of t))
part_text (tree shape ts) = ap plains_text (sym (plains_of-items_of ts))
part_text (leaf bytes) = sym (append-nil bytes)
part_text t = refl

pub part_height : (t : Plain) → plains_height (plains_of (parts_of t)) + 1 ≤ plain_height t
part_height (tree shape ts) = rw plains_of-items_of (omega arith)
part_height t = omega arith

pub part_size : (t : Plain) → plains_size (plains_of (parts_of t)) + 1 ≤ plain_size t
part_size (tree shape ts) = rw plains_of-items_of (omega arith)
part_size t = omega arith

pub levels_text-append : (ps : List (Bor (List Plain))) (p : Bor (List Plain)) → levels_text (ps ++ p ∷ []) ≡ plains_text (plains_of p.now) ++ levels_text ps
levels_text-append [] p = sym (append-nil (plains_text (plains_of p.now)))
levels_text-append (q ∷ qs) p =
    ap (λ bytes. bytes ++ plains_text (plains_of q.now)) (levels_text-append qs p)
    ∙ append_assoc (plains_text (plains_of p.now)) (levels_text qs) (plains_text (plains_of q.now))

pub levels_weight-append : (ps : List (Bor (List Plain))) (p : Bor (List Plain)) → levels_weight (ps ++ p ∷ []) ≡ levels_weight ps + (2 * plains_size (plains_of p.now) + 1)
levels_weight-append [] p = omega arith
levels_weight-append (q ∷ qs) p = omega (arith, levels_weight-append qs p)

pub LeavesRoom-append : (k : ℕ) (ps : List (Bor (List Plain))) (p : Bor (List Plain)) → LeavesRoom k ps
    → k + length ps + 1 + plains_height (plains_of p.now) ≤ 2000 → LeavesRoom k (ps ++ p ∷ [])
LeavesRoom-append k [] p r h = (omega arith, tt)
LeavesRoom-append k (q ∷ qs) p r h = (r.0, LeavesRoom-append (k + 1) qs p r.1 (omega arith))

pub LeavesRoom-front : (k : ℕ) (ps : List (Bor (List Plain))) (p : Bor (List Plain)) → LeavesRoom k (ps ++ p ∷ []) → LeavesRoom k ps
LeavesRoom-front k [] p r = tt
LeavesRoom-front k (q ∷ qs) p r = (r.0, LeavesRoom-front (k + 1) qs p r.1)

pub LeavesRoom-last : (k : ℕ) (ps : List (Bor (List Plain))) (p : Bor (List Plain)) → LeavesRoom k (ps ++ p ∷ [])
    → k + length ps + 1 + plains_height (plains_of p.now) ≤ 2000
LeavesRoom-last k [] p r = omega arith
LeavesRoom-last k (q ∷ qs) p r = omega (arith, LeavesRoom-last (k + 1) qs p r.1)

-- the levels down to the one at the top
pub levels_at : (levels : List (Bor (List Plain))) (d k : ℕ) (p : Bor (List Plain)) → d ≡ k + 1 → k < length levels → p ≡ get_or levels k p
    → take d levels ≡ take k levels ++ p ∷ []
levels_at levels d k p e h is = rw (e, add-one) (take-suc levels k p h ∙ ap (λ w. take k levels ++ w ∷ []) (sym is))

-- the levels after a step down
pub levels_down : (levels : List (Bor (List Plain))) (n k : ℕ) (o q : Bor (List Plain)) → n ≡ k + 2 → k + 1 < length levels
    → take n (slice_set (slice_set levels k o) (k + 1) q) ≡ (take k levels ++ o ∷ []) ++ q ∷ []
levels_down levels n k o q e h =
    let fits : k + 1 < length (slice_set levels k o) = rw length-set (omega arith) in
    let below : k < length levels = omega arith in
    take-set_at (slice_set levels k o) (k + 1) n q (omega arith) fits
    ∙ ap (λ ps. ps ++ q ∷ []) (take-set_at levels k (k + 1) o refl below)

pub height_one : (t : Plain) → 1 ≤ plain_height t
height_one (bool b) = omega arith
height_one t = omega arith

pub no_items : {A : Type 0} (xs : List A) → length xs ≡ 0 → xs ≡ []
no_items [] e = refl
no_items (x ∷ xs) e = absurd (omega arith)

-- a step up, where the lowest level is used up
module _ (xs ys : List (Bor (List Plain))) (p : Bor (List Plain)) (lowest : ys ≡ xs ++ p ∷ []) (end : p.now ≡ []) where
  pub text_up : (bytes : List ℕ) → bytes ≡ [] → bytes ++ levels_text xs ≡ levels_text ys
  text_up bytes e = rw (e, lowest, levels_text-append, end) refl

  pub weight_up : levels_weight xs < levels_weight ys
  weight_up = omega (arith, ap levels_weight lowest, levels_weight-append xs p)

-- a step down into the part t
module _ (xs ys zs : List (Bor (List Plain))) (p o q : Bor (List Plain)) (t : Plain)
    (lowest : ys ≡ xs ++ p ∷ []) (after : zs ≡ (xs ++ o ∷ []) ++ q ∷ []) (split : p.now ≡ t ∷ o.now) (inside : q.now ≡ parts_of t) where
  pub text_down : (bytes : List ℕ) → bytes ≡ leaf_bytes t → bytes ++ levels_text zs ≡ levels_text ys
  text_down bytes e =
      rw (e, after, levels_text-append (xs ++ o ∷ []) q, levels_text-append xs o, inside, lowest, levels_text-append xs p, split, part_text t)
      (sym (ap (λ w. w ++ levels_text xs) (append_assoc (leaf_bytes t) (plains_text (plains_of (parts_of t))) (plains_text (plains_of o.now)))
      ∙ append_assoc (leaf_bytes t) (plains_text (plains_of (parts_of t)) ++ plains_text (plains_of o.now)) (levels_text xs)
      ∙ ap (λ w. leaf_bytes t ++ w) (append_assoc (plains_text (plains_of (parts_of t))) (plains_text (plains_of o.now)) (levels_text xs))))

  pub weight_down : levels_weight zs < levels_weight ys
  weight_down =
      omega (
        arith,
        ap levels_weight lowest,
        ap levels_weight after,
        levels_weight-append xs p,
        levels_weight-append (xs ++ o ∷ []) q,
        levels_weight-append xs o,
        ap (λ ts. plains_size (plains_of ts)) split,
        ap (λ ts. plains_size (plains_of ts)) inside,
        part_size t,
      )

  heights : plains_height (plains_of p.now) ≡ plains_height (cons t (plains_of o.now))
  heights = ap (λ ts. plains_height (plains_of ts)) split

  room_here : LeavesRoom 0 ys → length xs + 1 + plains_height (plains_of p.now) ≤ 2000
  room_here room = let r : LeavesRoom 0 (xs ++ p ∷ []) = subst (LeavesRoom 0) lowest room in omega (arith, LeavesRoom-last 0 xs p r)

  pub room_down : LeavesRoom 0 ys → LeavesRoom 0 zs
  room_down room =
      let r : LeavesRoom 0 (xs ++ p ∷ []) = subst (LeavesRoom 0) lowest room in
      let here = room_here room in
      let one = LeavesRoom-append 0 xs o (LeavesRoom-front 0 xs p r) (omega (arith, here, heights)) in
      let two = LeavesRoom-append 0 (xs ++ o ∷ []) q one
      (omega (arith, here, heights, part_height t, length-append xs (o ∷ []), ap (λ ts. plains_height (plains_of ts)) inside)) in
      rw after two

-- a level with a part leaves room for one more
pub one_more : (levels : List (Bor (List Plain))) (d : ℕ) (p : Bor (List Plain)) (t : Plain) (ts : List Plain) → 0 < d → d ≤ 2000 → length levels ≡ 2000
    → take d levels ≡ take (d - 1) levels ++ p ∷ [] → p.now ≡ t ∷ ts → LeavesRoom 0 (take d levels) → d + 1 ≤ 2000
one_more levels d p t ts some full all lowest split room =
    let r : LeavesRoom 0 (take (d - 1) levels ++ p ∷ []) = subst (LeavesRoom 0) lowest room in
    omega (arith, LeavesRoom-last 0 (take (d - 1) levels) p r, length-take (d - 1) levels, ap (λ us. plains_height (plains_of us)) split, height_one t)
