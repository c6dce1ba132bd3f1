-- The text of values by their kids and parts.
use Rattle.std.proofs.Common.{◌≡◌, ℕ, zero, suc, ◌+◌, ◌*◌, ◌/◌, ◌<◌, ◌≤◌, List, [], ◌∷◌, ◌++◌, length, drop, map, Option, Some, None, refl, ap, sym, ◌∙◌, arith, codes, add-one, append_assoc, length-drop}
use Rattle.std.proofs.lemmas.List.{drop_all}
use Rattle.std.specs.List.{slice_get}
use Rattle.rl_value.specs.declared.kind.Kind.{Kind}
use Rattle.rl_value.specs.declared.kind.Kind.TheVariants as k
use Rattle.rl_value.specs.declared.shape.Role.{Role}
use Rattle.rl_value.specs.declared.shape.Role.TheVariants as r
use Rattle.rl_value.specs.Plain.{Shape, Plain, bool, int, text, location, tuple, list, set, mapping, node, tree, leaf, Plains, nil, cons, Pairs, no_pairs, pair, plains_of, items_of, pairs_of, plain_size, plains_size, pairs_size, plain_text, plains_text}
use Rattle.rl_value.specs.Kids.{kids, part_kids, parts_kids, pairs_kids, in_pairs, by_role}
use Rattle.rl_value.specs.Readers.{kind_of, name_of, parts_of}
use Rattle.rl_print.specs.declared.escape.Escapes.{Escapes}
use Rattle.rl_print.specs.declared.escape.Escapes.TheVariants.{Raw}
use Rattle.rl_print.specs.Escape.{escaped}
use Rattle.rl_print.specs.Printed.{printed_of, shown_of, printed_all, printed_more, printed_entries, printed_more_entries, comma_before}
use Rattle.rl_print.proofs.EscapeLemmas.{escaped-raw, append-nil}
use Rattle.std.proofs.lemmas.List.Concat.{flat_map-append}

pub plains_of-items_of : (ts : Plains) → plains_of (items_of ts) ≡ ts
plains_of-items_of nil = refl
plains_of-items_of (cons t ts) = ap (cons t) (plains_of-items_of ts)

pub pairs_of-in_pairs : (ps : Pairs) → pairs_of (in_pairs (pairs_kids ps)) ≡ ps
pairs_of-in_pairs no_pairs = refl
pairs_of-in_pairs (pair k v ps) = ap (pair k v) (pairs_of-in_pairs ps)

pub drop_at : {A : Type 0} (xs : List A) (i : ℕ) (x : A) → slice_get xs i ≡ Some x → drop i xs ≡ x ∷ drop (suc i) xs
drop_at [] i x e = cc
drop_at (y ∷ ys) zero x e = let same : y ≡ x = cc in ap (λ z. z ∷ ys) same
drop_at (y ∷ ys) (suc i) x e = drop_at ys i x e

-- ---- sizes
at_size : (ts : List Plain) (i : ℕ) (x : Plain) → slice_get ts i ≡ Some x → plain_size x ≤ plains_size (plains_of ts)
at_size [] i x e = cc
at_size (t ∷ ts) zero x e = let same : t ≡ x = cc in omega (arith, ap plain_size same)
at_size (t ∷ ts) (suc i) x e = omega (arith, at_size ts i x e)

plains_size-append : (ss ts : List Plain) → plains_size (plains_of (ss ++ ts)) ≡ plains_size (plains_of ss) + plains_size (plains_of ts)
plains_size-append [] ts = omega arith
plains_size-append (s ∷ ss) ts = omega (arith, plains_size-append ss ts)

by_role_size : (role : Role) (inside itself : List Plain) (n : ℕ) → plains_size (plains_of inside) ≤ n → plains_size (plains_of itself) ≤ n
    → plains_size (plains_of (by_role role [] inside itself)) ≤ n
by_role_size r.Layout inside itself n a b = omega arith
by_role_size r.Rep inside itself n a b = a
by_role_size r.Opt inside itself n a b = a
by_role_size r.Syntax inside itself n a b = b
by_role_size r.Lexical inside itself n a b = b
by_role_size r.Keyword inside itself n a b = b

mutual
  part_kids_size : (t : Plain) → plains_size (plains_of (part_kids t)) ≤ plain_size t
  part_kids_size (tree shape ts) = by_role_size shape.role (parts_kids ts) (tree shape ts ∷ []) (plain_size (tree shape ts)) (omega (arith, parts_kids_size ts)) (omega arith)
  part_kids_size (leaf bytes) = omega arith
  part_kids_size t = omega arith

  parts_kids_size : (ts : Plains) → plains_size (plains_of (parts_kids ts)) ≤ plains_size ts
  parts_kids_size nil = omega arith
  parts_kids_size (cons t ts) = omega (arith, plains_size-append (part_kids t) (parts_kids ts), part_kids_size t, parts_kids_size ts)

pairs_kids_size : (ps : Pairs) → plains_size (plains_of (pairs_kids ps)) ≤ pairs_size ps
pairs_kids_size no_pairs = omega arith
pairs_kids_size (pair k v ps) = omega (arith, pairs_kids_size ps)

kids_size : (t : Plain) → plains_size (plains_of (kids t)) + 1 ≤ plain_size t
kids_size (tuple ts) = omega (arith, ap plains_size (plains_of-items_of ts))
kids_size (list ts) = omega (arith, ap plains_size (plains_of-items_of ts))
kids_size (set ts) = omega (arith, ap plains_size (plains_of-items_of ts))
kids_size (mapping ps) = omega (arith, pairs_kids_size ps)
kids_size (node name ts) = omega (arith, ap plains_size (plains_of-items_of ts))
kids_size (tree shape ts) = omega (arith, parts_kids_size ts)
kids_size t = omega arith

-- a value is larger than those inside it
pub kid_smaller : (t : Plain) (i : ℕ) (x : Plain) → slice_get (kids t) i ≡ Some x → plain_size x + 1 ≤ plain_size t
kid_smaller t i x e = omega (arith, at_size (kids t) i x e, kids_size t)

parts_size : (t : Plain) → plains_size (plains_of (parts_of t)) + 1 ≤ plain_size t
parts_size (tree shape ts) = omega (arith, ap plains_size (plains_of-items_of ts))
parts_size t = omega arith

pub part_smaller : (t : Plain) (i : ℕ) (x : Plain) → slice_get (parts_of t) i ≡ Some x → plain_size x + 1 ≤ plain_size t
part_smaller t i x e = omega (arith, at_size (parts_of t) i x e, parts_size t)

-- ---- the text of a tree
pub parts_text : (t : Plain) → ¬ (kind_of t ≡ k.Leaf) → plain_text t ≡ plains_text (plains_of (parts_of t))
parts_text (tree shape ts) n = ap plains_text (sym (plains_of-items_of ts))
parts_text (leaf bytes) n = absurd (n refl)
parts_text t n = refl

pub text_at : (ts : List Plain) (i : ℕ) (x : Plain) → slice_get ts i ≡ Some x
    → plains_text (plains_of (drop i ts)) ≡ plain_text x ++ plains_text (plains_of (drop (i + 1) ts))
text_at ts i x e = rw add-one (ap (λ us. plains_text (plains_of us)) (drop_at ts i x e))

pub leaves_at : (e : Escapes) (ts : List Plain) (out : List ℕ) (i : ℕ) (x : Plain) → slice_get ts i ≡ Some x
    → (out ++ escaped e (plain_text x)) ++ escaped e (plains_text (plains_of (drop (i + 1) ts))) ≡ out ++ escaped e (plains_text (plains_of (drop i ts)))
leaves_at e ts out i x h = rw (text_at ts i x h, flat_map-append) (simp append_assoc)

pub leaves_end : (e : Escapes) (t : Plain) (out from : List ℕ) (i : ℕ) → ¬ (kind_of t ≡ k.Leaf) → length (parts_of t) ≤ i
    → out ++ escaped e (plains_text (plains_of (drop i (parts_of t)))) ≡ from ++ escaped e (plains_text (plains_of (parts_of t))) → out ≡ from ++ escaped e (plain_text t)
leaves_end e t out from i n h p =
    let none : drop i (parts_of t) ≡ [] = drop_all i (parts_of t) h in
    rw (parts_text t n) (sym (append-nil out) ∙ (rw none at p))

pub tree_shown : (t : Plain) → kind_of t ≡ k.Tree → shown_of t ≡ escaped Raw (plain_text t)
tree_shown (tree shape ts) e = sym (escaped-raw (plains_text ts))
tree_shown t e = cc

pub leaf_printed : (t : Plain) → kind_of t ≡ k.Leaf → printed_of t ≡ escaped Raw (plain_text t)
leaf_printed (leaf bytes) e = sym (escaped-raw bytes)
leaf_printed t e = cc

-- ---- values with others inside
pub tuple_printed : (t : Plain) → kind_of t ≡ k.Tuple → printed_of t ≡ codes "<" ++ printed_all (plains_of (kids t)) ++ codes ">"
tuple_printed (tuple ts) e = ap (λ us. codes "<" ++ printed_all us ++ codes ">") (sym (plains_of-items_of ts))
tuple_printed t e = cc

pub list_printed : (t : Plain) → kind_of t ≡ k.List → printed_of t ≡ codes "[" ++ printed_all (plains_of (kids t)) ++ codes "]"
list_printed (list ts) e = ap (λ us. codes "[" ++ printed_all us ++ codes "]") (sym (plains_of-items_of ts))
list_printed t e = cc

pub set_printed : (t : Plain) → kind_of t ≡ k.Set → printed_of t ≡ codes "{" ++ printed_all (plains_of (kids t)) ++ codes "}"
set_printed (set ts) e = ap (λ us. codes "{" ++ printed_all us ++ codes "}") (sym (plains_of-items_of ts))
set_printed t e = cc

pub node_printed : (t : Plain) (name : List ℕ) → name_of t ≡ Some name → printed_of t ≡ name ++ codes "(" ++ printed_all (plains_of (kids t)) ++ codes ")"
node_printed (node name ts) n e =
    let same : name ≡ n = cc in ap (λ us. name ++ codes "(" ++ printed_all us ++ codes ")") (sym (plains_of-items_of ts)) ∙ ap (λ m. m ++ codes "(" ++ printed_all (plains_of (items_of ts)) ++ codes ")") same
node_printed t n e = cc

pub map_printed : (t : Plain) → kind_of t ≡ k.Map → printed_of t ≡ codes "(" ++ printed_entries (pairs_of (in_pairs (kids t))) ++ codes ")"
map_printed (mapping ps) e = ap (λ qs. codes "(" ++ printed_entries qs ++ codes ")") (sym (pairs_of-in_pairs ps))
map_printed t e = cc

-- the text of those from place i on
abbrev pub printed_from : ℕ → List Plain → List ℕ
printed_from zero ts = printed_all (plains_of ts)
printed_from (suc i) ts = printed_more (plains_of ts)

printed_none : (i : ℕ) → printed_from i [] ≡ []
printed_none zero = refl
printed_none (suc i) = refl

printed_first : (i : ℕ) (x : Plain) (ts : List Plain) → printed_from i (x ∷ ts) ≡ comma_before i ++ printed_of x ++ printed_from (suc i) ts
printed_first zero x ts = refl
printed_first (suc i) x ts = refl

pub printed_at : (ts : List Plain) (out : List ℕ) (i : ℕ) (x : Plain) → slice_get ts i ≡ Some x
    → ((out ++ comma_before i) ++ printed_of x) ++ printed_from (i + 1) (drop (i + 1) ts) ≡ out ++ printed_from i (drop i ts)
printed_at ts out i x e = rw (add-one, drop_at ts i x e, printed_first i x (drop (suc i) ts)) (simp append_assoc)

pub printed_end : (ts : List Plain) (i : ℕ) → length ts ≤ i → printed_from i (drop i ts) ≡ []
printed_end ts i h = rw (drop_all i ts h) (printed_none i)

-- the text of the entries from place i on
abbrev pub entries_from : ℕ → List Plain → List ℕ
entries_from zero ts = printed_entries (pairs_of (in_pairs ts))
entries_from (suc i) ts = printed_more_entries (pairs_of (in_pairs ts))

entries_first : (i : ℕ) (a b : Plain) (ts : List Plain) → entries_from i (a ∷ b ∷ ts) ≡ comma_before i ++ printed_of a ++ codes ":" ++ printed_of b ++ entries_from (suc i) ts
entries_first zero a b ts = refl
entries_first (suc i) a b ts = refl

pub entries_at : (ts : List Plain) (out : List ℕ) (i : ℕ) (a b : Plain) → slice_get ts (2 * i) ≡ Some a → slice_get ts (2 * i + 1) ≡ Some b
    → ((((out ++ comma_before i) ++ printed_of a) ++ codes ":") ++ printed_of b) ++ entries_from (i + 1) (drop (2 * (i + 1)) ts) ≡ out ++ entries_from i (drop (2 * i) ts)
entries_at ts out i a b e f =
    let g : slice_get ts (suc (2 * i)) ≡ Some b = rw (← add-one (2 * i)) f in
    let two : 2 * (i + 1) ≡ suc (suc (2 * i)) = omega arith in
    rw (two, add-one, drop_at ts (2 * i) a e, drop_at ts (suc (2 * i)) b g, entries_first i a b (drop (suc (suc (2 * i))) ts)) (simp append_assoc)

entries_few : (i : ℕ) (ts : List Plain) → length ts ≤ 1 → entries_from i ts ≡ []
entries_few zero [] h = refl
entries_few (suc i) [] h = refl
entries_few zero (t ∷ []) h = refl
entries_few (suc i) (t ∷ []) h = refl
entries_few i (t ∷ u ∷ ts) h = absurd (omega arith)

pub entries_end : (ts : List Plain) (i : ℕ) → length ts / 2 ≤ i → entries_from i (drop (2 * i) ts) ≡ []
entries_end ts i h = entries_few i (drop (2 * i) ts) (omega (arith, length-drop (2 * i) ts))
