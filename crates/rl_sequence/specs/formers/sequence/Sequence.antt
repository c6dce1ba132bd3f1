-- `Sequence` as a type that may hold the type that holds it: seen as a list, it holds what its leaves hold, in their order.
use Rattle.std.specs.Prelude.{◌≡◌, ℕ, ◌+◌, ◌<◌, ◌≤◌, ◌^◌, List, [], ◌∷◌, ◌++◌, map, length}
use mathlib.Core.Path.{refl, sym, ap, ◌∙◌, subst}
use mathlib.Core.Former.{Former, Count, none_left, one_more, Row, this, const, pair, list, via, children, list_count, list_put}
use native.Mathlib.Nat.{ℕ_set}
use native.Mathlib.Bridge.{le_prop}
use lib.ListN.{length-map, get_or, get_or-map}
use base.Stored.{code_map, gnil}
use base.Fml.{ftrue}
use denote.RattleType.{RattleType}
use denote.Memory.{part_of}
use denote.Sharing.{nothing}
use denote.Builtin.{usize}
use denote.HoleLaws.{Alike}
use denote.HolePlaces.{Recodes, struct_places, laid, stays, one_value}
use denote.Hole.Carrier.{listed, list-listed}
use denote.Hole.Fix.{over}
use denote.Param.Weighed.{Weighed, w_list}
use denote.Model.Placed.{view_places}
use Rattle.std.proofs.lemmas.List.{map-append}
use Rattle.std.proofs.lemmas.List.Elements.{All-map}
use Rattle.std.specs.formers.vec.Vec as vec
use Rattle.std.specs.declared.rc.Rc.{Rc}
use Rattle.std.specs.contracts.rc.Rc as rc
use Rattle.std.specs.declared.alloc.Global.{Global}
use Rattle.std.specs.contracts.alloc.Global as heap
use Rattle.std.specs.contracts.impls.GlobalAllocator.TheImpl.{ghosts}
use Rattle.rl_sequence.specs.Parts.{flat, widths, AreFull, FullAfter, IsChild, IsLevel}
use Rattle.rl_sequence.specs.Whole.{leaf_elements, leaf_width, IsRightLeaf, level_width, row_elements, IsRightRow, block_elements, IsRightBlock, body_elements, IsRightBody, whole_elements, IsWhole, IsInner}
use Rattle.rl_sequence.specs.declared.leaf.Leaf.{Leaf}
use Rattle.rl_sequence.specs.declared.level.Level.{Level}
use Rattle.rl_sequence.specs.declared.children.Child.{Child}
use Rattle.rl_sequence.specs.declared.sequence.Sequence.TheInside.{Inside}
use Rattle.rl_sequence.specs.declared.sequence.Sequence.TheView.{view, invariant}
use Rattle.rl_sequence.specs.contracts.leaf.Leaf as L
use Rattle.rl_sequence.specs.contracts.level.Level as N
use Rattle.rl_sequence.specs.contracts.children.Child as K
use Rattle.rl_sequence.specs.contracts.sequence.Sequence as C
use Rattle.rl_sequence.specs.contracts.sequence.Sequence.TheInside as I

abbrev pub the_former : Former {0} → Former {0}
the_former g = list g

abbrev pub the_weighed : {g : Former {0}} → Weighed g → Weighed (the_former g)
the_weighed w = w_list w

pub the_empty : List ⊥
the_empty = []

abbrev pub the_items : (X : Type 0) → List X → List X
the_items X d = d

pub the_items_listed : (X : Type 0) (d : List X) → listed _ (children (the_former this) X d) ≡ the_items X d
the_items_listed X d = list-listed X d

-- ---- the formers of the fields
abbrev leaf_f : Former {0} → Former {0}
leaf_f g = via (vec.the_former g Global) (λ X. Leaf (g.Of X)) (λ X x. x.items) (λ X v. record { items = v }) (λ X x. refl) (λ X v. refl)

abbrev rc_f : Former {0} → Former {0}
rc_f g = record {
  Of = λ X. Rc (g.Of X) Global;
  Shape = Rc g.Shape Global;
  count = λ d. g.count d.value;
  shape = λ X d. record { ptr = d.ptr; value = g.shape X d.value };
  put = λ X d. g.put X d.value;
  get = λ X d n v. (record { ptr = d.ptr; value = (g.get X d.value n v).0 }, (g.get X d.value n v).1);
  map = λ X Y h d. record { ptr = d.ptr; value = g.map X Y h d.value };
  get-put = λ X d n t i. (record { ptr = d.ptr; value = (g.get-put X d.value n t i).0 }, (g.get-put X d.value n t i).1);
  put-get = λ X d n v i. (record { ptr = d.ptr; value = (g.put-get X d.value n v i).0 }, (g.put-get X d.value n v i).1);
  get-map = λ X Y h d n v i. (record { ptr = d.ptr; value = (g.get-map X Y h d.value n v i).0 }, (g.get-map X Y h d.value n v i).1);
}

abbrev child_f : Former {0} → Former {0}
child_f g = via (pair (const ℕ) (rc_f g)) (λ X. Child (g.Of X)) (λ X x. (x.count, x.chunk)) (λ X v. record { count = v.0; chunk = v.1 }) (λ X x. refl) (λ X v. refl)

abbrev level_f : Former {0} → Former {0}
level_f g = via (pair (const ℕ) (vec.the_former (child_f g) Global)) (λ X. Level (g.Of X)) (λ X x. (x.count, x.children)) (λ X v. record { count = v.0; children = v.1 }) (λ X x. refl) (λ X v. refl)

abbrev body_f : Former {0}
body_f = level_f (level_f (level_f (leaf_f this)))

abbrev fields : Former {0}
fields = via (pair body_f (leaf_f this)) Inside (λ X a. (a.body, a.tail)) (λ X v. record { body = v.0; tail = v.1 }) (λ X a. refl) (λ X v. refl)

-- ---- what is said of widths is said in one way alone
after_one : (m : ℕ) (ns : List ℕ) → IsProp (FullAfter m ns)
after_one m [] = λ p q. refl
after_one m (n ∷ ns) = λ p q i. (le_prop p.0 q.0 i, after_one n ns p.1 q.1 i)

full_one : (ns : List ℕ) → IsProp (AreFull ns)
full_one [] = λ p q. refl
full_one (n ∷ ns) = after_one n ns

-- ---- a flat list of parts goes along a map, and keeps what they hold
abbrev Held : Type 0 → Type 0
Held X = (n : Count) × Row X n

abbrev put_list : (X : Type 0) → List X → (n : Count) → Row X n → Held X
put_list X xs n t = (list_count this (map (λ _. tt) xs) n, list_put this X xs n t)

put_list-append : (X : Type 0) (xs ys : List X) (n : Count) (t : Row X n) → put_list X (xs ++ ys) n t ≡ put_list X xs (put_list X ys n t).0 (put_list X ys n t).1
put_list-append X [] ys n t = refl
put_list-append X (x ∷ xs) ys n t = λ i. (one_more (put_list-append X xs ys n t i).0, (x, (put_list-append X xs ys n t i).1))

module _ (f : Former {0}) (v : (X : Type 0) → f.Of X → List X) (right : (X : Type 0) → f.Of X → Type 0) (w : (X : Type 0) → f.Of X → ℕ)
    (natural : (X Y : Type 0) (h : X → Y) (a : f.Of X) → v Y (f.map X Y h a) ≡ map h (v X a))
    (as_wide : (X Y : Type 0) (h : X → Y) (a : f.Of X) → w Y (f.map X Y h a) ≡ w X a)
    (keeps : (X : Type 0) (a : f.Of X) (n : Count) (t : Row X n) → ◌≡◌ {A = Held X} (put_list X (v X a) n t) (f.count (f.shape X a) n, f.put X a n t))
    (one : (X : Type 0) (a : f.Of X) → IsProp (right X a))
    (to : (X Y : Type 0) (h : X → Y) (a : f.Of X) → right X a → right Y (f.map X Y h a))
    (from : (X Y : Type 0) (h : X → Y) (a : f.Of X) → right Y (f.map X Y h a) → right X a) where
  abbrev children_view : (X : Type 0) → List (Child (f.Of X)) → List X
  children_view X ks = flat (v X) (right X) (w X) ks

  flat_natural : (X Y : Type 0) (h : X → Y) (ks : List (Child (f.Of X))) → children_view Y (map ((child_f f).map X Y h) ks) ≡ map h (children_view X ks)
  flat_natural X Y h [] = refl
  flat_natural X Y h (k ∷ ks) = (λ i. natural X Y h k.chunk.value i ++ flat_natural X Y h ks i) ∙ sym (map-append h (v X k.chunk.value) (children_view X ks))

  widths_natural : (X Y : Type 0) (h : X → Y) (ks : List (Child (f.Of X))) → widths (v Y) (right Y) (w Y) (map ((child_f f).map X Y h) ks) ≡ widths (v X) (right X) (w X) ks
  widths_natural X Y h [] = refl
  widths_natural X Y h (k ∷ ks) = λ i. as_wide X Y h k.chunk.value i ∷ widths_natural X Y h ks i

  flat_keeps : (X : Type 0) (ks : List (Child (f.Of X))) (n : Count) (t : Row X n)
      → ◌≡◌ {A = Held X} (put_list X (children_view X ks) n t) (list_count (child_f f) (map ((child_f f).shape X) ks) n, list_put (child_f f) X ks n t)
  flat_keeps X [] n t = refl
  flat_keeps X (k ∷ ks) n t =
      put_list-append X (v X k.chunk.value) (children_view X ks) n t
      ∙ ap {B = Held X} (λ (u : Held X). put_list X (v X k.chunk.value) u.0 u.1) (flat_keeps X ks n t)
      ∙ keeps X k.chunk.value _ _

  abbrev IsOne : (X : Type 0) → Child (f.Of X) → Type 0
  IsOne X k = IsChild (v X) (right X) (w X) k

  child_one : (X : Type 0) (k : Child (f.Of X)) → IsProp (IsOne X k)
  child_one X k = λ p q i. record { right = one X k.chunk.value p.right q.right i; count_is = ℕ_set _ _ p.count_is q.count_is i; some = le_prop p.some q.some i }

  length_view : (X Y : Type 0) (h : X → Y) (a : f.Of X) → length (v Y (f.map X Y h a)) ≡ length (v X a)
  length_view X Y h a = ap length (natural X Y h a) ∙ length-map (v X a) h

  child_to : (X Y : Type 0) (h : X → Y) (k : Child (f.Of X)) → IsOne X k → IsOne Y ((child_f f).map X Y h k)
  child_to X Y h k p = record { right = to X Y h k.chunk.value p.right; count_is = p.count_is ∙ sym (length_view X Y h k.chunk.value); some = p.some }

  child_from : (X Y : Type 0) (h : X → Y) (k : Child (f.Of X)) → IsOne Y ((child_f f).map X Y h k) → IsOne X k
  child_from X Y h k p = record { right = from X Y h k.chunk.value p.right; count_is = p.count_is ∙ length_view X Y h k.chunk.value; some = p.some }

  abbrev level_view : (X : Type 0) → (level_f f).Of X → List X
  level_view X l = children_view X l.children.items

  abbrev level_right : (X : Type 0) → (level_f f).Of X → Type 0
  level_right X l = IsLevel (v X) (right X) (w X) l.count l.children.items

  abbrev inner_right : (X : Type 0) → (level_f f).Of X → Type 0
  inner_right X l = IsInner (v X) (right X) (w X) l

  level_natural : (X Y : Type 0) (h : X → Y) (l : (level_f f).Of X) → level_view Y ((level_f f).map X Y h l) ≡ map h (level_view X l)
  level_natural X Y h l = flat_natural X Y h l.children.items

  level_wide : (X Y : Type 0) (h : X → Y) (l : (level_f f).Of X) → level_width ((level_f f).map X Y h l) ≡ level_width l
  level_wide X Y h l = length-map l.children.items ((child_f f).map X Y h)

  level_keeps : (X : Type 0) (l : (level_f f).Of X) (n : Count) (t : Row X n) → ◌≡◌ {A = Held X} (put_list X (level_view X l) n t) ((level_f f).count ((level_f f).shape X l) n, (level_f f).put X l n t)
  level_keeps X l n t = flat_keeps X l.children.items n t

  level_one : (X : Type 0) (l : (level_f f).Of X) → IsProp (level_right X l)
  level_one X l = λ p q i. record {
    count_is = ℕ_set _ _ p.count_is q.count_is i;
    right = λ k d h. child_one X (get_or l.children.items k d) (p.right k d h) (q.right k d h) i;
    full = full_one _ p.full q.full i;
    small = le_prop p.small q.small i;
  }

  length_natural : (X Y : Type 0) (h : X → Y) (l : (level_f f).Of X) → length (level_view Y ((level_f f).map X Y h l)) ≡ length (level_view X l)
  length_natural X Y h l = ap length (level_natural X Y h l) ∙ length-map (level_view X l) h

  level_to : (X Y : Type 0) (h : X → Y) (l : (level_f f).Of X) → level_right X l → level_right Y ((level_f f).map X Y h l)
  level_to X Y h l p = record {
    count_is = p.count_is ∙ sym (length_natural X Y h l);
    right = All-map (IsOne Y) ((child_f f).map X Y h) l.children.items (λ k d le. child_to X Y h (get_or l.children.items k d) (p.right k d le));
    full = subst AreFull (sym (widths_natural X Y h l.children.items)) p.full;
    small = p.small;
  }

  level_from : (X Y : Type 0) (h : X → Y) (l : (level_f f).Of X) → level_right Y ((level_f f).map X Y h l) → level_right X l
  level_from X Y h l p = record {
    count_is = p.count_is ∙ length_natural X Y h l;
    right = λ k d le. child_from X Y h (get_or l.children.items k d)
        (subst (IsOne Y) (get_or-map ((child_f f).map X Y h) l.children.items k d) (p.right k ((child_f f).map X Y h d) (subst (λ n. k < n) (sym (length-map l.children.items ((child_f f).map X Y h))) le)));
    full = subst AreFull (widths_natural X Y h l.children.items) p.full;
    small = p.small;
  }

  inner_one : (X : Type 0) (l : (level_f f).Of X) → IsProp (inner_right X l)
  inner_one X l = λ p q i. record { level = level_one X l p.level q.level i; few = le_prop p.few q.few i }

  inner_to : (X Y : Type 0) (h : X → Y) (l : (level_f f).Of X) → inner_right X l → inner_right Y ((level_f f).map X Y h l)
  inner_to X Y h l p = record { level = level_to X Y h l p.level; few = subst (λ n. n ≤ 64) (sym (level_wide X Y h l)) p.few }

  inner_from : (X Y : Type 0) (h : X → Y) (l : (level_f f).Of X) → inner_right Y ((level_f f).map X Y h l) → inner_right X l
  inner_from X Y h l p = record { level = level_from X Y h l p.level; few = subst (λ n. n ≤ 64) (level_wide X Y h l) p.few }

-- ---- leaves, rows of leaves, blocks of rows, and the body
abbrev leaf_view : (X : Type 0) → Leaf X → List X
leaf_view X = leaf_elements

abbrev leaf_right : (X : Type 0) → Leaf X → Type 0
leaf_right X = IsRightLeaf

abbrev leaf_wide : (X : Type 0) → Leaf X → ℕ
leaf_wide X = leaf_width

leaf_natural : (X Y : Type 0) (h : X → Y) (a : Leaf X) → leaf_view Y ((leaf_f this).map X Y h a) ≡ map h (leaf_view X a)
leaf_natural X Y h a = refl

leaf_as_wide : (X Y : Type 0) (h : X → Y) (a : Leaf X) → leaf_wide Y ((leaf_f this).map X Y h a) ≡ leaf_wide X a
leaf_as_wide X Y h a = length-map a.items.items h

leaf_keeps : (X : Type 0) (a : Leaf X) (n : Count) (t : Row X n) → ◌≡◌ {A = Held X} (put_list X (leaf_view X a) n t) ((leaf_f this).count ((leaf_f this).shape X a) n, (leaf_f this).put X a n t)
leaf_keeps X a n t = refl

leaf_one : (X : Type 0) (a : Leaf X) → IsProp (leaf_right X a)
leaf_one X a = λ p q. le_prop p q

leaf_to : (X Y : Type 0) (h : X → Y) (a : Leaf X) → leaf_right X a → leaf_right Y ((leaf_f this).map X Y h a)
leaf_to X Y h a p = subst (λ n. n ≤ 64) (sym (leaf_as_wide X Y h a)) p

leaf_from : (X Y : Type 0) (h : X → Y) (a : Leaf X) → leaf_right Y ((leaf_f this).map X Y h a) → leaf_right X a
leaf_from X Y h a p = subst (λ n. n ≤ 64) (leaf_as_wide X Y h a) p

abbrev row_f : Former {0}
row_f = level_f ((leaf_f this))

abbrev row_view : (X : Type 0) → Level (Leaf X) → List X
row_view X = row_elements

abbrev row_right : (X : Type 0) → Level (Leaf X) → Type 0
row_right X = IsRightRow

abbrev row_wide : (X : Type 0) → Level (Leaf X) → ℕ
row_wide X = level_width

row_natural : (X Y : Type 0) (h : X → Y) (a : Level (Leaf X)) → row_view Y (row_f.map X Y h a) ≡ map h (row_view X a)
row_natural = level_natural (leaf_f this) leaf_view leaf_right leaf_wide leaf_natural leaf_as_wide leaf_keeps leaf_one leaf_to leaf_from

row_as_wide : (X Y : Type 0) (h : X → Y) (a : Level (Leaf X)) → row_wide Y (row_f.map X Y h a) ≡ row_wide X a
row_as_wide = level_wide (leaf_f this) leaf_view leaf_right leaf_wide leaf_natural leaf_as_wide leaf_keeps leaf_one leaf_to leaf_from

row_keeps : (X : Type 0) (a : Level (Leaf X)) (n : Count) (t : Row X n) → ◌≡◌ {A = Held X} (put_list X (row_view X a) n t) (row_f.count (row_f.shape X a) n, row_f.put X a n t)
row_keeps = level_keeps (leaf_f this) leaf_view leaf_right leaf_wide leaf_natural leaf_as_wide leaf_keeps leaf_one leaf_to leaf_from

row_one : (X : Type 0) (a : Level (Leaf X)) → IsProp (row_right X a)
row_one = inner_one (leaf_f this) leaf_view leaf_right leaf_wide leaf_natural leaf_as_wide leaf_keeps leaf_one leaf_to leaf_from

row_to : (X Y : Type 0) (h : X → Y) (a : Level (Leaf X)) → row_right X a → row_right Y (row_f.map X Y h a)
row_to = inner_to (leaf_f this) leaf_view leaf_right leaf_wide leaf_natural leaf_as_wide leaf_keeps leaf_one leaf_to leaf_from

row_from : (X Y : Type 0) (h : X → Y) (a : Level (Leaf X)) → row_right Y (row_f.map X Y h a) → row_right X a
row_from = inner_from (leaf_f this) leaf_view leaf_right leaf_wide leaf_natural leaf_as_wide leaf_keeps leaf_one leaf_to leaf_from

abbrev block_f : Former {0}
block_f = level_f (row_f)

abbrev block_view : (X : Type 0) → Level (Level (Leaf X)) → List X
block_view X = block_elements

abbrev block_right : (X : Type 0) → Level (Level (Leaf X)) → Type 0
block_right X = IsRightBlock

abbrev block_wide : (X : Type 0) → Level (Level (Leaf X)) → ℕ
block_wide X = level_width

block_natural : (X Y : Type 0) (h : X → Y) (a : Level (Level (Leaf X))) → block_view Y (block_f.map X Y h a) ≡ map h (block_view X a)
block_natural = level_natural row_f row_view row_right row_wide row_natural row_as_wide row_keeps row_one row_to row_from

block_as_wide : (X Y : Type 0) (h : X → Y) (a : Level (Level (Leaf X))) → block_wide Y (block_f.map X Y h a) ≡ block_wide X a
block_as_wide = level_wide row_f row_view row_right row_wide row_natural row_as_wide row_keeps row_one row_to row_from

block_keeps : (X : Type 0) (a : Level (Level (Leaf X))) (n : Count) (t : Row X n) → ◌≡◌ {A = Held X} (put_list X (block_view X a) n t) (block_f.count (block_f.shape X a) n, block_f.put X a n t)
block_keeps = level_keeps row_f row_view row_right row_wide row_natural row_as_wide row_keeps row_one row_to row_from

block_one : (X : Type 0) (a : Level (Level (Leaf X))) → IsProp (block_right X a)
block_one = inner_one row_f row_view row_right row_wide row_natural row_as_wide row_keeps row_one row_to row_from

block_to : (X Y : Type 0) (h : X → Y) (a : Level (Level (Leaf X))) → block_right X a → block_right Y (block_f.map X Y h a)
block_to = inner_to row_f row_view row_right row_wide row_natural row_as_wide row_keeps row_one row_to row_from

block_from : (X Y : Type 0) (h : X → Y) (a : Level (Level (Leaf X))) → block_right Y (block_f.map X Y h a) → block_right X a
block_from = inner_from row_f row_view row_right row_wide row_natural row_as_wide row_keeps row_one row_to row_from

abbrev body_view : (X : Type 0) → Level (Level (Level (Leaf X))) → List X
body_view X = body_elements

abbrev body_right : (X : Type 0) → Level (Level (Level (Leaf X))) → Type 0
body_right X = IsRightBody

abbrev body_wide : (X : Type 0) → Level (Level (Level (Leaf X))) → ℕ
body_wide X = level_width

body_natural : (X Y : Type 0) (h : X → Y) (a : Level (Level (Level (Leaf X)))) → body_view Y (body_f.map X Y h a) ≡ map h (body_view X a)
body_natural = level_natural block_f block_view block_right block_wide block_natural block_as_wide block_keeps block_one block_to block_from

body_as_wide : (X Y : Type 0) (h : X → Y) (a : Level (Level (Level (Leaf X)))) → body_wide Y (body_f.map X Y h a) ≡ body_wide X a
body_as_wide = level_wide block_f block_view block_right block_wide block_natural block_as_wide block_keeps block_one block_to block_from

body_keeps : (X : Type 0) (a : Level (Level (Level (Leaf X)))) (n : Count) (t : Row X n) → ◌≡◌ {A = Held X} (put_list X (body_view X a) n t) (body_f.count (body_f.shape X a) n, body_f.put X a n t)
body_keeps = level_keeps block_f block_view block_right block_wide block_natural block_as_wide block_keeps block_one block_to block_from

body_one : (X : Type 0) (a : Level (Level (Level (Leaf X)))) → IsProp (body_right X a)
body_one = level_one block_f block_view block_right block_wide block_natural block_as_wide block_keeps block_one block_to block_from

body_to : (X Y : Type 0) (h : X → Y) (a : Level (Level (Level (Leaf X)))) → body_right X a → body_right Y (body_f.map X Y h a)
body_to = level_to block_f block_view block_right block_wide block_natural block_as_wide block_keeps block_one block_to block_from

body_from : (X Y : Type 0) (h : X → Y) (a : Level (Level (Level (Leaf X)))) → body_right Y (body_f.map X Y h a) → body_right X a
body_from = level_from block_f block_view block_right block_wide block_natural block_as_wide block_keeps block_one block_to block_from

-- ---- the whole
abbrev Whole : Type 0 → Type 0
Whole X = Level (Level (Level (Leaf X))) × Leaf X

whole_natural : (X Y : Type 0) (h : X → Y) (a : Whole X) → whole_elements (body_f.map X Y h a.0) ((leaf_f this).map X Y h a.1) ≡ map h (whole_elements a.0 a.1)
whole_natural X Y h a = (λ i. body_natural X Y h a.0 i ++ leaf_elements ((leaf_f this).map X Y h a.1)) ∙ sym (map-append h (body_elements a.0) (leaf_elements a.1))

whole_keeps : (X : Type 0) (a : Whole X) → ◌≡◌ {A = Held X} (put_list X (whole_elements a.0 a.1) none_left tt) ((pair body_f (leaf_f this)).count ((pair body_f (leaf_f this)).shape X a) none_left, (pair body_f (leaf_f this)).put X a none_left tt)
whole_keeps X a = put_list-append X (body_elements a.0) (leaf_elements a.1) none_left tt ∙ body_keeps X a.0 _ _

whole_one : (X : Type 0) (a : Whole X) → IsProp (IsWhole a.0 a.1)
whole_one X a = λ p q i. record { body_right = body_one X a.0 p.body_right q.body_right i; tail_right = le_prop p.tail_right q.tail_right i; small = le_prop p.small q.small i }

whole_to : (X Y : Type 0) (h : X → Y) (a : Whole X) → IsWhole a.0 a.1 → IsWhole (body_f.map X Y h a.0) ((leaf_f this).map X Y h a.1)
whole_to X Y h a p = record { body_right = body_to X Y h a.0 p.body_right; tail_right = leaf_to X Y h a.1 p.tail_right; small = subst (λ n. a.0.count + n ≤ 2 ^ 32) (sym (leaf_as_wide X Y h a.1)) p.small }

whole_from : (X Y : Type 0) (h : X → Y) (a : Whole X) → IsWhole (body_f.map X Y h a.0) ((leaf_f this).map X Y h a.1) → IsWhole a.0 a.1
whole_from X Y h a p = record { body_right = body_from X Y h a.0 p.body_right; tail_right = leaf_from X Y h a.1 p.tail_right; small = subst (λ n. a.0.count + n ≤ 2 ^ 32) (leaf_as_wide X Y h a.1) p.small }

-- ---- what the fields own and lend
abbrev rc_of : RattleType → RattleType
rc_of R = rc.the_row R heap.the_row ghosts

abbrev rc_map : {X Y : Type 0} → (X → Y) → Rc X Global → Rc Y Global
rc_map h d = record { ptr = d.ptr; value = h d.value }

module _ (R S : RattleType) (h : R.Denot → S.Denot) where
  rc_places : Alike R S h → Alike (rc_of R) (rc_of S) (rc_map h)
  unfolding part_of
  rc_places a = record {
    mir_same = λ i. (rc_of (one_value R (a.mir_same i) (λ _. ftrue) (λ _ _. nothing) gnil)).mir;
    own_same = λ d i. (rc_of (one_value R (a.mir_same i) (a.own_same d.value i) (a.shr_same d.value i) gnil)).own_val (record { ptr = d.ptr; value = tt });
    shr_same = λ d i. (rc_of (one_value R (a.mir_same i) (a.own_same d.value i) (a.shr_same d.value i) gnil)).shr_at (record { ptr = d.ptr; value = tt });
  }

  abbrev child_map : Child R.Denot → Child S.Denot
  child_map k = record { count = k.count; chunk = rc_map h k.chunk }

  child_places : Alike R S h → Alike (K.the_row R) (K.the_row S) child_map
  child_places a = struct_places (K.the_type R) (K.the_type S) (λ n. n, (rc_map h, tt)) child_map (λ d. refl) refl
      (stays usize, (laid _ _ _ (rc_places a), tt))

  abbrev level_map : Level R.Denot → Level S.Denot
  level_map l = record { count = l.count; children = vec.mapped child_map l.children }

  level_places : Alike R S h → Alike (N.the_row R) (N.the_row S) level_map
  level_places a = struct_places (N.the_type R) (N.the_type S) (λ n. n, (vec.mapped child_map, tt)) level_map (λ d. refl) refl
      (stays usize, (laid _ _ _ (vec.the_places heap.the_row ghosts (K.the_row R) (K.the_row S) child_map (child_places a)), tt))

  abbrev leaf_map : Leaf R.Denot → Leaf S.Denot
  leaf_map l = record { items = vec.mapped h l.items }

  leaf_places : Alike R S h → Alike (L.the_row R) (L.the_row S) leaf_map
  leaf_places a = struct_places (L.the_type R) (L.the_type S) (vec.mapped h, tt) leaf_map (λ d. refl) refl (laid _ _ _ (vec.the_places heap.the_row ghosts R S h a), tt)

module _ (R S : RattleType) (h : R.Denot → S.Denot) where
  abbrev block_map : Level (Level (Leaf R.Denot)) → Level (Level (Leaf S.Denot))
  block_map = level_map (N.the_row (L.the_row R)) (N.the_row (L.the_row S)) (level_map (L.the_row R) (L.the_row S) (leaf_map R S h))

  abbrev body_map : Level (Level (Level (Leaf R.Denot))) → Level (Level (Level (Leaf S.Denot)))
  body_map = level_map (N.the_row (N.the_row (L.the_row R))) (N.the_row (N.the_row (L.the_row S))) block_map

  body_places : Alike R S h → Alike (N.the_row (N.the_row (N.the_row (L.the_row R)))) (N.the_row (N.the_row (N.the_row (L.the_row S)))) body_map
  body_places a = level_places _ _ _ (level_places _ _ _ (level_places _ _ _ (leaf_places R S h a)))

  pub the_places : Alike R S h → Alike (C.the_row R) (C.the_row S) ((the_former this).map R.Denot S.Denot h)
  the_places a = view_places fields (list this) view (λ X Y k u. whole_natural X Y k (u.body, u.tail)) (λ X u. whole_keeps X (u.body, u.tail)) R.Denot S.Denot h (C.the_row R).coded (C.the_row S).coded
      (invariant R.Denot) (invariant S.Denot) (λ u. whole_one _ (u.body, u.tail)) (λ u. whole_one _ (u.body, u.tail)) (λ u e. whole_to _ _ h (u.body, u.tail) e) (λ u e. whole_from _ _ h (u.body, u.tail) e)
      (over (I.the_row R)) (over (I.the_row S))
      (struct_places (I.the_type R) (I.the_type S) (body_map, (leaf_map R S h, tt)) _ (λ d. refl) refl (laid _ _ _ (body_places a), (laid _ _ _ (leaf_places R S h a), tt)))

  pub the_codes_placed : Recodes R S h → Recodes (C.the_row R) (C.the_row S) ((the_former this).map R.Denot S.Denot h)
  the_codes_placed e d = sym (code_map R.coded.code S.coded.code h (λ x. sym (e x)) d)
