-- When two values tie.
use Rattle.std.proofs.Common.{◌≡◌, ◌<◌, List, ℕ, length, get_or, drop, drop-cons, map, add-one, suc, ◌+◌, true, false, refl, ap, sym, ◌∙◌}
use Rattle.std.specs.declared.cmp.Ordering.{Ordering}
use Rattle.std.specs.declared.cmp.Ordering.TheVariants.{Less, Equal, Greater}
use Rattle.std.specs.Ordering.{ordering_then, is_eq}
use Rattle.std.proofs.lemmas.Cmp.{nat_list_cmp_total, tied_itself}
use Rattle.rl_value.specs.Plain.{Plain, Shape, list, tree, Plains, plains_text, plains_of, pairs_of}
use Rattle.rl_value.specs.Order.{bytes_cmp, shape_cmp, plain_cmp, plains_cmp, pairs_cmp}
use Rattle.rl_value.specs.View.{pair_of}
use Rattle.rl_value.specs.declared.value.Entry.{Entry}
use Rattle.rl_value.specs.Laws.{plain_exact, equal_from}

same_lists : (a b : Plains) → list a ≡ list b → a ≡ b
same_lists a b e = cc

-- equal parts have equal texts
texts_tie : (a b : Plains) → plains_cmp a b ≡ Equal → bytes_cmp (plains_text a) (plains_text b) ≡ Equal
texts_tie a b e =
    let same : a ≡ b = same_lists a b (plain_exact (list a) (list b) e) in
    rw same (tied_itself nat_list_cmp_total (plains_text b))

-- so whether two trees are equal does not rest on their texts
pub without_texts : (a b : Plains) (s : Ordering)
    → is_eq (ordering_then s (plains_cmp a b)) ≡ is_eq (ordering_then (bytes_cmp (plains_text a) (plains_text b)) (ordering_then s (plains_cmp a b)))
without_texts a b s = by s (plains_cmp a b) refl (bytes_cmp (plains_text a) (plains_text b)) refl
  where
    by : (s p : Ordering) → plains_cmp a b ≡ p → (t : Ordering) → bytes_cmp (plains_text a) (plains_text b) ≡ t → is_eq (ordering_then s p) ≡ is_eq (ordering_then t (ordering_then s p))
    by s p e Equal f = refl
    by Less p e Less f = refl
    by Greater p e Less f = refl
    by Less p e Greater f = refl
    by Greater p e Greater f = refl
    by Equal Less e Less f = refl
    by Equal Greater e Less f = refl
    by Equal Less e Greater f = refl
    by Equal Greater e Greater f = refl
    by Equal Equal e Less f = let t = texts_tie a b e in cc
    by Equal Equal e Greater f = let t = texts_tie a b e in cc

pub tree_same : (p q : Shape) (a b : Plains) → shape_cmp p q ≡ Equal → is_eq (plains_cmp a b) ≡ is_eq (plain_cmp (tree p a) (tree q b))
tree_same p q a b e = ap (λ s. is_eq (ordering_then s (plains_cmp a b))) (sym e) ∙ without_texts a b (shape_cmp p q)

pub tree_differs : (p q : Shape) (a b : Plains) → (shape_cmp p q ≡ Equal → ⊥) → is_eq (shape_cmp p q) ≡ is_eq (plain_cmp (tree p a) (tree q b))
tree_differs p q a b differ = by (shape_cmp p q) differ ∙ without_texts a b (shape_cmp p q)
  where
    by : (s : Ordering) → (s ≡ Equal → ⊥) → is_eq s ≡ is_eq (ordering_then s (plains_cmp a b))
    by Less d = refl
    by Greater d = refl
    by Equal d = absurd (d refl)

second_differs : (k v p : Ordering) → true ≡ is_eq k → false ≡ is_eq v → false ≡ is_eq (ordering_then k (ordering_then v p))
second_differs Less v p e f = cc
second_differs Greater v p e f = cc
second_differs Equal Less p e f = refl
second_differs Equal Greater p e f = refl
second_differs Equal Equal p e f = cc

-- two lists of entries whose first keys tie and whose first values differ
pub value_differs : (a b : List Entry) (i : ℕ) (x y : Entry) → i < length a → i < length b → x ≡ get_or a i x → y ≡ get_or b i y
    → true ≡ is_eq (plain_cmp x.key y.key) → false ≡ is_eq (plain_cmp x.value y.value)
    → false ≡ is_eq (pairs_cmp (pairs_of (map pair_of (drop i a))) (pairs_of (map pair_of (drop i b))))
value_differs a b i x y h k e f key value =
    let key' : true ≡ is_eq (plain_cmp (get_or a i x).key (get_or b i y).key) = key ∙ (λ j. is_eq (plain_cmp (e j).key (f j).key)) in
    let value' : false ≡ is_eq (plain_cmp (get_or a i x).value (get_or b i y).value) = value ∙ (λ j. is_eq (plain_cmp (e j).value (f j).value)) in
    rw (drop-cons a i x, drop-cons b i y) (second_differs _ _ _ key' value')

-- one step over the parts of two trees
module _ (a b : List Plain) (i : ℕ) (x y : Plain) (h : i < length a) (k : i < length b) (e : x ≡ get_or a i x) (f : y ≡ get_or b i y) where
  here : plains_cmp (plains_of (drop i a)) (plains_of (drop i b)) ≡ ordering_then (plain_cmp x y) (plains_cmp (plains_of (drop (i + 1) a)) (plains_of (drop (i + 1) b)))
  here =
      rw (add-one, drop-cons a i x, drop-cons b i y)
      (λ j. ordering_then (plain_cmp (sym e j) (sym f j)) (plains_cmp (plains_of (drop (suc i) a)) (plains_of (drop (suc i) b))))

  pub same_step : true ≡ is_eq (plain_cmp x y) → plains_cmp (plains_of (drop (i + 1) a)) (plains_of (drop (i + 1) b)) ≡ plains_cmp (plains_of (drop i a)) (plains_of (drop i b))
  same_step s = let tie : plain_cmp x y ≡ Equal = equal_from (plain_cmp x y) (sym s) in sym (here ∙ rw tie refl)

  pub differ_step : false ≡ is_eq (plain_cmp x y) → plain_cmp x y ≡ plains_cmp (plains_of (drop i a)) (plains_of (drop i b))
  differ_step d = by (plain_cmp x y) d ∙ sym here
    where
      by : (o : Ordering) → false ≡ is_eq o → o ≡ ordering_then o (plains_cmp (plains_of (drop (i + 1) a)) (plains_of (drop (i + 1) b)))
      by Less d = refl
      by Greater d = refl
      by Equal d = cc
