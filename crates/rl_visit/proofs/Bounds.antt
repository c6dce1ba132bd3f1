-- No walk reaches the bound of its nesting.
use Rattle.std.proofs.Common.{◌≡◌, ℕ, zero, suc, ◌<◌, ◌≤◌, Bool, true, false, ◌||◌, if◌then◌else◌, List, [], ◌∷◌, ◌++◌, length, refl, sym, ◌∙◌, ap, subst, arith}
use Rattle.rl_types.specs.Declarations.{Declarations}
use Rattle.rl_value.specs.Kids.{kids as kids_of, part_kids, parts_kids, pairs_kids, by_role}
use Rattle.rl_value.specs.Plain.{Plain, tuple, list, set, mapping, node, tree, leaf, Plains, nil, cons, Pairs, no_pairs, pair, items_of, plain_height, plains_height, pairs_height}
use Rattle.rl_value.specs.declared.shape.Role.{Role}
use Rattle.rl_value.specs.declared.shape.Role.TheVariants.{Layout, Rep, Opt}
use Rattle.rl_value.specs.Laws.{plain_eq}
use Rattle.rl_visit.specs.Laws.{WalksAreByForm}
use Rattle.rl_visit.specs.Walk.{Children, Answer, no, kept, changed, Walked, ask, end, visit_type, too_large, Going, on_end, in_child, each_kid, renewed, node_last, node_first, node_first_break, once_more, bottom_up, bottom_up_break, top_down, top_down_break, until_equal, repeated, from_below, from_above, walk}
use Rattle.rl_visit.proofs.Steps.{Finish, after_kids, node_after_all, node_after_kids, renewed-both}

abbrev Walk : Type 0
Walk = Plain → List Answer → Walked

-- From below: the children are lower.

-- each value is at most so high
abbrev Within : ℕ → List Plain → Type 0
Within h [] = Unit {0}
Within h (t ∷ ts) = (plain_height t ≤ h) × Within h ts

within-append : (h : ℕ) (xs ys : List Plain) → Within h xs → Within h ys → Within h (xs ++ ys)
within-append h [] ys a b = b
within-append h (x ∷ xs) ys a b = (a.0, within-append h xs ys a.1 b)

within-items : (h : ℕ) (ts : Plains) → plains_height ts ≤ h → Within h (items_of ts)
within-items h nil l = tt
within-items h (cons t ts) l = (omega arith, within-items h ts (omega arith))

within-pairs : (h : ℕ) (ps : Pairs) → pairs_height ps ≤ h → Within h (pairs_kids ps)
within-pairs h no_pairs l = tt
within-pairs h (pair k v ps) l = (omega arith, (omega arith, within-pairs h ps (omega arith)))

within-role : (h : ℕ) (role : Role) (inside itself : List Plain) → Within h inside → Within h itself → Within h (by_role role [] inside itself)
within-role h Layout inside itself a b = tt
within-role h Rep inside itself a b = a
within-role h Opt inside itself a b = a
within-role h _ inside itself a b = b

mutual
  within-part : (h : ℕ) (t : Plain) → plain_height t ≤ h → Within h (part_kids t)
  within-part h (tree shape ts) l = within-role h shape.role (parts_kids ts) (tree shape ts ∷ []) (within-parts h ts (omega arith)) (l, tt)
  within-part h (leaf bytes) l = tt
  within-part h t l = (l, tt)

  within-parts : (h : ℕ) (ts : Plains) → plains_height ts ≤ h → Within h (parts_kids ts)
  within-parts h nil l = tt
  within-parts h (cons t ts) l = within-append h (part_kids t) (parts_kids ts) (within-part h t (omega arith)) (within-parts h ts (omega arith))

within-kids : (h : ℕ) (v : Plain) → plain_height v ≤ suc h → Within h (kids_of v)
within-kids h (tuple ts) l = within-items h ts (omega arith)
within-kids h (list ts) l = within-items h ts (omega arith)
within-kids h (set ts) l = within-items h ts (omega arith)
within-kids h (mapping ps) l = within-pairs h ps (omega arith)
within-kids h (node name ts) l = within-items h ts (omega arith)
within-kids h (tree shape ts) l = within-parts h ts (omega arith)
within-kids h t l = tt

height-suc : (v : Plain) → (h : ℕ) × (plain_height v ≡ suc h)
height-suc (tuple ts) = (plains_height ts, omega arith)
height-suc (list ts) = (plains_height ts, omega arith)
height-suc (set ts) = (plains_height ts, omega arith)
height-suc (mapping ps) = (pairs_height ps, omega arith)
height-suc (node name ts) = (plains_height ts, omega arith)
height-suc (tree shape ts) = (plains_height ts, omega arith)
height-suc t = (0, refl)

end-alike : (x : Walked) (f g : Going) → ((v : Plain) (r : Bool) (left : List Answer) → f v r left ≡ g v r left) → on_end x f ≡ on_end x g
end-alike (ask place u) f g e = refl
end-alike (end v r left) f g e = e v r left
end-alike visit_type f g e = refl
end-alike too_large f g e = refl

-- walks that are the same of values at most so high
lower-alike : (h : ℕ) (w z : Walk) → ((v : Plain) (given : List Answer) → plain_height v ≤ h → w v given ≡ z v given) → (go : Finish)
    → (done : Children) (kids : List Plain) (s : Bool) (given : List Answer) → Within h kids → each_kid w done kids s given go ≡ each_kid z done kids s given go
lower-alike h w z same go done [] s given l = refl
lower-alike h w z same go done (kid ∷ kids) s given l =
    ap (λ x. on_end (in_child (length done) x) (λ v r left. each_kid w (done ++ (kid, v) ∷ []) kids (s || r) left go)) (same kid given l.0)
    ∙ end-alike (in_child (length done) (z kid given)) (λ v r left. each_kid w (done ++ (kid, v) ∷ []) kids (s || r) left go) (λ v r left. each_kid z (done ++ (kid, v) ∷ []) kids (s || r) left go)
    (λ v r left. lower-alike h w z same go (done ++ (kid, v) ∷ []) kids (s || r) left l.1)

-- a walk from below, with what follows after the children
module _ (W : ℕ → Walk) (finish : Plain → Finish) (step : (k : ℕ) (v : Plain) (given : List Answer) → W (suc k) v given ≡ each_kid (W k) [] (kids_of v) false given (finish v)) where
  up-same : (k m : ℕ) (v : Plain) (given : List Answer) → plain_height v ≤ k → plain_height v ≤ m → W k v given ≡ W m v given
  up-same zero m v given l l' = absurd (omega (arith, (height-suc v).1))
  up-same (suc k) zero v given l l' = absurd (omega (arith, (height-suc v).1))
  up-same (suc k) (suc m) v given l l' =
      let h : ℕ = (height-suc v).0 in
      let e : plain_height v ≡ suc h = (height-suc v).1 in
      step k v given
      ∙ (lower-alike h (W k) (W m) (λ kid g lower. up-same k m kid g (omega arith) (omega arith)) (finish v) [] (kids_of v) false given (within-kids h v (omega arith))
      ∙ sym (step m v given))

  up-by_form : (v : Plain) (given : List Answer) → W (plain_height v) v given ≡ each_kid (λ kid g. W (plain_height kid) kid g) [] (kids_of v) false given (finish v)
  up-by_form v given =
      let h : ℕ = (height-suc v).0 in
      let e : plain_height v ≡ suc h = (height-suc v).1 in
      ap (λ n. W n v given) e
      ∙ (step h v given
      ∙ lower-alike h (W h) (λ kid g. W (plain_height kid) kid g) (λ kid g lower. up-same h (plain_height kid) kid g lower (omega arith)) (finish v) [] (kids_of v) false given (within-kids h v (omega arith)))

-- How many answers are left.

-- fewer than so many
abbrev Leaves : ℕ → Walked → Type 0
Leaves n (ask place u) = Unit {0}
Leaves n (end v s left) = length left < n
Leaves n visit_type = Unit {0}
Leaves n too_large = Unit {0}

leaves-le : (m n : ℕ) (x : Walked) → m ≤ n → Leaves m x → Leaves n x
leaves-le m n (ask place u) l h = tt
leaves-le m n (end v s left) l h = omega arith
leaves-le m n visit_type l h = tt
leaves-le m n too_large l h = tt

leaves-step : (m n i : ℕ) (x : Walked) (f : Going) → Leaves n x → ((v : Plain) (s : Bool) (left : List Answer) → length left < n → Leaves m (f v s left)) → Leaves m (on_end (in_child i x) f)
leaves-step m n i (ask place u) f l h = tt
leaves-step m n i (end v s left) f l h = h v s left l
leaves-step m n i visit_type f l h = tt
leaves-step m n i too_large f l h = tt

-- no walk leaves more than it was given
abbrev LeavesAll : Walk → Type 0
LeavesAll w = (v : Plain) (given : List Answer) → Leaves (suc (length given)) (w v given)

leaves-kids : (m n : ℕ) (w : Walk) → LeavesAll w → (go : Finish) → ((ks : Children) (s : Bool) (given : List Answer) → length given < n → Leaves m (go ks s given))
    → (done : Children) (kids : List Plain) (s : Bool) (given : List Answer) → length given < n → Leaves m (each_kid w done kids s given go)
leaves-kids m n w hw go hg done [] s given l = hg done s given l
leaves-kids m n w hw go hg done (kid ∷ kids) s given l =
    leaves-step m n (length done) (w kid given) (λ v r left. each_kid w (done ++ (kid, v) ∷ []) kids (s || r) left go) (leaves-le (suc (length given)) n (w kid given) (omega arith) (hw kid given))
    (λ v r left k. leaves-kids m n w hw go hg (done ++ (kid, v) ∷ []) kids (s || r) left k)

after_kids-leaves : (d : Declarations) (v : Plain) (n : ℕ) (ks : Children) (s : Bool) (given : List Answer) → length given < n → Leaves n (after_kids d v ks s given)
after_kids-leaves d v n ks s given l = renewed-both (λ x y. Leaves n x) tt tt d v ks s given given end (λ u. l)

after_all-leaves : (n : ℕ) (u : Plain) (s : Bool) (given : List Answer) → length given < suc n → Leaves n (node_after_all u s given)
after_all-leaves n u s [] l = tt
after_all-leaves n u s (no ∷ given) l = omega arith
after_all-leaves n u s (kept ∷ given) l = omega arith
after_all-leaves n u s (changed w ∷ given) l = omega arith

-- From above: the node takes an answer.

first-leaves : (d : Declarations) (w : Walk) → LeavesAll w → (v : Plain) (given : List Answer) → Leaves (length given) (node_first d w v given)
first-leaves d w hw v [] = tt
first-leaves d w hw v (no ∷ given) =
    leaves-kids (suc (length given)) (suc (length given)) w hw (after_kids d v) (after_kids-leaves d v (suc (length given))) [] (kids_of v) false given (omega arith)
first-leaves d w hw v (kept ∷ given) =
    leaves-kids (suc (length given)) (suc (length given)) w hw (after_kids d v) (after_kids-leaves d v (suc (length given))) [] (kids_of v) true given (omega arith)
first-leaves d w hw v (changed u ∷ given) =
    leaves-kids (suc (length given)) (suc (length given)) w hw (after_kids d u) (after_kids-leaves d u (suc (length given))) [] (kids_of u) true given (omega arith)

first_break-leaves : (d : Declarations) (w : Walk) → LeavesAll w → (v : Plain) (given : List Answer) → Leaves (length given) (node_first_break d w v given)
first_break-leaves d w hw v [] = tt
first_break-leaves d w hw v (no ∷ given) =
    leaves-kids (suc (length given)) (suc (length given)) w hw (after_kids d v) (after_kids-leaves d v (suc (length given))) [] (kids_of v) false given (omega arith)
first_break-leaves d w hw v (kept ∷ given) = omega arith
first_break-leaves d w hw v (changed u ∷ given) = omega arith

last-leaves : (d : Declarations) (w : Walk) → LeavesAll w → (v : Plain) (given : List Answer) → Leaves (length given) (node_last d w v given)
last-leaves d w hw v given =
    leaves-kids (length given) (suc (length given)) w hw (λ ks s left. renewed d v ks s left node_after_all)
    (λ ks s left l. renewed-both (λ x y. Leaves (length given) x) tt tt d v ks s left left node_after_all (λ u. after_all-leaves (length given) u s left l))
    [] (kids_of v) false given (omega arith)

down-leaves : (k : ℕ) (d : Declarations) → LeavesAll (top_down k d)
down-leaves zero d v given = tt
down-leaves (suc k) d v given = leaves-le (length given) (suc (length given)) (node_first d (top_down k d) v given) (omega arith) (first-leaves d (top_down k d) (down-leaves k d) v given)

down_break-leaves : (k : ℕ) (d : Declarations) → LeavesAll (top_down_break k d)
down_break-leaves zero d v given = tt
down_break-leaves (suc k) d v given =
    leaves-le (length given) (suc (length given)) (node_first_break d (top_down_break k d) v given) (omega arith) (first_break-leaves d (top_down_break k d) (down_break-leaves k d) v given)

up-leaves : (k : ℕ) (d : Declarations) → LeavesAll (bottom_up k d)
up-leaves zero d v given = tt
up-leaves (suc k) d v given = leaves-le (length given) (suc (length given)) (node_last d (bottom_up k d) v given) (omega arith) (last-leaves d (bottom_up k d) (up-leaves k d) v given)

-- Children that are the same with fewer than so many answers.

fewer-end : (n : ℕ) (x : Walked) (f g : Going) → Leaves n x → ((v : Plain) (s : Bool) (left : List Answer) → length left < n → f v s left ≡ g v s left) → on_end x f ≡ on_end x g
fewer-end n (ask place u) f g l h = refl
fewer-end n (end v s left) f g l h = h v s left l
fewer-end n visit_type f g l h = refl
fewer-end n too_large f g l h = refl

in_child-leaves : (n i : ℕ) (x : Walked) → Leaves n x → Leaves n (in_child i x)
in_child-leaves n i (ask place u) l = tt
in_child-leaves n i (end v s left) l = l
in_child-leaves n i visit_type l = tt
in_child-leaves n i too_large l = tt

abbrev AlikeBelow : ℕ → Walk → Walk → Type 0
AlikeBelow n w z = (v : Plain) (given : List Answer) → length given < n → w v given ≡ z v given

fewer-alike : (n : ℕ) (w z : Walk) → AlikeBelow n w z → LeavesAll w → (go : Finish)
    → (done : Children) (kids : List Plain) (s : Bool) (given : List Answer) → length given < n → each_kid w done kids s given go ≡ each_kid z done kids s given go
fewer-alike n w z same hw go done [] s given l = refl
fewer-alike n w z same hw go done (kid ∷ kids) s given l =
    fewer-end n (in_child (length done) (w kid given)) (λ v r left. each_kid w (done ++ (kid, v) ∷ []) kids (s || r) left go) (λ v r left. each_kid z (done ++ (kid, v) ∷ []) kids (s || r) left go)
    (in_child-leaves n (length done) (w kid given) (leaves-le (suc (length given)) n (w kid given) (omega arith) (hw kid given)))
    (λ v r left k. fewer-alike n w z same hw go (done ++ (kid, v) ∷ []) kids (s || r) left k)
    ∙ ap (λ x. on_end (in_child (length done) x) (λ v r left. each_kid z (done ++ (kid, v) ∷ []) kids (s || r) left go)) (same kid given l)

first-alike : (d : Declarations) (w z : Walk) (v : Plain) (given : List Answer) → AlikeBelow (length given) w z → LeavesAll w → node_first d w v given ≡ node_first d z v given
first-alike d w z v [] same hw = refl
first-alike d w z v (no ∷ given) same hw = fewer-alike (suc (length given)) w z same hw (after_kids d v) [] (kids_of v) false given (omega arith)
first-alike d w z v (kept ∷ given) same hw = fewer-alike (suc (length given)) w z same hw (after_kids d v) [] (kids_of v) true given (omega arith)
first-alike d w z v (changed u ∷ given) same hw = fewer-alike (suc (length given)) w z same hw (after_kids d u) [] (kids_of u) true given (omega arith)

first_break-alike : (d : Declarations) (w z : Walk) (v : Plain) (given : List Answer) → AlikeBelow (length given) w z → LeavesAll w → node_first_break d w v given ≡ node_first_break d z v given
first_break-alike d w z v [] same hw = refl
first_break-alike d w z v (no ∷ given) same hw = fewer-alike (suc (length given)) w z same hw (after_kids d v) [] (kids_of v) false given (omega arith)
first_break-alike d w z v (kept ∷ given) same hw = refl
first_break-alike d w z v (changed u ∷ given) same hw = refl

-- a walk from above, by what it does with the walk of the children
module _ (W : ℕ → Walk) (leaves : (k : ℕ) → LeavesAll (W k)) (form : Walk → Walk) (step : (k : ℕ) (v : Plain) (given : List Answer) → W (suc k) v given ≡ form (W k) v given)
    (alike : (w z : Walk) (v : Plain) (given : List Answer) → AlikeBelow (length given) w z → LeavesAll w → form w v given ≡ form z v given) where
  pub down-same : (k m : ℕ) (v : Plain) (given : List Answer) → length given < k → length given < m → W k v given ≡ W m v given
  down-same zero m v given l l' = absurd (omega arith)
  down-same (suc k) zero v given l l' = absurd (omega arith)
  down-same (suc k) (suc m) v given l l' =
      step k v given
      ∙ (alike (W k) (W m) v given (λ kid g fewer. down-same k m kid g (omega arith) (omega arith)) (leaves k)
      ∙ sym (step m v given))

  down-by_form : (v : Plain) (given : List Answer) → W (suc (length given)) v given ≡ form (λ kid g. W (suc (length g)) kid g) v given
  down-by_form v given =
      step (length given) v given
      ∙ alike (W (length given)) (λ kid g. W (suc (length g)) kid g) v given (λ kid g fewer. down-same (length given) (suc (length g)) kid g fewer (omega arith)) (leaves (length given))

pub down_break-same : (k m : ℕ) (d : Declarations) (v : Plain) (given : List Answer) → length given < k → length given < m → top_down_break k d v given ≡ top_down_break m d v given
down_break-same k m d v given = down-same (λ n. top_down_break n d) (λ n. down_break-leaves n d) (node_first_break d) (λ n v given. refl) (first_break-alike d) k m v given

-- Repeated walks: each takes an answer.

abbrev TakesAnswer : Walk → Type 0
TakesAnswer w = (v : Plain) (given : List Answer) → Leaves (length given) (w v given)

more-alike : (w : Walk) → TakesAnswer w → (f g : Going) (v : Plain) (s : Bool) (given : List Answer) → ((u : Plain) (r : Bool) (left : List Answer) → length left < length given → f u r left ≡ g u r left)
    → once_more w f v s given ≡ once_more w g v s given
more-alike w hw f g v s given same =
    fewer-end (length given) (w v given) (λ u r left. if plain_eq v u then end u (s || r) left else f u (s || r) left) (λ u r left. if plain_eq v u then end u (s || r) left else g u (s || r) left) (hw v given)
    (λ u r left l. ap (λ x. if plain_eq v u then end u (s || r) left else x) (same u (s || r) left l))

until-same : (w : Walk) → TakesAnswer w → (k m : ℕ) (v : Plain) (s : Bool) (given : List Answer) → length given < k → length given < m → until_equal k w v s given ≡ until_equal m w v s given
until-same w hw zero m v s given l l' = absurd (omega arith)
until-same w hw (suc k) zero v s given l l' = absurd (omega arith)
until-same w hw (suc k) (suc m) v s given l l' = more-alike w hw (until_equal k w) (until_equal m w) v s given (λ u r left fewer. until-same w hw k m u r left (omega arith) (omega arith))

repeated-by_form : (w : Walk) → TakesAnswer w → (v : Plain) (s : Bool) (given : List Answer) → repeated w v s given ≡ once_more w (repeated w) v s given
repeated-by_form w hw v s given =
    more-alike w hw (until_equal (length given) w) (repeated w) v s given (λ u r left fewer. until-same w hw (length given) (suc (length left)) u r left fewer (omega arith))

below-takes : (d : Declarations) → TakesAnswer (from_below d)
below-takes d v given =
    let h : ℕ = (height-suc v).0 in
    subst (λ n. Leaves (length given) (bottom_up n d v given)) (sym (height-suc v).1) (last-leaves d (bottom_up h d) (up-leaves h d) v given)

above-takes : (d : Declarations) → TakesAnswer (from_above d)
above-takes d v given = first-leaves d (top_down (length given) d) (down-leaves (length given) d) v given

pub by_form : (d : Declarations) → WalksAreByForm d
unfolding walk
by_form d =
    record {
      bottom_up = up-by_form (λ n. bottom_up n d) (λ v ks s left. renewed d v ks s left node_after_all) (λ k v given. refl);
      bottom_up_break = up-by_form (λ n. bottom_up_break n d) (node_after_kids d) (λ k v given. refl);
      top_down = down-by_form (λ n. top_down n d) (λ n. down-leaves n d) (node_first d) (λ k v given. refl) (first-alike d);
      top_down_break = down-by_form (λ n. top_down_break n d) (λ n. down_break-leaves n d) (node_first_break d) (λ k v given. refl) (first_break-alike d);
      innermost = λ v given. refl;
      from_below = repeated-by_form (from_below d) (below-takes d);
      outermost = λ v given. refl;
      from_above = repeated-by_form (from_above d) (above-takes d);
    }
