-- Edits inside a list of three parts.
use Rattle.std.proofs.Common.{◌≡◌, ℕ, zero, suc, ◌+◌, ◌-◌, ◌<◌, ◌≤◌, List, [], ◌∷◌, ◌++◌, length, take, drop, get_or, set, refl, ap, sym, ◌∙◌, subst, append_assoc, arith, length-append, add-one}
use Rattle.std.specs.List.{flat_map, insert, remove}
use Rattle.std.specs.Prelude.{Some, slice_get}
use Rattle.std.proofs.lemmas.Option.{slice_get_within, slice_get-get_or, get_or_from_slice_get}
use Rattle.std.proofs.lemmas.List.{get_or-append-add, get_or_append_left}
use Rattle.std.proofs.lemmas.Grind.{flat_map-append}
use Rattle.std.proofs.lemmas.List.{take-append-drop, set-append_left, set-append_right, take_more as one_more}
use Rattle.std.proofs.Math.Seq.{take-append_seam, drop-append_seam, take-append-add, drop-append-add}
use Rattle.std.proofs.lemmas.List.{length-take-le, take-append-le, drop-append-le}
use Rattle.std.proofs.lemmas.List.Edits.{insert-append_left, insert-append_right, remove-append_left, remove-append_right}
use Rattle.rl_sequence.specs.Parts.{IsPart}
use Rattle.rl_sequence.proofs.FlatLemmas.{take_more}

pub rejoined : {X : Type 0} (n : ℕ) (xs front back ws : List X) → front ≡ take n ws → back ≡ drop n ws → ws ≡ xs → front ++ back ≡ xs
rejoined n xs front back ws e f h = rw (e, f, take-append-drop n ws, h) refl

pub pushed : {X : Type 0} (base xs all next : List X) (i : ℕ) (x y : X) → all ≡ base ++ take i xs → slice_get xs i ≡ Some x → y ≡ x → next ≡ all ++ y ∷ []
    → next ≡ base ++ take (i + 1) xs
pushed base xs all next i x y e g f n =
    let h = slice_get_within xs i x g in
    rw (n, e, f, one_more xs i x h, get_or_from_slice_get xs i x x g) (append_assoc base (take i xs) (x ∷ []))

pub take_remove : {X : Type 0} (xs : List X) (k : ℕ) → k ≤ length xs → take k (remove xs k) ≡ take k xs
take_remove xs k h =
    let e : length (take k xs) ≡ k = length-take-le k xs h in
    subst (λ n. take n (remove xs k) ≡ take k xs) e (take-append_seam (take k xs) (drop (suc k) xs))

pub drop_remove : {X : Type 0} (xs : List X) (k : ℕ) → k ≤ length xs → drop k (remove xs k) ≡ drop (suc k) xs
drop_remove xs k h =
    let e : length (take k xs) ≡ k = length-take-le k xs h in
    subst (λ n. drop n (remove xs k) ≡ drop (suc k) xs) e (drop-append_seam (take k xs) (drop (suc k) xs))

-- two halves of which one has one more
pub split_front : {X : Type 0} (xs front back new : List X) (n at : ℕ) (x : X) → n ≤ length xs → at ≤ n → front ≡ take n xs → back ≡ drop n xs → new ≡ insert front at x → new ++ back ≡ insert xs at x
split_front xs front back new n at x le h e f g =
    let l : length front ≡ n = ap length e ∙ length-take-le n xs le in
    let w : front ++ back ≡ xs = rw (e, f) (take-append-drop n xs) in
    ap (λ ys. ys ++ back) g ∙ sym (insert-append_left front back at x (omega arith)) ∙ ap (λ ys. insert ys at x) w

pub split_back : {X : Type 0} (xs front back new : List X) (n at : ℕ) (x : X) → n ≤ at → at ≤ length xs → front ≡ take n xs → back ≡ drop n xs → new ≡ insert back (at - n) x → front ++ new ≡ insert xs at x
split_back xs front back new n at x le h e f g =
    let l : length front ≡ n = ap length e ∙ length-take-le n xs (omega arith) in
    let w : front ++ back ≡ xs = rw (e, f) (take-append-drop n xs) in
    ap (λ ys. front ++ ys) g ∙ sym (insert-append_right front back n at x l le) ∙ ap (λ ys. insert ys at x) w

pub at_place : {X : Type 0} (xs : List X) (k : ℕ) (d : X) → k < length xs → take k xs ++ (get_or xs k d ∷ drop (suc k) xs) ≡ xs
at_place [] k d h = absurd (omega arith)
at_place (x ∷ xs) zero d h = refl
at_place (x ∷ xs) (suc k) d h = ap (λ ys. x ∷ ys) (at_place xs k d (omega arith))

pub head_of : {X : Type 0} (xs rest : List X) (x : X) → 0 < length xs → x ≡ get_or xs 0 x → rest ≡ remove xs 0 → xs ≡ x ∷ rest
head_of [] rest x h e f = absurd (omega arith)
head_of (y ∷ ys) rest x h e f = rw (e, f) refl

pub set_inside : {X : Type 0} (a k b : List X) (i j : ℕ) (x : X) → length a + j ≡ i → j < length k → set (a ++ (k ++ b)) i x ≡ a ++ (set k j x ++ b)
set_inside a k b i j x e h =
    let s : i - length a ≡ j = omega arith in
    set-append_right a (k ++ b) (length a) i x refl (omega arith) ∙ rw (s, set-append_left k b j x h) refl

pub get_inside : {X : Type 0} (a k b : List X) (i j : ℕ) (x : X) → length a + j ≡ i → slice_get k j ≡ Some x → slice_get (a ++ (k ++ b)) i ≡ Some x
get_inside a k b i j x e h =
    let w = slice_get_within k j x h in
    let n : i < length (a ++ (k ++ b)) = omega (arith, length-append a (k ++ b), length-append k b) in
    let g : get_or (a ++ (k ++ b)) i x ≡ x =
    subst (λ m. get_or (a ++ (k ++ b)) m x ≡ x) e (get_or-append-add a (k ++ b) j x ∙ get_or_append_left k b x j w ∙ get_or_from_slice_get k j x x h) in
    slice_get-get_or (a ++ (k ++ b)) i x n ∙ ap Some g

pub part_inside : {X : Type 0} (a k b : List X) (i j : ℕ) (part : List X) → length a + j ≡ i → IsPart k j part → IsPart (a ++ (k ++ b)) i part
part_inside a k b i j part e p =
    let w = p.within in
    let s : i + length part ≡ length a + (j + length part) = omega arith in
    let l : take (i + length part) (a ++ (k ++ b)) ≡ a ++ take (j + length part) k =
    rw (s, take-append-add a (k ++ b) (j + length part), take-append-le (j + length part) k b w) refl in
    let r : take i (a ++ (k ++ b)) ≡ a ++ take j k = rw (← e, take-append-add a (k ++ b) j, take-append-le j k b (omega arith)) refl in
    record {
      some = p.some;
      within = omega (arith, length-append a (k ++ b), length-append k b);
      holds = l ∙ ap (λ ws. a ++ ws) p.holds ∙ sym (append_assoc a (take j k) part) ∙ ap (λ ws. ws ++ part) (sym r);
    }

pub take_inside : {X : Type 0} (a k b : List X) (i j : ℕ) → length a + j ≡ i → j ≤ length k → take i (a ++ (k ++ b)) ≡ a ++ take j k
take_inside a k b i j e h = rw (← e, take-append-add a (k ++ b) j, take-append-le j k b h) refl

pub drop_inside : {X : Type 0} (a k b : List X) (i j : ℕ) → length a + j ≡ i → j ≤ length k → drop i (a ++ (k ++ b)) ≡ drop j k ++ b
drop_inside a k b i j e h = rw (← e, drop-append-add a (k ++ b) j, drop-append-le j k b h) refl

pub insert_inside : {X : Type 0} (a k b : List X) (i j : ℕ) (x : X) → length a + j ≡ i → j ≤ length k → insert (a ++ (k ++ b)) i x ≡ a ++ (insert k j x ++ b)
insert_inside a k b i j x e h =
    let s : i - length a ≡ j = omega arith in
    insert-append_right a (k ++ b) (length a) i x refl (omega arith) ∙ rw (s, insert-append_left k b j x h) refl

pub remove_inside : {X : Type 0} (a k b : List X) (i j : ℕ) → length a + j ≡ i → j < length k → remove (a ++ (k ++ b)) i ≡ a ++ (remove k j ++ b)
remove_inside a k b i j e h =
    let s : i - length a ≡ j = omega arith in
    remove-append_right a (k ++ b) (length a) i refl (omega arith) ∙ rw (s, remove-append_left k b j h) refl

module _ {R X : Type 0} (f : R → List X) where
  -- the list in three: in front of one part, that part, and behind it
  pub flat_at : (rs : List R) (k : ℕ) (d : R) → k < length rs
      → flat_map f rs ≡ flat_map f (take k rs) ++ (f (get_or rs k d) ++ flat_map f (drop (suc k) rs))
  flat_at rs k d h =
      let e : flat_map f (take (k + 1) rs) ++ flat_map f (drop (k + 1) rs) ≡ flat_map f rs
      = sym (flat_map-append f (take (k + 1) rs) (drop (k + 1) rs)) ∙ ap (flat_map f) (take-append-drop (k + 1) rs) in
      let p : flat_map f rs ≡ flat_map f (take (k + 1) rs) ++ flat_map f (drop (suc k) rs) = subst (λ n. flat_map f rs ≡ flat_map f (take (k + 1) rs) ++ flat_map f (drop n rs)) (add-one k) (sym e) in
      p ∙ ap (λ w. w ++ flat_map f (drop (suc k) rs)) (take_more f rs k d h) ∙ append_assoc (flat_map f (take k rs)) (f (get_or rs k d)) (flat_map f (drop (suc k) rs))
