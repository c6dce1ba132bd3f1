-- Levels after an edit inside one of their children.
use Rattle.std.proofs.Common.{◌≡◌, ℕ, suc, ◌+◌, ◌-◌, ◌<◌, ◌≤◌, ◌^◌, List, ◌++◌, length, take, drop, get_or, set, refl, ap, sym, ◌∙◌, subst, arith, length-append}
use Rattle.std.specs.List.{insert, remove}
use Rattle.std.specs.Prelude.{Option, Some, slice_get}
use Rattle.std.proofs.lemmas.List.{length-set, length-take-le, length-drop}
use Rattle.std.proofs.lemmas.List.Edits.{length-insert, length-remove}
use Rattle.std.proofs.lemmas.List.Folds.{length-flat_map-take}
use Rattle.rl_sequence.specs.declared.children.Child.{Child}
use Rattle.rl_sequence.specs.Parts.{IsPart, Makes, MakesTwo, elements_if, flat, IsChild, AreChildren, IsOpening, AreSome, Joins, IsLevel}
use Rattle.rl_sequence.proofs.PartsLemmas.{flat_at, set_inside, get_inside, part_inside, take_inside, drop_inside, insert_inside, remove_inside}
use Rattle.rl_sequence.proofs.ChildLemmas.{children_take, children_drop, flat_halves, length_halves, opened_length, front_small, gap_front, gap_back}

module _ {C X : Type 0} (elements : C → List X) (is_right : C → Type 0) (width : C → ℕ) where
  abbrev Whole : List (Child C) → List X
  Whole ks = flat elements is_right width ks

  -- what holds of a level after an edit
  pub record IsNew (count : ℕ) (xs : List X) (most : ℕ) (ks : List (Child C)) : Type 0 where
    pub right : IsLevel elements is_right width count ks
    pub holds : flat elements is_right width ks ≡ xs
    pub few : length ks ≤ most

  pub renewed : (count : ℕ) (xs ys : List X) (most more : ℕ) (ks : List (Child C)) → AreSome elements is_right width xs most ks → xs ≡ ys → count ≡ length ys → count ≤ 2 ^ 32 → most ≤ more
      → IsNew count ys more ks
  renewed count xs ys most more ks s e c le m =
      let h : flat elements is_right width ks ≡ ys = s.holds ∙ e in
      record {
        right = record { count_is = c ∙ sym (ap length h); right = s.children.right; full = s.children.full; small = le };
        holds = h;
        few = let f = s.few in omega arith;
      }

  pub replaced : (count : ℕ) (ks : List (Child C)) (i place inside old : ℕ) (c d : C) (others new : List (Child C)) (x : X) → IsLevel elements is_right width count ks
      → IsOpening elements is_right width ks i place inside old c others → Makes elements is_right width (set (elements c) inside x) d
      → AreSome elements is_right width (flat elements is_right width (take place others) ++ (elements d ++ flat elements is_right width (drop place others))) (length others + 1) new
      → IsNew count (set (flat elements is_right width ks) i x) (length ks) new
  replaced count ks i place inside old c d others new x l o m s =
      let e : flat elements is_right width (take place others) ++ (elements d ++ flat elements is_right width (drop place others)) ≡ set (flat elements is_right width ks) i x =
      rw (m.holds, o.holds) (sym (set_inside (flat elements is_right width (take place others)) (elements c) (flat elements is_right width (drop place others)) i inside x o.before o.within)) in
      let f = o.fewer in
      renewed count _ _ (length others + 1) (length ks) new s e (l.count_is ∙ sym (length-set (flat elements is_right width ks) i x)) l.small (omega arith)

  pub removed : (count : ℕ) (ks : List (Child C)) (i place inside old : ℕ) (c d : C) (others new : List (Child C)) → IsLevel elements is_right width count ks
      → i < length (flat elements is_right width ks) → IsOpening elements is_right width ks i place inside old c others → Makes elements is_right width (remove (elements c) inside) d
      → AreSome elements is_right width (flat elements is_right width (take place others) ++ (elements d ++ flat elements is_right width (drop place others))) (length others + 1) new
      → IsNew (count - 1) (remove (flat elements is_right width ks) i) (length ks) new
  removed count ks i place inside old c d others new l h o m s =
      let e : flat elements is_right width (take place others) ++ (elements d ++ flat elements is_right width (drop place others)) ≡ remove (flat elements is_right width ks) i =
      rw (m.holds, o.holds) (sym (remove_inside (flat elements is_right width (take place others)) (elements c) (flat elements is_right width (drop place others)) i inside o.before o.within)) in
      let f = o.fewer in
      let n = length-remove (flat elements is_right width ks) i h in
      let k = l.count_is in
      let z = l.small in
      renewed (count - 1) _ _ (length others + 1) (length ks) new s e (omega arith) (omega arith) (omega arith)

  pub inserted : (count : ℕ) (ks : List (Child C)) (at near place inside old : ℕ) (c first : C) (more : Option C) (others new : List (Child C)) (x : X) → IsLevel elements is_right width count ks
      → near ≡ at - 1 → at ≤ length (flat elements is_right width ks) → length (flat elements is_right width ks) < 2 ^ 32 → IsOpening elements is_right width ks near place inside old c others
      → MakesTwo elements is_right width (insert (elements c) (inside + (at - near)) x) (first, more)
      → AreSome elements is_right width (flat elements is_right width (take place others) ++ ((elements first ++ elements_if elements is_right width more) ++ flat elements is_right width (drop place others))) (length others + 2) new
      → IsNew (count + 1) (insert (flat elements is_right width ks) at x) (length ks + 1) new
  inserted count ks at near place inside old c first more others new x l z h t o m s =
      let w = o.within in
      let b = o.before in
      let f = o.fewer in
      let e : flat elements is_right width (take place others) ++ ((elements first ++ elements_if elements is_right width more) ++ flat elements is_right width (drop place others)) ≡ insert (flat elements is_right width ks) at x =
      rw (m.holds, o.holds) (sym (insert_inside (flat elements is_right width (take place others)) (elements c) (flat elements is_right width (drop place others)) at (inside + (at - near)) x (omega arith) (omega arith))) in
      let n = length-insert (flat elements is_right width ks) at x h in
      let k = l.count_is in
      renewed (count + 1) _ _ (length others + 2) (length ks + 1) new s e (omega arith) (omega arith) (omega arith)

  pub fronted : (count : ℕ) (ks : List (Child C)) (n place inside old : ℕ) (c d : C) (others front last new : List (Child C)) → IsLevel elements is_right width count ks
      → n ≤ length (flat elements is_right width ks) → IsOpening elements is_right width ks n place inside old c others → front ≡ take place others
      → Makes elements is_right width (take inside (elements c)) d → AreSome elements is_right width (elements d) 1 last → Joins elements is_right width front last new
      → IsNew n (take n (flat elements is_right width ks)) (length ks) new
  fronted count ks n place inside old c d others front last new l le o f m a j =
      let w = o.within in
      let v = o.gap.within in
      let u = o.fewer in
      let p = a.few in
      let q = j.most in
      let k = l.count_is in
      let z = l.small in
      let r : length front ≡ place = ap length f ∙ length-take-le place others v in
      let e : flat elements is_right width new ≡ take n (flat elements is_right width ks) =
      j.holds ∙ rw (f, a.holds, m.holds, o.holds)
      (sym (take_inside (flat elements is_right width (take place others)) (elements c) (flat elements is_right width (drop place others)) n inside o.before (omega arith))) in
      renewed n _ _ (length front + 1) (length ks) new (record { children = j.children; holds = e; few = omega arith }) refl (sym (length-take-le n (flat elements is_right width ks) le)) (omega arith) (omega arith)

  pub backed : (count : ℕ) (ks : List (Child C)) (n place inside old : ℕ) (c d : C) (others first back new : List (Child C)) → IsLevel elements is_right width count ks
      → n ≤ length (flat elements is_right width ks) → IsOpening elements is_right width ks n place inside old c others → back ≡ drop place others
      → Makes elements is_right width (drop inside (elements c)) d → AreSome elements is_right width (elements d) 1 first → Joins elements is_right width first back new
      → IsNew (count - n) (drop n (flat elements is_right width ks)) (length ks) new
  backed count ks n place inside old c d others first back new l le o f m a j =
      let w = o.within in
      let u = o.fewer in
      let p = a.few in
      let q = j.most in
      let k = l.count_is in
      let z = l.small in
      let r : length back ≡ length others - place = ap length f ∙ length-drop place others in
      let e : flat elements is_right width new ≡ drop n (flat elements is_right width ks) =
      j.holds ∙ rw (f, a.holds, m.holds, o.holds)
      (sym (drop_inside (flat elements is_right width (take place others)) (elements c) (flat elements is_right width (drop place others)) n inside o.before (omega arith))) in
      renewed (count - n) _ _ (length back + 1) (length ks) new (record { children = j.children; holds = e; few = omega arith }) refl (rw k (sym (length-drop n (flat elements is_right width ks)))) (omega arith) (omega arith)

  pub appended : (count more : ℕ) (ks behind new : List (Child C)) → IsLevel elements is_right width count ks → IsLevel elements is_right width more behind
      → length (flat elements is_right width ks) + length (flat elements is_right width behind) ≤ 2 ^ 32 → Joins elements is_right width ks behind new
      → IsNew (count + more) (flat elements is_right width ks ++ flat elements is_right width behind) (length ks + length behind) new
  appended count more ks behind new l k le j =
      let a = l.count_is in
      let b = k.count_is in
      let n = length-append (flat elements is_right width ks) (flat elements is_right width behind) in
      renewed (count + more) _ _ (length ks + length behind) (length ks + length behind) new (record { children = j.children; holds = j.holds; few = j.most }) refl (omega arith) (omega arith) (omega arith)

  pub get_at : (seen ks : List (Child C)) (i k j : ℕ) (gone : Child C) (x : X) → seen ≡ ks → k < length seen → length (flat elements is_right width (take k seen)) + j ≡ i
      → gone ≡ get_or ks k gone → slice_get (elements gone.chunk.value) j ≡ Some x → slice_get (flat elements is_right width ks) i ≡ Some x
  get_at seen ks i k j gone x s h before e g =
      let p : elements gone.chunk.value ≡ elements (get_or ks k gone).chunk.value = ap (λ (r : Child C). elements r.chunk.value) e in
      rw (flat_at (λ (r : Child C). elements r.chunk.value) ks k gone (rw s at h))
      (get_inside (flat elements is_right width (take k ks)) (elements (get_or ks k gone).chunk.value) (flat elements is_right width (drop (suc k) ks)) i j x (rw s at before) (rw p at g))

  pub part_at : (seen ks : List (Child C)) (i k j : ℕ) (gone : Child C) (kid : C) (part : List X) → seen ≡ ks → k < length seen → length (flat elements is_right width (take k seen)) + j ≡ i
      → gone ≡ get_or ks k gone → kid ≡ gone.chunk.value → IsPart (elements kid) j part → IsPart (flat elements is_right width ks) i part
  part_at seen ks i k j gone kid part s h before e v g =
      let p : elements kid ≡ elements (get_or ks k gone).chunk.value = ap elements (v ∙ ap (λ (r : Child C). r.chunk.value) e) in
      rw (flat_at (λ (r : Child C). elements r.chunk.value) ks k gone (rw s at h))
      (part_inside (flat elements is_right width (take k ks)) (elements (get_or ks k gone).chunk.value) (flat elements is_right width (drop (suc k) ks)) i j part (rw s at before) (rw p at g))

  pub total_step : (ks : List (Child C)) (k count : ℕ) (gone : Child C) → k < length ks → gone ≡ get_or ks k gone → IsChild elements is_right width (get_or ks k gone)
      → count ≡ length (flat elements is_right width (take k ks)) → count + gone.count ≤ length (flat elements is_right width ks)
  total_step ks k count gone h e g q =
      let m = length-flat_map-take (λ (r : Child C). elements r.chunk.value) ks k gone h in
      let w : gone.count ≡ length (elements (get_or ks k gone).chunk.value) = ap (λ (r : Child C). r.count) e ∙ g.count_is in
      omega arith

  pub halves : (ks front back : List (Child C)) (n : ℕ) → front ≡ take n ks → back ≡ drop n ks → flat elements is_right width front ++ flat elements is_right width back ≡ flat elements is_right width ks
  halves ks front back n e f = rw (e, f) (flat_halves elements is_right width ks n)

  pub halves_length : (ks front back seen : List (Child C)) (n : ℕ) → front ≡ take n ks → back ≡ drop n ks → seen ≡ back
      → length (flat elements is_right width front) + length (flat elements is_right width seen) ≡ length (flat elements is_right width ks)
  halves_length ks front back seen n e f s = rw (s, e, f) (length_halves elements is_right width ks n)

  -- no edit passes the bound on the number of elements
  pub small_replaced : (count : ℕ) (ks : List (Child C)) (i place inside old : ℕ) (c d : C) (others : List (Child C)) (x : X) → IsLevel elements is_right width count ks
      → IsOpening elements is_right width ks i place inside old c others → Makes elements is_right width (set (elements c) inside x) d
      → length (flat elements is_right width others) + length (elements d) ≤ 2 ^ 32
  small_replaced count ks i place inside old c d others x l o m =
      let h = opened_length elements is_right width ks i place inside old c others o in
      let e : length (elements d) ≡ length (elements c) = ap length m.holds ∙ length-set (elements c) inside x in
      let k = l.count_is in
      let z = l.small in
      omega arith

  pub small_removed : (count : ℕ) (ks : List (Child C)) (i place inside old : ℕ) (c d : C) (others : List (Child C)) → IsLevel elements is_right width count ks
      → IsOpening elements is_right width ks i place inside old c others → Makes elements is_right width (remove (elements c) inside) d
      → length (flat elements is_right width others) + length (elements d) ≤ 2 ^ 32
  small_removed count ks i place inside old c d others l o m =
      let h = opened_length elements is_right width ks i place inside old c others o in
      let e : length (elements d) ≡ length (remove (elements c) inside) = ap length m.holds in
      let n = length-remove (elements c) inside o.within in
      let k = l.count_is in
      let z = l.small in
      omega arith

  pub small_inserted : (count : ℕ) (ks : List (Child C)) (near place inside old room : ℕ) (c first : C) (more : Option C) (others : List (Child C)) (x : X) → IsLevel elements is_right width count ks
      → length (flat elements is_right width ks) < 2 ^ 32 → IsOpening elements is_right width ks near place inside old c others → room ≤ length (elements c)
      → MakesTwo elements is_right width (insert (elements c) room x) (first, more)
      → length (flat elements is_right width others) + length (elements first ++ elements_if elements is_right width more) ≤ 2 ^ 32
  small_inserted count ks near place inside old room c first more others x l t o r m =
      let h = opened_length elements is_right width ks near place inside old c others o in
      let e : length (elements first ++ elements_if elements is_right width more) ≡ length (insert (elements c) room x) = ap length m.holds in
      let n = length-insert (elements c) room x r in
      omega arith

  pub small_front : (count : ℕ) (ks : List (Child C)) (n place inside old : ℕ) (c d : C) (others front last : List (Child C)) → IsLevel elements is_right width count ks
      → IsOpening elements is_right width ks n place inside old c others → front ≡ take place others
      → Makes elements is_right width (take inside (elements c)) d → AreSome elements is_right width (elements d) 1 last
      → length (flat elements is_right width front) + length (flat elements is_right width last) ≤ 2 ^ 32
  small_front count ks n place inside old c d others front last l o f m a =
      let h = opened_length elements is_right width ks n place inside old c others o in
      let q = front_small elements is_right width others front place f in
      let e : length (flat elements is_right width last) ≡ length (take inside (elements c)) = ap length a.holds ∙ ap length m.holds in
      let w = o.within in
      let t : length (take inside (elements c)) ≡ inside = length-take-le inside (elements c) (omega arith) in
      let k = l.count_is in
      let z = l.small in
      omega arith

  pub small_back : (count : ℕ) (ks : List (Child C)) (n place inside old : ℕ) (c d : C) (others first back : List (Child C)) → IsLevel elements is_right width count ks
      → IsOpening elements is_right width ks n place inside old c others → back ≡ drop place others
      → Makes elements is_right width (drop inside (elements c)) d → AreSome elements is_right width (elements d) 1 first
      → length (flat elements is_right width first) + length (flat elements is_right width back) ≤ 2 ^ 32
  small_back count ks n place inside old c d others first back l o f m a =
      let h = opened_length elements is_right width ks n place inside old c others o in
      let q = length_halves elements is_right width others place in
      let b : length (flat elements is_right width back) ≡ length (flat elements is_right width (drop place others)) = ap (λ (ls : List (Child C)). length (flat elements is_right width ls)) f in
      let e : length (flat elements is_right width first) ≡ length (drop inside (elements c)) = ap length a.holds ∙ ap length m.holds in
      let t = length-drop inside (elements c) in
      let k = l.count_is in
      let z = l.small in
      omega arith

  pub kept_front : (ks : List (Child C)) (n place inside old : ℕ) (c : C) (others front : List (Child C)) → IsOpening elements is_right width ks n place inside old c others → front ≡ take place others
      → AreChildren elements is_right width front
  kept_front ks n place inside old c others front o f = subst (AreChildren elements is_right width) (sym f) (gap_front elements is_right width place old others o.gap)

  pub kept_back : (ks : List (Child C)) (n place inside old : ℕ) (c : C) (others back : List (Child C)) → IsOpening elements is_right width ks n place inside old c others → back ≡ drop place others
      → AreChildren elements is_right width back
  kept_back ks n place inside old c others back o f = subst (AreChildren elements is_right width) (sym f) (gap_back elements is_right width place old others o.gap)

  -- a level in two
  pub halved_front : (count behind : ℕ) (ks front back seen : List (Child C)) → IsLevel elements is_right width count ks → front ≡ take 32 ks → back ≡ drop 32 ks → seen ≡ back
      → behind ≡ length (flat elements is_right width seen) → IsLevel elements is_right width (count - behind) front
  halved_front count behind ks front back seen l e f s b =
      let h = halves_length ks front back seen 32 e f s in
      let k = l.count_is in
      let z = l.small in
      let a = subst (AreChildren elements is_right width) (sym e) (children_take elements is_right width ks 32 (record { right = l.right; full = l.full })) in
      record { count_is = omega arith; right = a.right; full = a.full; small = omega arith }

  pub halved_back : (count behind : ℕ) (ks front back seen : List (Child C)) → IsLevel elements is_right width count ks → front ≡ take 32 ks → back ≡ drop 32 ks → seen ≡ back
      → behind ≡ length (flat elements is_right width seen) → IsLevel elements is_right width behind back
  halved_back count behind ks front back seen l e f s b =
      let h = halves_length ks front back seen 32 e f s in
      let k = l.count_is in
      let z = l.small in
      let a = subst (AreChildren elements is_right width) (sym f) (children_drop elements is_right width ks 32 (record { right = l.right; full = l.full })) in
      record { count_is = b ∙ ap (λ (ls : List (Child C)). length (flat elements is_right width ls)) s; right = a.right; full = a.full; small = omega arith }
