-- Edits of a whole sequence, in its body or in its tail.
use Rattle.std.proofs.Common.{◌≡◌, ℕ, ◌+◌, ◌-◌, ◌<◌, ◌≤◌, ◌^◌, List, [], ◌∷◌, ◌++◌, length, take, drop, set, ap, sym, ◌∙◌, subst, append_assoc, arith, length-append}
use Rattle.std.specs.List.{insert, remove}
use Rattle.std.proofs.lemmas.List.{append-nil, set-append_left, set-append_right}
use Rattle.std.proofs.lemmas.List.Edits.{length-insert, length-remove, insert-append_left, insert-append_right, remove-append_left, remove-append_right}
use Rattle.std.proofs.Math.Seq.{take-append-add, drop-append-add}
use Rattle.rl_sequence.specs.declared.leaf.Leaf.{Leaf}
use Rattle.rl_sequence.specs.declared.level.Level.{Level}
use Rattle.rl_sequence.specs.Parts.{IsPart}
use Rattle.rl_sequence.specs.Whole.{IsWhole, body_elements, whole_elements, IsRightBody}
use Rattle.rl_sequence.proofs.PartsLemmas.{part_inside}

module _ {X : Type 0} where
  pub replaced_front : (body new tail : List X) (i : ℕ) (x : X) → i < length body → new ≡ set body i x → new ++ tail ≡ set (body ++ tail) i x
  replaced_front body new tail i x h e = rw e (sym (set-append_left body tail i x h))

  pub replaced_back : (body tail new : List X) (n i : ℕ) (x : X) → n ≡ length body → n ≤ i → new ≡ set tail (i - n) x → body ++ new ≡ set (body ++ tail) i x
  replaced_back body tail new n i x l h e = rw e (sym (set-append_right body tail n i x (sym l) h))

  pub removed_front : (body new tail : List X) (i : ℕ) → i < length body → new ≡ remove body i → new ++ tail ≡ remove (body ++ tail) i
  removed_front body new tail i h e = rw e (sym (remove-append_left body tail i h))

  pub removed_back : (body tail new : List X) (n i : ℕ) → n ≡ length body → n ≤ i → new ≡ remove tail (i - n) → body ++ new ≡ remove (body ++ tail) i
  removed_back body tail new n i l h e = rw e (sym (remove-append_right body tail n i (sym l) h))

  pub inserted_front : (body new tail : List X) (i : ℕ) (x : X) → i ≤ length body → new ≡ insert body i x → new ++ tail ≡ insert (body ++ tail) i x
  inserted_front body new tail i x h e = rw e (sym (insert-append_left body tail i x h))

  pub inserted_back : (body tail new : List X) (n i : ℕ) (x : X) → n ≡ length body → n ≤ i → new ≡ insert tail (i - n) x → body ++ new ≡ insert (body ++ tail) i x
  inserted_back body tail new n i x l h e = rw e (sym (insert-append_right body tail n i x (sym l) h))

  pub inserted_two : (body tail first more new : List X) (n i : ℕ) (x : X) → n ≡ length body → n ≤ i → first ++ more ≡ insert tail (i - n) x → new ≡ body ++ first
      → new ++ more ≡ insert (body ++ tail) i x
  inserted_two body tail first more new n i x l h e f = ap (λ ys. ys ++ more) f ∙ append_assoc body first more ∙ inserted_back body tail (first ++ more) n i x l h e

  pub dropped_back : (body tail new : List X) (n i : ℕ) → n ≡ length body → n ≤ i → new ≡ drop (i - n) tail → new ≡ drop i (body ++ tail)
  dropped_back body tail new n i l h e =
      let s : length body + (i - n) ≡ i = omega arith in
      e ∙ subst (λ m. drop (i - n) tail ≡ drop m (body ++ tail)) s (sym (drop-append-add body tail (i - n)))

  pub taken_back : (body tail new : List X) (n i : ℕ) → n ≡ length body → n ≤ i → new ≡ take (i - n) tail → body ++ new ≡ take i (body ++ tail)
  taken_back body tail new n i l h e =
      let s : length body + (i - n) ≡ i = omega arith in
      ap (λ ys. body ++ ys) e ∙ subst (λ m. body ++ take (i - n) tail ≡ take m (body ++ tail)) s (sym (take-append-add body tail (i - n)))

  pub part_back : (body tail part : List X) (n i : ℕ) → n ≡ length body → n ≤ i → IsPart tail (i - n) part → IsPart (body ++ tail) i part
  part_back body tail part n i l h p =
      subst (λ ys. IsPart (body ++ ys) i part) (append-nil tail) (part_inside body tail [] i (i - n) part (omega arith) p)

  -- what is left to push leaves room for one more
  pub room : (whole all left more : List X) (x : X) (bound : ℕ) → all ++ left ≡ whole → left ≡ x ∷ more → length whole ≤ bound → length all < bound
  room whole all left more x bound e f le =
      let n = ap length e in
      let m = length-append all left in
      let k : length left ≡ length (x ∷ more) = ap length f in
      omega arith

  pub length_whole : (body : Level (Level (Level (Leaf X)))) (tail : Leaf X) → IsWhole body tail → length (whole_elements body tail) ≡ body.count + length tail.items.items
  length_whole body tail w = let c = w.body_right.count_is in length-append (body_elements body) tail.items.items ∙ ap (λ n. n + length tail.items.items) (sym c)

  -- another body or tail
  pub whole_from : (body : Level (Level (Level (Leaf X)))) (tail : Leaf X) → IsRightBody body → length tail.items.items ≤ 64 → length (whole_elements body tail) ≤ 2 ^ 32 → IsWhole body tail
  whole_from body tail b t s = record { body_right = b; tail_right = t; small = let c = b.count_is in let n = length-append (body_elements body) tail.items.items in omega arith }

  -- a place behind the body is one of the tail
  pub in_tail : (body : Level (Level (Level (Leaf X)))) (tail : Leaf X) (whole : List X) (at bound : ℕ) → IsWhole body tail → whole_elements body tail ≡ whole → body.count ≤ at → at < length whole + bound
      → at - body.count < length tail.items.items + bound
  in_tail body tail whole at bound w e h le = let n = length_whole body tail w in let m = ap length e in omega arith

  pub whole_without : (body : Level (Level (Level (Leaf X)))) (tail new : Leaf X) (whole : List X) (at : ℕ) → IsWhole body tail → whole_elements body tail ≡ whole → body.count ≤ at → at < length whole
      → new.items.items ≡ remove tail.items.items (at - body.count) → IsWhole body new
  whole_without body tail new whole at w e h le r =
      let i = in_tail body tail whole at 0 w e h (omega arith) in
      let n = length-remove tail.items.items (at - body.count) (omega arith) in
      let m : length new.items.items ≡ length (remove tail.items.items (at - body.count)) = ap length r in
      let k = w.tail_right in
      let z = w.small in
      record { body_right = w.body_right; tail_right = omega arith; small = omega arith }

  two_length : (body : Level (Level (Level (Leaf X)))) (tail first more : Leaf X) (whole : List X) (at : ℕ) (x : X) → IsWhole body tail → whole_elements body tail ≡ whole → body.count ≤ at → at ≤ length whole
      → first.items.items ++ more.items.items ≡ insert tail.items.items (at - body.count) x
      → body.count + (length first.items.items + length more.items.items) ≡ length whole + 1
  two_length body tail first more whole at x w e h le r =
      let i = in_tail body tail whole at 1 w e h (omega arith) in
      let n = length-insert tail.items.items (at - body.count) x (omega arith) in
      let m : length (first.items.items ++ more.items.items) ≡ length (insert tail.items.items (at - body.count) x) = ap length r in
      let k = length-append first.items.items more.items.items in
      let q = length_whole body tail w in
      let v = ap length e in
      omega arith

  pub whole_first : (body : Level (Level (Level (Leaf X)))) (tail first more : Leaf X) (whole : List X) (at : ℕ) (x : X) → IsWhole body tail → whole_elements body tail ≡ whole → body.count ≤ at → at ≤ length whole
      → length whole < 2 ^ 32 → first.items.items ++ more.items.items ≡ insert tail.items.items (at - body.count) x → length first.items.items ≤ 64 → IsWhole body first
  whole_first body tail first more whole at x w e h le s r f =
      let n = two_length body tail first more whole at x w e h le r in
      record { body_right = w.body_right; tail_right = f; small = omega arith }

  pub whole_more : (body new : Level (Level (Level (Leaf X)))) (tail first more : Leaf X) (whole : List X) (at : ℕ) (x : X) → IsWhole body tail → whole_elements body tail ≡ whole → body.count ≤ at
      → at ≤ length whole → length whole < 2 ^ 32 → first.items.items ++ more.items.items ≡ insert tail.items.items (at - body.count) x → length more.items.items ≤ 64
      → IsRightBody new → body_elements new ≡ body_elements body ++ first.items.items → IsWhole new more
  whole_more body new tail first more whole at x w e h le s r f b g =
      let n = two_length body tail first more whole at x w e h le r in
      let c = w.body_right.count_is in
      let d = b.count_is in
      let k : length (body_elements new) ≡ length (body_elements body ++ first.items.items) = ap length g in
      let q = length-append (body_elements body) first.items.items in
      record { body_right = b; tail_right = f; small = omega arith }
