-- Children of a level that are taken out, changed, put in and joined.
use Rattle.std.proofs.Common.{◌≡◌, ℕ, suc, ◌+◌, ◌-◌, ◌<◌, ◌≤◌, List, [], ◌∷◌, ◌++◌, length, take, drop, get_or, refl, ap, sym, ◌∙◌, subst, append_assoc, arith, length-append}
use Rattle.std.specs.List.{insert, remove, All}
use Rattle.std.specs.Prelude.{Some}
use Rattle.std.proofs.lemmas.Grind.{flat_map-append}
use Rattle.std.proofs.lemmas.List.{take-append-drop, append-nil, map-append, length-take-le, length-drop, take_more as one_more}
use Rattle.std.proofs.lemmas.List.Elements.{All-nil, All-cons, All-head, All-push, All-pop, All-tail, All-append, All-take, All-drop}
use Rattle.std.proofs.lemmas.List.Edits.{length-insert, length-remove}
use Rattle.std.specs.declared.rc.Rc.{Rc}
use Rattle.std.specs.declared.alloc.Global.{Global}
use Rattle.rl_sequence.specs.declared.children.Child.{Child}
use Rattle.rl_sequence.specs.Parts.{AreFull, Copies, Merges, flat, widths, IsChild, AreAlike, AreChildren, IsGap, IsOpening, AreSome, Meets, Joins}
use Rattle.rl_sequence.proofs.FlatLemmas.{take_more}
use Rattle.rl_sequence.proofs.FullLemmas.{full_front, full_back, full_seam, after_wider, full_wider}
use Rattle.rl_sequence.proofs.PartsLemmas.{flat_at, take_remove, drop_remove, at_place}

module _ {C X : Type 0} (elements : C → List X) (is_right : C → Type 0) (width : C → ℕ) where
  abbrev breadth : Child C → ℕ
  breadth k = width k.chunk.value

  abbrev inside_of : Child C → List X
  inside_of k = elements k.chunk.value

  pub flat_both : (ks ls : List (Child C)) → flat elements is_right width (ks ++ ls) ≡ flat elements is_right width ks ++ flat elements is_right width ls
  flat_both ks ls = flat_map-append inside_of ks ls

  pub widths_both : (ks ls : List (Child C)) → widths elements is_right width (ks ++ ls) ≡ widths elements is_right width ks ++ widths elements is_right width ls
  widths_both ks ls = map-append breadth ks ls

  full_take : (ks : List (Child C)) (n : ℕ) → AreFull (widths elements is_right width ks) → AreFull (widths elements is_right width (take n ks))
  full_take ks n h = full_front _ (widths elements is_right width (drop n ks))
      (subst AreFull (widths_both (take n ks) (drop n ks)) (subst (λ (ls : List (Child C)). AreFull (widths elements is_right width ls)) (sym (take-append-drop n ks)) h))

  full_drop : (ks : List (Child C)) (n : ℕ) → AreFull (widths elements is_right width ks) → AreFull (widths elements is_right width (drop n ks))
  full_drop ks n h = full_back (widths elements is_right width (take n ks)) _
      (subst AreFull (widths_both (take n ks) (drop n ks)) (subst (λ (ls : List (Child C)). AreFull (widths elements is_right width ls)) (sym (take-append-drop n ks)) h))

  pub children_take : (ks : List (Child C)) (n : ℕ) → AreChildren elements is_right width ks → AreChildren elements is_right width (take n ks)
  children_take ks n h = record { right = All-take (IsChild elements is_right width) n ks h.right; full = full_take ks n h.full }

  pub children_drop : (ks : List (Child C)) (n : ℕ) → AreChildren elements is_right width ks → AreChildren elements is_right width (drop n ks)
  children_drop ks n h = record { right = All-drop (IsChild elements is_right width) n ks h.right; full = full_drop ks n h.full }

  -- the parts of a gap
  pub gap_front : (place old : ℕ) (others : List (Child C)) → IsGap elements is_right width place old others → AreChildren elements is_right width (take place others)
  gap_front place old others g = record { right = All-take (IsChild elements is_right width) place others g.right; full = full_front _ _ g.full }

  pub gap_back : (place old : ℕ) (others : List (Child C)) → IsGap elements is_right width place old others → AreChildren elements is_right width (drop place others)
  gap_back place old others g = record {
    right = All-drop (IsChild elements is_right width) place others g.right;
    full = full_back (old ∷ []) _ (full_back (widths elements is_right width (take place others)) _ g.full);
  }

  pub merged_owned : (a b front back c d : C) → Copies elements is_right width a front → Copies elements is_right width b back → Merges elements is_right width front back c → d ≡ c
      → Merges elements is_right width a b d
  merged_owned a b front back c d p q m e = rw e record {
    right = m.right;
    holds = m.holds ∙ (λ i. p.holds i ++ q.holds i);
    first = subst (λ n. n ≤ width c) p.as_wide m.first;
    second = subst (λ n. n ≤ width c) q.as_wide m.second;
  }

  -- two children at the end, which became one where they fit
  pub meets_one : (front ks : List (Child C)) (last first one : Child C) → IsChild elements is_right width one → Merges elements is_right width last.chunk.value first.chunk.value one.chunk.value
      → ks ≡ front ++ (one ∷ []) → Meets elements is_right width front last first ks
  meets_one front ks last first one k m e = rw e record {
    right = λ h. All-push (IsChild elements is_right width) front one h k;
    holds = flat_both front (one ∷ []) ∙ ap (λ w. flat elements is_right width front ++ w) (append-nil (inside_of one) ∙ m.holds);
    full = λ ns h g. rw (widths_both front (one ∷ []), append_assoc (widths elements is_right width front) (breadth one ∷ []) ns)
        (full_seam (widths elements is_right width front) (breadth one) ns
        (full_wider (widths elements is_right width front) (breadth last) (breadth one) [] m.first h) (after_wider (breadth first) (breadth one) ns m.second g));
    most = rw (length-append front (one ∷ [])) (omega arith);
    least = rw (length-append front (one ∷ [])) (omega arith);
  }

  pub meets_two : (front mid ks : List (Child C)) (last first : Child C) → IsChild elements is_right width last → IsChild elements is_right width first → 64 < breadth last + breadth first
      → mid ≡ front ++ (last ∷ []) → ks ≡ mid ++ (first ∷ []) → Meets elements is_right width front last first ks
  meets_two front mid ks last first l k w e f =
      let s : ks ≡ front ++ (last ∷ first ∷ []) = f ∙ ap (λ ls. ls ++ (first ∷ [])) e ∙ append_assoc front (last ∷ []) (first ∷ []) in
      rw s record {
        right = λ h. All-append (IsChild elements is_right width) front (last ∷ first ∷ []) h
            (All-cons (IsChild elements is_right width) last (first ∷ []) l (All-cons (IsChild elements is_right width) first [] k (All-nil (IsChild elements is_right width))));
        holds = flat_both front (last ∷ first ∷ []) ∙ ap (λ w. flat elements is_right width front ++ (inside_of last ++ w)) (append-nil (inside_of first));
        full = λ ns h g. rw (widths_both front (last ∷ first ∷ []), append_assoc (widths elements is_right width front) (breadth last ∷ breadth first ∷ []) ns)
            (full_seam (widths elements is_right width front) (breadth last) (breadth first ∷ ns) h (w, g));
        most = rw (length-append front (last ∷ first ∷ [])) (omega arith);
        least = rw (length-append front (last ∷ first ∷ [])) (omega arith);
      }

  pub joined : (front back rest behind mid ks : List (Child C)) (last first : Child C) → AreChildren elements is_right width front → AreChildren elements is_right width back
      → front ≡ rest ++ (last ∷ []) → back ≡ first ∷ behind → Meets elements is_right width rest last first mid → ks ≡ mid ++ behind → Joins elements is_right width front back ks
  joined front back rest behind mid ks last first p q e f m g =
      let pr = subst (λ (ls : List (Child C)). AreChildren elements is_right width ls) e p in
      let qr = subst (λ (ls : List (Child C)). AreChildren elements is_right width ls) f q in
      let all_rest = (All-pop (IsChild elements is_right width) (rest ++ (last ∷ [])) rest (Some last) refl pr.right).0 in
      let all_behind = All-tail (IsChild elements is_right width) first behind qr.right in
      let front_full : AreFull (widths elements is_right width rest ++ (breadth last ∷ [])) = subst AreFull (widths_both rest (last ∷ [])) pr.full in
      let n : length ks ≡ length mid + length behind = ap length g ∙ length-append mid behind in
      let a : length front ≡ length rest + 1 = ap length e ∙ length-append rest (last ∷ []) in
      let b : length back ≡ suc (length behind) = ap length f in
      let u = m.most in
      let o = m.least in
      record {
        children = rw g record {
          right = All-append (IsChild elements is_right width) mid behind (m.right all_rest) all_behind;
          full = rw (widths_both mid behind) (m.full (widths elements is_right width behind) front_full qr.full);
        };
        holds = rw (g, e, f, flat_both mid behind, m.holds, flat_both rest (last ∷ [])) (simp (append_assoc, append-nil));
        most = omega arith;
        least = omega arith;
      }

  pub joined_none : (front back : List (Child C)) → AreChildren elements is_right width front → back ≡ [] → Joins elements is_right width front back front
  joined_none front back p e = rw e record {
    children = p;
    holds = sym (append-nil (flat elements is_right width front));
    most = omega arith;
    least = omega arith;
  }

  pub joined_to_none : (front back : List (Child C)) → AreChildren elements is_right width back → front ≡ [] → Joins elements is_right width front back back
  joined_to_none front back p e = rw e record { children = p; holds = refl; most = omega arith; least = omega arith }

  pub opened : (seen ks : List (Child C)) (i k inside old : ℕ) (gone : Child C) (c : C) (others : List (Child C)) → seen ≡ ks → AreChildren elements is_right width ks → k < length seen
      → gone ≡ get_or ks k gone → others ≡ remove ks k → length (flat elements is_right width (take k seen)) + inside ≡ i
      → i < length (flat elements is_right width (take (k + 1) seen)) → old ≡ breadth gone → Copies elements is_right width gone.chunk.value c
      → IsOpening elements is_right width ks i k inside old c others
  opened seen ks i k inside old gone c others s all hs e o befores withins w made =
      let h : k < length ks = rw s at hs in
      let before : length (flat elements is_right width (take k ks)) + inside ≡ i = rw s at befores in
      let within : i < length (flat elements is_right width (take (k + 1) ks)) = rw s at withins in
      let good = IsChild elements is_right width in
      let t : take k others ≡ take k ks = rw o (take_remove ks k (omega arith)) in
      let d : drop k others ≡ drop (suc k) ks = rw o (drop_remove ks k (omega arith)) in
      let g : inside_of gone ≡ inside_of (get_or ks k gone) = ap inside_of e in
      let b : old ≡ breadth (get_or ks k gone) = w ∙ ap breadth e in
      let more = take_more inside_of ks k gone h in
      let len = length-append (flat elements is_right width (take k ks)) (inside_of (get_or ks k gone)) in
      let n = length-remove ks k h in
      let q : length others ≡ length (remove ks k) = ap length o in
      let wide : AreFull (widths elements is_right width (take k ks) ++ (breadth (get_or ks k gone) ∷ widths elements is_right width (drop (suc k) ks))) =
      subst AreFull (widths_both (take k ks) (get_or ks k gone ∷ drop (suc k) ks)) (subst (λ (ls : List (Child C)). AreFull (widths elements is_right width ls)) (sym (at_place ks k gone h)) all.full) in
      record {
        gap = record {
          right = rw o (All-append good _ _ (All-take good k ks all.right) (All-drop good (suc k) ks all.right));
          full = rw (t, d, b) wide;
          within = omega arith;
        };
        chunk_right = made.right;
        holds = rw (t, d, made.holds, g) (flat_at inside_of ks k gone h);
        before = rw t before;
        within = let z : length (flat elements is_right width (take (k + 1) ks)) ≡ length (flat elements is_right width (take k ks)) + length (inside_of (get_or ks k gone)) = ap length more ∙ len in rw (made.holds, g) (omega arith);
        fewer = omega arith;
      }

  -- a child in the gap that is no narrower than the one that stood there
  pub closed : (place old : ℕ) (others ks : List (Child C)) (k : Child C) → IsGap elements is_right width place old others → IsChild elements is_right width k → old ≤ breadth k
      → ks ≡ insert others place k
      → AreSome elements is_right width (flat elements is_right width (take place others) ++ (inside_of k ++ flat elements is_right width (drop place others))) (length others + 1) ks
  closed place old others ks k g h w e = rw e record {
    children = record {
      right = All-append (IsChild elements is_right width) (take place others) (k ∷ drop place others) (gap_front place old others g).right
          (All-cons (IsChild elements is_right width) k (drop place others) h (gap_back place old others g).right);
      full = rw (widths_both (take place others) (k ∷ drop place others)) (full_wider (widths elements is_right width (take place others)) old (breadth k) _ w g.full);
    };
    holds = flat_both (take place others) (k ∷ drop place others);
    few = let n = length-insert others place k g.within in omega arith;
  }

  pub closed_chunk : (place old count : ℕ) (others ks : List (Child C)) (chunk : Rc C Global) (d : C) → IsGap elements is_right width place old others → chunk.value ≡ d → is_right d
      → count ≡ length (elements d) → 0 < count → old ≤ width d → ks ≡ insert others place (record { count = count; chunk = chunk })
      → AreSome elements is_right width (flat elements is_right width (take place others) ++ (elements d ++ flat elements is_right width (drop place others))) (length others + 1) ks
  closed_chunk place old count others ks chunk d g v r c some w e =
      subst (λ (x : C). AreSome elements is_right width (flat elements is_right width (take place others) ++ (elements x ++ flat elements is_right width (drop place others))) (length others + 1) ks) v
      (closed place old others ks (record { count = count; chunk = chunk }) g
      (record { right = rw v r; count_is = c ∙ sym (ap (λ x. length (elements x)) v); some = some }) (rw v w) e)

  pub flat_halves : (ks : List (Child C)) (n : ℕ) → flat elements is_right width (take n ks) ++ flat elements is_right width (drop n ks) ≡ flat elements is_right width ks
  flat_halves ks n = sym (flat_both (take n ks) (drop n ks)) ∙ ap (flat elements is_right width) (take-append-drop n ks)

  pub length_halves : (ks : List (Child C)) (n : ℕ) → length (flat elements is_right width (take n ks)) + length (flat elements is_right width (drop n ks)) ≡ length (flat elements is_right width ks)
  length_halves ks n = sym (length-append (flat elements is_right width (take n ks)) (flat elements is_right width (drop n ks))) ∙ ap length (flat_halves ks n)

  pub rejoined_some : (others front back middle mid ks : List (Child C)) (place : ℕ) → place ≤ length others → front ≡ take place others → back ≡ drop place others
      → Joins elements is_right width front middle mid → Joins elements is_right width mid back ks
      → AreSome elements is_right width (flat elements is_right width (take place others) ++ (flat elements is_right width middle ++ flat elements is_right width (drop place others))) (length others + length middle) ks
  rejoined_some others front back middle mid ks place le e f j k =
      let a : length front ≡ place = ap length e ∙ length-take-le place others le in
      let b : length back ≡ length others - place = ap length f ∙ length-drop place others in
      let m = j.most in
      let n = k.most in
      record {
        children = k.children;
        holds = rw (k.holds, j.holds, e, f) (append_assoc (flat elements is_right width (take place others)) (flat elements is_right width middle) (flat elements is_right width (drop place others)));
        few = omega arith;
      }

  -- the same of a part alone
  pub some_again : (xs ys : List X) (n m : ℕ) (ks : List (Child C)) → xs ≡ ys → n ≤ m → AreSome elements is_right width xs n ks → AreSome elements is_right width ys m ks
  some_again xs ys n m ks e le s = record { children = s.children; holds = s.holds ∙ e; few = let f = s.few in omega arith }

  pub opened_length : (ks : List (Child C)) (i place inside old : ℕ) (c : C) (others : List (Child C)) → IsOpening elements is_right width ks i place inside old c others
      → length (flat elements is_right width others) + length (elements c) ≡ length (flat elements is_right width ks)
  opened_length ks i place inside old c others o =
      let h = length_halves others place in
      let e = ap length o.holds in
      let p = length-append (flat elements is_right width (take place others)) (elements c ++ flat elements is_right width (drop place others)) in
      let q = length-append (elements c) (flat elements is_right width (drop place others)) in
      omega arith

  pub last_count : (front rest : List (Child C)) (last : Child C) → AreChildren elements is_right width front → front ≡ rest ++ (last ∷ []) → last.count ≤ length (flat elements is_right width front)
  last_count front rest last p e =
      let h = (All-pop (IsChild elements is_right width) front rest (Some last) e p.right).1 in
      let c = h.count_is in
      let f : length (flat elements is_right width front) ≡ length (flat elements is_right width rest ++ (inside_of last ++ [])) = ap (λ (ls : List (Child C)). length (flat elements is_right width ls)) e ∙ ap length (flat_both rest (last ∷ [])) in
      let n = length-append (flat elements is_right width rest) (inside_of last ++ []) in
      let m = length-append (inside_of last) [] in
      omega arith

  pub first_count : (back behind : List (Child C)) (first : Child C) → AreChildren elements is_right width back → back ≡ first ∷ behind → first.count ≤ length (flat elements is_right width back)
  first_count back behind first p e =
      let h = All-head (IsChild elements is_right width) first behind (subst (All (IsChild elements is_right width)) e p.right) in
      let c = h.count_is in
      let f : length (flat elements is_right width back) ≡ length (inside_of first ++ flat elements is_right width behind) = ap (λ (ls : List (Child C)). length (flat elements is_right width ls)) e in
      let n = length-append (inside_of first) (flat elements is_right width behind) in
      omega arith

  pub front_small : (ks front : List (Child C)) (n : ℕ) → front ≡ take n ks → length (flat elements is_right width front) ≤ length (flat elements is_right width ks)
  front_small ks front n e = rw e (let h = length_halves ks n in omega arith)

  pub rejoin_small : (others front middle mid back : List (Child C)) (n : ℕ) → front ≡ take n others → back ≡ drop n others → Joins elements is_right width front middle mid
      → length (flat elements is_right width mid) + length (flat elements is_right width back) ≡ length (flat elements is_right width others) + length (flat elements is_right width middle)
  rejoin_small others front middle mid back n e f j =
      let h = length_halves others n in
      let a : length (flat elements is_right width front) ≡ length (flat elements is_right width (take n others)) = ap (λ (ls : List (Child C)). length (flat elements is_right width ls)) e in
      let b : length (flat elements is_right width back) ≡ length (flat elements is_right width (drop n others)) = ap (λ (ls : List (Child C)). length (flat elements is_right width ls)) f in
      let c = ap length j.holds in
      let d = length-append (flat elements is_right width front) (flat elements is_right width middle) in
      omega arith

  -- children like others, with one more
  pub shared_more : (ks shared new : List (Child C)) (i : ℕ) (k : Child C) (chunk : Rc C Global) → All (IsChild elements is_right width) ks → i < length ks → k ≡ get_or ks i k
      → AreAlike elements is_right width (take i ks) shared → chunk.value ≡ k.chunk.value → new ≡ shared ++ (record { count = k.count; chunk = chunk } ∷ [])
      → AreAlike elements is_right width (take (i + 1) ks) new
  shared_more ks shared new i k chunk all h e s v f =
      let good : IsChild elements is_right width k = subst (IsChild elements is_right width) (sym e) (all i k h) in
      let t : take (i + 1) ks ≡ take i ks ++ (k ∷ []) = one_more ks i k h ∙ ap (λ (l : Child C). take i ks ++ (l ∷ [])) (sym e) in
      rw (t, f) record {
        right = All-push (IsChild elements is_right width) shared _ s.right record { right = rw v good.right; count_is = good.count_is ∙ sym (ap (λ c. length (elements c)) v); some = good.some };
        holds = flat_both shared _ ∙ (λ j. s.holds j ++ (elements (v j) ++ [])) ∙ sym (flat_both (take i ks) (k ∷ []));
        as_wide = widths_both shared _ ∙ (λ j. s.as_wide j ++ (width (v j) ∷ [])) ∙ sym (widths_both (take i ks) (k ∷ []));
      }
