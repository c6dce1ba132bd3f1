-- What is gathered from walks is the closure.
use Rattle.std.proofs.Common.{◌≡◌, ℕ, zero, suc, ◌+◌, ◌<◌, ◌≤◌, ◌⊎◌, inl, inr, Bool, true, false, ◌&&◌, List, [], ◌∷◌, ◌++◌, length, get_or, take, map, Result, Ok, Err, OnOk, IfOk, refl, ap, sym, ◌∙◌, subst, arith}
use Rattle.std.specs.List.{list_all}
use Rattle.std.proofs.lemmas.List.Folds.{list_all-append}
use Rattle.rl_value.specs.Plain.{Plain, set, plains_of}
use Rattle.rl_value.specs.Order.{plain_cmp}
use Rattle.rl_value.specs.Laws.{plain_cmp_total, plain_exact}
use Rattle.rl_value.specs.Rising.{In, rising}
use Rattle.rl_value.specs.Built.{Builds}
use Rattle.rl_value.specs.declared.build_end.BuildEnd.{BuildEnd}
use Rattle.rl_value.specs.declared.build_end.BuildEnd.TheVariants.{TooLarge}
use Rattle.rl_value.proofs.RisingLemmas.{same_rising, Rises-rising, In-rising, In-from_rising}
use Rattle.rl_value.proofs.RenewLemmas.{not_fitting}
use Rattle.rl_exception.specs.Answer.{fits}
use Rattle.rl_exception.proofs.FittingLemmas.{fits-false}
use Rattle.rl_access.specs.Rows.{rests}
use Rattle.rl_relation.specs.Pairs.{is_pair, pair_of, first_of, second_of, set_of}
use Rattle.rl_relation.specs.Closures.{closure, leads, Leads, HasSame}
use Rattle.rl_relation.proofs.PathLemmas.{Pairs, pairs_from, closure_is, closure_pairs, pair_shape, rests-from, In-left, In-right, In-either, In-map, In-mapped, In-more, take_all}

pub same_set : (xs ys : List Plain) → HasSame xs ys → set_of xs ≡ set_of ys
same_set xs ys (f, g) =
    ap (λ (zs : List Plain). set_of' zs)
    (same_rising plain_cmp_total plain_exact (rising plain_cmp xs) (rising plain_cmp ys) (Rises-rising plain_cmp_total plain_exact xs) (Rises-rising plain_cmp_total plain_exact ys)
    (λ z h. In-rising plain_cmp_total plain_exact ys z (f z (In-from_rising plain_cmp_total plain_exact xs z h)))
    (λ z h. In-rising plain_cmp_total plain_exact xs z (g z (In-from_rising plain_cmp_total plain_exact ys z h))))
  where
    set_of' : List Plain → Plain
    set_of' zs = set (plains_of zs)

-- ---- values that do not fit
pub in_large : (xs : List Plain) (q : Plain) → In q xs → fits q ≡ false → list_all fits xs ≡ false
in_large [] q h e = absurd h
in_large (x ∷ xs) q (inl f) e = let g : fits x ≡ false = ap fits (sym f) ∙ e in rw g refl
in_large (x ∷ xs) q (inr h) e = and-false (fits x) (list_all fits xs) (in_large xs q h e)
  where
    and-false : (a b : Bool) → b ≡ false → (a && b) ≡ false
    and-false true b e = e
    and-false false b e = refl

pub from_large : (f : Plain → Plain) (zs : List Plain) → list_all fits (map f zs) ≡ false → (z : Plain) × In z zs × (fits (f z) ≡ false)
from_large f [] e = cc
from_large f (z ∷ zs) e = by (fits (f z)) refl (from_large f zs) e
  where
    by : (b : Bool) → fits (f z) ≡ b → (list_all fits (map f zs) ≡ false → (w : Plain) × In w zs × (fits (f w) ≡ false)) → (fits (f z) && list_all fits (map f zs)) ≡ false
        → (w : Plain) × In w (z ∷ zs) × (fits (f w) ≡ false)
    by false g later e = (z, inl refl, g)
    by true g later e = let r = later (ap (λ b. b && list_all fits (map f zs)) (sym g) ∙ e) in (r.0, inr r.1, r.2)

pub mapped_large : (f : Plain → Plain) (ys : List Plain) (i : ℕ) (y : Plain) (end : BuildEnd) → i < length ys → y ≡ get_or ys i y
    → Builds (f y) (Err end) → end ≡ TooLarge → list_all fits (map f ys) ≡ false
mapped_large f [] i y end h is b e = absurd (omega arith)
mapped_large f (u ∷ us) zero y end h is b e =
    let g : fits (f u) ≡ false = ap (λ w. fits (f w)) (sym is) ∙ fits-false (f y) (not_fitting end (f y) b e) in
    rw g refl
mapped_large f (u ∷ us) (suc i) y end h is b e = and-false (fits (f u)) (list_all fits (map f us)) (mapped_large f us i y end (omega arith) is b e)
  where
    and-false : (a b : Bool) → b ≡ false → (a && b) ≡ false
    and-false true b e = e
    and-false false b e = refl

-- ---- the pairs of all starts
first_edge : (ps : List Plain) (n : ℕ) (x z : Plain) → leads ps n x z → (y : Plain) × In y (rests x ps)
first_edge ps zero x z h = (z, h)
first_edge ps (suc n) x z (y, h, k) = first_edge ps n x y h

pub starts_at : (ps : List Plain) → Pairs ps → (x z : Plain) → Leads ps x z → In x (map first_of ps)
starts_at ps all x z (n, h) = let e = first_edge ps n x z h in In-map first_of (pair_of x e.0) ps (rests-from x e.0 ps all e.1)

pub record Gathers (ps ss found : List Plain) : Type 0 where
  pub reached : (q : Plain) → In q found → In q (closure ps)
  pub whole : (x : Plain) → In x ss → (z : Plain) → Leads ps x z → In (pair_of x z) found

pub gathers_none : (ps : List Plain) → Gathers ps [] []
gathers_none ps = record { reached = λ q h. absurd h; whole = λ x h. absurd h }

pub gathers_more : (ps ss found new : List Plain) (i : ℕ) (s : Plain) → list_all is_pair ps ≡ true → i < length ss → s ≡ get_or ss i s → Gathers ps (take i ss) found
    → ((q : Plain) → In q new → In q found ⊎ ((z : Plain) × (q ≡ pair_of s z) × Leads ps s z)) → ((z : Plain) → Leads ps s z → In (pair_of s z) new)
    → ((q : Plain) → In q found → In q new) → Gathers ps (take (i + 1) ss) new
gathers_more ps ss found new i s all l e w f g k = record {
  reached = λ q h. from q (f q h);
  whole = λ x h z m. by x z m (In-more x ss i s l e h);
}
  where
    from : (q : Plain) → In q found ⊎ ((z : Plain) × (q ≡ pair_of s z) × Leads ps s z) → In q (closure ps)
    from q (inl h) = w.reached q h
    from q (inr (z, h, m)) = subst (λ p. In p (closure ps)) (sym h) ((closure_is ps (pairs_from ps all)).1 s z m)

    by : (x z : Plain) → Leads ps x z → In x (take i ss) ⊎ (x ≡ s) → In (pair_of x z) new
    by x z m (inl h) = k (pair_of x z) (w.whole x h z m)
    by x z m (inr h) = subst (λ u. In (pair_of u z) new) (sym h) (g z (subst (λ u. Leads ps u z) h m))

pub gathers_same : (ps ss found : List Plain) (n : ℕ) → list_all is_pair ps ≡ true → length ss ≤ n → ((x : Plain) → In x (map first_of ps) → In x ss) → Gathers ps (take n ss) found
    → HasSame found (closure ps)
gathers_same ps ss found n all h starts w = (w.reached, λ q k. by q k)
  where
    by : (q : Plain) → In q (closure ps) → In q found
    by q k =
        let shape : q ≡ pair_of (first_of q) (second_of q) = pair_shape q (closure_pairs ps q k) in
        let path = (closure_is ps (pairs_from ps all)).0 (first_of q) (second_of q) (subst (λ p. In p (closure ps)) shape k) in
        let start = starts (first_of q) (starts_at ps (pairs_from ps all) (first_of q) (second_of q) path) in
        subst (λ p. In p found) (sym shape) (w.whole (first_of q) (subst (In (first_of q)) (sym (take_all ss n h)) start) (second_of q) path)

pub reached_large : (ps : List Plain) (s z : Plain) → list_all is_pair ps ≡ true → Leads ps s z → fits (pair_of s z) ≡ false → list_all fits (closure ps) ≡ false
reached_large ps s z all m e = in_large (closure ps) (pair_of s z) ((closure_is ps (pairs_from ps all)).1 s z m) e

-- ---- what one start adds
pub added_from : (f : Plain → Plain) (ends old new : List Plain) → new ≡ old ++ map f ends → (q : Plain) → In q new → In q old ⊎ ((z : Plain) × (q ≡ f z) × In z ends)
added_from f ends old new e q h = by (In-either q old (map f ends) (subst (In q) e h))
  where
    by : In q old ⊎ In q (map f ends) → In q old ⊎ ((z : Plain) × (q ≡ f z) × In z ends)
    by (inl k) = inl k
    by (inr k) = let m = In-mapped f q ends k in inr (m.0, m.2, m.1)

pub added_in : (f : Plain → Plain) (ends old new : List Plain) → new ≡ old ++ map f ends → (z : Plain) → In z ends → In (f z) new
added_in f ends old new e z h = subst (In (f z)) (sym e) (In-right (f z) old (map f ends) (In-map f z ends h))

pub added_kept : (f : Plain → Plain) (ends old new : List Plain) → new ≡ old ++ map f ends → (q : Plain) → In q old → In q new
added_kept f ends old new e q h = subst (In q) (sym e) (In-left q old (map f ends) h)

-- ---- two lists joined
pub same_append : (xs ys zs ws : List Plain) → HasSame xs ys → ws ≡ xs ++ zs → HasSame ws (ys ++ zs)
same_append xs ys zs ws (f, g) e = (λ q h. to q (In-either q xs zs (subst (In q) e h)), λ q h. subst (In q) (sym e) (from q (In-either q ys zs h)))
  where
    to : (q : Plain) → In q xs ⊎ In q zs → In q (ys ++ zs)
    to q (inl h) = In-left q ys zs (f q h)
    to q (inr h) = In-right q ys zs h

    from : (q : Plain) → In q ys ⊎ In q zs → In q (xs ++ zs)
    from q (inl h) = In-left q xs zs (g q h)
    from q (inr h) = In-right q xs zs h

pub large_left : (xs ys : List Plain) → list_all fits xs ≡ false → list_all fits (xs ++ ys) ≡ false
large_left xs ys e = list_all-append fits xs ys ∙ ap (λ b. b && list_all fits ys) e

pub large_right : (xs ys : List Plain) → list_all fits ys ≡ false → list_all fits (xs ++ ys) ≡ false
large_right xs ys e = list_all-append fits xs ys ∙ and-false (list_all fits xs) (list_all fits ys) e
  where
    and-false : (a b : Bool) → b ≡ false → (a && b) ≡ false
    and-false true b e = e
    and-false false b e = refl

-- ---- a clause on an `Ok` that follows from another
pub on_ok : {T E : Type 0} (P Q : Type 0) (r : Result T E) → (P → Q) → OnOk r P → OnOk r Q
on_ok P Q (Ok x) f h = f h
on_ok P Q (Err e) f h = h

pub if_ok : {T E : Type 0} (P Q : T → Type 0) (r : Result T E) → ((x : T) → P x → Q x) → IfOk r P → IfOk r Q
if_ok P Q (Ok x) f h = f x h
if_ok P Q (Err e) f h = h
