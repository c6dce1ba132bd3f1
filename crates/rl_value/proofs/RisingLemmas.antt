-- A list that rises is told by its elements alone.
use Rattle.std.proofs.Common.{◌≡◌, zero, suc, ◌⊎◌, inl, inr, List, [], ◌∷◌, refl, sym, ap, ◌∙◌, subst, arith, ⊎_elim}
use Rattle.std.specs.List.{Contains}
use Rattle.std.specs.List.Sorted.{IsStrictlySortedBy}
use Rattle.std.specs.declared.cmp.Ordering.{Ordering}
use Rattle.std.specs.declared.cmp.Ordering.TheVariants.{Less, Equal, Greater}
use Rattle.std.specs.Ordering.{ordering_reverse}
use Rattle.std.specs.Cmp.{IsTotalOrder}
use Rattle.std.proofs.lemmas.Cmp.{tied_itself}
use Rattle.rl_value.specs.Rising.{AllAbove, In, Rises, placed, put, rising}

pub In-from_Contains : {K : Type 0} (xs : List K) (x : K) → Contains xs x → In x xs
In-from_Contains [] x (k, lt, e) = absurd (omega arith)
In-from_Contains (y ∷ ys) x (zero, lt, e) = inl (sym e)
In-from_Contains (y ∷ ys) x (suc k, lt, e) = inr (In-from_Contains ys x (k, omega arith, e))

pub Contains-from_In : {K : Type 0} (xs : List K) (x : K) → In x xs → Contains xs x
Contains-from_In [] x h = absurd h
Contains-from_In (y ∷ ys) x (inl e) = (0, omega arith, sym e)
Contains-from_In (y ∷ ys) x (inr h) = let c = Contains-from_In ys x h in (suc c.0, omega arith, c.2)

module _ {K : Type 0} {R : K → K → Ordering} (o : IsTotalOrder R) (exact : (x y : K) → R x y ≡ Equal → x ≡ y) where
  above_at : (x : K) (xs : List K) (y : K) → AllAbove R x xs → In y xs → R x y ≡ Less
  above_at x [] y a h = absurd h
  above_at x (z ∷ zs) y a (inl e) = subst (λ w. R x w ≡ Less) (sym e) a.0
  above_at x (z ∷ zs) y a (inr h) = above_at x zs y a.1 h

  not_self : (x : K) → R x x ≡ Less → ⊥
  not_self x e = let t = tied_itself o x in cc

  turned : (x y : K) → R x y ≡ Greater → R y x ≡ Less
  turned x y e = o.antisymm y x ∙ ap ordering_reverse e

  -- xs and ys rise, and have the same elements
  pub same_rising : (xs ys : List K) → Rises R xs → Rises R ys → ((z : K) → In z xs → In z ys) → ((z : K) → In z ys → In z xs) → xs ≡ ys
  same_rising [] [] r s f g = refl
  same_rising [] (y ∷ ys) r s f g = absurd (g y (inl refl))
  same_rising (x ∷ xs) [] r s f g = absurd (f x (inl refl))
  same_rising (x ∷ xs) (y ∷ ys) r s f g = λ i. heads i ∷ same_rising xs ys r.1 s.1 (λ z h. right z h (f z (inr h))) (λ z h. left z h (g z (inr h))) i
    where
      by_places : (x ≡ y) ⊎ In x ys → (y ≡ x) ⊎ In y xs → x ≡ y
      by_places (inl e) q = e
      by_places (inr p) (inl e) = sym e
      by_places (inr p) (inr q) = absurd (not_self x (o.trans x y x (above_at x xs y r.0 q) (above_at y ys x s.0 p)))

      heads : x ≡ y
      heads = by_places (f x (inl refl)) (g y (inl refl))

      right : (z : K) → In z xs → (z ≡ y) ⊎ In z ys → In z ys
      right z h (inl e) = absurd (not_self x (subst (λ w. R x w ≡ Less) (e ∙ sym heads) (above_at x xs z r.0 h)))
      right z h (inr k) = k

      left : (z : K) → In z ys → (z ≡ x) ⊎ In z xs → In z xs
      left z h (inl e) = absurd (not_self y (subst (λ w. R y w ≡ Less) (e ∙ heads) (above_at y ys z s.0 h)))
      left z h (inr k) = k

  above_all : (x y : K) (ys : List K) → R x y ≡ Less → AllAbove R y ys → AllAbove R x ys
  above_all x y [] e a = tt
  above_all x y (z ∷ zs) e a = (o.trans x y z e a.0, above_all x y zs e a.1)

  above_put : (y x : K) (ys : List K) → R y x ≡ Less → AllAbove R y ys → AllAbove R y (put R x ys)
  above_put y x [] e a = (e, tt)
  above_put y x (z ∷ zs) e a = by (above_put y x zs e a.1) (R x z)
    where
      by : AllAbove R y (put R x zs) → (r : Ordering) → AllAbove R y (placed R r x z zs (put R x zs))
      by below Less = (e, a)
      by below Equal = a
      by below Greater = (a.0, below)

  pub Rises-put : (x : K) (ys : List K) → Rises R ys → Rises R (put R x ys)
  Rises-put x [] r = (tt, tt)
  Rises-put x (y ∷ ys) r = by (Rises-put x ys r.1) (R x y) refl
    where
      by : Rises R (put R x ys) → (q : Ordering) → R x y ≡ q → Rises R (placed R q x y ys (put R x ys))
      by below Less e = ((e, above_all x y ys e r.0), r)
      by below Equal e = r
      by below Greater e = (above_put y x ys (turned x y e) r.0, below)

  pub Rises-rising : (xs : List K) → Rises R (rising R xs)
  Rises-rising [] = tt
  Rises-rising (x ∷ xs) = Rises-put x (rising R xs) (Rises-rising xs)

  In-put : (x : K) (ys : List K) (z : K) → (z ≡ x) ⊎ In z ys → In z (put R x ys)
  In-put x [] z h = h
  In-put x (y ∷ ys) z h = by (In-put x ys z) (R x y) refl h
    where
      by : ((z ≡ x) ⊎ In z ys → In z (put R x ys)) → (q : Ordering) → R x y ≡ q → (z ≡ x) ⊎ In z (y ∷ ys) → In z (placed R q x y ys (put R x ys))
      by below Less e h = h
      by below Equal e (inl k) = inl (k ∙ exact x y e)
      by below Equal e (inr k) = k
      by below Greater e (inl k) = inr (below (inl k))
      by below Greater e (inr (inl k)) = inl k
      by below Greater e (inr (inr k)) = inr (below (inr k))

  In-from_put : (x : K) (ys : List K) (z : K) → In z (put R x ys) → (z ≡ x) ⊎ In z ys
  In-from_put x [] z h = h
  In-from_put x (y ∷ ys) z h = by (In-from_put x ys z) (R x y) h
    where
      behind : (z ≡ x) ⊎ In z ys → (z ≡ x) ⊎ In z (y ∷ ys)
      behind (inl k) = inl k
      behind (inr k) = inr (inr k)

      by : (In z (put R x ys) → (z ≡ x) ⊎ In z ys) → (q : Ordering) → In z (placed R q x y ys (put R x ys)) → (z ≡ x) ⊎ In z (y ∷ ys)
      by below Less k = k
      by below Equal k = inr k
      by below Greater (inl k) = inr (inl k)
      by below Greater (inr k) = behind (below k)

  pub In-rising : (xs : List K) (z : K) → In z xs → In z (rising R xs)
  In-rising [] z h = h
  In-rising (x ∷ xs) z (inl e) = In-put x (rising R xs) z (inl e)
  In-rising (x ∷ xs) z (inr h) = In-put x (rising R xs) z (inr (In-rising xs z h))

  pub In-from_rising : (xs : List K) (z : K) → In z (rising R xs) → In z xs
  In-from_rising [] z h = h
  In-from_rising (x ∷ xs) z h = ⊎_elim (λ e. inl e) (λ k. inr (In-from_rising xs z k)) (In-from_put x (rising R xs) z h)

  -- a rising list of the elements of xs is `rising xs`
  pub is_rising : (xs ys : List K) → Rises R ys → ((z : K) → Contains xs z → Contains ys z) → ((z : K) → Contains ys z → Contains xs z) → ys ≡ rising R xs
  is_rising xs ys r f g =
      same_rising ys (rising R xs) r (Rises-rising xs)
      (λ z h. In-rising xs z (In-from_Contains xs z (g z (Contains-from_In ys z h))))
      (λ z h. In-from_Contains ys z (f z (Contains-from_In xs z (In-from_rising xs z h))))

module _ {K : Type 0} (R : K → K → Ordering) where
  pub Rises-from_sorted : (xs : List K) → IsStrictlySortedBy R xs → Rises R xs
  unfolding IsStrictlySortedBy
  Rises-from_sorted [] h = tt
  Rises-from_sorted (x ∷ xs) h = (h.0, Rises-from_sorted xs h.1)
