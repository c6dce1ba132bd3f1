-- The choices of stars: all of them, each once, in order.
use Rattle.std.proofs.Common.{◌≡◌, ℕ, zero, suc, ◌+◌, ◌<◌, ◌≤◌, List, [], ◌∷◌, ◌++◌, length, map, flat_map, refl, sym, ap, subst, arith}
use Rattle.std.proofs.Common.{inl, inr}
use Rattle.std.specs.Prelude.{◌⊎◌, Contains}
use Rattle.std.specs.List.{AllByRecursion, range_with_len}
use Rattle.std.specs.Ordering.{nat_cmp}
use Rattle.std.specs.Cmp.{nat_cmp_is}
use Rattle.std.specs.Cmp.Lexicographic.{slice_cmp}
use Rattle.std.specs.declared.cmp.Ordering.{Ordering}
use Rattle.std.specs.declared.cmp.Ordering.TheVariants.{Less}
use Rattle.std.proofs.lemmas.Cmp.{nat_cmp_total, tied_itself}
use Rattle.rl_value.specs.Rising.{AllAbove, Rises}
use Rattle.rl_setmatch.specs.Divisions.{choices}
use Rattle.rl_setmatch.specs.Laws.{IsChoice, AreAllChoices, Rise}

all-append : {X : Type 0} (P : X → Type 0) (xs ys : List X) → AllByRecursion P xs → AllByRecursion P ys → AllByRecursion P (xs ++ ys)
all-append P [] ys h k = k
all-append P (x ∷ xs) ys h k = (h.0, all-append P xs ys h.1 k)

-- the choices that begin with a star
abbrev block : ℕ → List (List ℕ) → List (List ℕ)
block star cs = map (λ stars. star ∷ stars) cs

-- those that begin with one of m stars from a on
abbrev blocks : List (List ℕ) → ℕ → ℕ → List (List ℕ)
blocks cs a m = flat_map (λ star. block star cs) (range_with_len a m)

-- Nothing else.

all-block : (k n star : ℕ) → star < k → (cs : List (List ℕ)) → AllByRecursion (IsChoice k n) cs → AllByRecursion (IsChoice k (suc n)) (block star cs)
all-block k n star l [] h = tt
all-block k n star l (c ∷ cs) h = ((ap suc h.0.0, (l, h.0.1)), all-block k n star l cs h.1)

all-blocks : (k n : ℕ) (cs : List (List ℕ)) (a m : ℕ) → a + m ≤ k → AllByRecursion (IsChoice k n) cs → AllByRecursion (IsChoice k (suc n)) (blocks cs a m)
all-blocks k n cs a zero l h = tt
all-blocks k n cs a (suc m) l h =
    all-append (IsChoice k (suc n)) (block a cs) (blocks cs (a + 1) m) (all-block k n a (omega arith) cs h) (all-blocks k n cs (a + 1) m (omega arith) h)

all-choices : (k n : ℕ) → AllByRecursion (IsChoice k n) (choices k n)
all-choices k zero = ((refl, tt), tt)
all-choices k (suc n) = all-blocks k n (choices k n) 0 k (omega arith) (all-choices k n)

-- All of them.

abbrev In : {X : Type 0} → List X → X → Type 0
In [] x = ⊥
In (y ∷ ys) x = (y ≡ x) ⊎ In ys x

in-contains : {X : Type 0} (xs : List X) (x : X) → In xs x → Contains xs x
in-contains [] x h = absurd h
in-contains (y ∷ ys) x (inl e) = (0, omega arith, e)
in-contains (y ∷ ys) x (inr h) = let c = in-contains ys x h in (suc c.0, omega (arith, c.1), c.2)

in-left : {X : Type 0} (xs ys : List X) (x : X) → In xs x → In (xs ++ ys) x
in-left [] ys x h = absurd h
in-left (z ∷ xs) ys x (inl e) = inl e
in-left (z ∷ xs) ys x (inr h) = inr (in-left xs ys x h)

in-right : {X : Type 0} (xs ys : List X) (x : X) → In ys x → In (xs ++ ys) x
in-right [] ys x h = h
in-right (z ∷ xs) ys x h = inr (in-right xs ys x h)

in-block : (star : ℕ) (cs : List (List ℕ)) (c : List ℕ) → In cs c → In (block star cs) (star ∷ c)
in-block star [] c h = absurd h
in-block star (d ∷ cs) c (inl e) = inl (ap (λ stars. star ∷ stars) e)
in-block star (d ∷ cs) c (inr h) = inr (in-block star cs c h)

in-blocks : (cs : List (List ℕ)) (c : List ℕ) → In cs c → (a m j : ℕ) → j < m → In (blocks cs a m) ((a + j) ∷ c)
in-blocks cs c h a zero j l = absurd (omega arith)
in-blocks cs c h a (suc m) zero l =
    let e : a ≡ a + 0 = omega arith in
    subst (λ star. In (blocks cs a (suc m)) (star ∷ c)) e (in-left (block a cs) (blocks cs (a + 1) m) (a ∷ c) (in-block a cs c h))
in-blocks cs c h a (suc m) (suc j) l =
    let e : a + 1 + j ≡ a + suc j = omega arith in
    subst (λ star. In (blocks cs a (suc m)) (star ∷ c)) e (in-right (block a cs) (blocks cs (a + 1) m) ((a + 1 + j) ∷ c) (in-blocks cs c h (a + 1) m j (omega arith)))

in-choices : (k n : ℕ) (c : List ℕ) → IsChoice k n c → In (choices k n) c
in-choices k zero [] h = inl refl
in-choices k zero (star ∷ c) h = absurd (omega (arith, h.0))
in-choices k (suc n) [] h = absurd (omega (arith, h.0))
in-choices k (suc n) (star ∷ c) h =
    let e : 0 + star ≡ star = omega arith in
    let l : length c ≡ n = omega (arith, h.0) in
    subst (λ s. In (choices k (suc n)) (s ∷ c)) e (in-blocks (choices k n) c (in-choices k n c (l, h.1.1)) 0 k star h.1.0)

pub are-all : (k n : ℕ) → AreAllChoices k n
are-all k n = (all-choices k n, λ c h. in-contains (choices k n) c (in-choices k n c h))

-- Each once, in order.

abbrev cmp : List ℕ → List ℕ → Ordering
cmp = slice_cmp nat_cmp

less-same : (star : ℕ) (a b : List ℕ) → cmp a b ≡ Less → cmp (star ∷ a) (star ∷ b) ≡ Less
less-same star a b h = let e = tied_itself nat_cmp_total star in rw e h

less-head : (s u : ℕ) (a b : List ℕ) → s < u → cmp (s ∷ a) (u ∷ b) ≡ Less
less-head s u a b h = let e = sym (nat_cmp_is s u Less h) in rw e refl

above-block : (star : ℕ) (a : List ℕ) (cs : List (List ℕ)) → AllAbove cmp a cs → AllAbove cmp (star ∷ a) (block star cs)
above-block star a [] h = tt
above-block star a (c ∷ cs) h = (less-same star a c h.0, above-block star a cs h.1)

rises-block : (star : ℕ) (cs : List (List ℕ)) → Rises cmp cs → Rises cmp (block star cs)
rises-block star [] h = tt
rises-block star (c ∷ cs) h = (above-block star c cs h.0, rises-block star cs h.1)

above-other : (s u : ℕ) (a : List ℕ) (cs : List (List ℕ)) → s < u → AllAbove cmp (s ∷ a) (block u cs)
above-other s u a [] l = tt
above-other s u a (c ∷ cs) l = (less-head s u a c l, above-other s u a cs l)

above-blocks : (s : ℕ) (a : List ℕ) (cs : List (List ℕ)) (b m : ℕ) → s < b → AllAbove cmp (s ∷ a) (blocks cs b m)
above-blocks s a cs b zero l = tt
above-blocks s a cs b (suc m) l =
    all-append (λ y. cmp (s ∷ a) y ≡ Less) (block b cs) (blocks cs (b + 1) m) (above-other s b a cs l) (above-blocks s a cs (b + 1) m (omega arith))

rises-append : (star : ℕ) (cs ys : List (List ℕ)) → ((a : List ℕ) → AllAbove cmp (star ∷ a) ys) → Rises cmp (block star cs) → Rises cmp ys → Rises cmp (block star cs ++ ys)
rises-append star [] ys below h k = k
rises-append star (c ∷ cs) ys below h k =
    (all-append (λ y. cmp (star ∷ c) y ≡ Less) (block star cs) ys h.0 (below c), rises-append star cs ys below h.1 k)

rises-blocks : (cs : List (List ℕ)) → Rises cmp cs → (a m : ℕ) → Rises cmp (blocks cs a m)
rises-blocks cs h a zero = tt
rises-blocks cs h a (suc m) =
    rises-append a cs (blocks cs (a + 1) m) (λ c. above-blocks a c cs (a + 1) m (omega arith)) (rises-block a cs h) (rises-blocks cs h (a + 1) m)

pub rise : (k n : ℕ) → Rise k n
rise k zero = (tt, tt)
rise k (suc n) = rises-blocks (choices k n) (rise k n) 0 k
