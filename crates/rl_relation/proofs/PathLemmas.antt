-- The closure has exactly the pairs that are joined by a path.
use Rattle.std.proofs.Common.{◌≡◌, ℕ, zero, suc, ◌⊎◌, inl, inr, Bool, true, false, cond, ◌&&◌, List, [], ◌∷◌, ◌++◌, map, filter, ◌+◌, ◌<◌, ◌≤◌, length, get_or, take, refl, ap, sym, ◌∙◌, subst, arith}
use Rattle.std.proofs.lemmas.Bool.{cases_lt}
use Rattle.std.specs.List.{list_all}
use Rattle.rl_value.specs.Plain.{Plain, tuple, nil, cons}
use Rattle.std.specs.declared.cmp.Ordering.{Ordering}
use Rattle.std.specs.declared.cmp.Ordering.TheVariants.{Less, Equal, Greater}
use Rattle.std.specs.Ordering.{is_eq}
use Rattle.rl_value.specs.Order.{plain_cmp}
use Rattle.rl_value.specs.Laws.{plain_eq, plain_same, plain_exact, plain_eq_itself}
use Rattle.rl_value.specs.Rising.{In}
use Rattle.rl_access.specs.Rows.{begins_with, rest_of, rests}
use Rattle.rl_relation.specs.Pairs.{is_pair, pair_of, first_of, second_of}
use Rattle.rl_relation.specs.Closures.{starts, products, bridged, closure, leads, Leads, GrowsBy}

-- ---- members of lists
pub In-left : {K : Type 0} (x : K) (xs ys : List K) → In x xs → In x (xs ++ ys)
In-left x [] ys h = absurd h
In-left x (z ∷ zs) ys (inl e) = inl e
In-left x (z ∷ zs) ys (inr h) = inr (In-left x zs ys h)

pub In-right : {K : Type 0} (x : K) (xs ys : List K) → In x ys → In x (xs ++ ys)
In-right x [] ys h = h
In-right x (z ∷ zs) ys h = inr (In-right x zs ys h)

pub In-either : {K : Type 0} (x : K) (xs ys : List K) → In x (xs ++ ys) → In x xs ⊎ In x ys
In-either x [] ys h = inr h
In-either x (z ∷ zs) ys (inl e) = inl (inl e)
In-either x (z ∷ zs) ys (inr h) = by (In-either x zs ys h)
  where
    by : In x zs ⊎ In x ys → In x (z ∷ zs) ⊎ In x ys
    by (inl k) = inl (inr k)
    by (inr k) = inr k

pub In-map : (f : Plain → Plain) (x : Plain) (xs : List Plain) → In x xs → In (f x) (map f xs)
In-map f x [] h = absurd h
In-map f x (z ∷ zs) (inl e) = inl (ap f e)
In-map f x (z ∷ zs) (inr h) = inr (In-map f x zs h)

pub In-mapped : (f : Plain → Plain) (y : Plain) (xs : List Plain) → In y (map f xs) → (x : Plain) × In x xs × (y ≡ f x)
In-mapped f y [] h = absurd h
In-mapped f y (z ∷ zs) (inl e) = (z, inl refl, e)
In-mapped f y (z ∷ zs) (inr h) = let r = In-mapped f y zs h in (r.0, inr r.1, r.2)

both : (a b : Bool) → (a && b) ≡ true → (a ≡ true) × (b ≡ true)
both true b e = (refl, e)
both false b e = cc

pub pair_shape : (p : Plain) → is_pair p ≡ true → p ≡ pair_of (first_of p) (second_of p)
pair_shape (tuple (cons x (cons y nil))) e = refl
pair_shape t e = cc

-- ---- what stands behind a first part, and in front of a second
filter-true : (t : Plain → Bool) (z : Plain) (zs : List Plain) → t z ≡ true → filter t (z ∷ zs) ≡ z ∷ filter t zs
filter-true t z zs e = rw e refl

filter-false : (t : Plain → Bool) (z : Plain) (zs : List Plain) → t z ≡ false → filter t (z ∷ zs) ≡ filter t zs
filter-false t z zs e = rw e refl

keep_in : (t : Plain → Bool) (x z : Plain) (zs : List Plain) (b : Bool) → t z ≡ b → In x (filter t zs) → In x (filter t (z ∷ zs))
keep_in t x z zs true e h = subst (In x) (sym (filter-true t z zs e)) (inr h)
keep_in t x z zs false e h = subst (In x) (sym (filter-false t z zs e)) h

filter-in : (t : Plain → Bool) (x : Plain) (xs : List Plain) → t x ≡ true → In x xs → In x (filter t xs)
filter-in t x [] e h = absurd h
filter-in t x (z ∷ zs) e (inl f) = subst (In x) (sym (filter-true t z zs (ap t (sym f) ∙ e))) (inl f)
filter-in t x (z ∷ zs) e (inr h) = keep_in t x z zs (t z) refl (filter-in t x zs e h)

kept_from : (t : Plain → Bool) (x z : Plain) (zs : List Plain) (b : Bool) → t z ≡ b → (In x (filter t zs) → In x zs × (t x ≡ true)) → In x (filter t (z ∷ zs)) → In x (z ∷ zs) × (t x ≡ true)
kept_from t x z zs true e later h = by (subst (In x) (filter-true t z zs e) h)
  where
    by : (x ≡ z) ⊎ In x (filter t zs) → In x (z ∷ zs) × (t x ≡ true)
    by (inl f) = (inl f, ap t f ∙ e)
    by (inr k) = let r = later k in (inr r.0, r.1)
kept_from t x z zs false e later h = let r = later (subst (In x) (filter-false t z zs e) h) in (inr r.0, r.1)

filter-from : (t : Plain → Bool) (x : Plain) (xs : List Plain) → In x (filter t xs) → In x xs × (t x ≡ true)
filter-from t x [] h = absurd h
filter-from t x (z ∷ zs) h = kept_from t x z zs (t z) refl (filter-from t x zs) h

-- all of them are pairs
abbrev pub Pairs : List Plain → Type 0
Pairs ps = (p : Plain) → In p ps → is_pair p ≡ true

pub pairs_from : (ps : List Plain) → list_all is_pair ps ≡ true → Pairs ps
pairs_from [] e p h = absurd h
pairs_from (q ∷ qs) e p (inl f) = ap is_pair f ∙ (both (is_pair q) (list_all is_pair qs) e).0
pairs_from (q ∷ qs) e p (inr h) = pairs_from qs (both (is_pair q) (list_all is_pair qs) e).1 p h

begins_same : (x z : Plain) → begins_with x (pair_of x z) ≡ true
begins_same x z = plain_eq_itself x x refl

pub rests-in : (x z : Plain) (ps : List Plain) → In (pair_of x z) ps → In z (rests x ps)
rests-in x z ps h = In-map rest_of (pair_of x z) (filter (begins_with x) ps) (filter-in (begins_with x) (pair_of x z) ps (begins_same x z) h)

begun : (x p : Plain) → is_pair p ≡ true → begins_with x p ≡ true → p ≡ pair_of x (rest_of p)
begun x (tuple (cons u (cons v nil))) e f = ap (λ w. pair_of w v) (plain_same u x f)
begun x p e f = cc

pub rests-from : (x z : Plain) (ps : List Plain) → Pairs ps → In z (rests x ps) → In (pair_of x z) ps
rests-from x z ps all h =
    let m = In-mapped rest_of z (filter (begins_with x) ps) h in
    let f = filter-from (begins_with x) m.0 ps m.1 in
    subst (λ p. In p ps) (begun x m.0 (all m.0 f.0) f.1 ∙ ap (pair_of x) (sym m.2)) f.0

starts-in : (x y : Plain) (r : List Plain) → In (pair_of x y) r → In x (starts y r)
starts-in x y r h = In-map first_of (pair_of x y) (filter (λ q. plain_eq (second_of q) y) r) (filter-in (λ q. plain_eq (second_of q) y) (pair_of x y) r (plain_eq_itself y y refl) h)

ended : (y p : Plain) → is_pair p ≡ true → plain_eq (second_of p) y ≡ true → p ≡ pair_of (first_of p) y
ended y (tuple (cons u (cons v nil))) e f = ap (pair_of u) (plain_same v y f)
ended y p e f = cc

starts-from : (x y : Plain) (r : List Plain) → Pairs r → In x (starts y r) → In (pair_of x y) r
starts-from x y r all h =
    let m = In-mapped first_of x (filter (λ q. plain_eq (second_of q) y) r) h in
    let f = filter-from (λ q. plain_eq (second_of q) y) m.0 r m.1 in
    subst (λ p. In p r) (ended y m.0 (all m.0 f.0) f.1 ∙ ap (λ u. pair_of u y) (sym m.2)) f.0

products-in : (x z : Plain) (xs ys : List Plain) → In x xs → In z ys → In (pair_of x z) (products xs ys)
products-in x z [] ys h k = absurd h
products-in x z (u ∷ us) ys (inl e) k = In-left (pair_of x z) (map (pair_of u) ys) (products us ys) (subst (λ w. In (pair_of x z) (map (pair_of w) ys)) e (In-map (pair_of x) z ys k))
products-in x z (u ∷ us) ys (inr h) k = In-right (pair_of x z) (map (pair_of u) ys) (products us ys) (products-in x z us ys h k)

products-from : (p : Plain) (xs ys : List Plain) → In p (products xs ys) → (x : Plain) × (z : Plain) × (p ≡ pair_of x z) × In x xs × In z ys
products-from p [] ys h = absurd h
products-from p (u ∷ us) ys h = by (In-either p (map (pair_of u) ys) (products us ys) h) (products-from p us ys)
  where
    by : In p (map (pair_of u) ys) ⊎ In p (products us ys) → (In p (products us ys) → (x : Plain) × (z : Plain) × (p ≡ pair_of x z) × In x us × In z ys)
        → (x : Plain) × (z : Plain) × (p ≡ pair_of x z) × In x (u ∷ us) × In z ys
    by (inl k) later = let m = In-mapped (pair_of u) p ys k in (u, m.0, m.2, inl refl, m.1)
    by (inr k) later = let r = later k in (r.0, r.1, r.2, inr r.3, r.4)

pair_same : (x z u v : Plain) → pair_of x z ≡ pair_of u v → (x ≡ u) × (z ≡ v)
pair_same x z u v e = (ap first_of e, ap second_of e)

pub closure_pairs : (ps : List Plain) → Pairs (closure ps)
closure_pairs [] p h = absurd h
closure_pairs (q ∷ qs) p h = by (closure_pairs qs) (In-either p (closure qs) (bridged (closure qs) q) h)
  where
    by : Pairs (closure qs) → In p (closure qs) ⊎ In p (bridged (closure qs) q) → is_pair p ≡ true
    by later (inl k) = later p k
    by later (inr k) = let r = products-from p (first_of q ∷ starts (first_of q) (closure qs)) (second_of q ∷ rests (second_of q) (closure qs)) k in ap is_pair r.2

-- ---- paths
Pairs-tail : (p : Plain) (ps : List Plain) → Pairs (p ∷ ps) → Pairs ps
Pairs-tail p ps all q h = all q (inr h)

edge_more : (p : Plain) (ps : List Plain) (x z : Plain) → Pairs (p ∷ ps) → In z (rests x ps) → In z (rests x (p ∷ ps))
edge_more p ps x z all h = rests-in x z (p ∷ ps) (inr (rests-from x z ps (Pairs-tail p ps all) h))

leads_more : (p : Plain) (ps : List Plain) (n : ℕ) (x z : Plain) → Pairs (p ∷ ps) → leads ps n x z → leads (p ∷ ps) n x z
leads_more p ps zero x z all h = edge_more p ps x z all h
leads_more p ps (suc n) x z all (y, h, k) = (y, leads_more p ps n x y all h, edge_more p ps y z all k)

Leads_more : (p : Plain) (ps : List Plain) (x z : Plain) → Pairs (p ∷ ps) → Leads ps x z → Leads (p ∷ ps) x z
Leads_more p ps x z all (n, h) = (n, leads_more p ps n x z all h)

Leads_edge : (ps : List Plain) (x y z : Plain) → Leads ps x y → In z (rests y ps) → Leads ps x z
Leads_edge ps x y z (n, h) k = (suc n, (y, h, k))

leads_on : (ps : List Plain) (n : ℕ) (x y z : Plain) → Leads ps x y → leads ps n y z → Leads ps x z
leads_on ps zero x y z h k = Leads_edge ps x y z h k
leads_on ps (suc n) x y z h (w, k, l) = Leads_edge ps x w z (leads_on ps n x y w h k) l

-- x is a, or leads to it
Before : List Plain → Plain → Plain → Type 0
Before r a x = (x ≡ a) ⊎ In (pair_of x a) r

module _ (p : Plain) (ps : List Plain) (all : Pairs (p ∷ ps)) (sound : (x z : Plain) → In (pair_of x z) (closure ps) → Leads ps x z)
    (whole : (x z : Plain) → Leads ps x z → In (pair_of x z) (closure ps)) where
  r : List Plain
  r = closure ps

  rest_pairs : Pairs ps
  rest_pairs = Pairs-tail p ps all

  abbrev From : Plain → Type 0
  From x = (x ≡ first_of p) ⊎ In (pair_of x (first_of p)) (closure ps)

  abbrev To : Plain → Type 0
  To z = (z ≡ second_of p) ⊎ In (pair_of (second_of p) z) (closure ps)

  bridge : (x z : Plain) → From x → To z → In (pair_of x z) (closure (p ∷ ps))
  bridge x z f t = In-right (pair_of x z) (closure ps) (bridged (closure ps) p) (products-in x z (first_of p ∷ starts (first_of p) (closure ps)) (second_of p ∷ rests (second_of p) (closure ps)) (from f) (to t))
    where
      from : From x → In x (first_of p ∷ starts (first_of p) (closure ps))
      from (inl e) = inl e
      from (inr h) = inr (starts-in x (first_of p) (closure ps) h)

      to : To z → In z (second_of p ∷ rests (second_of p) (closure ps))
      to (inl e) = inl e
      to (inr h) = inr (rests-in (second_of p) z (closure ps) h)

  old : (x z : Plain) → In (pair_of x z) (closure ps) → In (pair_of x z) (closure (p ∷ ps))
  old x z h = In-left (pair_of x z) (closure ps) (bridged (closure ps) p) h

  split : (x z : Plain) → In (pair_of x z) (closure (p ∷ ps)) → In (pair_of x z) (closure ps) ⊎ (From x × To z)
  split x z h = by (In-either (pair_of x z) (closure ps) (bridged (closure ps) p) h)
    where
      from : (u : Plain) → x ≡ u → In u (first_of p ∷ starts (first_of p) (closure ps)) → From x
      from u e (inl f) = inl (e ∙ f)
      from u e (inr k) = inr (subst (λ w. In (pair_of w (first_of p)) (closure ps)) (sym e) (starts-from u (first_of p) (closure ps) (closure_pairs ps) k))

      to : (v : Plain) → z ≡ v → In v (second_of p ∷ rests (second_of p) (closure ps)) → To z
      to v e (inl f) = inl (e ∙ f)
      to v e (inr k) = inr (subst (λ w. In (pair_of (second_of p) w) (closure ps)) (sym e) (rests-from (second_of p) v (closure ps) (closure_pairs ps) k))

      by : In (pair_of x z) (closure ps) ⊎ In (pair_of x z) (bridged (closure ps) p) → In (pair_of x z) (closure ps) ⊎ (From x × To z)
      by (inl k) = inl k
      by (inr k) =
          let m = products-from (pair_of x z) (first_of p ∷ starts (first_of p) (closure ps)) (second_of p ∷ rests (second_of p) (closure ps)) k in
          let e = pair_same x z m.0 m.1 m.2 in
          inr (from m.0 e.0 m.3, to m.1 e.1 m.4)

  here : In (second_of p) (rests (first_of p) (p ∷ ps))
  here = rests-in (first_of p) (second_of p) (p ∷ ps) (inl (sym (pair_shape p (all p (inl refl)))))

  sound_more : (x z : Plain) → In (pair_of x z) (closure (p ∷ ps)) → Leads (p ∷ ps) x z
  sound_more x z h = by (split x z h)
    where
      reached : From x → Leads (p ∷ ps) x (second_of p)
      reached (inl e) = (zero, subst (λ w. In (second_of p) (rests w (p ∷ ps))) (sym e) here)
      reached (inr k) = Leads_edge (p ∷ ps) x (first_of p) (second_of p) (Leads_more p ps x (first_of p) all (sound x (first_of p) k)) here

      onward : Leads (p ∷ ps) x (second_of p) → To z → Leads (p ∷ ps) x z
      onward l (inl e) = subst (Leads (p ∷ ps) x) (sym e) l
      onward l (inr k) = let m = Leads_more p ps (second_of p) z all (sound (second_of p) z k) in leads_on (p ∷ ps) m.0 x (second_of p) z l m.1

      by : In (pair_of x z) (closure ps) ⊎ (From x × To z) → Leads (p ∷ ps) x z
      by (inl k) = Leads_more p ps x z all (sound x z k)
      by (inr (f, t)) = onward (reached f) t

  -- a pair of the relation is p or one of ps
  edge : (y z : Plain) → In z (rests y (p ∷ ps)) → ((y ≡ first_of p) × (z ≡ second_of p)) ⊎ In z (rests y ps)
  edge y z h = by (rests-from y z (p ∷ ps) all h)
    where
      by : (pair_of y z ≡ p) ⊎ In (pair_of y z) ps → ((y ≡ first_of p) × (z ≡ second_of p)) ⊎ In z (rests y ps)
      by (inl e) = inl (ap first_of e, ap second_of e)
      by (inr k) = inr (rests-in y z ps k)

  longer : (x y z : Plain) → In (pair_of x y) (closure (p ∷ ps)) → In z (rests y (p ∷ ps)) → In (pair_of x z) (closure (p ∷ ps))
  longer x y z h k = by (split x y h) (edge y z k)
    where
      on : (u : Plain) → In (pair_of u y) (closure ps) → In z (rests y ps) → In (pair_of u z) (closure ps)
      on u m l = whole u z (Leads_edge ps u y z (sound u y m) l)

      after : To y → In z (rests y ps) → To z
      after (inl e) l = inr (whole (second_of p) z (zero, subst (λ w. In z (rests w ps)) e l))
      after (inr m) l = inr (on (second_of p) m l)

      by : In (pair_of x y) (closure ps) ⊎ (From x × To y) → ((y ≡ first_of p) × (z ≡ second_of p)) ⊎ In z (rests y ps) → In (pair_of x z) (closure (p ∷ ps))
      by (inl m) (inl (e, f)) = bridge x z (inr (subst (λ w. In (pair_of x w) (closure ps)) e m)) (inl f)
      by (inl m) (inr l) = old x z (on x m l)
      by (inr (f, t)) (inl (e, g)) = bridge x z f (inl g)
      by (inr (f, t)) (inr l) = bridge x z f (after t l)

  first_step : (x z : Plain) → In z (rests x (p ∷ ps)) → In (pair_of x z) (closure (p ∷ ps))
  first_step x z h = by (edge x z h)
    where
      by : ((x ≡ first_of p) × (z ≡ second_of p)) ⊎ In z (rests x ps) → In (pair_of x z) (closure (p ∷ ps))
      by (inl (e, f)) = bridge x z (inl e) (inl f)
      by (inr k) = old x z (whole x z (zero, k))

whole_more : (p : Plain) (ps : List Plain) (all : Pairs (p ∷ ps)) (sound : (x z : Plain) → In (pair_of x z) (closure ps) → Leads ps x z)
    (whole : (x z : Plain) → Leads ps x z → In (pair_of x z) (closure ps)) (n : ℕ) (x z : Plain) → leads (p ∷ ps) n x z → In (pair_of x z) (closure (p ∷ ps))
whole_more p ps all sound whole zero x z h = first_step p ps all sound whole x z h
whole_more p ps all sound whole (suc n) x z (y, h, k) = longer p ps all sound whole x y z (whole_more p ps all sound whole n x y h) k

leads_none : (n : ℕ) (x z : Plain) → leads [] n x z → ⊥
leads_none zero x z h = h
leads_none (suc n) x z (y, h, k) = k

-- the closure has just the pairs that a path joins
pub closure_is : (ps : List Plain) → Pairs ps → ((x z : Plain) → In (pair_of x z) (closure ps) → Leads ps x z) × ((x z : Plain) → Leads ps x z → In (pair_of x z) (closure ps))
closure_is [] all = (λ x z h. absurd h, λ x z (n, h). leads_none n x z h)
closure_is (p ∷ ps) all =
    let later = closure_is ps (Pairs-tail p ps all) in
    (sound_more p ps all later.0 later.1, λ x z (n, h). whole_more p ps all later.0 later.1 n x z h)

-- ---- a list that grows
pub In-last : (x : Plain) (xs : List Plain) → In x (xs ++ (x ∷ []))
In-last x xs = In-right x xs (x ∷ []) (inl refl)

append_none : (xs : List Plain) → xs ≡ xs ++ []
append_none [] = refl
append_none (x ∷ xs) = ap (λ ys. x ∷ ys) (append_none xs)

append_more : (xs ys zs : List Plain) → (xs ++ ys) ++ zs ≡ xs ++ (ys ++ zs)
append_more [] ys zs = refl
append_more (x ∷ xs) ys zs = ap (λ us. x ∷ us) (append_more xs ys zs)

pub grows_none : (ys xs : List Plain) → GrowsBy ys xs xs
grows_none ys xs = ([], append_none xs, λ z h. absurd h)

pub grows_one : (ys old mid new : List Plain) (y : Plain) → In y ys → GrowsBy ys old mid → (new ≡ mid) ⊎ (new ≡ mid ++ (y ∷ [])) → GrowsBy ys old new
grows_one ys old mid new y h (added, e, f) (inl g) = (added, g ∙ e, f)
grows_one ys old mid new y h (added, e, f) (inr g) = (added ++ (y ∷ []), g ∙ ap (λ us. us ++ (y ∷ [])) e ∙ append_more old added (y ∷ []), λ z k. by z (In-either z added (y ∷ []) k))
  where
    by : (z : Plain) → In z added ⊎ In z (y ∷ []) → In z ys
    by z (inl k) = f z k
    by z (inr (inl k)) = subst (λ w. In w ys) (sym k) h
    by z (inr (inr k)) = absurd k

pub grows_in : (ys old new : List Plain) → GrowsBy ys old new → (z : Plain) → In z old → In z new
grows_in ys old new (added, e, f) z h = subst (In z) (sym e) (In-left z old added h)

pub grows_from : (ys old new : List Plain) → GrowsBy ys old new → (z : Plain) → In z new → In z old ⊎ In z ys
grows_from ys old new (added, e, f) z h = by (In-either z old added (subst (In z) e h))
  where
    by : In z old ⊎ In z added → In z old ⊎ In z ys
    by (inl k) = inl k
    by (inr k) = inr (f z k)

get_or-left : (xs ys : List Plain) (k : ℕ) (d : Plain) → k < length xs → get_or (xs ++ ys) k d ≡ get_or xs k d
get_or-left [] ys k d h = absurd (omega arith)
get_or-left (x ∷ xs) ys zero d h = refl
get_or-left (x ∷ xs) ys (suc k) d h = get_or-left xs ys k d (omega arith)

pub grows_at : (ys old new : List Plain) → GrowsBy ys old new → (k : ℕ) (d : Plain) → k < length old → get_or new k d ≡ get_or old k d
grows_at ys old new (added, e, f) k d h = ap (λ us. get_or us k d) e ∙ get_or-left old added k d h

pub In-at : (xs : List Plain) (i : ℕ) (x : Plain) → i < length xs → x ≡ get_or xs i x → In x xs
In-at [] i x h e = absurd (omega arith)
In-at (y ∷ ys) zero x h e = inl e
In-at (y ∷ ys) (suc i) x h e = inr (In-at ys i x (omega arith) e)

pub place_of : (xs : List Plain) (x : Plain) → In x xs → (k : ℕ) × (k < length xs) × ((d : Plain) → get_or xs k d ≡ x)
place_of [] x h = absurd h
place_of (y ∷ ys) x (inl e) = (zero, omega arith, λ d. sym e)
place_of (y ∷ ys) x (inr h) = let r = place_of ys x h in (suc r.0, omega (arith, r.1), r.2)

-- one more of the values in front of a place
pub In-more : (z : Plain) (vs : List Plain) (i : ℕ) (v : Plain) → i < length vs → v ≡ get_or vs i v → In z (take (i + 1) vs) → In z (take i vs) ⊎ (z ≡ v)
In-more z [] i v h e l = absurd (omega arith)
In-more z (u ∷ us) zero v h e l = by (front l)
  where
    front : In z (take (zero + 1) (u ∷ us)) → (z ≡ u) ⊎ ⊥
    front m = m

    by : (z ≡ u) ⊎ ⊥ → ⊥ ⊎ (z ≡ v)
    by (inl m) = inr (m ∙ sym e)
    by (inr m) = absurd m
In-more z (u ∷ us) (suc i) v h e l = by (In-more z us i v (omega arith) e) (front l)
  where
    front : In z (take (suc i + 1) (u ∷ us)) → (z ≡ u) ⊎ In z (take (i + 1) us)
    front m = let n : suc i + 1 ≡ suc (i + 1) = omega arith in rw n at m

    by : (In z (take (i + 1) us) → In z (take i us) ⊎ (z ≡ v)) → (z ≡ u) ⊎ In z (take (i + 1) us) → ((z ≡ u) ⊎ In z (take i us)) ⊎ (z ≡ v)
    by later (inl m) = inl (inl m)
    by later (inr m) = on (later m)
      where
        on : In z (take i us) ⊎ (z ≡ v) → ((z ≡ u) ⊎ In z (take i us)) ⊎ (z ≡ v)
        on (inl k) = inl (inr k)
        on (inr k) = inr k

pub has_more : (vs xs ys : List Plain) (i : ℕ) (v : Plain) → i < length vs → v ≡ get_or vs i v → ((z : Plain) → In z (take i vs) → In z xs)
    → ((z : Plain) → In z xs → In z ys) → In v ys → (z : Plain) → In z (take (i + 1) vs) → In z ys
has_more vs xs ys i v h e f g k z l = by (In-more z vs i v h e l)
  where
    by : In z (take i vs) ⊎ (z ≡ v) → In z ys
    by (inl m) = g z (f z m)
    by (inr m) = subst (λ w. In w ys) (sym m) k

pub one_in : (mid new : List Plain) (y : Plain) → (new ≡ mid) ⊎ (new ≡ mid ++ (y ∷ [])) → (z : Plain) → In z mid → In z new
one_in mid new y (inl e) z h = subst (In z) (sym e) h
one_in mid new y (inr e) z h = subst (In z) (sym e) (In-left z mid (y ∷ []) h)

-- what was seen after one more was
pub seen_from : (key q : Plain) (old new : Bool) → new ≡ cond (is_eq (plain_cmp key q)) true old → new ≡ true → (old ≡ true) ⊎ (q ≡ key)
seen_from key q old new e f = by (plain_cmp key q) refl (sym e ∙ f)
  where
    by : (o : Ordering) → plain_cmp key q ≡ o → cond (is_eq o) true old ≡ true → (old ≡ true) ⊎ (q ≡ key)
    by Less g h = inl h
    by Equal g h = inr (sym (plain_exact key q g))
    by Greater g h = inl h

pub take_all : (vs : List Plain) (i : ℕ) → length vs ≤ i → take i vs ≡ vs
take_all [] zero h = refl
take_all [] (suc i) h = refl
take_all (v ∷ vs) zero h = absurd (omega arith)
take_all (v ∷ vs) (suc i) h = ap (λ us. v ∷ us) (take_all vs i (omega arith))

-- ---- a walk along the pairs
pub record Walks (ps : List Plain) (x : Plain) (found : List Plain) (n : ℕ) : Type 0 where
  pub reached : (z : Plain) → In z found → Leads ps x z
  pub first : (z : Plain) → In z (rests x ps) → In z found
  pub onward : (k : ℕ) (d : Plain) → k < n → k < length found → (z : Plain) → In z (rests (get_or found k d) ps) → In z found

pub walks_start : (ps : List Plain) (x : Plain) (found : List Plain) → GrowsBy (rests x ps) [] found → ((z : Plain) → In z (rests x ps) → In z found) → Walks ps x found 0
walks_start ps x found g h = record {
  reached = λ z k. (zero, by z (grows_from (rests x ps) [] found g z k));
  first = h;
  onward = λ k d l m z n. absurd (omega arith);
}
  where
    by : (z : Plain) → ⊥ ⊎ In z (rests x ps) → In z (rests x ps)
    by z (inl k) = absurd k
    by z (inr k) = k

pub walks_on : (ps : List Plain) (x y : Plain) (found new : List Plain) (n : ℕ) → n < length found → y ≡ get_or found n y → Walks ps x found n
    → GrowsBy (rests y ps) found new → ((z : Plain) → In z (rests y ps) → In z new) → Walks ps x new (n + 1)
walks_on ps x y found new n l e w g h = record {
  reached = λ z k. by z (grows_from (rests y ps) found new g z k);
  first = λ z k. grows_in (rests y ps) found new g z (w.first z k);
  onward = λ k d m o z i. on k d (cases_lt k n) m z i;
}
  where
    by : (z : Plain) → In z found ⊎ In z (rests y ps) → Leads ps x z
    by z (inl k) = w.reached z k
    by z (inr k) = Leads_edge ps x y z (w.reached y (In-at found n y l e)) k

    same : (k : ℕ) (d : Plain) → k ≡ n → get_or found k d ≡ y
    same k d m = rw m (default n found l d ∙ sym e)
      where
        default : (n : ℕ) (xs : List Plain) → n < length xs → (d : Plain) → get_or xs n d ≡ get_or xs n y
        default n [] h d = absurd (omega arith)
        default zero (u ∷ us) h d = refl
        default (suc n) (u ∷ us) h d = default n us (omega arith) d

    on : (k : ℕ) (d : Plain) → (k < n) ⊎ (n ≤ k) → k < n + 1 → (z : Plain) → In z (rests (get_or new k d) ps) → In z new
    on k d (inl m) o z i =
        let at : get_or new k d ≡ get_or found k d = grows_at (rests y ps) found new g k d (omega arith) in
        grows_in (rests y ps) found new g z (w.onward k d m (omega arith) z (subst (λ u. In z (rests u ps)) at i))
    on k d (inr m) o z i =
        let at : get_or new k d ≡ y = grows_at (rests y ps) found new g k d (omega arith) ∙ same k d (omega arith) in
        h z (subst (λ u. In z (rests u ps)) at i)

pub walks_whole : (ps : List Plain) (x : Plain) (found : List Plain) (n : ℕ) → length found ≤ n → Walks ps x found n → (z : Plain) → Leads ps x z → In z found
walks_whole ps x found n h w z (m, l) = by m z l
  where
    by : (m : ℕ) (z : Plain) → leads ps m x z → In z found
    by zero z l = w.first z l
    by (suc m) z (y, l, k) =
        let at = place_of found y (by m y l) in
        w.onward at.0 y (omega (arith, at.1)) at.1 z (subst (λ u. In z (rests u ps)) (sym (at.2 y)) k)
