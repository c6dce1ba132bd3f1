-- A map whose keys are standings keeps spans in order.
use Rattle.std.proofs.Common.{◌≡◌, ℕ, ◌+◌, ◌<◌, List, [], ◌∷◌, ◌++◌, map, refl, ap, sym, if◌then◌else◌, arith}
use Rattle.std.specs.declared.cmp.Ordering.{Ordering}
use Rattle.std.specs.declared.cmp.Ordering.TheVariants.{Less, Equal, Greater}
use Rattle.std.specs.Ordering.{nat_cmp, ordering_then, match_ordering, is_lt}
use Rattle.std.specs.Cmp.{nat_cmp_is}
use Rattle.std.specs.BTreeMap.{insert_entry}
use Rattle.rl_value.specs.Plain.{Plain}
use Rattle.rl_trees.specs.declared.walk.Span.{Span}
use Rattle.rl_trees.specs.Order.{span_cmp, put, put_all}
use Rattle.rl_trees.specs.Standing.{Standing, standing_cmp, standing, span_of}

-- each place is below n
abbrev pub AllBelow : ℕ → List (Standing × Plain) → Type 0
AllBelow n [] = Unit {0}
AllBelow n (e ∷ es) = (e.0.2 < n) × AllBelow n es

above : (n p : ℕ) → p < n → nat_cmp n p ≡ Greater
above n p h = sym (nat_cmp_is n p Greater h)

chosen : (o q : Ordering) (a b c : List (Standing × Plain)) (front behind : List Span) → q ≡ Greater → map span_of a ≡ front → map span_of c ≡ behind
    → map span_of (match_ordering (ordering_then o q) a b c) ≡ (if is_lt o then front else behind)
chosen Less q a b c front behind g f h = f
chosen Equal q a b c front behind g f h = rw g h
chosen Greater q a b c front behind g f h = h

pub inserted_is_put : (es : List (Standing × Plain)) (n : ℕ) (s : Span) → AllBelow n es
    → map span_of (insert_entry standing_cmp es (standing n s) s.tree) ≡ put s (map span_of es)
inserted_is_put [] n s b = refl
inserted_is_put (e ∷ es) n s b =
    chosen (span_cmp s (span_of e)) (nat_cmp n e.0.2) ((standing n s, s.tree) ∷ e ∷ es) ((e.0, s.tree) ∷ es)
    (e ∷ insert_entry standing_cmp es (standing n s) s.tree) (s ∷ map span_of (e ∷ es)) (span_of e ∷ put s (map span_of es))
    (above n e.0.2 b.0) refl (ap (λ rs. span_of e ∷ rs) (inserted_is_put es n s b.1))

still_below : (es : List (Standing × Plain)) (n : ℕ) → AllBelow n es → AllBelow (n + 1) es
still_below [] n b = tt
still_below (e ∷ es) n b = (omega (arith, b.0), still_below es n b.1)

below_each : (n : ℕ) (o : Ordering) (a b c : List (Standing × Plain)) → AllBelow n a → AllBelow n b → AllBelow n c → AllBelow n (match_ordering o a b c)
below_each n Less a b c p q r = p
below_each n Equal a b c p q r = q
below_each n Greater a b c p q r = r

pub inserted_below : (es : List (Standing × Plain)) (n : ℕ) (s : Span) → AllBelow n es
    → AllBelow (n + 1) (insert_entry standing_cmp es (standing n s) s.tree)
inserted_below [] n s b = (omega arith, tt)
inserted_below (e ∷ es) n s b =
    let here : e.0.2 < n + 1 = omega (arith, b.0) in
    below_each (n + 1) (standing_cmp (standing n s) e.0) ((standing n s, s.tree) ∷ e ∷ es) ((e.0, s.tree) ∷ es)
    (e ∷ insert_entry standing_cmp es (standing n s) s.tree)
    (omega arith, (here, still_below es n b.1)) (here, still_below es n b.1) (here, inserted_below es n s b.1)

-- one more span behind the others
pub put_more : (rs ss : List Span) (s : Span) → put_all rs (ss ++ s ∷ []) ≡ put s (put_all rs ss)
put_more rs [] s = refl
put_more rs (r ∷ ss) s = put_more (put r rs) ss s
