-- Scopes with notes laid over them.
use Rattle.std.proofs.Common.{◌≡◌, ℕ, zero, suc, ◌<◌, ◌≤◌, Bool, true, false, cond, List, [], ◌∷◌, ◌++◌, length, take, Option, Some, None, refl, sym, ap, ◌∙◌, arith}
use Rattle.std.specs.Option.{unwrap_or}
use Rattle.std.specs.Ordering.{nat_cmp, ordering_then, is_eq, MatchOrdering}
use Rattle.std.specs.declared.cmp.Ordering.{Ordering}
use Rattle.std.specs.declared.cmp.Ordering.TheVariants.{Less, Equal, Greater}
use Rattle.std.specs.Cmp.{IsTotalOrder, nat_cmp_is, ranked}
use Rattle.std.proofs.lemmas.Cmp.{then_total, on_total, nat_cmp_total}
use Rattle.std.specs.FinMap.{IsAntisymmetric, nat_cmp-IsAntisymmetric, get, find, entries, from_entries, get-insert, get-remove, get-entries, get-from_entries, same_map}
use Rattle.rl_value.specs.Plain.{Plain}
use Rattle.rl_store.specs.Scope.{Scope, changed, value_at, changed_at}
use Rattle.rl_store.specs.Store.{Key, key_cmp, Noted, laid, laid_entries}

pub key_total : IsTotalOrder key_cmp
key_total = then_total (on_total (λ (k : Key). k.0) nat_cmp_total) (on_total (λ (k : Key). k.1) nat_cmp_total)

same_then : (a b : Ordering) → ordering_then a b ≡ Equal → (a ≡ Equal) × (b ≡ Equal)
same_then Less b e = (cc)
same_then Equal b e = (refl, e)
same_then Greater b e = (cc)

pub key_same : IsAntisymmetric key_cmp
key_same x y e =
    let h = same_then (nat_cmp x.0 y.0) (nat_cmp x.1 y.1) e in
    λ i. (nat_cmp-IsAntisymmetric x.0 y.0 h.0 i, nat_cmp-IsAntisymmetric x.1 y.1 h.1 i)

pub is_eq-Equal : (o : Ordering) → is_eq o ≡ true → o ≡ Equal
is_eq-Equal Less e = (cc)
is_eq-Equal Equal e = refl
is_eq-Equal Greater e = (cc)

shifted : (m n : ℕ) (r : Ordering) → MatchOrdering r (m < n) (m ≡ n) (n < m) → MatchOrdering r (suc m < suc n) (suc m ≡ suc n) (suc n < suc m)
shifted m n Less h = omega arith
shifted m n Equal h = ap suc h
shifted m n Greater h = omega arith

pub nat_cmp-suc : (m n : ℕ) → nat_cmp (suc m) (suc n) ≡ nat_cmp m n
nat_cmp-suc m n = sym (nat_cmp_is (suc m) (suc n) (nat_cmp m n) (shifted m n (nat_cmp m n) (ranked m n (nat_cmp m n) refl)))

pub nat_cmp-zero_suc : (n : ℕ) → nat_cmp zero (suc n) ≡ Less
nat_cmp-zero_suc n = sym (nat_cmp_is zero (suc n) Less (omega arith))

pub nat_cmp-suc_zero : (n : ℕ) → nat_cmp (suc n) zero ≡ Greater
nat_cmp-suc_zero n = sym (nat_cmp_is (suc n) zero Greater (omega arith))

pub get-changed : (s : Scope) (x : ℕ) (o : Option Plain) (y : ℕ) → get (changed s x o) y ≡ cond (is_eq (nat_cmp y x)) o (get s y)
get-changed s x None y = get-remove nat_cmp_total s x y
get-changed s x (Some v) y = get-insert nat_cmp_total s x v y

pub length-changed_at : (ss : List Scope) (p x : ℕ) (o : Option Plain) → length (changed_at ss p x o) ≡ length ss
length-changed_at [] p x o = refl
length-changed_at (s ∷ ss) zero x o = refl
length-changed_at (s ∷ ss) (suc p) x o = ap suc (length-changed_at ss p x o)

pub value_at-changed_at : (ss : List Scope) (p x : ℕ) (o : Option Plain) (q y : ℕ) → q < length ss → value_at (changed_at ss p x o) q y ≡ cond (is_eq (key_cmp (q, y) (p, x))) o (value_at ss q y)
value_at-changed_at [] p x o q y h = absurd (omega arith)
value_at-changed_at (s ∷ ss) zero x o zero y h = get-changed s x o y
value_at-changed_at (s ∷ ss) zero x o (suc q) y h = rw (nat_cmp-suc_zero q) refl
value_at-changed_at (s ∷ ss) (suc p) x o zero y h = rw (nat_cmp-zero_suc p) refl
value_at-changed_at (s ∷ ss) (suc p) x o (suc q) y h = rw (nat_cmp-suc q p) (value_at-changed_at ss p x o q y (omega arith))

same_scope : (s t : Scope) → ((x : ℕ) → get s x ≡ get t x) → s ≡ t
same_scope = same_map nat_cmp_total nat_cmp-IsAntisymmetric

pub same_scopes : (ss ts : List Scope) → length ss ≡ length ts → ((p x : ℕ) → p < length ss → value_at ss p x ≡ value_at ts p x) → ss ≡ ts
same_scopes [] [] l h = refl
same_scopes [] (t ∷ ts) l h = absurd (omega arith)
same_scopes (s ∷ ss) [] l h = absurd (omega arith)
same_scopes (s ∷ ss) (t ∷ ts) l h =
    let a : s ≡ t = same_scope s t (λ x. h zero x (omega arith)) in
    let b : ss ≡ ts = same_scopes ss ts (omega arith) (λ p x i. h (suc p) x (omega arith)) in
    λ i. a i ∷ b i

pub length-laid_entries : (es : List (Key × Option Plain)) (ss : List Scope) → length (laid_entries es ss) ≡ length ss
length-laid_entries [] ss = refl
length-laid_entries (e ∷ es) ss = length-changed_at (laid_entries es ss) e.0.0 e.0.1 e.1 ∙ length-laid_entries es ss

cond-unwrap_or : (b : Bool) (o v : Option Plain) (f : Option (Option Plain)) → cond b o (unwrap_or f v) ≡ unwrap_or (cond b (Some o) f) v
cond-unwrap_or true o v f = refl
cond-unwrap_or false o v f = refl

pub value_at-laid_entries : (es : List (Key × Option Plain)) (ss : List Scope) (p x : ℕ) → p < length ss → value_at (laid_entries es ss) p x ≡ unwrap_or (find key_cmp (p, x) es) (value_at ss p x)
value_at-laid_entries [] ss p x h = refl
value_at-laid_entries (e ∷ es) ss p x h =
    value_at-changed_at (laid_entries es ss) e.0.0 e.0.1 e.1 p x (rw (length-laid_entries es ss) h)
    ∙ ap (cond (is_eq (key_cmp (p, x) e.0)) e.1) (value_at-laid_entries es ss p x h)
    ∙ cond-unwrap_or (is_eq (key_cmp (p, x) e.0)) e.1 (value_at ss p x) (find key_cmp (p, x) es)

pub laid_entries-push : (es : List (Key × Option Plain)) (e : Key × Option Plain) (ss : List Scope) → laid_entries (es ++ e ∷ []) ss ≡ laid_entries es (changed_at ss e.0.0 e.0.1 e.1)
laid_entries-push [] e ss = refl
laid_entries-push (d ∷ es) e ss = ap (λ ts. changed_at ts d.0.0 d.0.1 d.1) (laid_entries-push es e ss)

pub value_at-laid : (m : Noted) (ss : List Scope) (p x : ℕ) → p < length ss → value_at (laid m ss) p x ≡ unwrap_or (get m (p, x)) (value_at ss p x)
value_at-laid m ss p x h = value_at-laid_entries (entries m) ss p x h ∙ ap (λ o. unwrap_or o (value_at ss p x)) (sym (get-entries m (p, x)))

pub length-laid : (m : Noted) (ss : List Scope) → length (laid m ss) ≡ length ss
length-laid m ss = length-laid_entries (entries m) ss

pub laid-from_entries : (es : List (Key × Option Plain)) (ss : List Scope) → laid (from_entries es) ss ≡ laid_entries es ss
laid-from_entries es ss =
    let m : Noted = from_entries es in
    same_scopes (laid m ss) (laid_entries es ss) (length-laid m ss ∙ sym (length-laid_entries es ss))
    (λ p x h.
    let i : p < length ss = rw (length-laid m ss) at h in
    value_at-laid m ss p x i
    ∙ ap (λ o. unwrap_or o (value_at ss p x)) (get-from_entries key_total es (p, x))
    ∙ sym (value_at-laid_entries es ss p x i))

pub value_at-take : (n : ℕ) (ss : List Scope) (p x : ℕ) → p < n → value_at (take n ss) p x ≡ value_at ss p x
value_at-take zero ss p x h = absurd (omega arith)
value_at-take (suc n) [] p x h = refl
value_at-take (suc n) (s ∷ ss) zero x h = refl
value_at-take (suc n) (s ∷ ss) (suc p) x h = value_at-take n ss p x (omega arith)

pub take-changed_at : (n : ℕ) (ss : List Scope) (p x : ℕ) (o : Option Plain) → n ≤ p → take n (changed_at ss p x o) ≡ take n ss
take-changed_at zero ss p x o h = refl
take-changed_at (suc n) [] p x o h = refl
take-changed_at (suc n) (s ∷ ss) zero x o h = absurd (omega arith)
take-changed_at (suc n) (s ∷ ss) (suc p) x o h = ap (λ ts. s ∷ ts) (take-changed_at n ss p x o (omega arith))
