-- No way of extends without repeats is longer than the list of modules.
use Rattle.std.proofs.Common.{◌≡◌, ℕ, zero, suc, ◌+◌, ◌≤◌, ◌<◌, Bool, true, false, cond, if◌then◌else◌, ◌||◌, List, [], ◌∷◌, ◌++◌, length, Option, Some, None, refl, sym, ◌∙◌, ap, arith}
use Rattle.std.specs.Bool.{nat_eq, nat_lt}
use Rattle.std.specs.List.{list_any, filter_map, fold, cons_option, IsDistinct}
use Rattle.std.specs.Cmp.{nat_eq_equiv}
use Rattle.std.proofs.lemmas.Map.Keys.{IsDistinct-push}
use Rattle.std.proofs.lemmas.Map.Steps.{length-le_from_distinct_below}
use Rattle.rl_syntax.specs.declared.module.Module.{Module}
use Rattle.rl_visibility.specs.BuiltIn.{is_built_in}
use Rattle.rl_visibility.specs.Visible.{declarations_of, extend_in, module_named, extended, is_among, own_within}
use Rattle.rl_rules.specs.Laws.{OwnModulesAreWhole}

-- Numbers of modules.

abbrev IsBelow : ℕ → Option ℕ → Type 0
IsBelow n None = Unit {0}
IsBelow n (Some m) = m < n

abbrev AreBelow : ℕ → List ℕ → Type 0
AreBelow n [] = Unit {0}
AreBelow n (m ∷ ms) = (m < n) × AreBelow n ms

where-below : (a n : ℕ) → IsBelow n (cond (nat_lt a n) (Some a) None)
where-below a n = elim (nat_lt a n) as (λ b. nat_lt a n ≡ b → IsBelow n (cond b (Some a) None)) [ true ↦ λ e. grind (arith, e) | false ↦ λ e. tt ] refl

either-below : (n : ℕ) (b : Bool) (o : Option ℕ) → IsBelow n o → IsBelow n (if b then None else o)
either-below n true o h = tt
either-below n false o h = h

named-below : (modules : List Module) (name : List ℕ) → IsBelow (length modules) (module_named modules name)
named-below modules name = either-below (length modules) (is_built_in name) _ (where-below _ (length modules))

cons-below : (n : ℕ) (o : Option ℕ) (ms : List ℕ) → IsBelow n o → AreBelow n ms → AreBelow n (cons_option o ms)
cons-below n None ms h k = k
cons-below n (Some m) ms h k = (h, k)

map-below : {A : Type 0} (n : ℕ) (f : A → Option ℕ) → ((x : A) → IsBelow n (f x)) → (xs : List A) → AreBelow n (filter_map f xs)
map-below n f h [] = tt
map-below n f h (x ∷ xs) = cons-below n (f x) (filter_map f xs) (h x) (map-below n f h xs)

extended-below : (modules : List Module) (m : ℕ) → AreBelow (length modules) (extended modules m)
extended-below modules m = map-below (length modules) (module_named modules) (named-below modules) (filter_map extend_in (declarations_of modules m))

push-below : (n : ℕ) (ms : List ℕ) (m : ℕ) → AreBelow n ms → m < n → AreBelow n (ms ++ m ∷ [])
push-below n [] m h l = (l, tt)
push-below n (x ∷ ms) m h l = (h.0, push-below n ms m h.1 l)

same_number : (x y : ℕ) → nat_eq x y ≡ nat_eq y x
same_number x y = grind (arith)

among-any : (ms : List ℕ) (m : ℕ) → is_among ms m ≡ list_any (nat_eq m) ms
among-any [] m = refl
among-any (x ∷ ms) m = λ i. same_number x m i || among-any ms m i

found-below : (n : ℕ) (ms : List ℕ) → AreBelow n ms → (q : ℕ) → list_any (nat_eq q) ms ≡ true → q < n
found-below n [] h q e = grind (arith, e)
found-below n (x ∷ ms) h q e =
    elim (nat_eq q x) as (λ b. nat_eq q x ≡ b → (b || list_any (nat_eq q) ms) ≡ true → q < n)
    [ true ↦ λ is any. grind (arith, is, h.0) | false ↦ λ is any. found-below n ms h.1 q any ] refl e

-- no number twice, and each is one of a module
abbrev AreFine : ℕ → List ℕ → Type 0
AreFine n ms = IsDistinct nat_eq ms × AreBelow n ms

push-fine : (n : ℕ) (ms : List ℕ) (m : ℕ) → AreFine n ms → m < n → is_among ms m ≡ false → AreFine n (ms ++ m ∷ [])
push-fine n ms m h l e = (IsDistinct-push nat_eq_equiv ms m h.0 (sym (among-any ms m) ∙ e), push-below n ms m h.1 l)

not-more : (n : ℕ) (ms : List ℕ) → AreFine n ms → length ms ≤ n
not-more n ms h = length-le_from_distinct_below ms n h.0 (found-below n ms h.1)

pushed-length : (ms : List ℕ) (m : ℕ) → length (ms ++ m ∷ []) ≡ suc (length ms)
pushed-length [] m = refl
pushed-length (x ∷ ms) m = ap suc (pushed-length ms m)

module _ (modules : List Module) where
  abbrev N : ℕ
  N = length modules

  abbrev W : ℕ → List ℕ → ℕ → List ℕ
  W k = own_within k modules

  -- what was met stays fine, and does not become less
  abbrev Grows : List ℕ → List ℕ → Type 0
  Grows met after = AreFine N after × (length met ≤ length after)

  either-grows : (b : Bool) (met after : List ℕ) → AreFine N met → (b ≡ false → Grows met after) → Grows met (if b then met else after)
  either-grows true met after h k = (h, omega arith)
  either-grows false met after h k = k refl

  fold-grows : (f : List ℕ → ℕ → List ℕ) → ((met : List ℕ) (m : ℕ) → AreFine N met → m < N → Grows met (f met m)) → (ms : List ℕ) → AreBelow N ms → (met : List ℕ) → AreFine N met → Grows met (fold f met ms)
  fold-grows f grow [] below met h = (h, omega arith)
  fold-grows f grow (m ∷ ms) below met h =
      let one = grow met m h below.0 in
      let all = fold-grows f grow ms below.1 (f met m) one.0 in
      (all.0, omega (arith, one.1, all.1))

  grows : (k : ℕ) (met : List ℕ) (m : ℕ) → AreFine N met → m < N → Grows met (W k met m)
  grows zero met m h l = (h, omega arith)
  grows (suc k) met m h l =
      either-grows (is_among met m) met _ h (λ e.
      let all = fold-grows (W k) (grows k) (extended modules m) (extended-below modules m) (met ++ m ∷ []) (push-fine N met m h l e) in
      (all.0, omega (arith, all.1, pushed-length met m)))

  either-same : (b : Bool) (met x y : List ℕ) → (b ≡ false → x ≡ y) → (if b then met else x) ≡ (if b then met else y)
  either-same true met x y h = refl
  either-same false met x y h = h refl

  either-met : (b : Bool) (met x : List ℕ) → (b ≡ false → ⊥) → met ≡ (if b then met else x)
  either-met true met x h = refl
  either-met false met x h = absurd (h refl)

  abbrev OneLevel : ℕ → Type 0
  OneLevel k = (met : List ℕ) (m : ℕ) → AreFine N met → m < N → N ≤ k + length met → W k met m ≡ W (suc k) met m

  fold-same : (k : ℕ) → OneLevel k → (ms : List ℕ) → AreBelow N ms → (met : List ℕ) → AreFine N met → N ≤ k + length met → fold (W k) met ms ≡ fold (W (suc k)) met ms
  fold-same k one [] below met h e = refl
  fold-same k one (m ∷ ms) below met h e =
      let next = grows k met m h below.0 in
      fold-same k one ms below.1 (W k met m) next.0 (omega (arith, e, next.1)) ∙ ap (λ at. fold (W (suc k)) at ms) (one met m h below.0 e)

  one-level : (k : ℕ) → OneLevel k
  one-level zero met m h l e =
      either-met (is_among met m) met (fold (W 0) (met ++ m ∷ []) (extended modules m)) (λ apart. omega (arith, e, pushed-length met m, not-more N (met ++ m ∷ []) (push-fine N met m h l apart)))
  one-level (suc k) met m h l e =
      either-same (is_among met m) met (fold (W k) (met ++ m ∷ []) (extended modules m)) (fold (W (suc k)) (met ++ m ∷ []) (extended modules m))
      (λ apart. fold-same k (one-level k) (extended modules m) (extended-below modules m) (met ++ m ∷ []) (push-fine N met m h l apart) (omega (arith, e, pushed-length met m)))

none-fine : (n : ℕ) → AreFine n []
unfolding IsDistinct
none-fine n = (tt, tt)

pub own-whole : OwnModulesAreWhole
own-whole modules m zero l =
    let same : length modules + 0 ≡ length modules = omega arith in
    ap (λ k. own_within k modules [] m) same
own-whole modules m (suc k) l =
    let same : length modules + suc k ≡ suc (length modules + k) = omega arith in
    ap (λ j. own_within j modules [] m) same
    ∙ (sym (one-level modules (length modules + k) [] m (none-fine (length modules)) l (omega arith)) ∙ own-whole modules m k l)
