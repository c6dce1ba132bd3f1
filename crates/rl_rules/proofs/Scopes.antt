-- Scopes are finite maps, and patterns see what is in them.
use Rattle.std.proofs.Common.{◌≡◌, ℕ, length, Bool, true, false, cond, List, [], ◌∷◌, ◌++◌, Option, Some, None, refl, sym, ◌∙◌, ap, arith, append_assoc}
use Rattle.std.specs.Bool.{nat_eq}
use Rattle.std.specs.FinMap.{empty, entries, len-empty, len-entries, get-entries, entries-insert}
use Rattle.std.specs.Ordering.{nat_cmp, eq_by_cmp}
use Rattle.std.specs.Cmp.{nat_cmp_total}
use Rattle.rl_match.specs.Bindings.{value_in}
use Rattle.rl_value.specs.Plain.{Plain}
use Rattle.rl_rules.specs.Laws.{AreFiniteMaps, PatternsSeeVariables}
use Rattle.rl_rules.specs.State.{Variables, value_of, value_in_scopes, first_of, joined_scopes}

nothing_in : (es : List (ℕ × Plain)) → length es ≡ 0 → es ≡ []
nothing_in [] h = refl
nothing_in (e ∷ es) h = absurd (omega arith)

pub finite_maps : AreFiniteMaps
finite_maps = record {
  none = nothing_in (entries empty) (sym (len-entries (empty {X = Plain} {R = nat_cmp})) ∙ len-empty nat_cmp Plain);
  has = λ scope x. sym (get-entries scope x);
  set = λ scope x v. sym (entries-insert nat_cmp_total scope x v);
}

-- numbers that are equal are those that the order does not tell apart
same_number : (x y : ℕ) → nat_eq x y ≡ eq_by_cmp nat_cmp x y
same_number x y = grind (arith)

first_of-first_of : (a b c : Option Plain) → first_of (first_of a b) c ≡ first_of a (first_of b c)
first_of-first_of None b c = refl
first_of-first_of (Some v) b c = refl

found_first : (b : Bool) (v : Plain) (o : Option Plain) (rest : Option Plain) → first_of (cond b (Some v) o) rest ≡ cond b (Some v) (first_of o rest)
found_first true v o rest = refl
found_first false v o rest = refl

seen-append : (x : ℕ) (vs : Variables) (us : List (ℕ × Plain)) → value_in x (vs ++ us) ≡ first_of (value_of x vs) (value_in x us)
seen-append x [] us = refl
seen-append x (e ∷ vs) us =
    ap (λ b. cond b (Some e.1) (value_in x (vs ++ us))) (same_number x e.0)
    ∙ (ap (λ o. cond (eq_by_cmp nat_cmp x e.0) (Some e.1) o) (seen-append x vs us)
    ∙ sym (found_first (eq_by_cmp nat_cmp x e.0) e.1 (value_of x vs) (value_in x us)))

seen : (x : ℕ) (vs : Variables) → value_in x vs ≡ value_of x vs
seen x [] = refl
seen x (e ∷ vs) = ap (λ b. cond b (Some e.1) (value_in x vs)) (same_number x e.0) ∙ ap (λ o. cond (eq_by_cmp nat_cmp x e.0) (Some e.1) o) (seen x vs)

seen-scopes : (x : ℕ) (scopes : List Variables) (globals : Variables) → value_in x (joined_scopes scopes ++ globals) ≡ first_of (value_in_scopes x scopes) (value_of x globals)
seen-scopes x [] globals = seen x globals
seen-scopes x (scope ∷ scopes) globals =
    ap (value_in x) (append_assoc scope (joined_scopes scopes) globals)
    ∙ (seen-append x scope (joined_scopes scopes ++ globals)
    ∙ (ap (first_of (value_of x scope)) (seen-scopes x scopes globals)
    ∙ sym (first_of-first_of (value_of x scope) (value_in_scopes x scopes) (value_of x globals))))

pub patterns_see : PatternsSeeVariables
patterns_see x s = seen-scopes x s.scopes s.globals
