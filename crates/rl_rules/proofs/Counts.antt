-- How many scopes, piles and values of `it` states have.
use Rattle.std.proofs.Common.{◌≡◌, ℕ, suc, ◌≤◌, Bool, true, false, if◌then◌else◌, List, [], ◌∷◌, length, is_some, refl, ◌∙◌, ap, arith}
use Rattle.rl_match.specs.Bindings.{Binding}
use Rattle.rl_value.specs.Plain.{Plain}
use Rattle.rl_rules.specs.Laws.{HasAsMany}
use Rattle.rl_rules.specs.State.{State, Variables, value_of as value_at, value_in_scopes, declared_in, declare, written_in, write, declare_all, open_scope, outer_of, close_scope, enter_call, leave_call, below_top, add_on_top, begin_pile, collect, end_pile, begin_body, append, end_body, begin_reducer, set_it, end_reducer}

pub like-refl : (s : State) → HasAsMany s s
like-refl s = record { scopes = refl; appended = refl; collected = refl; its = refl }

pub like-trans : (s t u : State) → HasAsMany s t → HasAsMany t u → HasAsMany s u
like-trans s t u h k = record { scopes = k.scopes ∙ h.scopes; appended = k.appended ∙ h.appended; collected = k.collected ∙ h.collected; its = k.its ∙ h.its }

declared-length : (x : ℕ) (v : Plain) (scopes : List Variables) → length (declared_in x v scopes) ≡ length scopes
declared-length x v [] = refl
declared-length x v (scope ∷ scopes) = refl

either-length : (b : Bool) (xs ys : List Variables) (n : ℕ) → length xs ≡ n → length ys ≡ n → length (if b then xs else ys) ≡ n
either-length true xs ys n h k = h
either-length false xs ys n h k = k

written-length : (x : ℕ) (v : Plain) (scopes : List Variables) → length (written_in x v scopes) ≡ length scopes
written-length x v [] = refl
written-length x v (scope ∷ scopes) = either-length (is_some (value_at x scope)) _ _ _ refl (ap suc (written-length x v scopes))

outer-length : (xs : List Variables) (n : ℕ) → length xs ≡ suc n → length (outer_of xs) ≡ n
outer-length [] n h = absurd (omega arith)
outer-length (x ∷ xs) n h = omega arith

below-length : {A : Type 0} (xs : List A) (n : ℕ) → length xs ≡ suc n → length (below_top xs) ≡ n
below-length [] n h = absurd (omega arith)
below-length (x ∷ xs) n h = omega arith

below-more : {A : Type 0} (xs : List A) → 1 ≤ length xs → suc (length (below_top xs)) ≡ length xs
below-more [] h = absurd (omega arith)
below-more (x ∷ xs) h = refl

add-length : (vs : List Plain) (piles : List (List Plain)) → length (add_on_top vs piles) ≡ length piles
add-length vs [] = refl
add-length vs (us ∷ piles) = refl

pub declare-like : (x : ℕ) (v : Plain) (s : State) → HasAsMany s (declare x v s)
declare-like x v s = record { scopes = declared-length x v s.scopes; appended = refl; collected = refl; its = refl }

pub declare_all-like : (b : Binding) (s : State) → HasAsMany s (declare_all b s)
declare_all-like [] s = like-refl s
declare_all-like (e ∷ b) s = like-trans s _ _ (declare-like e.0 e.1 s) (declare_all-like b (declare e.0 e.1 s))

either-like : (b : Bool) (s t u : State) → HasAsMany s t → HasAsMany s u → HasAsMany s (if b then t else u)
either-like true s t u h k = h
either-like false s t u h k = k

pub write-like : (g : Bool) (x : ℕ) (v : Plain) (s : State) → HasAsMany s (write g x v s)
write-like true x v s = record { scopes = refl; appended = refl; collected = refl; its = refl }
write-like false x v s =
    either-like (is_some (value_in_scopes x s.scopes)) s _ _
    (record { scopes = written-length x v s.scopes; appended = refl; collected = refl; its = refl }) (declare-like x v s)

pub close-like : (s t : State) → HasAsMany (open_scope s) t → HasAsMany s (close_scope t)
close-like s t h = record { scopes = outer-length t.scopes (length s.scopes) h.scopes; appended = h.appended; collected = h.collected; its = h.its }

pub call-like : (acting : ℕ) (s t : State) → HasAsMany (enter_call acting s) t → HasAsMany s (leave_call s t)
call-like acting s t h = record { scopes = refl; appended = h.appended; collected = h.collected; its = h.its }

pub end_pile-like : (s t : State) → HasAsMany (begin_pile s) t → HasAsMany s (end_pile t)
end_pile-like s t h = record { scopes = h.scopes; appended = h.appended; collected = below-length t.collected (length s.collected) h.collected; its = h.its }

pub collect-like : (vs : List Plain) (s : State) → HasAsMany s (collect vs s)
collect-like vs s = record { scopes = refl; appended = refl; collected = add-length vs s.collected; its = refl }

pub end_body-like : (s t : State) → 1 ≤ length s.collected → HasAsMany (begin_body s) t → HasAsMany s (end_body t)
end_body-like s t l h = record {
  scopes = h.scopes;
  appended = below-length t.appended (length s.appended) h.appended;
  collected = ap suc h.collected ∙ below-more s.collected l;
  its = h.its;
}

pub append-like : (v : Plain) (s : State) → HasAsMany s (append v s)
append-like v s = record { scopes = refl; appended = add-length (v ∷ []) s.appended; collected = refl; its = refl }

pub set_it-like : (v : Plain) (s : State) → 1 ≤ length s.its → HasAsMany s (set_it v s)
set_it-like v s l = record { scopes = refl; appended = refl; collected = refl; its = below-more s.its l }

pub end_reducer-like : (v : Plain) (s t : State) → HasAsMany (begin_reducer v s) t → HasAsMany s (end_reducer t)
end_reducer-like v s t h = record { scopes = h.scopes; appended = h.appended; collected = h.collected; its = below-length t.its (length s.its) h.its }

pub still-one : (m n : ℕ) → n ≡ m → 1 ≤ m → 1 ≤ n
still-one m n e l = omega arith
