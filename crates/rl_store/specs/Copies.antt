-- A store that copies its scopes at each mark, and lists of calls on it.
use Rattle.std.specs.Prelude.{ℕ, ◌-◌, ◌&&◌, Bool, nat_lt, List, [], ◌∷◌, ◌++◌, length, take, map, Some, if◌then◌else◌}
use Rattle.std.specs.FinMap.{empty}
use Rattle.rl_value.specs.Plain.{Plain}
use Rattle.rl_store.specs.Scope.{Scope, changed_at, place_of}
use Rattle.rl_store.specs.Store.{PlainStore}
use Rattle.rl_store.specs.declared.calls.Call.{Call}
use Rattle.rl_store.specs.declared.calls.Call.TheVariants as c

pub record Copies : Type 0 where
  pub scopes : List Scope
  -- a copy of the scopes at each live mark, the newest first
  pub copies : List (List Scope)

abbrev pub copies_of : PlainStore → Copies
copies_of store = record { scopes = store.scopes; copies = map (λ m. m.kept) store.marks }

abbrev pub changing : Copies → ℕ → ℕ → Plain → Copies
changing s place variable v = record { scopes = changed_at s.scopes place variable (Some v); copies = s.copies }

-- a scope was opened since the newest mark
abbrev pub can_close : List (List Scope) → ℕ → Bool
can_close [] count = nat_lt 1 count
can_close (copy ∷ copies) count = nat_lt 1 count && nat_lt (length copy) count

abbrev pub going_back : List (List Scope) → Copies → Copies
going_back [] s = s
going_back (copy ∷ copies) s = record { scopes = copy; copies = copies }

abbrev pub without_first : List (List Scope) → List (List Scope)
without_first [] = []
without_first (copy ∷ copies) = copies

-- what a call does; a close, a rollback or a release that its condition excludes does nothing
abbrev pub after_call : Call → Copies → Copies
after_call (c.Declare variable v) s = changing s (length s.scopes - 1) variable v
after_call (c.Write variable v) s = changing s (place_of s.scopes variable) variable v
after_call c.OpenScope s = record { scopes = s.scopes ++ empty ∷ []; copies = s.copies }
after_call c.CloseScope s = if can_close s.copies (length s.scopes) then record { scopes = take (length s.scopes - 1) s.scopes; copies = s.copies } else s
after_call c.Mark s = record { scopes = s.scopes; copies = s.scopes ∷ s.copies }
after_call c.Rollback s = going_back s.copies s
after_call c.Release s = record { scopes = s.scopes; copies = without_first s.copies }

abbrev pub after_calls : List Call → Copies → Copies
after_calls [] s = s
after_calls (call ∷ calls) s = after_calls calls (after_call call s)

-- one empty scope, and no mark
abbrev pub at_first : Copies
at_first = record { scopes = empty ∷ []; copies = [] }
