-- A store: its scopes, and what its live marks keep.
use Rattle.std.specs.Prelude.{◌≡◌, ◌≢◌, ℕ, ◌<◌, ◌-◌, nat_lt, List, [], ◌∷◌, ◌++◌, length, take, Option, Some, if◌then◌else◌}
use Rattle.std.specs.Ordering.{nat_cmp, ordering_then}
use Rattle.std.specs.declared.cmp.Ordering.{Ordering}
use Rattle.std.specs.Coded.{Coded, code_by, coded_ℕ, coded×, coded_list, coded_option}
use Rattle.std.specs.FinMap.{FinMap, empty, contains_key, insert, entries, from_entries, retain_keys, code}
use Rattle.std.proofs.Common.{refl}
use Rattle.rl_value.specs.Plain.{Plain}
use Rattle.rl_value.specs.Laws.{plain_code}
use Rattle.rl_store.specs.Scope.{Scope, scope_code, value_at, changed_at, place_of}

-- a variable of a scope: the scope's place, and the variable's number
abbrev pub Key : Type 0
Key = ℕ × ℕ

abbrev pub key_cmp : Key → Key → Ordering
key_cmp a b = ordering_then (nat_cmp a.0 b.0) (nat_cmp a.1 b.1)

-- what variables had before, or that they had no value
abbrev pub Noted : Type 0
Noted = FinMap key_cmp (Option Plain)

-- a live mark
pub record Mark : Type 0 where
  -- the scopes as they stood at the mark
  pub kept : List Scope
  -- what the variables that were changed since, until the next mark, had at the mark
  pub noted : Noted

pub record PlainStore : Type 0 where
  pub scopes : List Scope
  -- the newest first
  pub marks : List Mark

abbrev pub mark_code : Coded Mark
mark_code =
    code_by (List Scope × Noted) (coded× (coded_list scope_code) (code (coded× coded_ℕ coded_ℕ) (coded_option plain_code)))
    (λ m. (m.kept, m.noted)) (λ p. record { kept = p.0; noted = p.1 }) (λ _. refl)

abbrev pub store_code : Coded PlainStore
store_code =
    code_by (List Scope × List Mark) (coded× (coded_list scope_code) (coded_list mark_code))
    (λ s. (s.scopes, s.marks)) (λ p. record { scopes = p.0; marks = p.1 }) (λ _. refl)

-- the scopes with what is noted laid over them
abbrev pub laid_entries : List (Key × Option Plain) → List Scope → List Scope
laid_entries [] scopes = scopes
laid_entries (e ∷ es) scopes = changed_at (laid_entries es scopes) e.0.0 e.0.1 e.1

abbrev pub laid : Noted → List Scope → List Scope
laid noted scopes = laid_entries (entries noted) scopes

-- the older note of a variable stays
abbrev pub note : Noted → Key → Option Plain → Noted
note noted key old = if contains_key noted key then noted else insert noted key old

-- the newest mark notes what a variable of a scope that stood at the mark has
abbrev pub noting : List Mark → Key → Option Plain → List Mark
noting [] key old = []
noting (m ∷ ms) key old =
    (if nat_lt key.0 (length m.kept) then record { kept = m.kept; noted = note m.noted key old } else m) ∷ ms

abbrev pub setting : PlainStore → ℕ → ℕ → Plain → PlainStore
setting store place variable v = record {
  scopes = changed_at store.scopes place variable (Some v);
  marks = noting store.marks (place, variable) (value_at store.scopes place variable);
}

-- the variable is set in the innermost scope
abbrev pub declared : PlainStore → ℕ → Plain → PlainStore
declared store variable v = setting store (length store.scopes - 1) variable v

-- the variable is set in the innermost scope that has it, and else in the first
abbrev pub written : PlainStore → ℕ → Plain → PlainStore
written store variable v = setting store (place_of store.scopes variable) variable v

abbrev pub opened : PlainStore → PlainStore
opened store = record { scopes = store.scopes ++ empty ∷ []; marks = store.marks }

abbrev pub closed : PlainStore → PlainStore
closed store = record { scopes = take (length store.scopes - 1) store.scopes; marks = store.marks }

abbrev pub marked : PlainStore → PlainStore
marked store = record { scopes = store.scopes; marks = record { kept = store.scopes; noted = empty } ∷ store.marks }

-- the newest mark ends, and the scopes are as they stood there
abbrev pub rolled_back : List Mark → PlainStore → PlainStore
rolled_back [] store = store
rolled_back (m ∷ ms) store = record { scopes = m.kept; marks = ms }

-- the notes of both marks, where those of the older one win; those of scopes that did not stand there are dropped
abbrev pub joined : Mark → Mark → Noted
joined older newer = from_entries (entries older.noted ++ entries (retain_keys newer.noted (λ key. nat_lt key.0 (length older.kept))))

-- the newest mark ends, and the next takes its notes
abbrev pub without_newest : List Mark → List Mark
without_newest [] = []
without_newest (m ∷ []) = []
without_newest (m ∷ n ∷ ms) = record { kept = n.kept; noted = joined n m } ∷ ms

abbrev pub released : PlainStore → PlainStore
released store = record { scopes = store.scopes; marks = without_newest store.marks }

-- as many scopes are more than stood at the newest mark
abbrev pub IsOpenedSince : List Mark → ℕ → Type 0
IsOpenedSince [] count = Unit {0}
IsOpenedSince (m ∷ ms) count = length m.kept < count

-- a scope was opened that is still there, after the newest mark where one is live
abbrev pub IsClosable : PlainStore → Type 0
IsClosable store = (1 < length store.scopes) × IsOpenedSince store.marks (length store.scopes)

-- a mark is live
abbrev pub HasMark : PlainStore → Type 0
HasMark store = store.marks ≢ []

-- the scopes that were opened since the newest mark are dropped, and what it noted is laid over the rest
abbrev pub IsLaid : List Mark → List Scope → List Scope → Type 0
IsLaid [] old new = Unit {0}
IsLaid (m ∷ ms) old new = new ≡ laid m.noted (take (length m.kept) old)
