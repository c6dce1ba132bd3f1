-- A sink in memory, with puts that fail.
use Rattle.std.specs.Prelude.{ℕ, ◌-◌, Bool, ◌==◌, ◌||◌, nat_lt, min, if◌then◌else◌, List, ◌++◌, length, take, find, Option, is_some, unwrap_or, refl}
use Rattle.std.specs.Option.{option_map}
use Rattle.std.specs.Coded.{Coded, code_by, coded×, coded_list, coded_ℕ}
use Rattle.rl_base.specs.Faults.{count_after}

-- what was told, the room for all of it, the puts that fail with how much each takes at most, and how many puts and faults there were
pub record SinkState : Type 0 where
  pub bytes : List ℕ
  pub room : ℕ
  pub fails : List (ℕ × ℕ)
  pub puts : ℕ
  pub faults : ℕ

abbrev pub sink_state_code : Coded SinkState
sink_state_code =
    code_by (List ℕ × (ℕ × (List (ℕ × ℕ) × (ℕ × ℕ)))) (coded× (coded_list coded_ℕ) (coded× coded_ℕ (coded× (coded_list (coded× coded_ℕ coded_ℕ)) (coded× coded_ℕ coded_ℕ)))) (λ s. (s.bytes, (s.room, (s.fails, (s.puts, s.faults))))) (λ p. record { bytes = p.0; room = p.1.0; fails = p.1.1.0; puts = p.1.1.1.0; faults = p.1.1.1.1 }) (λ _. refl)

-- how much the next put takes at most, if it is one of those that fail: by the first pair with its number
abbrev pub next_fail : SinkState → Option ℕ
next_fail s = option_map (λ pair. pair.1) (find (λ pair. pair.0 == count_after s.puts) s.fails)

abbrev pub room_left : SinkState → ℕ
room_left s = s.room - length s.bytes

-- how many bytes of a piece the next put takes
abbrev pub taken_of : SinkState → List ℕ → ℕ
taken_of s piece = min (unwrap_or (next_fail s) (length piece)) (min (length piece) (room_left s))

-- the next put fails: it is one of those, or the piece does not fit
abbrev pub next_put_fails : SinkState → List ℕ → Bool
next_put_fails s piece = is_some (next_fail s) || nat_lt (room_left s) (length piece)

abbrev pub after_put : SinkState → List ℕ → SinkState
after_put s piece = record s {
  bytes = s.bytes ++ take (taken_of s piece) piece;
  puts = count_after s.puts;
  faults = if next_put_fails s piece then count_after s.faults else s.faults;
}
