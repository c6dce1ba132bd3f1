-- More digits write no lesser number.
use Rattle.std.proofs.Common.{ℕ, ◌+◌, ◌-◌, ◌*◌, ◌^◌, ◌≤◌, ◌<◌, List, [], ◌∷◌, length, get_or, drop, arith}
use Rattle.std.proofs.lemmas.List.{at_drop_more}
use Rattle.rl_tokens.specs.Number.{number_from}

pub number_from_ge : (digits : List ℕ) (n : ℕ) → n ≤ number_from n digits
number_from_ge [] n = omega arith
number_from_ge (c ∷ digits) n = omega (arith, number_from_ge digits (n * 10 + (c - 48)))

-- one digit more makes a number from 2^124 on wide
pub number_from_wide : (digits : List ℕ) (n i : ℕ) → i < length digits → 2 ^ 124 ≤ n → 2 ^ 127 ≤ number_from n (drop i digits)
number_from_wide digits n i h wide =
    let step = at_drop_more (number_from n) digits i 0 h in
    let more = number_from_ge (drop (i + 1) digits) (n * 10 + (get_or digits i 0 - 48)) in
    omega arith
