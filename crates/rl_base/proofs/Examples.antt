-- Worked examples of the definitions, which compute.
use Rattle.std.proofs.Common.{◌≡◌, [], ◌∷◌, Some, None, Ok, Err, refl}
use Rattle.rl_base.specs.Asked.{asked_after}
use Rattle.rl_base.specs.Told.{Grows}
use Rattle.rl_base.specs.Faults.{last_count, count_after}
use Rattle.rl_base.specs.ReadAnswer.{answer_of}
use Rattle.rl_base.specs.MemSink.{SinkState, next_fail, after_put}
use Rattle.rl_base.specs.declared.files.ReadEnd.TheVariants.{Missing, TooLong}

told : Grows (Some (1 ∷ [])) (2 ∷ 3 ∷ []) (Some (1 ∷ 2 ∷ 3 ∷ []))
told = refl

asked : asked_after (Some ((1 ∷ []) ∷ [])) ((2 ∷ []) ∷ []) ≡ Some ((1 ∷ []) ∷ (2 ∷ []) ∷ [])
asked = refl

counts : count_after 7 ≡ 8
counts = refl

stays : count_after last_count ≡ last_count
stays = refl

fits : answer_of (Some (1 ∷ 2 ∷ [])) 2 ≡ Ok (1 ∷ 2 ∷ [])
fits = refl

too_long : answer_of (Some (1 ∷ 2 ∷ [])) 1 ≡ Err TooLong
too_long = refl

missing : answer_of None 1 ≡ Err Missing
missing = refl

-- the second put fails after one byte at most, by the first of its pairs
planned : SinkState
planned = record { bytes = 1 ∷ []; room = 3; fails = (4, 0) ∷ (2, 1) ∷ (2, 2) ∷ []; puts = 1; faults = 0 }

first_pair : next_fail planned ≡ Some 1
unfolding planned
first_pair = refl

fails_as_planned : after_put planned (8 ∷ 9 ∷ []) ≡ record planned { bytes = 1 ∷ 8 ∷ []; puts = 2; faults = 1 }
unfolding planned
fails_as_planned = refl

-- no pair has the number of the third put
full : SinkState
full = record { bytes = 1 ∷ 8 ∷ []; room = 3; fails = (4, 0) ∷ (2, 1) ∷ []; puts = 2; faults = 1 }

fails_when_full : after_put full (5 ∷ 6 ∷ []) ≡ record full { bytes = 1 ∷ 8 ∷ 5 ∷ []; puts = 3; faults = 2 }
unfolding full
fails_when_full = refl

takes_what_fits : after_put full (5 ∷ []) ≡ record full { bytes = 1 ∷ 8 ∷ 5 ∷ []; puts = 3 }
unfolding full
takes_what_fits = refl
