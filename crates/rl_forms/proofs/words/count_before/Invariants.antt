use Rattle.std.proofs.Common.{◌≡◌, ◌+◌, ◌-◌, ◌≤◌, length, drop}
use Rattle.std.specs.List.{position_or_len}
use Rattle.rl_forms.specs.Words.{is_word}
use Rattle.rl_forms.proofs.words.count_before.Given as goal

abbrev pub invariant-loop-count : goal.invariant-loop-count
invariant-loop-count l =
    (l.count + position_or_len (is_word l.terminal) (drop l.count l.parts) ≡ position_or_len (is_word l.terminal) l.parts) × (l.count ≤ length l.parts)

abbrev pub decreases-loop-count : goal.decreases-loop-count
decreases-loop-count l = length l.parts - l.count
