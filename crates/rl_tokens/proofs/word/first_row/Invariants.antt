use Rattle.std.proofs.Common.{◌≡◌, true, length, map}
use Rattle.rl_tokens.specs.Word.{first_row, has_no_empty}
use Rattle.rl_tokens.proofs.word.first_row.Given as goal

abbrev pub invariant-loop-table : goal.invariant-loop-table
invariant-loop-table l =
    (first_row (map (λ row. (row.0.now, row.1)) l.table) l.text ≡ first_row (map (λ row. (row.0.now, row.1)) l.initial.table) l.text)
    × (has_no_empty (map (λ row. (row.0.now, row.1)) l.table) ≡ true)

abbrev pub decreases-loop-table : goal.decreases-loop-table
decreases-loop-table l = length l.table
