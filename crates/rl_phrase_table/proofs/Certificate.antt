-- For each row of the grammar of modules whether it can take nothing, and a number that is greater than those of the rows
-- with which it may begin. `tools/phrase-table.py` makes this file of `specs/Grammar.antt`.
use Rattle.std.specs.Prelude.{ℕ, List, [], ◌∷◌, Bool, true, false}

abbrev pub empties : List Bool
empties = false ∷ false ∷ false ∷ true ∷ false ∷ false ∷ false ∷ false ∷ true ∷ false ∷ false ∷ false ∷ false ∷ false ∷ false ∷ false ∷ false ∷ false ∷ false ∷ false ∷ false ∷ false ∷ false ∷ false ∷ false ∷ true ∷ false ∷ false ∷ true ∷ false ∷ false ∷ false ∷ false ∷ true ∷ false ∷ false ∷ false ∷ false ∷ false ∷ true ∷ false ∷ false ∷ true ∷ false ∷ false ∷ false ∷ false ∷ true ∷ false ∷ false ∷ true ∷ false ∷ false ∷ false ∷ false ∷ false ∷ false ∷ false ∷ false ∷ false ∷ true ∷ true ∷ false ∷ false ∷ false ∷ true ∷ false ∷ false ∷ false ∷ false ∷ false ∷ false ∷ false ∷ false ∷ false ∷ true ∷ false ∷ false ∷ false ∷ false ∷ false ∷ false ∷ true ∷ false ∷ false ∷ false ∷ false ∷ true ∷ false ∷ false ∷ false ∷ false ∷ false ∷ false ∷ false ∷ false ∷ false ∷ false ∷ false ∷ false ∷ false ∷ false ∷ false ∷ false ∷ false ∷ false ∷ false ∷ false ∷ false ∷ false ∷ false ∷ false ∷ false ∷ false ∷ false ∷ false ∷ false ∷ true ∷ false ∷ false ∷ false ∷ false ∷ false ∷ false ∷ false ∷ false ∷ false ∷ false ∷ true ∷ true ∷ false ∷ false ∷ false ∷ false ∷ false ∷ true ∷ false ∷ false ∷ false ∷ true ∷ true ∷ true ∷ true ∷ false ∷ true ∷ true ∷ true ∷ false ∷ true ∷ false ∷ false ∷ true ∷ true ∷ false ∷ false ∷ true ∷ true ∷ true ∷ false ∷ false ∷ false ∷ false ∷ false ∷ false ∷ false ∷ true ∷ true ∷ true ∷ true ∷ false ∷ false ∷ false ∷ false ∷ false ∷ true ∷ false ∷ true ∷ true ∷ false ∷ false ∷ false ∷ false ∷ false ∷ false ∷ false ∷ false ∷ false ∷ false ∷ false ∷ false ∷ false ∷ false ∷ true ∷ false ∷ false ∷ false ∷ false ∷ false ∷ false ∷ false ∷ false ∷ false ∷ false ∷ false ∷ false ∷ false ∷ false ∷ false ∷ false ∷ false ∷ true ∷ false ∷ false ∷ false ∷ false ∷ false ∷ false ∷ false ∷ false ∷ false ∷ false ∷ true ∷ false ∷ false ∷ false ∷ false ∷ false ∷ false ∷ false ∷ false ∷ false ∷ false ∷ false ∷ false ∷ false ∷ true ∷ false ∷ false ∷ false ∷ true ∷ false ∷ false ∷ false ∷ false ∷ false ∷ false ∷ false ∷ false ∷ true ∷ false ∷ false ∷ false ∷ false ∷ false ∷ false ∷ false ∷ false ∷ false ∷ false ∷ false ∷ false ∷ false ∷ false ∷ false ∷ false ∷ false ∷ false ∷ false ∷ false ∷ false ∷ false ∷ false ∷ false ∷ false ∷ false ∷ true ∷ false ∷ false ∷ false ∷ false ∷ false ∷ false ∷ false ∷ false ∷ false ∷ false ∷ false ∷ true ∷ false ∷ false ∷ false ∷ false ∷ false ∷ false ∷ false ∷ false ∷ false ∷ false ∷ false ∷ false ∷ false ∷ false ∷ false ∷ false ∷ false ∷ false ∷ false ∷ false ∷ false ∷ false ∷ false ∷ false ∷ false ∷ false ∷ false ∷ false ∷ false ∷ false ∷ false ∷ false ∷ false ∷ true ∷ false ∷ false ∷ false ∷ false ∷ false ∷ false ∷ false ∷ false ∷ false ∷ false ∷ false ∷ true ∷ false ∷ false ∷ false ∷ false ∷ false ∷ false ∷ false ∷ false ∷ false ∷ false ∷ false ∷ false ∷ false ∷ false ∷ false ∷ false ∷ false ∷ false ∷ false ∷ false ∷ false ∷ false ∷ false ∷ false ∷ false ∷ false ∷ false ∷ false ∷ false ∷ false ∷ false ∷ false ∷ false ∷ false ∷ false ∷ false ∷ false ∷ false ∷ false ∷ false ∷ false ∷ false ∷ false ∷ false ∷ false ∷ false ∷ false ∷ false ∷ false ∷ false ∷ false ∷ false ∷ false ∷ false ∷ false ∷ false ∷ false ∷ false ∷ false ∷ true ∷ false ∷ false ∷ false ∷ false ∷ false ∷ false ∷ true ∷ false ∷ false ∷ false ∷ false ∷ false ∷ false ∷ false ∷ false ∷ false ∷ false ∷ false ∷ false ∷ false ∷ false ∷ false ∷ false ∷ false ∷ false ∷ false ∷ false ∷ false ∷ false ∷ false ∷ false ∷ false ∷ false ∷ true ∷ false ∷ false ∷ false ∷ false ∷ true ∷ false ∷ false ∷ true ∷ false ∷ false ∷ false ∷ false ∷ true ∷ false ∷ false ∷ false ∷ false ∷ false ∷ false ∷ true ∷ false ∷ false ∷ false ∷ false ∷ true ∷ false ∷ false ∷ false ∷ false ∷ false ∷ false ∷ false ∷ false ∷ false ∷ false ∷ false ∷ false ∷ false ∷ false ∷ true ∷ false ∷ false ∷ false ∷ false ∷ false ∷ false ∷ true ∷ false ∷ false ∷ false ∷ false ∷ false ∷ false ∷ false ∷ false ∷ false ∷ false ∷ false ∷ false ∷ false ∷ false ∷ false ∷ true ∷ false ∷ false ∷ false ∷ false ∷ false ∷ false ∷ false ∷ true ∷ false ∷ false ∷ false ∷ false ∷ false ∷ false ∷ false ∷ true ∷ false ∷ false ∷ false ∷ false ∷ false ∷ false ∷ false ∷ false ∷ false ∷ false ∷ false ∷ false ∷ true ∷ false ∷ false ∷ false ∷ false ∷ false ∷ false ∷ false ∷ false ∷ false ∷ false ∷ false ∷ false ∷ false ∷ true ∷ false ∷ false ∷ true ∷ false ∷ false ∷ false ∷ false ∷ false ∷ false ∷ true ∷ false ∷ false ∷ true ∷ false ∷ true ∷ false ∷ false ∷ false ∷ false ∷ false ∷ false ∷ false ∷ false ∷ false ∷ false ∷ false ∷ false ∷ false ∷ false ∷ false ∷ false ∷ false ∷ false ∷ false ∷ false ∷ false ∷ false ∷ false ∷ false ∷ false ∷ false ∷ false ∷ false ∷ false ∷ false ∷ false ∷ false ∷ false ∷ false ∷ false ∷ false ∷ false ∷ false ∷ true ∷ false ∷ false ∷ false ∷ false ∷ false ∷ true ∷ false ∷ false ∷ false ∷ false ∷ false ∷ true ∷ false ∷ false ∷ true ∷ false ∷ false ∷ false ∷ false ∷ false ∷ false ∷ false ∷ false ∷ false ∷ false ∷ false ∷ false ∷ false ∷ false ∷ false ∷ true ∷ false ∷ false ∷ false ∷ false ∷ false ∷ false ∷ false ∷ false ∷ false ∷ false ∷ false ∷ false ∷ false ∷ false ∷ false ∷ false ∷ false ∷ false ∷ false ∷ false ∷ false ∷ false ∷ false ∷ false ∷ false ∷ false ∷ false ∷ false ∷ false ∷ false ∷ false ∷ false ∷ false ∷ false ∷ false ∷ false ∷ false ∷ false ∷ false ∷ false ∷ false ∷ false ∷ false ∷ false ∷ false ∷ true ∷ false ∷ false ∷ false ∷ false ∷ false ∷ false ∷ false ∷ false ∷ false ∷ false ∷ false ∷ false ∷ false ∷ false ∷ false ∷ false ∷ false ∷ false ∷ false ∷ false ∷ false ∷ false ∷ false ∷ false ∷ false ∷ false ∷ false ∷ false ∷ false ∷ false ∷ true ∷ true ∷ false ∷ false ∷ false ∷ false ∷ false ∷ false ∷ false ∷ false ∷ false ∷ false ∷ false ∷ true ∷ true ∷ false ∷ false ∷ false ∷ false ∷ false ∷ false ∷ false ∷ false ∷ false ∷ false ∷ false ∷ false ∷ false ∷ false ∷ false ∷ false ∷ false ∷ false ∷ false ∷ false ∷ false ∷ false ∷ false ∷ false ∷ false ∷ false ∷ false ∷ false ∷ false ∷ false ∷ false ∷ false ∷ false ∷ false ∷ false ∷ false ∷ false ∷ false ∷ false ∷ false ∷ false ∷ false ∷ false ∷ false ∷ false ∷ false ∷ false ∷ true ∷ false ∷ false ∷ true ∷ false ∷ false ∷ false ∷ false ∷ false ∷ false ∷ false ∷ true ∷ false ∷ false ∷ true ∷ false ∷ false ∷ false ∷ true ∷ false ∷ false ∷ true ∷ false ∷ false ∷ false ∷ false ∷ true ∷ false ∷ false ∷ false ∷ false ∷ false ∷ false ∷ false ∷ false ∷ false ∷ false ∷ false ∷ false ∷ false ∷ false ∷ false ∷ false ∷ false ∷ false ∷ []

abbrev pub ranks : List ℕ
ranks = 1 ∷ 0 ∷ 2 ∷ 11 ∷ 0 ∷ 10 ∷ 1 ∷ 0 ∷ 1 ∷ 0 ∷ 0 ∷ 9 ∷ 8 ∷ 3 ∷ 5 ∷ 3 ∷ 7 ∷ 7 ∷ 2 ∷ 1 ∷ 2 ∷ 0 ∷ 0 ∷ 0 ∷ 2 ∷ 1 ∷ 0 ∷ 0 ∷ 1 ∷ 0 ∷ 0 ∷ 0 ∷ 2 ∷ 1 ∷ 0 ∷ 2 ∷ 1 ∷ 0 ∷ 0 ∷ 8 ∷ 0 ∷ 7 ∷ 1 ∷ 0 ∷ 7 ∷ 6 ∷ 5 ∷ 1 ∷ 0 ∷ 6 ∷ 2 ∷ 5 ∷ 0 ∷ 0 ∷ 34 ∷ 0 ∷ 1 ∷ 0 ∷ 0 ∷ 6 ∷ 2 ∷ 2 ∷ 5 ∷ 0 ∷ 0 ∷ 13 ∷ 0 ∷ 2 ∷ 1 ∷ 0 ∷ 0 ∷ 1 ∷ 0 ∷ 0 ∷ 12 ∷ 1 ∷ 0 ∷ 12 ∷ 1 ∷ 1 ∷ 0 ∷ 34 ∷ 1 ∷ 0 ∷ 0 ∷ 36 ∷ 0 ∷ 42 ∷ 0 ∷ 41 ∷ 4 ∷ 3 ∷ 2 ∷ 1 ∷ 2 ∷ 0 ∷ 0 ∷ 0 ∷ 0 ∷ 0 ∷ 0 ∷ 0 ∷ 1 ∷ 0 ∷ 5 ∷ 0 ∷ 0 ∷ 0 ∷ 0 ∷ 0 ∷ 5 ∷ 0 ∷ 5 ∷ 0 ∷ 1 ∷ 0 ∷ 7 ∷ 1 ∷ 0 ∷ 0 ∷ 0 ∷ 0 ∷ 0 ∷ 7 ∷ 4 ∷ 3 ∷ 0 ∷ 0 ∷ 21 ∷ 1 ∷ 0 ∷ 2 ∷ 0 ∷ 0 ∷ 0 ∷ 1 ∷ 0 ∷ 0 ∷ 0 ∷ 21 ∷ 20 ∷ 19 ∷ 1 ∷ 0 ∷ 19 ∷ 18 ∷ 17 ∷ 4 ∷ 16 ∷ 3 ∷ 0 ∷ 15 ∷ 1 ∷ 0 ∷ 0 ∷ 15 ∷ 4 ∷ 15 ∷ 3 ∷ 2 ∷ 1 ∷ 0 ∷ 0 ∷ 0 ∷ 0 ∷ 14 ∷ 1 ∷ 1 ∷ 13 ∷ 0 ∷ 0 ∷ 0 ∷ 12 ∷ 11 ∷ 7 ∷ 10 ∷ 4 ∷ 1 ∷ 6 ∷ 1 ∷ 0 ∷ 0 ∷ 3 ∷ 2 ∷ 1 ∷ 1 ∷ 6 ∷ 0 ∷ 0 ∷ 0 ∷ 0 ∷ 0 ∷ 1 ∷ 0 ∷ 5 ∷ 4 ∷ 3 ∷ 0 ∷ 9 ∷ 8 ∷ 1 ∷ 7 ∷ 0 ∷ 6 ∷ 0 ∷ 0 ∷ 1 ∷ 0 ∷ 0 ∷ 6 ∷ 2 ∷ 1 ∷ 0 ∷ 0 ∷ 0 ∷ 5 ∷ 4 ∷ 0 ∷ 3 ∷ 0 ∷ 2 ∷ 1 ∷ 0 ∷ 0 ∷ 40 ∷ 39 ∷ 2 ∷ 2 ∷ 2 ∷ 4 ∷ 2 ∷ 2 ∷ 7 ∷ 38 ∷ 6 ∷ 1 ∷ 0 ∷ 1 ∷ 0 ∷ 42 ∷ 0 ∷ 41 ∷ 1 ∷ 0 ∷ 0 ∷ 36 ∷ 0 ∷ 41 ∷ 1 ∷ 0 ∷ 41 ∷ 1 ∷ 0 ∷ 0 ∷ 34 ∷ 0 ∷ 0 ∷ 5 ∷ 0 ∷ 4 ∷ 3 ∷ 2 ∷ 1 ∷ 1 ∷ 1 ∷ 1 ∷ 1 ∷ 0 ∷ 0 ∷ 42 ∷ 41 ∷ 0 ∷ 12 ∷ 0 ∷ 34 ∷ 1 ∷ 0 ∷ 36 ∷ 0 ∷ 12 ∷ 0 ∷ 42 ∷ 41 ∷ 0 ∷ 9 ∷ 0 ∷ 34 ∷ 1 ∷ 0 ∷ 36 ∷ 0 ∷ 9 ∷ 0 ∷ 42 ∷ 41 ∷ 3 ∷ 2 ∷ 1 ∷ 1 ∷ 1 ∷ 0 ∷ 0 ∷ 36 ∷ 0 ∷ 41 ∷ 0 ∷ 0 ∷ 36 ∷ 0 ∷ 41 ∷ 0 ∷ 41 ∷ 0 ∷ 0 ∷ 36 ∷ 0 ∷ 0 ∷ 1 ∷ 0 ∷ 0 ∷ 0 ∷ 1 ∷ 0 ∷ 41 ∷ 0 ∷ 0 ∷ 1 ∷ 0 ∷ 41 ∷ 5 ∷ 4 ∷ 2 ∷ 3 ∷ 3 ∷ 2 ∷ 2 ∷ 1 ∷ 0 ∷ 14 ∷ 1 ∷ 13 ∷ 10 ∷ 0 ∷ 41 ∷ 12 ∷ 0 ∷ 41 ∷ 9 ∷ 0 ∷ 41 ∷ 1 ∷ 0 ∷ 41 ∷ 37 ∷ 36 ∷ 1 ∷ 1 ∷ 1 ∷ 1 ∷ 1 ∷ 1 ∷ 1 ∷ 1 ∷ 0 ∷ 6 ∷ 1 ∷ 1 ∷ 35 ∷ 0 ∷ 0 ∷ 0 ∷ 38 ∷ 0 ∷ 34 ∷ 0 ∷ 0 ∷ 34 ∷ 0 ∷ 0 ∷ 34 ∷ 0 ∷ 0 ∷ 0 ∷ 0 ∷ 0 ∷ 0 ∷ 0 ∷ 5 ∷ 0 ∷ 0 ∷ 38 ∷ 0 ∷ 0 ∷ 1 ∷ 0 ∷ 0 ∷ 38 ∷ 0 ∷ 0 ∷ 0 ∷ 3 ∷ 1 ∷ 38 ∷ 2 ∷ 1 ∷ 1 ∷ 0 ∷ 34 ∷ 0 ∷ 0 ∷ 0 ∷ 0 ∷ 0 ∷ 0 ∷ 0 ∷ 0 ∷ 0 ∷ 34 ∷ 0 ∷ 37 ∷ 36 ∷ 4 ∷ 35 ∷ 34 ∷ 0 ∷ 35 ∷ 34 ∷ 1 ∷ 0 ∷ 34 ∷ 33 ∷ 32 ∷ 1 ∷ 0 ∷ 34 ∷ 1 ∷ 0 ∷ 34 ∷ 31 ∷ 30 ∷ 2 ∷ 1 ∷ 30 ∷ 0 ∷ 0 ∷ 29 ∷ 28 ∷ 1 ∷ 0 ∷ 28 ∷ 27 ∷ 26 ∷ 1 ∷ 0 ∷ 26 ∷ 25 ∷ 24 ∷ 13 ∷ 23 ∷ 12 ∷ 1 ∷ 23 ∷ 0 ∷ 0 ∷ 0 ∷ 22 ∷ 21 ∷ 2 ∷ 1 ∷ 21 ∷ 0 ∷ 0 ∷ 20 ∷ 19 ∷ 4 ∷ 3 ∷ 2 ∷ 1 ∷ 1 ∷ 19 ∷ 0 ∷ 0 ∷ 0 ∷ 0 ∷ 0 ∷ 0 ∷ 0 ∷ 0 ∷ 18 ∷ 17 ∷ 2 ∷ 1 ∷ 17 ∷ 0 ∷ 0 ∷ 0 ∷ 16 ∷ 15 ∷ 2 ∷ 1 ∷ 15 ∷ 0 ∷ 0 ∷ 0 ∷ 14 ∷ 13 ∷ 1 ∷ 0 ∷ 13 ∷ 12 ∷ 11 ∷ 1 ∷ 1 ∷ 10 ∷ 0 ∷ 13 ∷ 0 ∷ 13 ∷ 9 ∷ 5 ∷ 4 ∷ 3 ∷ 2 ∷ 1 ∷ 1 ∷ 1 ∷ 1 ∷ 0 ∷ 38 ∷ 0 ∷ 0 ∷ 0 ∷ 0 ∷ 7 ∷ 6 ∷ 0 ∷ 7 ∷ 6 ∷ 37 ∷ 36 ∷ 1 ∷ 35 ∷ 0 ∷ 35 ∷ 34 ∷ 34 ∷ 1 ∷ 0 ∷ 35 ∷ 34 ∷ 5 ∷ 4 ∷ 0 ∷ 0 ∷ 0 ∷ 0 ∷ 0 ∷ 0 ∷ 0 ∷ 0 ∷ 0 ∷ 0 ∷ 0 ∷ 0 ∷ 0 ∷ 0 ∷ 0 ∷ 3 ∷ 8 ∷ 7 ∷ 0 ∷ 0 ∷ 1 ∷ 0 ∷ 0 ∷ 0 ∷ 0 ∷ 6 ∷ 2 ∷ 2 ∷ 2 ∷ 2 ∷ 1 ∷ 1 ∷ 0 ∷ 0 ∷ 19 ∷ 1 ∷ 0 ∷ 0 ∷ 19 ∷ 0 ∷ 19 ∷ 1 ∷ 0 ∷ 0 ∷ 19 ∷ 0 ∷ 0 ∷ 38 ∷ 0 ∷ 37 ∷ 1 ∷ 0 ∷ 37 ∷ 36 ∷ 35 ∷ 1 ∷ 34 ∷ 0 ∷ 2 ∷ 1 ∷ 0 ∷ 0 ∷ 0 ∷ 0 ∷ 0 ∷ 5 ∷ 4 ∷ 0 ∷ 0 ∷ 34 ∷ 0 ∷ 0 ∷ 5 ∷ 0 ∷ 3 ∷ 4 ∷ 2 ∷ 1 ∷ 0 ∷ 0 ∷ 0 ∷ 0 ∷ 0 ∷ 0 ∷ 1 ∷ 0 ∷ 0 ∷ 0 ∷ 0 ∷ 1 ∷ 0 ∷ 36 ∷ 0 ∷ 35 ∷ 34 ∷ 2 ∷ 0 ∷ 1 ∷ 1 ∷ 0 ∷ 34 ∷ 0 ∷ 36 ∷ 0 ∷ 0 ∷ 34 ∷ 3 ∷ 1 ∷ 2 ∷ 0 ∷ 36 ∷ 0 ∷ 1 ∷ 0 ∷ 0 ∷ 34 ∷ 0 ∷ 34 ∷ 1 ∷ 0 ∷ 39 ∷ 0 ∷ 38 ∷ 37 ∷ 2 ∷ 1 ∷ 1 ∷ 0 ∷ 1 ∷ 0 ∷ 34 ∷ 0 ∷ 0 ∷ 36 ∷ 0 ∷ 0 ∷ 37 ∷ 3 ∷ 1 ∷ 2 ∷ 0 ∷ 34 ∷ 0 ∷ 1 ∷ 1 ∷ 0 ∷ 0 ∷ 37 ∷ 0 ∷ 36 ∷ 1 ∷ 0 ∷ 39 ∷ 0 ∷ 38 ∷ 37 ∷ 1 ∷ 1 ∷ 0 ∷ 0 ∷ 37 ∷ 0 ∷ 36 ∷ 36 ∷ 35 ∷ 1 ∷ 34 ∷ 0 ∷ 19 ∷ 11 ∷ 10 ∷ 6 ∷ 1 ∷ 9 ∷ 5 ∷ 0 ∷ 0 ∷ 12 ∷ 0 ∷ 0 ∷ 12 ∷ 8 ∷ 7 ∷ 1 ∷ 1 ∷ 2 ∷ 1 ∷ 6 ∷ 1 ∷ 1 ∷ 1 ∷ 1 ∷ 0 ∷ 0 ∷ 0 ∷ 0 ∷ 0 ∷ 0 ∷ 0 ∷ 0 ∷ 12 ∷ 0 ∷ 12 ∷ 0 ∷ 0 ∷ 13 ∷ 0 ∷ 12 ∷ 1 ∷ 0 ∷ 12 ∷ 5 ∷ 1 ∷ 0 ∷ 0 ∷ 0 ∷ 16 ∷ 0 ∷ 15 ∷ 1 ∷ 0 ∷ 15 ∷ 0 ∷ 16 ∷ 0 ∷ 15 ∷ 1 ∷ 0 ∷ 15 ∷ 0 ∷ 12 ∷ 1 ∷ 0 ∷ 0 ∷ 12 ∷ 0 ∷ 0 ∷ 14 ∷ 13 ∷ 1 ∷ 1 ∷ 1 ∷ 12 ∷ 0 ∷ 0 ∷ 0 ∷ 5 ∷ 0 ∷ 0 ∷ 0 ∷ []
