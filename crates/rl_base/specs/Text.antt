-- The characters of a text and their places.
use Rattle.std.specs.Prelude.{ℕ, ◌+◌, List, [], ◌∷◌, if◌then◌else◌, ◌==◌, take, count_by}
use Rattle.rl_base.specs.declared.place.Place.{Place}

-- the line in which the next character stands, counted from 1: a line feed ends a line
abbrev pub line_behind : List ℕ → ℕ
line_behind before = 1 + count_by (λ c. c == 10) before

-- the column in which the next character stands, where the first one stands in column n
abbrev pub column_behind : ℕ → List ℕ → ℕ
column_behind n [] = n
column_behind n (c ∷ cs) = column_behind (if c == 10 then 1 else n + 1) cs

-- the place of an offset
abbrev pub place_of : List ℕ → ℕ → ℕ → Place
place_of text m o = record {
  «module» = m;
  offset = o;
  line = line_behind (take o text);
  column = column_behind 1 (take o text);
}
