-- How many characters the text of a syntax tree has.
use Rattle.std.specs.Prelude.{ℕ, ◌+◌, length}
use Rattle.std.specs.Str.{chars}
use Rattle.rl_value.specs.Plain.{Plain, tree, leaf, Plains, nil, cons}

-- those of its leaves
abbrev mutual
  pub characters : Plain → ℕ
  characters (tree shape ts) = all_characters ts
  characters (leaf bytes) = length (chars bytes)
  characters t = 0

  pub all_characters : Plains → ℕ
  all_characters nil = 0
  all_characters (cons t ts) = characters t + all_characters ts
