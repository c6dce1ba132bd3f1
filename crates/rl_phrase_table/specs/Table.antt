-- Tables whose rows speak of rows of the table.
use Rattle.std.specs.Prelude.{◌≡◌, ℕ, ◌+◌, Bool, true, nat_le, nat_lt, List, length}
use Rattle.std.specs.List.{list_all}
use Rattle.rl_phrase.specs.declared.table.Rule.{Rule}
use Rattle.rl_phrase.specs.declared.table.Form.{Form}
use Rattle.rl_phrase.specs.declared.table.Form.TheVariants.{Term, Link, Named, Seq, Choice, Star, Plus, Opt, Not}

-- the rows that a row speaks of are among the first `size` ones
abbrev pub speaks_within : ℕ → Form → (first count : ℕ) → Bool
speaks_within size (Term terminal) first count = true
speaks_within size Link first count = nat_lt first size
speaks_within size Named first count = nat_le (first + count) size
speaks_within size Seq first count = nat_le (first + count) size
speaks_within size Choice first count = nat_le (first + count) size
speaks_within size Star first count = nat_le (first + count) size
speaks_within size Plus first count = nat_le (first + count) size
speaks_within size Opt first count = nat_le (first + count) size
speaks_within size Not first count = nat_le (first + count) size

-- every row that a row of the table speaks of is in the table
abbrev pub HasItsRows : List Rule → Type 0
HasItsRows rules = list_all (λ rule. speaks_within (length rules) rule.form rule.first rule.count) rules ≡ true
