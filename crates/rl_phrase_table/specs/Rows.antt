-- The table of a grammar.
--
-- Each rule is a row, and behind it stand the rows of its parts, and then what each of these is made of: the rows of its own parts,
-- and what those are made of. A word is its terminal, a name the row of its rule or the terminal of its class.
use Rattle.std.specs.Prelude.{ℕ, suc, ◌+◌, ◌^◌, Bool, List, [], ◌∷◌, ◌++◌, if◌then◌else◌}
use Rattle.std.specs.Str.{bytes_eq}
use Rattle.rl_tokens.specs.Terminal.{classes, number_of}
use Rattle.rl_phrase.specs.declared.table.Rule.{Rule}
use Rattle.rl_phrase.specs.declared.table.Form.{Form}
use Rattle.rl_phrase.specs.declared.table.Form.TheVariants.{Term, Link}
use Rattle.rl_phrase_table.specs.Expression.{Expression, Word, Name, Group, Parts, none, more, Grammar}
use Rattle.rl_phrase_table.specs.Written.{is_among}

abbrev pub count : Parts → ℕ
count none = 0
count (more part rest) = suc (count rest)

abbrev mutual
  -- how many rows a part has besides its own
  pub size : Expression → ℕ
  size (Word text) = 0
  size (Name name) = 0
  size (Group form parts) = sizes parts

  pub sizes : Parts → ℕ
  sizes none = 0
  sizes (more part rest) = suc (size part + sizes rest)

-- the rules with their rows, where the first one has the row `at`
abbrev pub starts_from : ℕ → Grammar → List (List ℕ × ℕ)
starts_from at [] = []
starts_from at (rule ∷ rules) = (rule.name, at) ∷ starts_from (at + suc (size rule.says)) rules

abbrev pub starts : Grammar → List (List ℕ × ℕ)
starts rules = starts_from 0 rules

module _ (start_of : List ℕ → ℕ) where
  abbrev pub leaf : Form → ℕ → Rule
  leaf form first = record { form = form; first = first; count = 0 }

  abbrev pub named : Bool → List ℕ → Rule
  named is_class name = if is_class then leaf (Term (number_of name)) 0 else leaf Link (start_of name)

  -- the row of a part whose own parts have the rows from `next` on
  abbrev pub row : ℕ → Expression → Rule
  row next (Word text) = leaf (Term (number_of text)) 0
  row next (Name name) = named (is_among classes name) name
  row next (Group form parts) = record { form = form; first = next; count = count parts }

  -- the rows of parts, where what they are made of has the rows from `next` on
  abbrev pub rows : ℕ → Parts → List Rule
  rows next none = []
  rows next (more part rest) = row next part ∷ rows (next + size part) rest

  abbrev mutual
    -- what a part is made of
    pub inside : ℕ → Expression → List Rule
    inside next (Word text) = []
    inside next (Name name) = []
    inside next (Group form parts) = let behind = next + count parts in rows behind parts ++ insides behind parts

    pub insides : ℕ → Parts → List Rule
    insides next none = []
    insides next (more part rest) = inside next part ++ insides (next + size part) rest

  abbrev pub table_from : ℕ → Grammar → List Rule
  table_from at [] = []
  table_from at (rule ∷ rules) = row (suc at) rule.says ∷ inside (suc at) rule.says ++ table_from (at + suc (size rule.says)) rules

-- the row of a rule, or none of the table where there is no such rule
abbrev pub start_in : List (List ℕ × ℕ) → List ℕ → ℕ
start_in [] name = 2 ^ 32
start_in (start ∷ starts) name = if bytes_eq start.0 name then start.1 else start_in starts name

abbrev pub table_of : Grammar → List Rule
table_of rules = let known = starts rules in table_from (start_in known) 0 rules
