-- The terminals of a grammar, in the order in which its rules first write them.
use Rattle.std.specs.Prelude.{ℕ, Bool, List, [], ◌∷◌, ◌++◌, if◌then◌else◌}
use Rattle.std.specs.List.{list_any}
use Rattle.std.specs.Str.{bytes_eq}
use Rattle.rl_tokens.specs.Terminal.{classes}
use Rattle.rl_phrase_table.specs.Expression.{Expression, Word, Name, Group, Parts, none, more, Grammar}

abbrev pub is_among : List (List ℕ) → List ℕ → Bool
is_among names name = list_any (bytes_eq name) names

-- the name of a class is a terminal, and that of a rule is not
abbrev mutual
  pub terminals_in : Expression → List (List ℕ)
  terminals_in (Word text) = text ∷ []
  terminals_in (Name name) = if is_among classes name then name ∷ [] else []
  terminals_in (Group form parts) = terminals_among parts

  pub terminals_among : Parts → List (List ℕ)
  terminals_among none = []
  terminals_among (more part rest) = terminals_in part ++ terminals_among rest

abbrev pub all_terminals : Grammar → List (List ℕ)
all_terminals [] = []
all_terminals (rule ∷ rules) = terminals_in rule.says ++ all_terminals rules

-- the names, each behind those that stand there already unless it is one of them
abbrev pub added : (there names : List (List ℕ)) → List (List ℕ)
added there [] = there
added there (name ∷ names) = added (if is_among there name then there else there ++ name ∷ []) names

abbrev pub first_written : Grammar → List (List ℕ)
first_written rules = added [] (all_terminals rules)
