-- What holds of reading.
use Rattle.std.specs.Prelude.{◌≡◌, ◌≢◌, ℕ, zero, suc, List, [], ◌∷◌, ◌++◌}
use Rattle.rl_base.specs.declared.place.Place.{Place}
use Rattle.rl_phrase.specs.Phr.{Gives, outcome_of}
use Rattle.rl_phrase.specs.Terminals.{Tokens}
use Rattle.rl_phrase.specs.Tree.{Tree, Trees, Token, Node, none, more}
use Rattle.rl_phrase.specs.declared.table.Rule.{Rule}
use Rattle.rl_reader.specs.Read.{Refused, read_of}

-- the table gives no phrase whose parts are not those of its rule, so that reading never answers M12
abbrev pub NoPhraseIsUnknown : Type 0
NoPhraseIsUnknown = (number : ℕ) (path name bytes : List ℕ) (place : Place) → read_of number path name bytes ≢ Refused place 12

abbrev mutual
  -- the tokens in a phrase, from the left
  pub leaves : Tree → List ℕ
  leaves (Token token) = token ∷ []
  leaves (Node rule from to parts) = leaves_of parts

  pub leaves_of : Trees → List ℕ
  leaves_of none = []
  leaves_of (more tree trees) = leaves tree ++ leaves_of trees

-- as many numbers, from the first on
abbrev pub run : (first count : ℕ) → List ℕ
run first zero = []
run first (suc count) = first ∷ run (suc first) count

-- a row of any table gives each token once, in the order of the text, up to the next one
abbrev pub EachTokenStandsOnce : Type 0
EachTokenStandsOnce = (tokens : Tokens) (rules : List Rule) (row : ℕ) (trees : Trees) (next far : ℕ) → outcome_of tokens rules row ≡ Gives trees next far → leaves_of trees ≡ run 0 next
