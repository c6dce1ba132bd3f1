-- How deep parentheses and conjunctions nest.
use Rattle.std.specs.Prelude.{ℕ, suc, List, [], ◌∷◌, max}
use Rattle.rl_syntax.specs.declared.expression.Exp.{Exp}
use Rattle.rl_syntax.specs.declared.expression.Exp.TheFolds.{fold-Exp}
use Rattle.rl_syntax.specs.declared.expression.Exp.TheOpen as e

abbrev pub greatest : List ℕ → ℕ
greatest [] = 0
greatest (n ∷ ns) = max n (greatest ns)

-- by how deep they nest in its parts
abbrev pub nesting_of_form : e.Exp-F ℕ ℕ ℕ ℕ ℕ → ℕ
nesting_of_form (e.Parenthesized place n) = suc n
nesting_of_form (e.Conjunction place ns) = suc (greatest ns)
nesting_of_form form = 0

-- how many parentheses and conjunctions stand in one another at the top of an expression
unfoldable pub nesting : Exp → ℕ
nesting = fold-Exp ℕ ℕ ℕ ℕ ℕ nesting_of_form (λ suffix. 0) (λ case. 0) (λ handler. 0) (λ statement. 0)

-- Through so many levels they are taken apart. More than there are make no difference but to what computes.
abbrev pub levels : Exp → ℕ
levels x = suc (suc (suc (suc (nesting x))))
