-- A row gives one thing at a token.
use Rattle.std.proofs.Common.{◌≡◌, ℕ, ◌+◌, ◌≤◌, List, length, Some, sym, ap, subst, ◌∙◌, arith}
use Rattle.rl_phrase.specs.Terminals.{Tokens}
use Rattle.rl_phrase.specs.declared.table.Rule.{Rule}
use Rattle.rl_phrase.specs.Phr.{Outcome, Phr, phr, levels, told, outcome_of}
use Rattle.rl_phrase.specs.LeftRecursion.{HasNoLeftRecursion}
use Rattle.rl_phrase.proofs.Enough.{known_outcome, known_tells}

pub one : (tokens : Tokens) (rules : List Rule) (row token : ℕ) (a b : Outcome) → Phr tokens rules row token a → Phr tokens rules row token b → a ≡ b
one tokens rules row token a b p q =
    let n = p.enough + q.enough in
    let e : Some a ≡ Some b = sym (p.tells n (omega arith)) ∙ q.tells n (omega arith) in
    cc

pub some : (tokens : Tokens) (rules : List Rule) (row token : ℕ) → HasNoLeftRecursion rules → (outcome : Outcome) × Phr tokens rules row token outcome
some tokens rules row token none = (known_outcome tokens rules none row token, record { enough = levels (length rules) (length tokens); tells = known_tells tokens rules none row token })

-- it is what enough levels tell
pub outcome_is : (tokens : Tokens) (rules : List Rule) (row : ℕ) (o : Outcome) → HasNoLeftRecursion rules → Phr tokens rules row 0 o → outcome_of tokens rules row ≡ o
unfolding outcome_of
outcome_is tokens rules row o none p =
    let known = known_outcome tokens rules none row 0 in
    let enough = levels (length rules) (length tokens) in
    let tells : (n : ℕ) → enough ≤ n → phr tokens rules n row 0 ≡ Some known = known_tells tokens rules none row 0 in
    ap told (tells enough (omega arith)) ∙ one tokens rules row 0 known o (record { enough = enough; tells = tells }) p

pub gives_outcome : (tokens : Tokens) (rules : List Rule) (row : ℕ) → HasNoLeftRecursion rules → Phr tokens rules row 0 (outcome_of tokens rules row)
gives_outcome tokens rules row none =
    let known = some tokens rules row 0 none in
    subst (Phr tokens rules row 0) (sym (outcome_is tokens rules row known.0 none known.1)) known.1
