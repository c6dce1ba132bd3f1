use Rattle.std.proofs.Common.{refl, Bool, true, false, ℕ, List, [], ◌∷◌}
use Rattle.rl_phrase.proofs.Certified.{certificate}
use Rattle.rl_phrase.proofs.phrase_tests.parse.Goals as goal

empties : List Bool
empties = true ∷ true ∷ false ∷ true ∷ false ∷ true ∷ false ∷ false ∷ false ∷ false ∷ false ∷ false ∷ true ∷ false ∷ false ∷ false ∷ false ∷ false ∷ false ∷ false ∷ false ∷ false ∷ true ∷ false ∷ false ∷ true ∷ false ∷ false ∷ false ∷ false ∷ false ∷ true ∷ false ∷ true ∷ false ∷ false ∷ true ∷ false ∷ false ∷ false ∷ false ∷ false ∷ true ∷ true ∷ false ∷ false ∷ false ∷ false ∷ false ∷ false ∷ false ∷ false ∷ false ∷ false ∷ false ∷ false ∷ false ∷ false ∷ false ∷ []

ranks : List ℕ
ranks = 3 ∷ 2 ∷ 1 ∷ 1 ∷ 0 ∷ 4 ∷ 0 ∷ 0 ∷ 1 ∷ 0 ∷ 0 ∷ 2 ∷ 1 ∷ 0 ∷ 2 ∷ 1 ∷ 3 ∷ 2 ∷ 0 ∷ 0 ∷ 1 ∷ 2 ∷ 1 ∷ 0 ∷ 2 ∷ 1 ∷ 0 ∷ 0 ∷ 0 ∷ 0 ∷ 3 ∷ 2 ∷ 0 ∷ 1 ∷ 4 ∷ 3 ∷ 2 ∷ 3 ∷ 2 ∷ 0 ∷ 1 ∷ 0 ∷ 3 ∷ 2 ∷ 7 ∷ 6 ∷ 5 ∷ 5 ∷ 4 ∷ 0 ∷ 4 ∷ 0 ∷ 3 ∷ 2 ∷ 1 ∷ 0 ∷ 0 ∷ 8 ∷ 0 ∷ []

pub phrase-requires-clause-no_left_recursion : goal.phrase-requires-clause-no_left_recursion
unfolding empties ranks
phrase-requires-clause-no_left_recursion c = certificate _ empties ranks refl
