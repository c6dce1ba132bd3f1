use Rattle.std.proofs.Common.{◌≡◌, drop}
use Rattle.rl_eval.specs.Preparation.{all_built, statement_of}
use Rattle.rl_eval.proofs.PreparationLemmas.{behind}
use Rattle.rl_eval.proofs.preparation.statements.Given as goal

abbrev pub invariant-loop-one : goal.invariant-loop-one
invariant-loop-one l = behind (statement_of l.visible) l.literals.items (drop l.one-index l.body) ≡ all_built (statement_of l.visible) l.body
