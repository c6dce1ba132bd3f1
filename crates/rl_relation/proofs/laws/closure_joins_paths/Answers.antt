use Rattle.rl_relation.proofs.PathLemmas.{closure_is, pairs_from}
use Rattle.rl_relation.proofs.laws.closure_joins_paths.Goals as goal

pub returns : goal.returns
returns c = λ ps all. closure_is ps (pairs_from ps all)
