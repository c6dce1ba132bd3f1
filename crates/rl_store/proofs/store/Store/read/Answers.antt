use Rattle.std.proofs.Common.{ap, ◌∙◌}
use Rattle.rl_store.specs.Scope.{value_of}
use Rattle.rl_store.specs.Store.{PlainStore}
use Rattle.rl_store.proofs.store.Store.read.Goals as goal

pub returns : goal.returns
returns c = c.innermost_value.ensures ∙ ap (λ (s : PlainStore). value_of s.scopes c.args.variable) c.self.view_is
