use Rattle.std.proofs.Common.{rules}
use Rattle.std.proofs.lemmas.Fn.{always_returns_same}
use Rattle.rl_value.specs.Order.{plain_cmp}
use Rattle.rl_value.specs.declared.value.Entry.{Entry}
use Rattle.rl_operators.proofs.SetLemmas.{searched_keys}
use Rattle.rl_operators.proofs.maps.has_key.Goals as goal

pub returns : goal.returns
returns c =
    searched_keys c.args.entries.now c.args.x.now c.binary_search_by.result c.is_ok.result c.requires c.binary_search_by.ensures.bound
    (c.binary_search_by.ensures.position (λ (e : Entry). plain_cmp e.key c.args.x.now)
    (always_returns_same _ _ _ (λ a r f called. search rules))) c.is_ok.ensures.value
