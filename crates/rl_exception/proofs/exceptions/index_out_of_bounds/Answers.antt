use Rattle.std.proofs.Common.{◌≡◌, [], ◌∷◌, rules}
use Rattle.rl_value.specs.Plain.{int}
use Rattle.rl_exception.proofs.FittingLemmas.{numbered}
use Rattle.rl_exception.proofs.exceptions.index_out_of_bounds.Goals as goal

pub returns-in-Ok : goal.returns-in-Ok
returns-in-Ok c =
    let field : c.in-Ok.fields.items ≡ int c.args.index ∷ [] = search rules in
    numbered _ c.args.index c.in-Ok.fields.items c.thrown_node.result field c.thrown_node.ensures
