use Rattle.std.proofs.Common.{ap, ◌∙◌}
use Rattle.std.specs.Option.{option_map}
use Rattle.rl_types.specs.View.{constructor_of}
use Rattle.rl_types.proofs.Lookups.{constructor-named}
use Rattle.rl_types.proofs.decls.Decls.constructor.Goals as goal

pub returns : goal.returns
returns c = ap (option_map constructor_of) c.with_count.ensures ∙ constructor-named c.args.self.now c.args.name.now c.args.count c.named.result.now c.named.ensures
