use Rattle.std.proofs.Common.{◌+◌, ◌∷◌, ap, ◌∙◌, sym}
use Rattle.rl_phrase.specs.declared.table.Form.{Form}
use Rattle.rl_phrase.specs.Machine.{Parts, Naming, Going, called_form}
use Rattle.rl_phrase.specs.Arena.{parts_in}
use Rattle.rl_phrase.specs.State.{after_turn}
use Rattle.rl_phrase.proofs.Cells.{no_list}
use Rattle.rl_phrase.proofs.machine.Machine.start.Goals as goal

pub returns-in-Named-clause-means : goal.returns-in-Named-clause-means
returns-in-Named-clause-means c frames =
    let first = c.args.rule.first in
    let here = parts_in c.args.self.now.arena c.args.self.now.parts in
    let far = c.args.self.now.far in
    ap (λ t. after_turn c.args.self.now.arena t frames) c.begin.ensures
    ∙ ap (λ ps. Going c.args.at (Parts first (first + c.args.rule.count) ∷ Naming c.args.row c.args.at here far ∷ frames) ps 0) (no_list c.args.self.now.arena)
    ∙ sym (ap (λ (f : Form). called_form c.args.tokens.now c.args.row c.args.at f first c.args.rule.count frames here far) c.in-Named.is)
