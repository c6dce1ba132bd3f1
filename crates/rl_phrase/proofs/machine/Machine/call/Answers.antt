use Rattle.std.proofs.Common.{◌≡◌, ◌<◌, length, Some, ap, ◌∙◌, sym, subst, refl, arith}
use Rattle.std.specs.Prelude.{slice_get}
use Rattle.std.proofs.lemmas.Bool.{ltb-true}
use Rattle.std.proofs.lemmas.Option.{slice_get_read}
use Rattle.rl_phrase.specs.Tree.{none}
use Rattle.rl_phrase.specs.Phr.{Fails, Gives, Phr}
use Rattle.rl_phrase.specs.Machine.{Calling, Going, Failing, called}
use Rattle.rl_phrase.specs.Arena.{parts_in}
use Rattle.rl_phrase.specs.State.{after_turn, outcome_in, Leads}
use Rattle.rl_phrase.proofs.Turned.{one_turn, remembered}
use Rattle.rl_phrase.proofs.PassedOver.{passed_over}
use Rattle.rl_phrase.proofs.OverRows.{takes_nothing}
use Rattle.rl_phrase.proofs.Ways.{jumps}
use Rattle.rl_phrase.proofs.machine.Machine.call.Goals as goal

pub returns-clause-means : goal.returns-clause-means
returns-clause-means c frames =
    let tokens = c.args.tokens.now in
    let rules = c.args.rules.now in
    let cells = c.args.self.now.arena in
    let entry = c.in-Some-recall.entry in
    let outcome = outcome_in cells entry.given in
    let parts = parts_in cells c.args.self.now.parts in
    let far = c.args.self.now.far in
    let is = c.in-Some-recall.ensures in
    let right = remembered tokens rules cells c.args.self.now.memory entry c.requires.memory is.2 in
    let here : Phr tokens rules c.args.row c.args.at outcome = subst (λ a. Phr tokens rules c.args.row a outcome) is.1 (subst (λ r. Phr tokens rules r entry.at outcome) (is.0 ∙ c.in-Ok.ensures.1) right.1) in
    subst (λ s. Leads tokens rules (Calling c.args.row c.args.at frames parts far) s) (sym (c.recalled.ensures.means cells frames))
    (jumps tokens rules c.args.row c.args.at outcome here frames parts far)

pub returns-clause-within : goal.returns-clause-within
returns-clause-within c =
    let cells = c.args.self.now.arena in
    let right = remembered c.args.tokens.now c.args.rules.now cells c.args.self.now.memory c.in-Some-recall.entry c.requires.memory c.in-Some-recall.ensures.2 in
    c.recalled.ensures.within (length cells) c.requires.list right.0

pub returns-2-clause-means : goal.returns-2-clause-means
returns-2-clause-means c frames =
    let tokens = c.args.tokens.now in
    let rules = c.args.rules.now in
    let cells = c.args.self.now.arena in
    let parts = parts_in cells c.args.self.now.parts in
    let far = c.args.self.now.far in
    let lookup = c.in-Some.ensures.lookup in
    let lt : c.args.row < length rules = ltb-true c.args.row (length rules) (sym lookup.0) in
    let rule : slice_get rules c.args.row ≡ Some c.in-Some.rule.now = slice_get_read rules (length rules) c.args.row c.in-Some.rule.now refl lt lookup.1 in
    one_turn tokens rules (Calling c.args.row c.args.at frames parts far) (after_turn cells c.start.result frames) (omega arith)
    (ap (λ o. Some (called tokens c.args.row c.args.at o frames parts far)) rule
    ∙ ap (λ r. Some (called tokens r c.args.at (Some c.in-Some.rule.now) frames parts far)) (sym c.in-Ok.ensures.1)
    ∙ ap Some (sym (c.start.ensures.means frames)))

pub returns-then-cannot_begin-clause-means : goal.returns-then-cannot_begin-clause-means
returns-then-cannot_begin-clause-means c frames =
    let tokens = c.args.tokens.now in
    let rules = c.args.rules.now in
    let cells = c.args.self.now.arena in
    let row = c.args.row in
    let at = c.args.at in
    let parts = parts_in cells c.args.self.now.parts in
    let far = c.args.self.now.far in
    let here : Phr tokens rules row at (Fails at) = passed_over tokens rules c.args.firsts.now row at c.requires.no_left_recursion c.requires.firsts (c.cannot_begin.ensures.0 c.if-cannot_begin.true) in
    subst (λ t. Leads tokens rules (Calling row at frames parts far) (after_turn cells t frames)) (sym c.to-then-cannot_begin.ensures)
    (subst (λ n. Leads tokens rules (Calling row at frames parts far) (Failing frames n)) (sym c.max.ensures)
    (jumps tokens rules row at (Fails at) here frames parts far))

pub returns-then-cannot_begin-2-clause-means : goal.returns-then-cannot_begin-2-clause-means
returns-then-cannot_begin-2-clause-means c frames =
    let tokens = c.args.tokens.now in
    let rules = c.args.rules.now in
    let cells = c.args.self.now.arena in
    let row = c.args.row in
    let at = c.args.at in
    let parts = parts_in cells c.args.self.now.parts in
    let far = c.args.self.now.far in
    let lookup = c.in-Some.ensures.lookup in
    let lt : row < length rules = ltb-true row (length rules) (sym lookup.0) in
    let rule : slice_get rules row ≡ Some c.in-Some.rule.now = slice_get_read rules (length rules) row c.in-Some.rule.now refl lt lookup.1 in
    let here : Phr tokens rules row at (Gives none at at) =
    takes_nothing tokens rules c.args.firsts.now c.requires.no_left_recursion c.requires.firsts row at c.in-Some.rule.now rule (c.is_optional.ensures.0 c.if-is_optional.true) (c.cannot_begin-then-is_optional.ensures.0 c.if-cannot_begin-2.true) in
    subst (λ t. Leads tokens rules (Calling row at frames parts far) (after_turn cells t frames)) (sym c.to-then-cannot_begin-2.ensures)
    (subst (λ n. Leads tokens rules (Calling row at frames parts far) (Going at frames parts n)) (sym c.max-then-cannot_begin-2.ensures)
    (jumps tokens rules row at (Gives none at at) here frames parts far))
