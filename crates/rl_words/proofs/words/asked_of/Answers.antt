use Rattle.std.proofs.Common.{◌∙◌, ap, sym, subst, map, string_bytes}
use Rattle.clap.specs.Words.{HasKind, fault_of, matches_of, is_simple, is_simple_and_free}
use Rattle.rl_words.specs.Reader.{given_in}
use Rattle.rl_words.specs.Words.{asked_given}
use Rattle.rl_words.proofs.Command.{free, simple}
use Rattle.rl_words.proofs.Simulation.{are_texts, asked-matches, asked-none}
use Rattle.rl_words.proofs.words.asked_of.Goals as goal

pub returns-in-Ok : goal.returns-in-Ok
returns-in-Ok c =
    let words = map string_bytes c.args.words.now in
    let is = c.in_ok-command.ensures in
    let none = ap (λ a. fault_of a words) (sym is) ∙ c.in-Ok.ensures.kinds (ap is_simple_and_free is ∙ free) in
    let rows = (c.in-Ok.ensures.matches (ap is_simple is ∙ simple)).0 in
    c.asked_in.ensures ∙ ap (λ r. asked_given (given_in r)) (rows ∙ ap (λ a. matches_of a words) is) ∙ asked-matches words (are_texts c.args.words.now) none

pub returns : goal.returns
returns c =
    let words = map string_bytes c.args.words.now in
    let is = c.in_ok-command.ensures in
    let kinds = c.in-Err.ensures.kinds (ap is_simple_and_free is ∙ free) in
    asked-none words c.in-Err.error (are_texts c.args.words.now) (subst (λ a. HasKind (fault_of a words) c.in-Err.error) is kinds)
    (λ e. c.in_default.not-OutOfMemory (c.kind.ensures ∙ e))
