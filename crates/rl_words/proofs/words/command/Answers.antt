use Rattle.std.proofs.Common.{rules, ◌≡◌, ◌∙◌, ap₂, codes}
use Rattle.std.proofs.lemmas.Result.{IfOk-weaker}
use Rattle.clap.specs.Words.{app_of, rule_of, with_rule}
use Rattle.rl_words.specs.Reader.{bare_app, option_rule, plain_rule}
use Rattle.rl_words.proofs.words.command.Goals as goal

pub returns : goal.returns
returns c =
    let root : rule_of c.action-root.result ≡ option_rule (codes "root") = search rules in
    let steps : rule_of c.action-steps.result ≡ option_rule (codes "steps") = search rules in
    let job : rule_of c.action-job.result ≡ plain_rule (codes "job") = search rules in
    let name : rule_of c.action-name.result ≡ plain_rule (codes "module") = search rules in
    let bare : app_of c.disable_help_flag.result ≡ bare_app = search rules in
    let one = c.in_ok-arg.ensures.shape (search rules) ∙ ap₂ with_rule bare root in
    let two = c.in_ok-arg-2.ensures.shape (search rules) ∙ ap₂ with_rule one steps in
    let three = c.in_ok-arg-3.ensures.shape (search rules) ∙ ap₂ with_rule two job in
    IfOk-weaker c.arg-4.result _ _ (λ command adds. adds.shape (search rules) ∙ ap₂ with_rule three name) c.arg-4.ensures
