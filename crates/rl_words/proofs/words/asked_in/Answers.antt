use Rattle.std.proofs.Common.{◌≡◌, ◌∙◌, codes}
use Rattle.std.specs.Option.{option_copied}
use Rattle.clap.specs.Words.{first_of, found_of, rows_of}
use Rattle.clap.proofs.WalkLemmas.{first_value-rows}
use Rattle.rl_words.specs.Words.{asked_given}
use Rattle.rl_words.specs.Reader.{given_of}
use Rattle.rl_words.proofs.words.asked_in.Goals as goal

pub returns : goal.returns
returns c =
    let found = found_of c.args.matches.now in
    let root : option_copied c.get_str-root.result ≡ first_of (codes "root") (rows_of found) = c.get_str-root.ensures ∙ first_value-rows found (codes "root") in
    let steps : option_copied c.get_str-steps.result ≡ first_of (codes "steps") (rows_of found) = c.get_str-steps.ensures ∙ first_value-rows found (codes "steps") in
    let job : option_copied c.get_str-job.result ≡ first_of (codes "job") (rows_of found) = c.get_str-job.ensures ∙ first_value-rows found (codes "job") in
    let name : option_copied c.get_str-name.result ≡ first_of (codes "module") (rows_of found) = c.get_str-name.ensures ∙ first_value-rows found (codes "module") in
    c.asked_by.ensures ∙ (λ i. asked_given (given_of (root i) (steps i) (job i) (name i)))
