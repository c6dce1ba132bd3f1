-- The command that reads the words, and what its matches say.
use Rattle.std.specs.Prelude.{ℕ, List, ◌++◌, Option, Some, codes, true}
use Rattle.std.specs.Option.{option_to_list}
use Rattle.clap.specs.Words.{App, Row, Rule, Text, first_of, new_app, new_rule, with_rule, rows_of, found_of}
use Rattle.clap.specs.Simple.{on_top}
use Rattle.clap.specs.declared.builder.action.ArgAction.TheVariants.{Set}
use Rattle.clap.specs.declared.parser.matches.ArgMatches.{ArgMatches}
use Rattle.rl_words.specs.Words.{Asked, Given, asked_given}

abbrev pub option_rule : Text → Rule
option_rule name = record (new_rule name) { long = Some name; action = Some Set }

abbrev pub plain_rule : Text → Rule
plain_rule name = record (new_rule name) { action = Some Set }

abbrev pub bare_app : App
bare_app = on_top (λ top. record top { no_binary_name = true; disable_help_flag = true }) (new_app (codes "rascal"))

abbrev pub app : App
app = with_rule (with_rule (with_rule (with_rule bare_app (option_rule (codes "root"))) (option_rule (codes "steps"))) (plain_rule (codes "job"))) (plain_rule (codes "module"))

-- the values of the options and the plain words, where there are at most one of each and two
abbrev pub given_of : (root steps job name : Option (List ℕ)) → Given
given_of root steps job name = record {
  roots = option_to_list root;
  steps = option_to_list steps;
  words = option_to_list job ++ option_to_list name;
}

abbrev pub given_in : List Row → Given
given_in rows = given_of (first_of (codes "root") rows) (first_of (codes "steps") rows) (first_of (codes "job") rows) (first_of (codes "module") rows)

-- what is asked for by the matches
abbrev pub asked_in : ArgMatches → Option Asked
asked_in matches = asked_given (given_in (rows_of (found_of matches)))
