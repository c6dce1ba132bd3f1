-- The command as `clap` builds it.
use Rattle.std.proofs.Common.{◌≡◌, ℕ, List, [], ◌∷◌, codes, refl, true}
use Rattle.clap.specs.Walk.{Rule, Text}
use Rattle.clap.specs.Simple.{Shape, built, filled, is_simple, with_index}
use Rattle.clap.specs.Faults.{is_simple_and_free}
use Rattle.rl_words.specs.Words.{Flag, Root, Steps}
use Rattle.rl_words.specs.Reader.{app, option_rule, plain_rule}

abbrev pub id_of : Flag → Text
id_of Root = codes "root"
id_of Steps = codes "steps"

abbrev pub option_built : Text → Rule
option_built name = filled (option_rule name)

abbrev pub plain_built : ℕ → Text → Rule
plain_built i name = with_index i (filled (plain_rule name))

abbrev pub rules : List Rule
rules = option_built (codes "root") ∷ option_built (codes "steps") ∷ plain_built 1 (codes "job") ∷ plain_built 2 (codes "module") ∷ []

abbrev pub top : Shape
top = record (built app).top { rules = rules }

pub top_is : (built app).top ≡ top
top_is = refl

pub simple : is_simple app ≡ true
simple = refl

pub free : is_simple_and_free app ≡ true
free = refl
