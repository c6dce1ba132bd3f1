-- The closure of pairs, by paths.
use Rattle.std.specs.Prelude.{◌≡◌, true, List}
use Rattle.std.specs.List.{list_all}
use Rattle.rl_value.specs.Plain.{Plain}
use Rattle.rl_value.specs.Rising.{In}
use Rattle.rl_relation.specs.Pairs.{is_pair, pair_of}
use Rattle.rl_relation.specs.Closures.{Leads, closure}

-- what the closure joins is joined by a path, and what a path joins is in the closure
abbrev pub JoinsPaths : List Plain → Type 0
JoinsPaths ps = ((x z : Plain) → In (pair_of x z) (closure ps) → Leads ps x z) × ((x z : Plain) → Leads ps x z → In (pair_of x z) (closure ps))

abbrev pub ClosureJoinsPaths : Type 0
ClosureJoinsPaths = (ps : List Plain) → list_all is_pair ps ≡ true → JoinsPaths ps
