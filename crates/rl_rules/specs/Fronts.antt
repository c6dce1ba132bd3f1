-- What was printed before each read of a derivation.
use Rattle.std.specs.Prelude.{ℕ, zero, suc, ◌+◌, ◌*◌, List, [], ◌∷◌, ◌++◌}
use Rattle.rl_base.specs.Holds.{FileMap, file_at}
use Rattle.rl_rules.specs.Evaluation.{Evaluation, Ran, Done, Cut, Stuck, eval_within, throws, eval}
use Rattle.rl_rules.specs.Form.{Form, turn, expression, statement, alternative, node}
use Rattle.rl_rules.specs.Program.{Program}
use Rattle.rl_rules.specs.Rule.{Outcome, Rule, Give, Use, Take, Print, Read, Wrong}
use Rattle.rl_rules.specs.Rules.{entered}
use Rattle.rl_rules.specs.Run.{whole}
use Rattle.rl_rules.specs.State.{State}

-- of each form that is evaluated, from these units and after these bytes
abbrev pub Fronts : Type 0
Fronts = Form → ℕ → State → ℕ → List ℕ → List (List ℕ)

-- what follows something that is done
abbrev pub behind : Ran → (Outcome → State → ℕ → List ℕ → List (List ℕ)) → List (List ℕ)
behind (Done r s n t) go = go r s n t
behind (Cut t) go = []
behind (Stuck t) go = []

abbrev pub under_unit : ℕ → (ℕ → List (List ℕ)) → List (List ℕ)
under_unit zero go = []
under_unit (suc n) go = go n

-- those of a rule, where each form that it uses has this evaluation and these fronts
abbrev pub fronts_by : FileMap → Evaluation → Fronts → Rule → ℕ → List ℕ → List (List ℕ)
fronts_by files e fronts (Give r s) n t = []
fronts_by files e fronts (Use f d s go) n t = fronts f d s n t ++ behind (e f d s n t) (λ r s' m u. fronts_by files e fronts (go r s') m u)
fronts_by files e fronts (Take rule) n t = under_unit n (λ m. fronts_by files e fronts rule m t)
fronts_by files e fronts (Print bytes rule) n t = fronts_by files e fronts rule n (t ++ bytes)
fronts_by files e fronts (Read path go) n t = t ∷ fronts_by files e fronts (go (file_at files path)) n t
fronts_by files e fronts (Wrong rule) n t = fronts_by files e fronts rule n t

abbrev pub under_entry : Form → ℕ → (ℕ → List (List ℕ)) → List (List ℕ)
under_entry (turn w) n go = go n
under_entry (expression x) n go = under_unit n go
under_entry (statement x) n go = under_unit n go
under_entry (alternative x args) n go = under_unit n go
under_entry (node cases v) n go = under_unit n go

unfoldable pub fronts_within : Program → FileMap → ℕ → Fronts
fronts_within p files zero f d s n t = []
fronts_within p files (suc k) f d s n t =
    under_entry f n (λ m. fronts_by files (eval_within throws p files k) (fronts_within p files k) (entered p d f s) m t)

-- as many levels as evaluation has
unfoldable pub fronts : Program → FileMap → Fronts
fronts p files f d s n t = fronts_within p files (2 * n + 1) f d s n t

-- those of a whole run with a budget of n units, in order
unfoldable pub fronts_of_run : Program → FileMap → (State → Rule) → ℕ → List (List ℕ)
fronts_of_run p files go n = fronts_by files (eval p files) (fronts p files) (whole p go) n []
