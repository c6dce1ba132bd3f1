-- The evaluation of a form with a budget of units.
use Rattle.std.specs.Prelude.{ℕ, zero, suc, ◌+◌, ◌*◌, List, ◌++◌}
use Rattle.rl_base.specs.Holds.{FileMap, file_at}
use Rattle.rl_rules.specs.Form.{Form, turn, expression, statement, alternative, node}
use Rattle.rl_rules.specs.Program.{Program}
use Rattle.rl_rules.specs.Rule.{Outcome, Rule, Give, Use, Take, Print, Read, Wrong}
use Rattle.rl_rules.specs.Rules.{entered}
use Rattle.rl_rules.specs.State.{State}

-- how it ends, with the bytes that were printed by then
pub data Ran : Type 0 where
  -- done, with the units that are left
  Done : Outcome → State → ℕ → List ℕ → Ran
  -- cut, where a unit is wanted and none is left
  Cut : List ℕ → Ran
  -- stopped at an operand of another kind, where that is an end of its own
  Stuck : List ℕ → Ran

-- how an operand of another kind is read
pub data Reading : Type 0 where
  -- it throws WrongKind()
  throws : Reading
  -- it ends all, as a cut does
  stops : Reading

-- an evaluation of a form at a depth and from a state, with these units, after these bytes were printed
abbrev pub Evaluation : Type 0
Evaluation = Form → ℕ → State → ℕ → List ℕ → Ran

-- goes on where the first is done; another end inside is that of the whole
abbrev pub on_done : Ran → (Outcome → State → ℕ → List ℕ → Ran) → Ran
on_done (Done r s n t) go = go r s n t
on_done (Cut t) go = Cut t
on_done (Stuck t) go = Stuck t

-- takes a unit, or is cut where none is left
abbrev pub with_unit : ℕ → List ℕ → (ℕ → Ran) → Ran
with_unit zero t go = Cut t
with_unit (suc n) t go = go n

abbrev pub on_wrong : Reading → List ℕ → Ran → Ran
on_wrong throws t ran = ran
on_wrong stops t ran = Stuck t

-- a rule, where each form that it uses has this evaluation
abbrev pub run_as : Reading → FileMap → Evaluation → Rule → ℕ → List ℕ → Ran
run_as reading files e (Give r s) n t = Done r s n t
run_as reading files e (Use f d s go) n t = on_done (e f d s n t) (λ r s' m u. run_as reading files e (go r s') m u)
run_as reading files e (Take rule) n t = with_unit n t (λ m. run_as reading files e rule m t)
run_as reading files e (Print bytes rule) n t = run_as reading files e rule n (t ++ bytes)
run_as reading files e (Read path go) n t = run_as reading files e (go (file_at files path)) n t
run_as reading files e (Wrong rule) n t = on_wrong reading t (run_as reading files e rule n t)

abbrev pub run_by : FileMap → Evaluation → Rule → ℕ → List ℕ → Ran
run_by = run_as throws

-- each form but a turn takes its unit where it is entered
abbrev pub entering : Form → ℕ → List ℕ → (ℕ → Ran) → Ran
entering (turn w) n t go = go n
entering (expression x) n t go = with_unit n t go
entering (statement x) n t go = with_unit n t go
entering (alternative x args) n t go = with_unit n t go
entering (node cases v) n t go = with_unit n t go

-- an evaluation that nests at most k deep: the form is entered, and its rule applies
unfoldable pub eval_within : Reading → Program → FileMap → ℕ → Evaluation
eval_within reading p files zero f d s n t = Cut t
eval_within reading p files (suc k) f d s n t = entering f n t (λ m. run_as reading files (eval_within reading p files k) (entered p d f s) m t)

-- Each form that nests takes a unit, or is a turn in which a unit is taken before the next turn nests. So none nests deeper than twice the units, and once more.
unfoldable pub eval_as : Reading → Program → FileMap → Evaluation
eval_as reading p files f d s n t = eval_within reading p files (2 * n + 1) f d s n t

-- the evaluation of the language
abbrev pub eval : Program → FileMap → Evaluation
eval = eval_as throws

-- the same, but for a stop at each operand of another kind
abbrev pub strict_eval : Program → FileMap → Evaluation
strict_eval = eval_as stops

-- what was printed
abbrev pub printed : Ran → List ℕ
printed (Done r s n t) = t
printed (Cut t) = t
printed (Stuck t) = t
