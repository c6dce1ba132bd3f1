-- The evaluation of a form with a budget of units.
use Rattle.std.specs.Prelude.{ℕ, zero, suc, List, ◌++◌}
use Rattle.rl_value.specs.Plain.{Plain}
use Rattle.rl_eval.specs.declared.form.Form.{Form}
use Rattle.rl_eval.specs.Rule.{Rule, Give, Use, Take, Put}
use Rattle.rl_eval.specs.Rules.{rule_of}

-- how it ends: in a value, with the units that are left, or cut; and the bytes that were printed by then
pub data Ran : Type 0 where
  Done : Plain → ℕ → List ℕ → Ran
  Cut : List ℕ → Ran

-- an evaluation of a form, with these units, after these bytes were printed
abbrev pub Evaluation : Type 0
Evaluation = Form → ℕ → List ℕ → Ran

-- goes on where the first is done; a cut inside cuts the whole
abbrev pub on_done : Ran → (Plain → ℕ → List ℕ → Ran) → Ran
on_done (Done v n t) go = go v n t
on_done (Cut t) go = Cut t

-- a rule, where each form that it uses has this evaluation; a member takes a unit
abbrev pub run_by : Evaluation → Rule → ℕ → List ℕ → Ran
run_by e (Give v) n t = Done v n t
run_by e (Use f go) n t = on_done (e f n t) (λ v m u. run_by e (go v) m u)
run_by e (Take rule) zero t = Cut t
run_by e (Take rule) (suc n) t = run_by e rule n t
run_by e (Put bytes rule) n t = run_by e rule n (t ++ bytes)

-- an evaluation that nests at most k deep: without a unit it is cut, else it takes one and the form's rule applies
unfoldable pub eval_within : ℕ → Evaluation
eval_within k f zero t = Cut t
eval_within zero f (suc n) t = Cut t
eval_within (suc k) f (suc n) t = run_by (eval_within k) (rule_of f) n t

-- each nested one takes a unit, so that none nests deeper than there are units
unfoldable pub eval : Evaluation
eval f n t = eval_within n f n t

-- what was printed
abbrev pub printed : Ran → List ℕ
printed (Done v n t) = t
printed (Cut t) = t
