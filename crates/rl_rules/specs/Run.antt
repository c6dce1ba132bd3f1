-- What a whole run does, and the run of a test.
use Rattle.std.specs.Prelude.{ℕ, ◌==◌, ◌&&◌, Bool, true, false, List, [], ◌∷◌, map, filter, length, flat_map, Option, Some, if◌then◌else◌, codes}
use Rattle.rl_base.specs.Holds.{FileMap}
use Rattle.rl_exception.specs.Answer.{fitting, fits}
use Rattle.rl_exception.specs.Exceptions.{too_large, call_failed, wrong_kind}
use Rattle.rl_syntax.specs.declared.declaration.Modifier.{Modifier}
use Rattle.rl_syntax.specs.declared.declaration.Modifier.TheVariants.{Test}
use Rattle.rl_syntax.specs.declared.ty.Field.{Field}
use Rattle.rl_syntax.specs.declared.ty.Ty.{Ty, out-Ty}
use Rattle.rl_syntax.specs.declared.ty.Ty.TheOpen as t
use Rattle.rl_visibility.specs.Visible.{Alternative, Global, alternatives_in, globals_in}
use Rattle.rl_value.specs.Plain.{Plain, bool, int, list, text, tuple, nil, plains_of}
use Rattle.rl_rules.specs.Calls.{in_order, takes, try_each}
use Rattle.rl_rules.specs.Evaluation.{Ran, Done, Cut, Stuck, Reading, throws, run_as, eval_as}
use Rattle.rl_rules.specs.Form.{expression}
use Rattle.rl_rules.specs.Parts.{bare}
use Rattle.rl_rules.specs.Program.{Program}
use Rattle.rl_rules.specs.Rule.{Outcome, Val, Thr, Miss, Rule, Give, Use, after, give, wrong_operand, on_value, on_answer}
use Rattle.rl_rules.specs.State.{State, enter_call, leave_call, set_global}

-- nothing has a value
abbrev pub first_state : State
first_state = record { globals = []; scopes = []; acting = 0; appended = []; collected = []; its = [] }

-- Initialisers.

-- in the order in which loading finished the modules, and in text order
abbrev pub globals_of : Program → List Global
globals_of p = flat_map (λ m. globals_in p.modules m m) p.finished

-- what follows with the value of a global
abbrev pub initialised : Global → (State → Rule) → Plain → State → Rule
initialised g go v s = go (set_global g.name.number v s)

-- after an initialiser, which began in this state
abbrev pub after_initialiser : Global → (State → Rule) → State → Outcome → State → Rule
after_initialiser g go before r s = on_value (initialised g go) r (leave_call before s)

-- each is its expression, at depth 1, with a scope of its own, in which its own module acts
abbrev pub initialisers : List Global → (State → Rule) → State → Rule
initialisers [] go s = go s
initialisers (g ∷ gs) go s = Use (expression (bare g.value)) 1 (enter_call g.home s) (after_initialiser g (initialisers gs go) s)

-- a run: the initialisers, and then what follows them
abbrev pub whole : Program → (State → Rule) → Rule
whole p go = initialisers (globals_of p) go first_state

-- its derivation with a budget of n units
unfoldable pub derivation_as : Reading → Program → FileMap → (State → Rule) → ℕ → Ran
derivation_as reading p files go n = run_as reading files (eval_as reading p files) (whole p go) n []

abbrev pub derivation : Program → FileMap → (State → Rule) → ℕ → Ran
derivation = derivation_as throws

-- `main`.

abbrev pub main_name : List ℕ
main_name = codes "main"

-- the alternatives of module 0 alone, in which module 0 acts
abbrev pub mains : Program → ℕ → List Alternative
mains p count = in_order (filter (takes main_name count) (alternatives_in p.modules 0 0 0))

abbrev pub unserved : State → Rule
unserved s = Give Miss s

-- at depth 1
abbrev pub main_on : Program → List Plain → State → Rule
main_on p vs s = try_each (mains p (length vs)) vs 0 unserved s

-- the arguments as a list of texts
abbrev pub argument_list : List (List ℕ) → Plain
argument_list words = list (plains_of (map text words))

abbrev pub main_on_words : Program → Plain → State → Rule
main_on_words p v = main_on p (v ∷ [])

-- where `main` has a parameter, it is that list
abbrev pub main_by : Program → List (List ℕ) → List Alternative → State → Rule
main_by p words [] s = on_answer (fitting (argument_list words)) (main_on_words p) s
main_by p words (a ∷ others) s = main_on p [] s

-- an int, or the empty tuple of a void function
abbrev pub main_value : Plain → State → Rule
main_value (int n) s = give (int n) s
main_value (tuple nil) s = give (tuple nil) s
main_value v s = wrong_operand s

abbrev pub main : Program → List (List ℕ) → State → Rule
main p words s = after (main_by p words (mains p 0) s) (on_value main_value)

-- Tests.

abbrev pub is_test_modifier : Option Modifier → Bool
is_test_modifier (Some Test) = true
is_test_modifier other = false

abbrev pub is_bool_form : t.Ty-F Ty Field → Bool
is_bool_form (t.Bool place) = true
is_bool_form other = false

-- marked `test`, of type bool, and without parameters
abbrev pub is_test : Alternative → Bool
is_test a = is_test_modifier a.function.modifier && is_bool_form (out-Ty a.function.ty) && length a.function.parameters == 0

-- the tests of module 0, in text order
abbrev pub tests : Program → List Alternative
tests p = filter is_test (alternatives_in p.modules 0 0 0)

abbrev pub test_value : Plain → State → Rule
test_value (bool b) s = give (bool b) s
test_value v s = wrong_operand s

-- a test alone, at depth 1
abbrev pub test : Alternative → State → Rule
test a s = after (try_each (a ∷ []) [] 0 unserved s) (on_value test_value)

-- How a run ends.

pub data Ending : Type 0 where
  -- in an int, or in the empty tuple of a void function
  Value : Plain → Ending
  -- no alternative of `main` serves; with the exception that says so
  Failed : Plain → Ending
  -- with an exception
  Uncaught : Plain → Ending
  -- cut, since no unit is left
  Budget : Ending

-- the arguments of `main` with these alternatives without a parameter
abbrev pub arguments_by : List (List ℕ) → List Alternative → List Plain
arguments_by words [] = argument_list words ∷ []
arguments_by words (a ∷ others) = []

-- the arguments with which `main` was called
abbrev pub main_arguments : Program → List (List ℕ) → List Plain
main_arguments p words = arguments_by words (mains p 0)

abbrev pub failure : Plain → Ending
failure exception = if fits exception then Failed exception else Uncaught too_large

-- a call ends in no other outcome
abbrev pub ending_of_outcome : Program → List (List ℕ) → Outcome → Ending
ending_of_outcome p words (Val v) = Value v
ending_of_outcome p words (Thr exception) = Uncaught exception
ending_of_outcome p words Miss = failure (call_failed (list (plains_of (main_arguments p words))))
ending_of_outcome p words r = Uncaught wrong_kind

abbrev pub ending_of : Program → List (List ℕ) → Ran → Ending
ending_of p words (Done r s n t) = ending_of_outcome p words r
ending_of p words (Cut t) = Budget
ending_of p words (Stuck t) = Uncaught wrong_kind

-- How a test ends.

pub data Verdict : Type 0 where
  Pass : Verdict
  Fails : Verdict
  -- with an exception
  Error : Plain → Verdict
  -- cut, since no unit is left
  OutOfUnits : Verdict

-- a call ends in no other outcome
abbrev pub verdict_of_outcome : Outcome → Verdict
verdict_of_outcome (Val (bool true)) = Pass
verdict_of_outcome (Val (bool false)) = Fails
verdict_of_outcome (Thr exception) = Error exception
verdict_of_outcome Miss = Fails
verdict_of_outcome r = Error wrong_kind

abbrev pub verdict_of : Ran → Verdict
verdict_of (Done r s n t) = verdict_of_outcome r
verdict_of (Cut t) = OutOfUnits
verdict_of (Stuck t) = Error wrong_kind
