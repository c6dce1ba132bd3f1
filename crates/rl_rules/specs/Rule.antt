-- A rule says which forms are used, one after another, what is printed between them, and how it ends.
use Rattle.std.specs.Prelude.{ℕ, ◌+◌, Bool, false, if◌then◌else◌, List, Option, bytes_eq, codes}
use Rattle.rl_value.specs.Plain.{Plain, node, nil, empty_tuple}
use Rattle.rl_exception.specs.Answer as answer
use Rattle.rl_exception.specs.Exceptions.{wrong_kind}
use Rattle.rl_rules.specs.Form.{Form}
use Rattle.rl_rules.specs.State.{State}

-- how something ends
pub data Outcome : Type 0 where
  -- in a value
  Val : Plain → Outcome
  -- by `return`
  Ret : Plain → Outcome
  -- by `break`
  Brk : Outcome
  -- by `continue`
  Cnt : Outcome
  -- by `fail`
  Fail : Outcome
  -- by `insert`
  Ins : Plain → Outcome
  -- by an exception
  Thr : Plain → Outcome
  -- conditions, or cases, under which nothing was kept
  Miss : Outcome
  -- conditions of which every member was followed, and one at least was kept
  Kept : Outcome
  -- a loop's own `break`
  Stop : Outcome

pub data Rule : Type 0 where
  -- it ends so, in this state
  Give : Outcome → State → Rule
  -- it uses a form at a depth and from a state, and goes on with how that ends
  Use : Form → ℕ → State → (Outcome → State → Rule) → Rule
  -- it takes a unit without a form, and goes on
  Take : Rule → Rule
  -- it prints these bytes, and goes on
  Print : List ℕ → Rule → Rule
  -- it reads the file of a path, and goes on with its bytes, if there are any
  Read : List ℕ → (Option (List ℕ) → Rule) → Rule
  -- an operand is of another kind than the rule takes; what follows throws WrongKind()
  Wrong : Rule → Rule

-- the first, and with how it ends the second
abbrev pub after : Rule → (Outcome → State → Rule) → Rule
after (Give r s) go = go r s
after (Use f d s next) go = Use f d s (λ r t. after (next r t) go)
after (Take rule) go = Take (after rule go)
after (Print bytes rule) go = Print bytes (after rule go)
after (Read path next) go = Read path (λ found. after (next found) go)
after (Wrong rule) go = Wrong (after rule go)

-- goes on with a value; any other end is the end
abbrev pub on_value : (Plain → State → Rule) → Outcome → State → Rule
on_value go (Val v) s = go v s
on_value go r s = Give r s

-- a part of a form at depth d, and then what follows with its value
abbrev pub value : Form → ℕ → State → (Plain → State → Rule) → Rule
value f d s go = Use f (d + 1) s (on_value go)

abbrev pub throw : Plain → State → Rule
throw exception s = Give (Thr exception) s

-- the end of every rule that has an operand of another kind than it takes
abbrev pub wrong_operand : State → Rule
wrong_operand s = Wrong (throw wrong_kind s)

-- WrongKind()
abbrev pub is_wrong_kind : Plain → Bool
is_wrong_kind (node name nil) = bytes_eq name (codes "WrongKind")
is_wrong_kind v = false

-- with the exception of an operation, which says by WrongKind() that an operand is of another kind
abbrev pub refused : Plain → State → Rule
refused exception s = if is_wrong_kind exception then wrong_operand s else throw exception s

-- where an operation gives a value, what follows with it
abbrev pub on_answer : answer.Answer → (Plain → State → Rule) → State → Rule
on_answer (answer.Gives v) go s = go v s
on_answer (answer.Throws exception) go s = refused exception s

abbrev pub give : Plain → State → Rule
give v s = Give (Val v) s

-- in what an operation answers
abbrev pub give_answer : answer.Answer → State → Rule
give_answer a s = on_answer a give s

-- goes on, and drops the value
abbrev pub dropping : (State → Rule) → Plain → State → Rule
dropping rule v s = rule s

-- in the value of something that has none
abbrev pub done : State → Rule
done s = Give (Val empty_tuple) s
