-- Conditionals and loops.
use Rattle.std.specs.Prelude.{ℕ, ◌+◌, Bool, List, Option, Some, None, if◌then◌else◌}
use Rattle.rl_syntax.specs.declared.expression.Exp.{Exp}
use Rattle.rl_syntax.specs.declared.statement.Stat.{Stat}
use Rattle.rl_value.specs.Plain.{Plain}
use Rattle.rl_rules.specs.Collections.{list_of}
use Rattle.rl_rules.specs.Conditions.{where_all, for_each, on_truth}
use Rattle.rl_rules.specs.Form.{Turn, turn, while, do_while, statement}
use Rattle.rl_rules.specs.Literals.{literal}
use Rattle.rl_rules.specs.Parts.{part, value_of, used}
use Rattle.rl_rules.specs.Program.{Program}
use Rattle.rl_rules.specs.Rule.{Outcome, Val, Brk, Cnt, Miss, Kept, Stop, Rule, Give, Use, after, done}
use Rattle.rl_rules.specs.Scopes.{scoped}
use Rattle.rl_rules.specs.State.{State, top_list, begin_pile, end_pile, begin_body, end_body}

-- If.

abbrev pub otherwise : Option Stat → ℕ → Outcome → State → Rule
otherwise None d Miss s = done s
otherwise (Some x) d Miss s = scoped (used x d) s
otherwise x d r s = Give r s

-- where nothing is kept under the conditions, the other statement, if there is one
abbrev pub conditional : Program → List Exp → Stat → Option Stat → ℕ → State → Rule
conditional p cs x other d s = after (scoped (where_all p cs d (used x d)) s) (otherwise other d)

-- `c ? a : b`
abbrev pub chosen : Exp → Exp → ℕ → Plain → State → Rule
chosen a b d = on_truth (value_of a d) (value_of b d)

abbrev pub choice : Exp → Exp → Exp → ℕ → State → Rule
choice c a b d s = part c d s (chosen a b d)

-- Loops. Each has a list of the values that are appended in its body.

-- the body of a loop: `continue` completes it, and `break` stops the loop
abbrev pub leave_body : Outcome → State → Rule
leave_body Cnt s = done (end_body s)
leave_body Brk s = Give Stop (end_body s)
leave_body r s = Give r (end_body s)

abbrev pub loop_body : Stat → ℕ → State → Rule
loop_body x d s = Use (statement x) (d + 1) (begin_body s) leave_body

-- a loop that is over; where its value is wanted, it is the list of what was appended
abbrev pub over : (wanted : Bool) → State → Rule
over wanted s = if wanted then literal (list_of (top_list s.collected)) (end_pile s) else done (end_pile s)

abbrev pub loop_end : Bool → Outcome → State → Rule
loop_end wanted (Val v) s = over wanted s
loop_end wanted Kept s = over wanted s
loop_end wanted Miss s = over wanted s
loop_end wanted Stop s = over wanted s
loop_end wanted r s = Give r (end_pile s)

abbrev pub for_loop : Program → List Exp → Stat → Bool → ℕ → State → Rule
for_loop p cs body wanted d s = after (scoped (for_each p cs d (loop_body body d)) (begin_pile s)) (loop_end wanted)

abbrev pub turn_after : Turn → ℕ → Outcome → State → Rule
turn_after next d (Val v) s = Use (turn next) d s Give
turn_after next d r s = Give r s

-- a turn of `while`: where a body is kept, the next one
abbrev pub while_turn : Program → List Exp → Stat → ℕ → State → Rule
while_turn p cs body d s = after (scoped (where_all p cs d (loop_body body d)) s) (turn_after (while cs body) d)

abbrev pub while_loop : List Exp → Stat → Bool → ℕ → State → Rule
while_loop cs body wanted d s = Use (turn (while cs body)) d (begin_pile s) (loop_end wanted)

-- the test of `do`: where it holds, the next turn
abbrev pub do_test : Program → Stat → List Exp → ℕ → Outcome → State → Rule
do_test p body cs d (Val v) s = after (scoped (where_all p cs d done) s) (turn_after (do_while body cs) d)
do_test p body cs d r s = Give r s

abbrev pub do_turn : Program → Stat → List Exp → ℕ → State → Rule
do_turn p body cs d s = after (scoped (loop_body body d) s) (do_test p body cs d)

abbrev pub do_loop : Stat → List Exp → Bool → ℕ → State → Rule
do_loop body cs wanted d s = Use (turn (do_while body cs)) d (begin_pile s) (loop_end wanted)
