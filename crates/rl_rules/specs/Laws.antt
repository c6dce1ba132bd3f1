-- What holds of all evaluations.
use Rattle.std.specs.Prelude.{◌≡◌, ℕ, suc, ◌+◌, ◌≤◌, ◌<◌, ⊤, Bool, false, List, length, [], ◌∷◌, ◌++◌, All, Some, None}
use Rattle.std.specs.FinMap.{FinMap, empty, get, insert, entries}
use Rattle.std.specs.Ordering.{nat_cmp}
use Rattle.rl_base.specs.Holds.{FileMap}
use Rattle.rl_match.specs.Bindings.{Binding, value_in}
use Rattle.rl_syntax.specs.declared.statement.Handler.{Handler}
use Rattle.rl_syntax.specs.declared.statement.Stat.{Stat}
use Rattle.rl_syntax.specs.declared.expression.Exp.{Exp, out-Exp}
use Rattle.rl_syntax.specs.declared.pattern.Pattern.{Pattern}
use Rattle.rl_syntax.specs.declared.module.Module.{Module}
use Rattle.rl_value.specs.Plain.{Plain}
use Rattle.rl_visibility.specs.Visible.{own_within, own}
use Rattle.rl_rules.specs.Conditions.{conditions_in, taken_apart, members_of, enumerated}
use Rattle.rl_rules.specs.Evaluation.{Evaluation, Ran, Done, Cut, Stuck, Reading, on_done, run_as, run_by, eval_as, eval, printed}
use Rattle.rl_rules.specs.Exceptions.{try}
use Rattle.rl_rules.specs.Form.{Form, expression, statement, alternative, node, Turn, turn, while, do_while, solve, visit}
use Rattle.rl_rules.specs.Fronts.{Fronts, behind, fronts_by, fronts}
use Rattle.rl_rules.specs.Members.{members}
use Rattle.rl_rules.specs.Parts.{bare, inside}
use Rattle.rl_rules.specs.Program.{Program}
use Rattle.rl_rules.specs.Rule.{Outcome, Val, Miss, Fail, Kept, Stop, Rule, after}
use Rattle.rl_rules.specs.Rules.{entered}
use Rattle.rl_rules.specs.State.{State, value_of, with_value, read, in_reach, declare_all, open_scope, close_scope}

-- every form but a turn takes a unit
abbrev pub TakesUnit : Form → Type 0
TakesUnit (turn w) = ⊥
TakesUnit f = ⊤

-- The equation of evaluation: without a unit a form is cut; else its evaluation is its rule's, with one unit less. A turn's is its rule's.
pub record IsByRules (reading : Reading) (p : Program) (files : FileMap) : Type 0 where
  pub cut : (f : Form) → TakesUnit f → (d : ℕ) (s : State) (t : List ℕ) → eval_as reading p files f d s 0 t ≡ Cut t
  pub forms : (f : Form) → TakesUnit f → (d : ℕ) (s : State) (n : ℕ) (t : List ℕ)
      → eval_as reading p files f d s (suc n) t ≡ run_as reading files (eval_as reading p files) (entered p d f s) n t
  pub turns : (w : Turn) (d : ℕ) (s : State) (n : ℕ) (t : List ℕ)
      → eval_as reading p files (turn w) d s n t ≡ run_as reading files (eval_as reading p files) (entered p d (turn w) s) n t

-- at most so many units are left
abbrev pub Leaves : ℕ → Ran → Type 0
Leaves n (Done r s m t) = m ≤ n
Leaves n (Cut t) = ⊤
Leaves n (Stuck t) = ⊤

-- the second list begins with the first
abbrev pub GoesOnFrom : List ℕ → List ℕ → Type 0
GoesOnFrom t u = (rest : List ℕ) × (t ++ rest ≡ u)

-- with k more units: what is done is done alike, with k more left, what was cut goes on from what was printed, and what is stuck stays so
abbrev pub More : ℕ → Ran → Ran → Type 0
More k (Done r s m t) ran = ran ≡ Done r s (m + k) t
More k (Cut t) ran = GoesOnFrom t (printed ran)
More k (Stuck t) ran = ran ≡ Stuck t

-- Parentheses and conjunctions.

-- an expression in parentheses is what it is in them, however many there are
abbrev pub BareIsByForm : Type 0
BareIsByForm = (x : Exp) → bare x ≡ inside x bare (out-Exp x)

-- the conditions of an expression are by its form, and by those of the expressions in it
abbrev pub ConditionsAreByForm : Type 0
ConditionsAreByForm = (x : Exp) → conditions_in x ≡ taken_apart x conditions_in (out-Exp x)

-- Own modules.

-- a module's own modules are found through as many levels as there are modules: more make no difference
abbrev pub OwnModulesAreWhole : Type 0
OwnModulesAreWhole = (modules : List Module) (m k : ℕ) → m < length modules → own_within (length modules + k) modules [] m ≡ own modules m

-- Scopes.

-- The entries of a finite map of the library are variables: they have what the map has, and setting one sets it in the map. So no two states differ by the order of writes.
pub record AreFiniteMaps : Type 0 where
  pub none : entries (empty {X = Plain} {R = nat_cmp}) ≡ []
  pub has : (scope : FinMap nat_cmp Plain) (x : ℕ) → value_of x (entries scope) ≡ get scope x
  pub set : (scope : FinMap nat_cmp Plain) (x : ℕ) (v : Plain) → with_value x v (entries scope) ≡ entries (insert scope x v)

-- what patterns see of a variable from outside is the value that it has
abbrev pub PatternsSeeVariables : Type 0
PatternsSeeVariables = (x : ℕ) (s : State) → value_in x (in_reach s) ≡ read x s

-- What was printed before each read.

-- The equation of fronts, as that of evaluation: without a unit there are none; else those of a form are those of its rule, with one unit less. A turn's are those of its rule.
pub record FrontsAreByRules (p : Program) (files : FileMap) : Type 0 where
  pub cut : (f : Form) → TakesUnit f → (d : ℕ) (s : State) (t : List ℕ) → fronts p files f d s 0 t ≡ []
  pub forms : (f : Form) → TakesUnit f → (d : ℕ) (s : State) (n : ℕ) (t : List ℕ)
      → fronts p files f d s (suc n) t ≡ fronts_by files (eval p files) (fronts p files) (entered p d f s) n t
  pub turns : (w : Turn) (d : ℕ) (s : State) (n : ℕ) (t : List ℕ)
      → fronts p files (turn w) d s n t ≡ fronts_by files (eval p files) (fronts p files) (entered p d (turn w) s) n t

-- those of two rules put together are those of the first, and then of the second from where the first was done
abbrev pub FrontsGoOn : FileMap → Evaluation → Fronts → Type 0
FrontsGoOn files e fronts = (rule : Rule) (go : Outcome → State → Rule) (n : ℕ) (t : List ℕ)
    → fronts_by files e fronts (after rule go) n t
    ≡ fronts_by files e fronts rule n t ++ behind (run_by files e rule n t) (λ r s m u. fronts_by files e fronts (go r s) m u)

-- each begins with what was printed before, and what is printed in the end begins with it
abbrev pub AreFrontsFrom : (before printed : List ℕ) → List (List ℕ) → Type 0
AreFrontsFrom before printed fronts = All (λ front. GoesOnFrom before front × GoesOnFrom front printed) fronts

-- How forms end.

-- in no Miss, Kept or Stop
abbrev pub IsEnd : Outcome → Type 0
IsEnd Miss = ⊥
IsEnd Kept = ⊥
IsEnd Stop = ⊥
IsEnd r = ⊤

-- so, or in Miss
abbrev pub IsEndOrMiss : Outcome → Type 0
IsEndOrMiss Miss = ⊤
IsEndOrMiss r = IsEnd r

-- a turn of a loop may end in any way, since what follows the loop takes each
abbrev pub TurnEnds : Turn → Outcome → Type 0
TurnEnds (while cs body) r = ⊤
TurnEnds (do_while body cs) r = ⊤
TurnEnds (solve names body) r = IsEnd r
TurnEnds (visit strategy cs ty v given) r = IsEnd r

-- only an alternative, and the cases on a node, end in Miss, where they do not serve
abbrev pub EndsSo : Form → Outcome → Type 0
EndsSo (expression x) r = IsEnd r
EndsSo (statement x) r = IsEnd r
EndsSo (alternative a vs) r = IsEndOrMiss r
EndsSo (node cs v) r = IsEndOrMiss r
EndsSo (turn w) r = TurnEnds w r

-- as many scopes, piles and values of `it`
pub record HasAsMany (s t : State) : Type 0 where
  pub scopes : length t.scopes ≡ length s.scopes
  pub appended : length t.appended ≡ length s.appended
  pub collected : length t.collected ≡ length s.collected
  pub its : length t.its ≡ length s.its

-- a turn of a loop comes where the loop has a pile
abbrev pub HasPile : Form → State → Type 0
HasPile (turn (while cs body)) s = 1 ≤ length s.collected
HasPile (turn (do_while body cs)) s = 1 ≤ length s.collected
HasPile f s = ⊤

-- a form that is done ended so, and left as many scopes, piles and values of `it` as it found
abbrev pub EndsWell : Form → State → Ran → Type 0
EndsWell f s (Done r t n u) = EndsSo f r × HasAsMany s t
EndsWell f s (Cut u) = ⊤
EndsWell f s (Stuck u) = ⊤

-- Members.

-- nothing under a member was kept
abbrev pub IsAbandoned : Outcome → Type 0
IsAbandoned Miss = ⊤
IsAbandoned Fail = ⊤
IsAbandoned r = ⊥

-- Where what follows under a member is abandoned, the next members follow from the state before it, with the units that are left and after what was printed.
abbrev pub AbandonedIsTakenBack : Reading → FileMap → Evaluation → Type 0
AbandonedIsTakenBack reading files e = (b : Binding) (bs : List Binding) (any : Bool) (under : State → Rule) (s : State) (n : ℕ) (t : List ℕ) (r : Outcome) (left : State) (m : ℕ) (u : List ℕ)
    → run_as reading files e (under (declare_all b s)) n t ≡ Done r left m u → IsAbandoned r
    → run_as reading files e (members (b ∷ bs) any under s) (suc n) t ≡ run_as reading files e (members bs any under s) m u

-- Where no member is kept, the state is what it was before all of them.
abbrev pub MissLeavesState : Reading → FileMap → Evaluation → Type 0
MissLeavesState reading files e = (bs : List Binding) (under : State → Rule) (s : State) (n : ℕ) (t : List ℕ) (left : State) (m : ℕ) (u : List ℕ)
    → run_as reading files e (members bs false under s) n t ≡ Done Miss left m u → left ≡ s

-- So where the conditions behind a match do not hold, the state is what it was after the operand.
abbrev pub MatchLeavesState : Reading → Program → FileMap → Evaluation → Type 0
MatchLeavesState reading p files e = (pattern : Pattern) (rest : State → Rule) (v : Plain) (s : State) (n : ℕ) (t : List ℕ) (left : State) (m : ℕ) (u : List ℕ)
    → run_as reading files e (members_of p pattern rest v s) n t ≡ Done Miss left m u → left ≡ s

-- and behind an enumeration
abbrev pub EnumerationLeavesState : Reading → Program → FileMap → Evaluation → Type 0
EnumerationLeavesState reading p files e = (pattern : Pattern) (rest : State → Rule) (v : Plain) (s : State) (n : ℕ) (t : List ℕ) (left : State) (m : ℕ) (u : List ℕ)
    → run_as reading files e (enumerated p pattern rest v s) n t ≡ Done Miss left m u → left ≡ s

-- `finally`.

-- how `try` ends, by how it ended before `finally` and how `finally` ended
abbrev pub end_with : Outcome → Outcome → Outcome
end_with before (Val v) = before
end_with before r = r

-- Whatever the end before it, the statement is used once, and then the whole ends.
abbrev pub FinallyIsUsedOnce : Reading → Program → FileMap → Evaluation → Type 0
FinallyIsUsedOnce reading p files e = (body last : Stat) (hs : List Handler) (d : ℕ) (s : State) (n : ℕ) (t : List ℕ)
    → run_as reading files e (try p body hs (Some last) d s) n t
    ≡ on_done (run_as reading files e (try p body hs None d s) n t) (λ r s' m u.
    on_done (e (statement last) (d + 1) (open_scope s') m u) (λ q s'' k v.
    Done (end_with r q) (close_scope s'') k v))
