-- What the frames of the machine mean, and what a step does.
use Rattle.std.specs.Prelude.{◌≡◌, ℕ, zero, suc, ◌+◌, ◌*◌, ◌≤◌, List, [], ◌∷◌, ◌++◌, length, drop}
use Rattle.rl_value.specs.Plain.{Plain}
use Rattle.rl_eval.specs.Rule.{Rule}
use Rattle.rl_eval.specs.Rules.{body, statement_of, println_of}
use Rattle.rl_eval.specs.Evaluation.{Ran, Done, Cut, on_done, run_by, eval}
use Rattle.rl_eval.specs.declared.frame.Frame.{Frame}
use Rattle.rl_eval.specs.declared.frame.Frame.TheVariants as frame
use Rattle.rl_eval.specs.declared.frame.Member.{Member}
use Rattle.rl_eval.specs.declared.frame.Member.TheVariants.{Parameters}
use Rattle.rl_eval.specs.declared.frame.Next.{Next}
use Rattle.rl_eval.specs.declared.frame.Next.TheVariants as next

-- how a form that waits goes on with the value that it waited for
abbrev pub resume : Frame → Plain → Rule
resume (frame.Body literals i) value = body (drop i literals)
resume frame.Statement value = statement_of value
resume (frame.Println literal) value = println_of literal value

-- what goes on under a member
abbrev pub under : Member → Rule
under (Parameters literals) = body literals

-- what comes of a frame once the form that it waits for is done
unfoldable pub after : Frame → Ran → Ran
after f ran = on_done ran (λ v n t. run_by eval (resume f v) n t)

-- what comes of all frames, the last of which waits for what ran
unfoldable pub finish : List Frame → Ran → Ran
finish [] ran = ran
finish (f ∷ fs) ran = after f (finish fs ran)

-- what comes of what is next, before the frames go on
unfoldable pub at : Next → ℕ → List ℕ → Ran
at (next.Enter f) n t = eval f n t
at (next.Take m) zero t = Cut t
at (next.Take m) (suc n) t = run_by eval (under m) n t
at (next.Leave v) n t = Done v n t
at (next.Put bytes v) n t = Done v n (t ++ bytes)

-- what takes a unit goes on because of that; what takes none comes to an end
abbrev pub weight : Next → ℕ
weight (next.Enter f) = 0
weight (next.Take m) = 0
weight (next.Leave v) = 1
weight (next.Put bytes v) = 2

-- A step does what the rule says: with any units and after any output, what comes of the frames after it is what came of them before it.
pub record Goes (old : List Frame) (rule : Rule) (now : Next) (new : List Frame) : Type 0 where
  pub same : (n : ℕ) (t : List ℕ) → finish new (at now n t) ≡ finish old (run_by eval rule n t)
  pub few : 2 * length new + weight now ≤ 2 * length old + 2
