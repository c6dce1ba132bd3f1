-- The steps that every form is made of.
use Rattle.std.proofs.Common.{◌≡◌, ℕ, zero, suc, List, [], ◌∷◌, ◌++◌, refl, ap, arith, length-append}
use Rattle.rl_value.specs.Plain.{Plain}
use Rattle.rl_eval.specs.declared.form.Form.{Form}
use Rattle.rl_eval.specs.declared.frame.Frame.{Frame}
use Rattle.rl_eval.specs.declared.frame.Member.{Member}
use Rattle.rl_eval.specs.declared.frame.Next.TheVariants as next
use Rattle.rl_eval.specs.Rule.{Give, Use, Take, Put}
use Rattle.rl_eval.specs.Evaluation.{Ran, run_by, eval}
use Rattle.rl_eval.specs.Frames.{resume, under, after, finish, at, Goes}

pub finish-push : (fs : List Frame) (f : Frame) (ran : Ran) → finish (fs ++ f ∷ []) ran ≡ finish fs (after f ran)
unfolding finish
finish-push [] f ran = refl
finish-push (g ∷ fs) f ran = ap (after g) (finish-push fs f ran)

pub give-goes : (fs : List Frame) (v : Plain) → Goes fs (Give v) (next.Leave v) fs
unfolding at
give-goes fs v = record { same = λ n t. refl; few = omega arith }

pub put-goes : (fs : List Frame) (bytes : List ℕ) (v : Plain) → Goes fs (Put bytes (Give v)) (next.Put bytes v) fs
unfolding at
put-goes fs bytes v = record { same = λ n t. refl; few = omega arith }

take-same : (fs : List Frame) (m : Member) (n : ℕ) (t : List ℕ) → finish fs (at (next.Take m) n t) ≡ finish fs (run_by eval (Take (under m)) n t)
unfolding at
take-same fs m zero t = refl
take-same fs m (suc n) t = refl

pub take-goes : (fs : List Frame) (m : Member) → Goes fs (Take (under m)) (next.Take m) fs
take-goes fs m = record { same = take-same fs m; few = omega arith }

pub use-goes : (fs new : List Frame) (f : Form) (g : Frame) → new ≡ fs ++ g ∷ [] → Goes fs (Use f (resume g)) (next.Enter f) new
unfolding at after
use-goes fs new f g e = rw e (record { same = λ n t. finish-push fs g _; few = omega (arith, length-append fs (g ∷ [])) })
