-- What is cut out of a list or a text.
use Rattle.std.proofs.Common.{◌≡◌, ℕ, List, length, Result, Ok, Err, Option, ap, sym, subst, ◌∙◌}
use Rattle.std.specs.Prelude.{slice_range}
use Rattle.rl_value.specs.Plain.{Plain, list, plains_of, items_of-plains_of}
use Rattle.rl_exception.specs.Answer.{Answers, Ends, fitting}
use Rattle.rl_exception.specs.declared.op_end.OpEnd.{OpEnd}
use Rattle.rl_exception.specs.declared.op_end.OpEnd.TheVariants.{Throw, OutOfMemory}
use Rattle.rl_access.specs.Slices.{slice_of, cut_of, cut_out, Finds}

pub cut_ends : (piece : ℕ → ℕ → Plain) (r : Result (ℕ × ℕ) Plain) (end : OpEnd) → Finds r (Err end) → Ends (cut_out piece r) end
cut_ends piece r (Throw exception) e = ap (cut_out piece) e
cut_ends piece r OutOfMemory e = tt

pub cut_gives : (piece : ℕ → ℕ → Plain) (r : Result (ℕ × ℕ) Plain) (p : ℕ × ℕ) (t : Plain) (o : Result Plain OpEnd) → r ≡ Ok p → piece p.0 p.1 ≡ t
    → Answers (fitting t) o → Answers (cut_out piece r) o
cut_gives piece r p t o e f h = subst (λ a. Answers a o) (sym (ap (cut_out piece) e ∙ ap fitting f)) h

pub sliced : (ts : List Plain) (from to : Option Plain) → cut_out (λ i j. list (plains_of (slice_range ts i j))) (cut_of (length ts) from to) ≡ slice_of (list (plains_of ts)) from to
sliced ts from to = sym (ap (λ (us : List Plain). cut_out (λ i j. list (plains_of (slice_range us i j))) (cut_of (length us) from to)) (items_of-plains_of ts))
