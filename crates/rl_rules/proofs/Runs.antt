-- Units, more units and printed bytes of whole runs.
use Rattle.std.proofs.Common.{ℕ, ◌+◌, []}
use Rattle.rl_base.specs.Holds.{FileMap}
use Rattle.rl_rules.specs.Evaluation.{Ran, Done, Cut, Stuck, Reading, eval_as, printed}
use Rattle.rl_rules.specs.Laws.{GoesOnFrom, Leaves, More}
use Rattle.rl_rules.specs.Program.{Program}
use Rattle.rl_rules.specs.Rule.{Rule}
use Rattle.rl_rules.specs.Run.{derivation_as, whole}
use Rattle.rl_rules.specs.State.{State}
use Rattle.rl_rules.proofs.Growth.{GoesOnFrom-refl, eval-goes_on}
use Rattle.rl_rules.proofs.More.{run-more, eval-more}
use Rattle.rl_rules.proofs.Units.{run-leaves, eval-never_gains}

pub derivation-leaves : (w : Reading) (p : Program) (files : FileMap) (go : State → Rule) (n : ℕ) → Leaves n (derivation_as w p files go n)
unfolding derivation_as
derivation-leaves w p files go n = run-leaves w files (eval_as w p files) (eval-never_gains w p files) (whole p go) n []

pub derivation-more : (w : Reading) (p : Program) (files : FileMap) (k : ℕ) (go : State → Rule) (n : ℕ) → More k (derivation_as w p files go n) (derivation_as w p files go (n + k))
unfolding derivation_as
derivation-more w p files k go n = run-more w files k (eval_as w p files) (eval_as w p files) (eval-more w p files k) (eval-goes_on w p files) (whole p go) n []

more-goes_on : (k : ℕ) (o o' : Ran) → More k o o' → GoesOnFrom (printed o) (printed o')
more-goes_on k (Done r s m t) o' h = rw h (GoesOnFrom-refl t)
more-goes_on k (Cut t) o' h = h
more-goes_on k (Stuck t) o' h = rw h (GoesOnFrom-refl t)

pub derivation-goes_on : (w : Reading) (p : Program) (files : FileMap) (k : ℕ) (go : State → Rule) (n : ℕ) → GoesOnFrom (printed (derivation_as w p files go n)) (printed (derivation_as w p files go (n + k)))
derivation-goes_on w p files k go n = more-goes_on k (derivation_as w p files go n) (derivation_as w p files go (n + k)) (derivation-more w p files k go n)
