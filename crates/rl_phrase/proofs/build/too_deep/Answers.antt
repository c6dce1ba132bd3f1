use Rattle.std.proofs.Common.{◌≡◌, ℕ, [], None, List, take, reverse, ap, sym, ◌∙◌, arith}
use Rattle.rl_phrase.specs.declared.steps.Step.{Step}
use Rattle.rl_phrase.proofs.Scan.{scan, scan_one}
use Rattle.rl_phrase.proofs.build.too_deep.Goals as goal

pub returns : goal.returns
returns c t e =
    let z : c.steps.i ≡ 0 = omega arith in
    sym (ap (λ (i : ℕ). scan 1000 (reverse (take i c.args.steps.now)) c.steps.above c.steps.deep) z)
    ∙ c.steps.invariant.scans
    ∙ ap (λ (s : List Step). scan 1000 (reverse s) [] None) e
    ∙ scan_one 1000 t
