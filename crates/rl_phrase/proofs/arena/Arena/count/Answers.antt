use Rattle.std.proofs.Common.{◌≡◌, length, ap, ◌∙◌, arith}
use Rattle.rl_phrase.specs.Arena.{parts_in}
use Rattle.rl_phrase.proofs.Cells.{no_list}
use Rattle.rl_phrase.proofs.arena.Arena.count.Goals as goal

pub returns : goal.returns
returns c =
    let z : length (parts_in c.args.self.now c.cells.rest) ≡ 0 = ap (λ k. length (parts_in c.args.self.now k)) c.in_default.ensures ∙ ap length (no_list c.args.self.now) in
    omega (arith, z, c.cells.invariant.counts)
