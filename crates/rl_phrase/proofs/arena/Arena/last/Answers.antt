use Rattle.std.proofs.Common.{◌≡◌, ◌-◌, suc, length, reverse, Some, get_or, sym, ap, ◌∙◌, subst, arith}
use Rattle.std.proofs.lemmas.List.{reverse-reverse}
use Rattle.rl_phrase.specs.Arena.{Reads}
use Rattle.rl_phrase.proofs.Cells.{found}
use Rattle.rl_phrase.proofs.arena.Arena.last.Goals as goal

pub returns : goal.returns
returns c =
    let items = c.self.inside.cells.items in
    let r = c.index.result.now in
    let n = c.args.list - 1 in
    let ne = c.if-list-eq0.false in
    let e : suc n ≡ c.args.list = grind arith in
    let le = c.requires in
    let len : length (reverse items) ≡ length c.args.self.now = ap length c.self.view_is in
    let here : get_or (reverse (reverse items)) n r ≡ r = ap (λ l. get_or l n r) (reverse-reverse items) ∙ sym c.index.ensures in
    let reads : Reads (reverse items) (suc n) (Some r) = subst (λ x. Reads (reverse items) (suc n) (Some x)) here (found (reverse items) c.self.invariant n r (omega arith)) in
    subst (λ v. Reads v c.args.list (Some r)) c.self.view_is (subst (λ k. Reads (reverse items) k (Some r)) e reads)
