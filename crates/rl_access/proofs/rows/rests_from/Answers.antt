use Rattle.std.proofs.Common.{◌≡◌, ap, sym, ◌∙◌, false, drop, arith}
use Rattle.rl_access.specs.Rows.{is_below, rests}
use Rattle.rl_access.proofs.RowLemmas.{rests_start, rests_end, found_all}
use Rattle.rl_access.proofs.rows.rests_from.Goals as goal

pub loop-i-init : goal.loop-i-init
loop-i-init c = rw c.new-found.ensures.items (rests_start c.args.key.now c.args.rows.now c.args.start c.requires.start.0)

pub returns-then-not-begins_with : goal.returns-then-not-begins_with
returns-then-not-begins_with c =
    let below : is_below c.args.key.now c.index-rows-i.result ≡ false =
    ap (is_below c.args.key.now) c.index-rows-i.is ∙ c.requires.start.1 c.loop-i.i c.index-rows-i.result (omega arith) (omega arith) in
    found_all c.loop-i.found.items (rests c.args.key.now (drop c.loop-i.i c.args.rows.now)) (rests c.args.key.now c.args.rows.now)
    (rests_end c.args.key.now c.args.rows.now c.loop-i.i c.index-rows-i.result c.requires.rises c.requires.rows (omega arith) c.index-rows-i.is below
    (sym c.if-not-begins_with.ensures))
    c.loop-i.invariant
