use Rattle.std.proofs.Common.{◌≡◌, ◌<◌, ◌+◌, ◌*◌, ◌/◌, length, arith}
use Rattle.rl_value.proofs.KidsLemmas.{count_pairs_kids, pair_at}
use Rattle.rl_value.proofs.kids.nth_of_pairs.Goals as goal

pub bounds-pairs-i : goal.bounds-pairs-i
bounds-pairs-i c = omega (arith, count_pairs_kids c.args.pairs.now)

pub returns-then-i-eq0 : goal.returns-then-i-eq0
returns-then-i-eq0 c =
    let below : c.args.i / 2 < length c.args.pairs.now = omega (arith, count_pairs_kids c.args.pairs.now) in
    let even : c.args.i ≡ 2 * (c.args.i / 2) = omega arith in
    rw even (pair_at c.args.pairs.now (c.args.i / 2) c.index-pairs-i.result below c.index-pairs-i.is).0

pub returns-else-i-eq0 : goal.returns-else-i-eq0
returns-else-i-eq0 c =
    let below : c.args.i / 2 < length c.args.pairs.now = omega (arith, count_pairs_kids c.args.pairs.now) in
    let odd : c.args.i ≡ 2 * (c.args.i / 2) + 1 = omega arith in
    rw odd (pair_at c.args.pairs.now (c.args.i / 2) c.index-pairs-i.result below c.index-pairs-i.is).1
