use Rattle.std.proofs.Common.{◌≡◌, ◌∷◌, map}
use Rattle.std.proofs.lemmas.Map.Iter.{rest_more}
use Rattle.std.specs.Map.Iter.{deref_pair}
use Rattle.rl_trees.specs.Rows.{row}
use Rattle.rl_trees.specs.Standing.{span_of}
use Rattle.rl_trees.proofs.RowsLemmas.{spoils}
use Rattle.rl_trees.proofs.rows.rows.Goals as goal

pub returns-in-Err : goal.returns-in-Err
returns-in-Err c =
    let turn : c.loop-standing.standing-iterator ≡ (c.in-Some.standing.now, c.in-Some.tree.now) ∷ c.next.new.self =
    rest_more deref_pair c.loop-standing.standing-iterator c.next.new.self c.next.result (c.in-Some.standing, c.in-Some.tree) c.in-Some.is c.next.ensures.steps in
    spoils (map row (map span_of c.args.ordered.now.entries)) c.loop-standing.rows.items (row (span_of (c.in-Some.standing.now, c.in-Some.tree.now)))
    (map row (map span_of c.next.new.self)) c.in-Err.end (rw turn at c.loop-standing.invariant) c.in-Err.ensures
