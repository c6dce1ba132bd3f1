use Rattle.rl_phrase.specs.Tree.{Node}
use Rattle.rl_phrase.proofs.phrase.finish.Goals as goal

pub only_phrase-requires : goal.only_phrase-requires
only_phrase-requires c =
    let r = c.requires in
    (r.0, r.1, r.2, r.3, c.in_ok-parts.ensures (Node r.0 r.1 r.2 r.3) r.4)
