use Rattle.std.proofs.Common.{◌∙◌, sym, ap}
use Rattle.rl_tokens.specs.Quoted.{quoted}
use Rattle.rl_tokens.proofs.QuotedLemmas.{leftmost_from-append}
use Rattle.rl_tokens.proofs.quoted.quoted_text.Goals as goal

pub returns-in-Unclosed-clause-faults : goal.returns-in-Unclosed-clause-faults
unfolding quoted
returns-in-Unclosed-clause-faults c =
    let unclosed = sym (ap (λ q. q.ending) c.inside-quoted.ensures.value) ∙ c.in-Unclosed.is in
    rw (unclosed, leftmost_from-append, ← c.inside-quoted.ensures.faults) c.note.ensures
