use Rattle.rl_tokens.proofs.ListLemmas.{read_at}
use Rattle.std.specs.String.{string_bytes}
use Rattle.rl_tokens.proofs.list.Tokens.length.Goals as goal

pub returns : goal.returns
returns c =
    let texts = string_bytes c.self.inside.texts in
    rw (← c.self.view_is) (read_at (λ token. token.length) texts c.self.inside.entries.items c.args.i c.index-entry.result.now (rw c.self.view_is c.requires) c.index-entry.ensures)
