use Rattle.std.proofs.Common.{◌∙◌, Some, ap, sym}
use Rattle.rl_phrase.proofs.TerminalLemmas.{told}
use Rattle.rl_phrase.proofs.terminals.is_terminal.Goals as goal

pub returns : goal.returns
returns c = told c.args.tokens.now c.args.at _ c.args.terminal _ c.kind.ensures c.text.ensures ∙ ap Some (sym c.is_terminal_of.ensures)
