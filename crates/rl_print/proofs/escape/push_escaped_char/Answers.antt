use Rattle.std.proofs.Common.{◌≡◌, encode_utf8, arith, sym, ◌∙◌}
use Rattle.std.proofs.lemmas.Grind.{common_steps}
use Rattle.rl_print.specs.Escape.{escaped}
use Rattle.rl_print.proofs.EscapeLemmas.{escaped-same}
use Rattle.rl_print.proofs.escape.push_escaped_char.Goals as goal

pub returns-in-None : goal.returns-in-None
returns-in-None c =
    let same : escaped c.args.escapes (encode_utf8 c.args.c) ≡ encode_utf8 c.args.c =
    escaped-same c.args.escapes c.args.c (sym c.escape_of.ensures ∙ c.in-None.is) c.push-in-None.ensures.ascii in
    rw same (grind (arith, common_steps))
