use Rattle.std.proofs.Common.{◌++◌, encode_utf8, ap, ◌∙◌}
use Rattle.std.specs.String.{string_bytes}
use Rattle.rl_print.specs.Escape.{escaped}
use Rattle.rl_print.proofs.EscapeLemmas.{escaped_more}
use Rattle.rl_print.proofs.escape.push_escaped.Goals as goal

pub loop-c-preserved : goal.loop-c-preserved
loop-c-preserved c =
    c.in_ok-push_escaped_char.ensures
    ∙ ap (λ w. w ++ escaped c.args.escapes (encode_utf8 c.in-Some.c)) c.loop-c.invariant
    ∙ escaped_more c.args.escapes (string_bytes c.args.out.now) c.loop-c.yielded c.in-Some.c
