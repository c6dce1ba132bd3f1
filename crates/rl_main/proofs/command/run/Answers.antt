use Rattle.std.proofs.Common.{sym, map, string_bytes}
use Rattle.rl_main.proofs.Ends.{usage_put, usage_failed, usage_asked, usage_failed_asked}
use Rattle.rl_main.proofs.command.run.Goals as goal

pub returns-in-Ok-clause-headline : goal.returns-in-Ok-clause-headline
returns-in-Ok-clause-headline g c =
    usage_put (g.F.Files.holds c.args.files.now) (map string_bytes c.args.words.now) (g.O.Sink.told c.args.out.now) (g.E.Sink.told c.args.err.now) _
    (sym (rw c.in-Ok-None.field-0-is at c.in-Ok-None.ensures)) (rw c.as_bytes.ensures.value at c.in-Ok.ensures.ok)

pub returns-in-Err-put-clause-headline : goal.returns-in-Err-put-clause-headline
returns-in-Err-put-clause-headline g c =
    usage_failed (g.F.Files.holds c.args.files.now) (map string_bytes c.args.words.now) (g.O.Sink.told c.args.out.now) (g.E.Sink.told c.args.err.now) _
    (sym (rw c.in-Ok-None.field-0-is at c.in-Ok-None.ensures)) (rw c.as_bytes.ensures.value at c.in-Err-put.ensures.err)

pub returns-in-Ok-clause-asked : goal.returns-in-Ok-clause-asked
returns-in-Ok-clause-asked g c =
    usage_asked (g.F.Files.holds c.args.files.now) (map string_bytes c.args.words.now) (g.F.Files.asked c.args.files.now) (sym (rw c.in-Ok-None.field-0-is at c.in-Ok-None.ensures))

pub returns-in-Err-put-clause-asked : goal.returns-in-Err-put-clause-asked
returns-in-Err-put-clause-asked g c =
    usage_failed_asked (g.F.Files.holds c.args.files.now) (map string_bytes c.args.words.now) (g.F.Files.asked c.args.files.now) (sym (rw c.in-Ok-None.field-0-is at c.in-Ok-None.ensures))
