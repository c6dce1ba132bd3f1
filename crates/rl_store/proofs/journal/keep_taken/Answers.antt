use Rattle.std.proofs.Common.{◌+◌, ◌++◌, length, take, drop, ap, ◌∙◌, arith, length-append}
use Rattle.rl_store.proofs.JournalLemmas.{parts_joined, written_over}
use Rattle.rl_store.proofs.journal.keep_taken.Goals as goal

pub returns : goal.returns
returns c =
    c.truncate.ensures.items
    ∙ ap (take (c.args.from + c.settle-kept.result))
    (written_over (c.split_at_mut-front.result.0.now ++ c.settle-kept.new.back) c.args.notes.now.items _
    (omega (arith, length-append c.split_at_mut-front.result.0.now c.settle-kept.new.back, c.split_at_mut-front.ensures.front_len, c.split_at_mut-front.ensures.back_len, c.settle-kept.auto.back, c.deref_mut.ensures.len))
    (omega (arith, ap length c.deref_mut.ensures.value, c.deref_mut.ensures.len)))
    ∙ parts_joined c.args.notes.now.items c.split_at_mut-front.result.0.now c.split_at_mut-front.result.1.now c.settle-kept.new.back c.args.from c.settle-kept.result c.args.older
    (c.split_at_mut-front.ensures.front ∙ ap (take c.args.from) c.deref_mut.ensures.value)
    (c.split_at_mut-front.ensures.back ∙ ap (drop c.args.from) c.deref_mut.ensures.value)
    c.split_at_mut-front.ensures.front_len c.settle-kept.ensures.kept
