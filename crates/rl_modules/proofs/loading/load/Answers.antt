use Rattle.std.proofs.Common.{Ok, Err, refl, ◌∙◌}
use Rattle.rl_modules.specs.declared.loaded.LoadEnd.TheVariants.{OutOfMemory}
use Rattle.rl_modules.proofs.Whole.{first-memory, first-fault, later, later-memory, answer_of, asked_of, memory_asked, all-loaded, all-asked, keeps-first}
use Rattle.rl_modules.proofs.UnderWay.{completes}
use Rattle.rl_modules.proofs.loading.load.Goals as goal

pub returns-in-Err-clause-answer : goal.returns-in-Err-clause-answer
returns-in-Err-clause-answer g c =
    answer_of (g.F.Files.holds c.args.files.now) c.args.root.now c.args.name.now (g.F.Files.asked c.args.files.now) (g.F.Files.asked c.read.new.files) c.in-Err.end
    (first-fault (g.F.Files.holds c.args.files.now) c.args.root.now c.args.name.now c.as_str.result.now (g.F.Files.asked c.args.files.now) (g.F.Files.asked c.read.new.files) c.in-Err.end
    (c.as_str.ensures.value ∙ c.in_ok-path.ensures) c.in-Err.ensures.answer c.in-Err.ensures.asked)

pub returns-in-Err-clause-asked : goal.returns-in-Err-clause-asked
returns-in-Err-clause-asked g c =
    asked_of (g.F.Files.holds c.args.files.now) c.args.root.now c.args.name.now (g.F.Files.asked c.args.files.now) (g.F.Files.asked c.read.new.files) c.in-Err.end
    (first-fault (g.F.Files.holds c.args.files.now) c.args.root.now c.args.name.now c.as_str.result.now (g.F.Files.asked c.args.files.now) (g.F.Files.asked c.read.new.files) c.in-Err.end
    (c.as_str.ensures.value ∙ c.in_ok-path.ensures) c.in-Err.ensures.answer c.in-Err.ensures.asked)

pub returns-in_err-add-in-Ok-clause-asked : goal.returns-in_err-add-in-Ok-clause-asked
returns-in_err-add-in-Ok-clause-asked g c =
    memory_asked (g.F.Files.holds c.args.files.now) c.args.root.now c.args.name.now (g.F.Files.asked c.args.files.now) (g.F.Files.asked c.read.new.files) c.from_residual-in_err-add-in-Ok.result c.from_residual-in_err-add-in-Ok.ensures.1
    (first-memory (g.F.Files.holds c.args.files.now) c.args.root.now c.args.name.now (g.F.Files.asked c.args.files.now) (g.F.Files.asked c.read.new.files) OutOfMemory refl (1, c.in-Ok.ensures.asked))

pub returns-in-Err-run-clause-answer : goal.returns-in-Err-run-clause-answer
returns-in-Err-run-clause-answer g c =
    answer_of (g.F.Files.holds c.args.files.now) c.args.root.now c.args.name.now (g.F.Files.asked c.args.files.now) (g.F.Files.asked c.run.new.files) c.in-Err-run.end
    (later (g.F.Files.holds c.args.files.now) c.args.root.now c.args.name.now c.as_str.result.now (g.F.Files.asked c.args.files.now) (g.F.Files.asked c.read.new.files) (g.F.Files.asked c.run.new.files) c.in-Ok.module c.new-loader.result c.add.new.self c.run.new.self (Err c.in-Err-run.end)
    (c.as_str.ensures.value ∙ c.in_ok-path.ensures)
    (record { list = c.new-loader.ensures.list; finished = c.new-loader.ensures.finished; unfinished = c.new-loader.ensures.unfinished })
    c.in_ok-add-in-Ok.ensures c.in-Ok.ensures.answer c.in-Ok.ensures.asked (rw c.in-Ok.ensures.held at c.in-Err-run.ensures.answer))

pub returns-in-Err-run-clause-asked : goal.returns-in-Err-run-clause-asked
returns-in-Err-run-clause-asked g c =
    asked_of (g.F.Files.holds c.args.files.now) c.args.root.now c.args.name.now (g.F.Files.asked c.args.files.now) (g.F.Files.asked c.run.new.files) c.in-Err-run.end
    (later (g.F.Files.holds c.args.files.now) c.args.root.now c.args.name.now c.as_str.result.now (g.F.Files.asked c.args.files.now) (g.F.Files.asked c.read.new.files) (g.F.Files.asked c.run.new.files) c.in-Ok.module c.new-loader.result c.add.new.self c.run.new.self (Err c.in-Err-run.end)
    (c.as_str.ensures.value ∙ c.in_ok-path.ensures)
    (record { list = c.new-loader.ensures.list; finished = c.new-loader.ensures.finished; unfinished = c.new-loader.ensures.unfinished })
    c.in_ok-add-in-Ok.ensures c.in-Ok.ensures.answer c.in-Ok.ensures.asked (rw c.in-Ok.ensures.held at c.in-Err-run.ensures.answer))

pub returns-in_err-from_vec-clause-asked : goal.returns-in_err-from_vec-clause-asked
returns-in_err-from_vec-clause-asked g c =
    memory_asked (g.F.Files.holds c.args.files.now) c.args.root.now c.args.name.now (g.F.Files.asked c.args.files.now) (g.F.Files.asked c.run.new.files) c.from_residual-in_err-from_vec.result c.from_residual-in_err-from_vec.ensures.1
    (later-memory (g.F.Files.holds c.args.files.now) c.args.root.now c.args.name.now (g.F.Files.asked c.args.files.now) (g.F.Files.asked c.run.new.files) c.run.new.self OutOfMemory refl c.in-Ok-run.ensures.all
    (later (g.F.Files.holds c.args.files.now) c.args.root.now c.args.name.now c.as_str.result.now (g.F.Files.asked c.args.files.now) (g.F.Files.asked c.read.new.files) (g.F.Files.asked c.run.new.files) c.in-Ok.module c.new-loader.result c.add.new.self c.run.new.self (Ok tt)
    (c.as_str.ensures.value ∙ c.in_ok-path.ensures)
    (record { list = c.new-loader.ensures.list; finished = c.new-loader.ensures.finished; unfinished = c.new-loader.ensures.unfinished })
    c.in_ok-add-in-Ok.ensures c.in-Ok.ensures.answer c.in-Ok.ensures.asked (rw c.in-Ok.ensures.held at c.in-Ok-run.ensures.answer)))

pub returns-in_err-from_vec-2-clause-asked : goal.returns-in_err-from_vec-2-clause-asked
returns-in_err-from_vec-2-clause-asked g c =
    memory_asked (g.F.Files.holds c.args.files.now) c.args.root.now c.args.name.now (g.F.Files.asked c.args.files.now) (g.F.Files.asked c.run.new.files) c.from_residual-in_err-from_vec-2.result c.from_residual-in_err-from_vec-2.ensures.1
    (later-memory (g.F.Files.holds c.args.files.now) c.args.root.now c.args.name.now (g.F.Files.asked c.args.files.now) (g.F.Files.asked c.run.new.files) c.run.new.self OutOfMemory refl c.in-Ok-run.ensures.all
    (later (g.F.Files.holds c.args.files.now) c.args.root.now c.args.name.now c.as_str.result.now (g.F.Files.asked c.args.files.now) (g.F.Files.asked c.read.new.files) (g.F.Files.asked c.run.new.files) c.in-Ok.module c.new-loader.result c.add.new.self c.run.new.self (Ok tt)
    (c.as_str.ensures.value ∙ c.in_ok-path.ensures)
    (record { list = c.new-loader.ensures.list; finished = c.new-loader.ensures.finished; unfinished = c.new-loader.ensures.unfinished })
    c.in_ok-add-in-Ok.ensures c.in-Ok.ensures.answer c.in-Ok.ensures.asked (rw c.in-Ok.ensures.held at c.in-Ok-run.ensures.answer)))

pub returns-clause-answer : goal.returns-clause-answer
returns-clause-answer g c =
    all-loaded (g.F.Files.holds c.args.files.now) c.args.root.now c.args.name.now (g.F.Files.asked c.args.files.now) (g.F.Files.asked c.run.new.files) c.run.new.self c.in_ok-from_vec.field-0 c.in_ok-from_vec-2.field-0 c.in-Ok-run.ensures.all
    (later (g.F.Files.holds c.args.files.now) c.args.root.now c.args.name.now c.as_str.result.now (g.F.Files.asked c.args.files.now) (g.F.Files.asked c.read.new.files) (g.F.Files.asked c.run.new.files) c.in-Ok.module c.new-loader.result c.add.new.self c.run.new.self (Ok tt)
    (c.as_str.ensures.value ∙ c.in_ok-path.ensures)
    (record { list = c.new-loader.ensures.list; finished = c.new-loader.ensures.finished; unfinished = c.new-loader.ensures.unfinished })
    c.in_ok-add-in-Ok.ensures c.in-Ok.ensures.answer c.in-Ok.ensures.asked (rw c.in-Ok.ensures.held at c.in-Ok-run.ensures.answer))
    c.in_ok-from_vec.ensures c.in_ok-from_vec-2.ensures

pub returns-clause-asked : goal.returns-clause-asked
returns-clause-asked g c =
    all-asked (g.F.Files.holds c.args.files.now) c.args.root.now c.args.name.now (g.F.Files.asked c.args.files.now) (g.F.Files.asked c.run.new.files) c.run.new.self c.in-Ok-run.ensures.all
    (later (g.F.Files.holds c.args.files.now) c.args.root.now c.args.name.now c.as_str.result.now (g.F.Files.asked c.args.files.now) (g.F.Files.asked c.read.new.files) (g.F.Files.asked c.run.new.files) c.in-Ok.module c.new-loader.result c.add.new.self c.run.new.self (Ok tt)
    (c.as_str.ensures.value ∙ c.in_ok-path.ensures)
    (record { list = c.new-loader.ensures.list; finished = c.new-loader.ensures.finished; unfinished = c.new-loader.ensures.unfinished })
    c.in_ok-add-in-Ok.ensures c.in-Ok.ensures.answer c.in-Ok.ensures.asked (rw c.in-Ok.ensures.held at c.in-Ok-run.ensures.answer))

pub run-requires-clause-under_way : goal.run-requires-clause-under_way
run-requires-clause-under_way g c =
    keeps-first c.in-Ok.module c.new-loader.result c.add.new.self
    (record { list = c.new-loader.ensures.list; finished = c.new-loader.ensures.finished; unfinished = c.new-loader.ensures.unfinished })
    c.in_ok-add-in-Ok.ensures c.in-Ok.ensures.numbered

pub returns-clause-complete : goal.returns-clause-complete
returns-clause-complete g c =
    completes c.run.new.self.list.items c.in_ok-from_vec.field-0 c.run.new.self.finished.items c.in_ok-from_vec-2.field-0 c.run.new.self.unfinished.items
    c.in-Ok-run.ensures.under_way c.in-Ok-run.ensures.all c.in-Ok-run.ensures.sound.few c.in_ok-from_vec.ensures c.in_ok-from_vec-2.ensures
