use Rattle.rl_base.proofs.FilesAt.{files_of-insert}
use Rattle.rl_base.proofs.file_table.FileTable.set.Goals as goal

pub returns-clause-ok : goal.returns-clause-ok
returns-clause-ok c = let e = files_of-insert _ c.in_ok-value.value c.self.inside.files c.insert.new.self c.in_ok-insert.ensures.updates in rw (← c.in_ok-key.ensures.ok, ← c.in_ok-value.ensures.items, ← c.self.view_is) e
