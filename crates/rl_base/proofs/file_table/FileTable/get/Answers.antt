use Rattle.std.proofs.Common.{refl}
use Rattle.rl_base.proofs.FilesAt.{get-files_of}
use Rattle.rl_base.proofs.file_table.FileTable.get.Goals as goal

pub returns : goal.returns
returns c = let e = get-files_of c.args.path.now c.self.inside.files in rw (← c.self.view_is, e, ← c.get.ensures.value) refl
