use Rattle.std.proofs.Common.{◌≡◌, ◌++◌, drop}
use Rattle.rl_phrase.specs.View.{trees_of}
use Rattle.rl_reader.specs.Phrase.{forms_of}
use Rattle.rl_reader.proofs.phrase.+read.Given as goal

abbrev pub invariant-read_parts-loop-part : goal.invariant-read_parts-loop-part
invariant-read_parts-loop-part l = l.forms.items ++ forms_of l.source (trees_of (drop l.part-index l.parts)) ≡ forms_of l.source (trees_of l.parts)
