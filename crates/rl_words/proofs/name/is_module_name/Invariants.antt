use Rattle.std.proofs.Common.{◌≡◌, drop}
use Rattle.rl_words.specs.Words.{is_name_from, is_module_name}
use Rattle.rl_words.proofs.name.is_module_name.Given as goal

abbrev pub invariant-loop-byte : goal.invariant-loop-byte
invariant-loop-byte l = is_name_from l.stage (drop l.byte-index l.word) ≡ is_module_name l.word
