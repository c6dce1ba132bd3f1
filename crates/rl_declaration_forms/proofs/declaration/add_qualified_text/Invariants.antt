use Rattle.std.proofs.Common.{◌≡◌, ◌++◌, drop}
use Rattle.std.specs.String.{string_bytes}
use Rattle.rl_declaration_forms.specs.Declaration.{qualified_text}
use Rattle.rl_declaration_forms.proofs.declaration.add_qualified_text.Given as goal

abbrev pub invariant-loop-part : goal.invariant-loop-part
invariant-loop-part l = string_bytes l.text ++ qualified_text (drop l.part-index l.parts) ≡ string_bytes l.initial.text ++ qualified_text l.parts
