-- Imports, and the names of modules.
use Rattle.std.specs.Prelude.{ℕ, List, [], ◌∷◌, ◌++◌, Option, Some, None, if◌then◌else◌, slice_get, codes}
use Rattle.rl_base.specs.declared.place.Place.{Place}
use Rattle.rl_syntax.specs.declared.declaration.Decl.{Decl}
use Rattle.rl_syntax.specs.declared.declaration.Decl.TheVariants as d
use Rattle.rl_tokens.specs.declared.terminal.TheConstants.{EXTEND}
use Rattle.rl_forms.specs.declared.form.Form.{Form}
use Rattle.rl_forms.specs.declared.form.Form.TheVariants as f
use Rattle.rl_forms.specs.Words.{has_word}

abbrev pub qualified_part : Form → List ℕ
qualified_part (f.Name name) = name.name
qualified_part _ = codes "::"

-- the names, with :: between them
abbrev pub qualified_text : List Form → List ℕ
qualified_text [] = []
qualified_text (part ∷ parts) = qualified_part part ++ qualified_text parts

unfoldable pub qualified_name_of : Place → List Form → Form
qualified_name_of place parts = f.QualifiedName place (qualified_text parts)

abbrev pub import_from : Place → List ℕ → List Form → Decl
import_from place name parts = if has_word EXTEND parts then d.Extend place name else d.Import place name

abbrev pub import_by : Place → List Form → Option Form → Option Decl
import_by place parts (Some (f.QualifiedName at name)) = Some (import_from place name parts)
import_by place parts _ = None

-- import M; or extend M;
unfoldable pub import_of : Place → List Form → Option Decl
import_of place parts = import_by place parts (slice_get parts 1)
