-- Definitions of sorts.
use Rattle.std.specs.Prelude.{ℕ, if◌then◌else◌, List, Option, Some, is_some}
use Rattle.std.specs.List.{filter_map}
use Rattle.rl_base.specs.declared.place.Place.{Place}
use Rattle.rl_productions.specs.declared.definition.SyntaxDef.{SyntaxDef}
use Rattle.rl_productions.specs.declared.definition.SyntaxRole.{SyntaxRole}
use Rattle.rl_productions.specs.declared.definition.SyntaxRole.TheVariants.{Syntax, Lexical, Layout, Keyword}
use Rattle.rl_syntax.specs.declared.declaration.Decl.{Decl}
use Rattle.rl_syntax.specs.declared.declaration.Decl.TheVariants as d
use Rattle.rl_tokens.specs.declared.terminal.TheConstants.{KEYWORD, LAYOUT, LEXICAL}
use Rattle.rl_forms.specs.declared.form.Form.{Form}
use Rattle.rl_forms.specs.Part.{given, last_in, part_at}
use Rattle.rl_forms.specs.Words.{has_word}
use Rattle.rl_forms.specs.Names.{as_name}
use Rattle.rl_forms.specs.Productions.{as_level}

abbrev pub role_of : List Form → SyntaxRole
role_of parts =
    if has_word LEXICAL parts then Lexical
    else (if has_word LAYOUT parts then Layout
    else (if has_word KEYWORD parts then Keyword else Syntax))

-- the word `start` is the only name that may stand first
abbrev pub definition : Place → List ℕ → List Form → SyntaxDef
definition place sort parts = record {
  place = place;
  start = is_some (part_at as_name parts 0);
  role = role_of parts;
  sort = sort;
  levels = filter_map as_level parts;
}

-- the last name is that of the sort
unfoldable pub definition_of : Place → List Form → Option Decl
definition_of place parts = given (last_in as_name parts) (λ name. Some (d.Syntax (definition place name.name parts)))
