-- Names of sorts as arguments, and fragments.
use Rattle.std.specs.Prelude.{List, Option, Some, None, slice_get}
use Rattle.rl_base.specs.declared.place.Place.{Place}
use Rattle.rl_syntax.specs.declared.identifier.Identifier.{Identifier}
use Rattle.rl_syntax.specs.declared.fragment.Concrete.{Concrete}
use Rattle.rl_syntax.specs.declared.fragment.Piece.{Piece}
use Rattle.rl_syntax.specs.declared.expression.Exp.{Exp}
use Rattle.rl_syntax.specs.declared.expression.Exp.TheVariants as e
use Rattle.rl_forms.specs.declared.form.Form.{Form}
use Rattle.rl_forms.specs.declared.form.Form.TheVariants as f
use Rattle.rl_forms.specs.Part.{given, part_at}
use Rattle.rl_forms.specs.Names.{as_name}

-- #start[S]
abbrev pub start_sort : Place → Identifier → Identifier → Exp
start_sort place start sort = e.StartSort place start.place sort

abbrev pub argument_by : Place → Identifier → Option Identifier → Exp
argument_by place name (Some sort) = start_sort place name sort
argument_by place name None = e.TypeName place name

-- #S, or #start[S]
unfoldable pub argument_of : Place → List Form → Option Exp
argument_of place parts = given (part_at as_name parts 1) (λ name. Some (argument_by place name (part_at as_name parts 3)))

abbrev pub concrete : Place → Identifier → Place → List Piece → Concrete
concrete place sort text_place pieces = record { place = place; sort = sort.name; sort_place = sort.place; text_place = text_place; pieces = pieces; number = 0 }

abbrev pub fragment_from : Place → Identifier → Option Form → Option Form
fragment_from place sort (Some (f.Pieces text_place pieces)) = Some (f.Fragment (concrete place sort text_place pieces))
fragment_from place sort _ = None

-- a fragment: its sort in parentheses, and its text
unfoldable pub concrete_of : Place → List Form → Option Form
concrete_of place parts = given (part_at as_name parts 1) (λ sort. fragment_from place sort (slice_get parts 3))
