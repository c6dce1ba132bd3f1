-- try, catch and finally.
use Rattle.std.specs.Prelude.{◌-◌, List, length, Option, Some, None, slice_get, option_and_then}
use Rattle.std.specs.List.{filter_map}
use Rattle.std.specs.Option.{option_map}
use Rattle.rl_base.specs.declared.place.Place.{Place}
use Rattle.rl_syntax.specs.declared.statement.Stat.{Stat}
use Rattle.rl_syntax.specs.declared.statement.Stat.TheVariants as s
use Rattle.rl_forms.specs.declared.form.Form.{Form}
use Rattle.rl_forms.specs.declared.form.Form.TheVariants as f
use Rattle.rl_forms.specs.Part.{given, part_at}
use Rattle.rl_forms.specs.Statements.{as_handler, as_statement}

-- finally statement
unfoldable pub finally_of : List Form → Option Form
finally_of parts = option_map f.Finally (part_at as_statement parts 1)

abbrev pub as_finally : Form → Option Stat
as_finally (f.Finally statement) = Some statement
as_finally _ = None

-- `finally` stands last
unfoldable pub last_finally : List Form → Option Stat
last_finally parts = option_and_then as_finally (slice_get parts (length parts - 1))

-- try statement, its handlers, and finally statement
unfoldable pub try_of : Place → List Form → Option Stat
try_of place parts =
    given (part_at as_statement parts 1) (λ body. Some (s.Try place body (filter_map as_handler parts) (last_finally parts)))
