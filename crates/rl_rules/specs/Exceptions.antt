-- `try`, and `a ? b`.
use Rattle.std.specs.Prelude.{ℕ, ◌==◌, ◌&&◌, ◌||◌, Bool, false, if◌then◌else◌, List, [], ◌∷◌, length, Option, Some, None, codes, bytes_eq}
use Rattle.rl_syntax.specs.declared.expression.Exp.{Exp}
use Rattle.rl_syntax.specs.declared.expression.Exp.TheOpen as e
use Rattle.rl_syntax.specs.declared.expression.Suffix.{Suffix}
use Rattle.rl_syntax.specs.declared.statement.Case.{Case}
use Rattle.rl_syntax.specs.declared.statement.Handler.{Handler, out-Handler}
use Rattle.rl_syntax.specs.declared.statement.Stat.{Stat}
use Rattle.rl_value.specs.Plain.{Plain, node, items_of}
use Rattle.rl_rules.specs.Cases.{on_miss}
use Rattle.rl_rules.specs.Conditions.{members_of}
use Rattle.rl_rules.specs.Members.{members, empty_member}
use Rattle.rl_rules.specs.Parts.{value_of, used}
use Rattle.rl_rules.specs.Program.{Program}
use Rattle.rl_rules.specs.Rule.{Outcome, Val, Thr, Rule, Give, after, throw}
use Rattle.rl_rules.specs.Scopes.{scoped}
use Rattle.rl_rules.specs.State.{State}

-- Handlers.

abbrev pub handler : Program → e.Handler-F Exp Suffix Case Handler Stat → ℕ → Plain → State → Rule
handler p (e.Any place body) d v s = members empty_member false (used body d) s
handler p (e.Matching place pattern body) d v s = members_of p pattern (used body d) v s

-- the handlers in order: the first whose body is kept decides; where there is none, the exception goes on
abbrev pub handlers : Program → List Handler → ℕ → Plain → State → Rule
handlers p [] d v s = throw v s
handlers p (h ∷ hs) d v s = after (scoped (handler p (out-Handler h) d v) s) (on_miss (handlers p hs d v))

-- after the body, from the state in which it ended
abbrev pub handled : Program → List Handler → ℕ → Outcome → State → Rule
handled p hs d (Thr v) s = handlers p hs d v s
handled p hs d r s = Give r s

-- after `finally`: the earlier end stands, unless this one is no value
abbrev pub finished : Outcome → Outcome → State → Rule
finished before (Val v) s = Give before s
finished before r s = Give r s

-- `finally` is used once, whatever the end before it
abbrev pub finally : Option Stat → ℕ → Outcome → State → Rule
finally None d r s = Give r s
finally (Some x) d r s = after (scoped (used x d) s) (finished r)

abbrev pub try : Program → Stat → List Handler → Option Stat → ℕ → State → Rule
try p body hs last d s = after (after (scoped (used body d) s) (handled p hs d)) (finally last d)

-- `a ? b`.

abbrev pub is_missing_name : List ℕ → Bool
is_missing_name name = bytes_eq name (codes "NoSuchKey") || bytes_eq name (codes "IndexOutOfBounds") || bytes_eq name (codes "NoSuchField")

-- whether the exception says that there is no such key, index or field
abbrev pub is_missing : Plain → Bool
is_missing (node name ts) = is_missing_name name && length (items_of ts) == 1
is_missing v = false

-- after a: b in place of such an exception, from the store that the throw left
abbrev pub fallen_back : Exp → ℕ → Outcome → State → Rule
fallen_back b d (Thr v) s = if is_missing v then value_of b d s else throw v s
fallen_back b d r s = Give r s

abbrev pub fallback : Exp → Exp → ℕ → State → Rule
fallback a b d s = after (value_of a d s) (fallen_back b d)
