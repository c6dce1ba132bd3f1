-- The place of a statement.
use Rattle.rl_base.specs.declared.place.Place.{Place}
use Rattle.rl_syntax.specs.declared.statement.Stat.{Stat, Stat-F, out-Stat}
use Rattle.rl_syntax.specs.declared.expression.Exp.TheOpen as s

abbrev place_in : {A B C D E : Type 0} → Stat-F A B C D E → Place
place_in (s.Block place _) = place
place_in (s.If place _ _ _) = place
place_in (s.Switch place _ _) = place
place_in (s.For place _ _) = place
place_in (s.While place _ _) = place
place_in (s.Do place _ _) = place
place_in (s.Solve place _ _) = place
place_in (s.Try place _ _ _) = place
place_in (s.Return place) = place
place_in (s.ReturnValue place _) = place
place_in (s.Insert place _) = place
place_in (s.Append place _) = place
place_in (s.Throw place _) = place
place_in (s.Fail place) = place
place_in (s.Break place) = place
place_in (s.Continue place) = place
place_in (s.Empty place) = place
place_in (s.Declaration place _ _ _) = place
place_in (s.TupleAssignment place _ _) = place
place_in (s.Assign place _ _ _ _) = place
place_in (s.Expression place _) = place

abbrev pub place_of_statement : Stat → Place
place_of_statement statement = place_in (out-Stat statement)
