-- The place of an expression.
use Rattle.rl_base.specs.declared.place.Place.{Place}
use Rattle.rl_syntax.specs.declared.expression.Exp.{Exp, Exp-F, out-Exp}
use Rattle.rl_syntax.specs.declared.expression.Exp.TheOpen as e

abbrev place_in : {A B C D E : Type 0} → Exp-F A B C D E → Place
place_in (e.Conditional place _ _ _) = place
place_in (e.Fallback place _ _) = place
place_in (e.Implication place _ _) = place
place_in (e.Equivalence place _ _) = place
place_in (e.Disjunction place _) = place
place_in (e.Conjunction place _) = place
place_in (e.Match place _ _) = place
place_in (e.NoMatch place _ _) = place
place_in (e.Enumeration place _ _) = place
place_in (e.Equal place _ _) = place
place_in (e.NotEqual place _ _) = place
place_in (e.Compared place _ _ _) = place
place_in (e.Is place _ _) = place
place_in (e.Sum place _ _) = place
place_in (e.Product place _ _) = place
place_in (e.Composition place _) = place
place_in (e.Not place _) = place
place_in (e.Negative place _) = place
place_in (e.Suffixed place _ _) = place
place_in (e.Integer place _) = place
place_in (e.Text place _) = place
place_in (e.Interpolation place _ _) = place
place_in (e.Location place _) = place
place_in (e.Truth place _) = place
place_in (e.It place) = place
place_in (e.Visit place _ _ _ _) = place
place_in (e.Fragment place _) = place
place_in (e.Parenthesized place _) = place
place_in (e.Reducer place _ _ _) = place
place_in (e.Map place _) = place
place_in (e.MapComprehension place _ _ _) = place
place_in (e.Range place _ _ _) = place
place_in (e.List place _) = place
place_in (e.ListComprehension place _ _) = place
place_in (e.Set place _) = place
place_in (e.SetComprehension place _ _) = place
place_in (e.Tuple place _) = place
place_in (e.Call place _ _) = place
place_in (e.Splice place _) = place
place_in (e.TypeName place _) = place
place_in (e.StartSort place _ _) = place
place_in (e.Loop place _) = place
place_in (e.Variable place _) = place

abbrev pub place_of_expression : Exp → Place
place_of_expression expression = place_in (out-Exp expression)
