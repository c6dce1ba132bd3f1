-- What the operators answer.
use Rattle.rl_value.specs.Plain.{Plain}
use Rattle.rl_exception.specs.Answer.{Answer}
use Rattle.rl_operators.specs.declared.operator.BinOp.{BinOp}
use Rattle.rl_operators.specs.declared.operator.BinOp.TheVariants as b
use Rattle.rl_operators.specs.declared.operator.UnOp.{UnOp}
use Rattle.rl_operators.specs.declared.operator.UnOp.TheVariants as u
use Rattle.rl_operators.specs.Operators.{add_of, subtract_of, multiply_of, divide_of, remainder_of, intersect_of, negate_of}
use Rattle.rl_operators.specs.Comparison.{equal_of, not_equal_of, less_of, less_or_equal_of, greater_of, greater_or_equal_of}
use Rattle.rl_operators.specs.Membership.{in_of, not_in_of, is_of}
use Rattle.rl_relation.specs.Relations.{compose_of}
use Rattle.rl_relation.specs.Closures.{closure_of, reflexive_closure_of}
use Rattle.rl_operators.specs.Logic.{or_of, implies_of, equivalent_of, not_of}

abbrev pub binary_of : BinOp → Plain → Plain → Answer
binary_of b.Add = add_of
binary_of b.Subtract = subtract_of
binary_of b.Multiply = multiply_of
binary_of b.Divide = divide_of
binary_of b.Remainder = remainder_of
binary_of b.Intersect = intersect_of
binary_of b.Compose = compose_of
binary_of b.Equal = equal_of
binary_of b.NotEqual = not_equal_of
binary_of b.Less = less_of
binary_of b.LessOrEqual = less_or_equal_of
binary_of b.Greater = greater_of
binary_of b.GreaterOrEqual = greater_or_equal_of
binary_of b.In = in_of
binary_of b.NotIn = not_in_of
binary_of b.Is = is_of
binary_of b.Or = or_of
binary_of b.Implies = implies_of
binary_of b.Equivalent = equivalent_of

abbrev pub unary_of : UnOp → Plain → Answer
unary_of u.Negate = negate_of
unary_of u.Not = not_of
unary_of u.TransitiveClosure = closure_of
unary_of u.ReflexiveClosure = reflexive_closure_of
