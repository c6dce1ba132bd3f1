-- What the examples compute by.
use Rattle.std.specs.Fmt.{digits}
use Rattle.rl_exception.specs.Answer.{fits, fitting, throwing}
use Rattle.rl_match.specs.Bindings.{bindings, element}
use Rattle.rl_match.specs.Folds.{fold_within}
use Rattle.rl_match.specs.Tests.{variables_in, element_variables}
use Rattle.rl_operators.specs.Arithmetic.{whole}
use Rattle.rl_syntax.specs.declared.expression.Exp.{out-Exp}
use Rattle.rl_syntax.specs.declared.expression.Exp.TheBlock.{shown-the_row-Exp-0, shown-the_row-Exp-Disjunction-1-1-1, shown-the_row-Exp-Sum-2-3-2, shown-the_row-Exp-Product-2-3-3, shown-the_row-Suffix-4, shown-the_row-Exp-Interpolation-2-3-5, shown-the_row-Case-6, shown-the_row-Exp-Visit-3-1-7, shown-the_row-Exp-Map-1-4-8, shown-the_row-Stat-9, shown-the_row-Case-Default-1-1-10, shown-the_row-Handler-11, shown-the_row-Stat-Try-2-1-12}
use Rattle.rl_syntax.specs.declared.expression.Suffix.{out-Suffix}
use Rattle.rl_syntax.specs.declared.pattern.Pattern.{out-Pattern}
use Rattle.rl_syntax.specs.declared.pattern.Pattern.TheBlock.{shown-the_row-Pattern-0, shown-the_row-Pattern-Constructor-2-1-1, shown-the_row-PatternElement-2}
use Rattle.rl_syntax.specs.declared.pattern.PatternElement.{out-PatternElement}
use Rattle.rl_syntax.specs.declared.statement.Case.{out-Case}
use Rattle.rl_syntax.specs.declared.statement.Handler.{out-Handler}
use Rattle.rl_syntax.specs.declared.statement.Stat.{out-Stat}
use Rattle.rl_syntax.specs.declared.ty.Ty.{out-Ty}
use denote.Hole.Carrier.{out, shown, hidden}
use Rattle.rl_rules.specs.Conditions.{conditions_in}
use Rattle.rl_rules.specs.Evaluation.{eval_as, eval_within}
use Rattle.rl_rules.specs.Parts.{bare}
use Rattle.rl_rules.specs.Rules.{entered, rule_of, rule_of_turn}
use Rattle.rl_rules.specs.Run.{derivation_as}

unfoldable pub computing : Unit {0}
unfolding derivation_as eval_as eval_within entered rule_of rule_of_turn bare conditions_in fits fitting throwing whole digits bindings element variables_in element_variables fold_within out-Exp out-Stat out-Ty out-Suffix out-Case out-Handler out-Pattern out-PatternElement out shown hidden shown-the_row-Exp-0 shown-the_row-Exp-Disjunction-1-1-1 shown-the_row-Exp-Sum-2-3-2 shown-the_row-Exp-Product-2-3-3 shown-the_row-Suffix-4 shown-the_row-Exp-Interpolation-2-3-5 shown-the_row-Case-6 shown-the_row-Exp-Visit-3-1-7 shown-the_row-Exp-Map-1-4-8 shown-the_row-Stat-9 shown-the_row-Case-Default-1-1-10 shown-the_row-Handler-11 shown-the_row-Stat-Try-2-1-12 shown-the_row-Pattern-0 shown-the_row-Pattern-Constructor-2-1-1 shown-the_row-PatternElement-2
computing = tt
