-- The numbers of small modules compute, by what is made of each form.
use Rattle.std.proofs.Common.{◌≡◌, refl, ap}
use Rattle.rl_syntax.specs.declared.expression.Exp.{Exp, out-Exp}
use Rattle.rl_syntax.specs.declared.expression.Exp.TheFolds.{map-Exp, map-Stat, fold_out-Exp, fold_out-Stat, fold-Suffix, fold-Case, fold-Handler}
use Rattle.rl_syntax.specs.declared.expression.Suffix.{Suffix}
use Rattle.rl_syntax.specs.declared.pattern.Pattern.{Pattern, out-Pattern}
use Rattle.rl_syntax.specs.declared.pattern.Pattern.TheFolds.{map-Pattern, map-PatternElement, fold_out-Pattern, fold_out-PatternElement, fold-PatternElement}
use Rattle.rl_syntax.specs.declared.pattern.PatternElement.{PatternElement, out-PatternElement}
use Rattle.rl_syntax.specs.declared.statement.Case.{Case}
use Rattle.rl_syntax.specs.declared.statement.Handler.{Handler}
use Rattle.rl_syntax.specs.declared.statement.Stat.{Stat, out-Stat}
use Rattle.rl_rules.specs.Cleared.{cleared_pattern, cleared_pattern_form, cleared_element_form, cleared_expression, cleared_statement, cleared_expression_form, cleared_suffix_form, cleared_case_form, cleared_handler_form, cleared_statement_form}
use Rattle.rl_rules.specs.Numbering.{Names, Naming, Element, of_expression, of_statement, of_pattern, of_expression_form, of_suffix_form, of_case_form, of_handler_form, of_statement_form, of_pattern_form, of_element_form}
use Rattle.rl_rules.specs.NumberingExamples.{NumbersOfNames, NumbersInsideNegations, StarsServeLast, ConditionsGovern, OnlySettingDeclares, HolesAreNew, HolesAreNoTests, AreTheSameCleared}
use Rattle.rl_rules.proofs.Computing.{computing}

abbrev of_suffix : Suffix → Naming
of_suffix = fold-Suffix Naming Naming Naming Naming Naming of_expression_form of_suffix_form of_case_form of_handler_form of_statement_form

abbrev of_case : Case → Naming
of_case = fold-Case Naming Naming Naming Naming Naming of_expression_form of_suffix_form of_case_form of_handler_form of_statement_form

abbrev of_handler : Handler → Naming
of_handler = fold-Handler Naming Naming Naming Naming Naming of_expression_form of_suffix_form of_case_form of_handler_form of_statement_form

expression-by_form : (x : Exp) (names : Names) → of_expression x names ≡ of_expression_form (map-Exp Exp Suffix Case Handler Stat Naming Naming Naming Naming Naming of_expression of_suffix of_case of_handler of_statement (out-Exp x)) names
unfolding of_expression of_statement
expression-by_form x names = ap (λ naming. naming names) (fold_out-Exp Naming Naming Naming Naming Naming of_expression_form of_suffix_form of_case_form of_handler_form of_statement_form x)

statement-by_form : (x : Stat) (names : Names) → of_statement x names ≡ of_statement_form (map-Stat Exp Suffix Case Handler Stat Naming Naming Naming Naming Naming of_expression of_suffix of_case of_handler of_statement (out-Stat x)) names
unfolding of_expression of_statement
statement-by_form x names = ap (λ naming. naming names) (fold_out-Stat Naming Naming Naming Naming Naming of_expression_form of_suffix_form of_case_form of_handler_form of_statement_form x)

pattern-by_form : (x : Pattern) (names : Names) → of_pattern x names ≡ of_pattern_form (map-Pattern Pattern PatternElement Naming Element of_pattern (fold-PatternElement Naming Element of_pattern_form of_element_form) (out-Pattern x)) names
unfolding of_pattern
pattern-by_form x names = ap (λ naming. naming names) (fold_out-Pattern Naming Element of_pattern_form of_element_form x)

element-by_form : (x : PatternElement) → fold-PatternElement Naming Element of_pattern_form of_element_form x ≡ of_element_form (map-PatternElement Pattern PatternElement Naming Element of_pattern (fold-PatternElement Naming Element of_pattern_form of_element_form) (out-PatternElement x))
unfolding of_pattern
element-by_form x = fold_out-PatternElement Naming Element of_pattern_form of_element_form x

pub of_names : NumbersOfNames
unfolding computing
of_names = (simp (expression-by_form, statement-by_form, pattern-by_form) refl, simp (expression-by_form, statement-by_form, pattern-by_form) refl)

pub inside_negations : NumbersInsideNegations
unfolding computing
inside_negations = (simp (expression-by_form, statement-by_form, pattern-by_form) refl, simp (expression-by_form, statement-by_form, pattern-by_form) refl)

pub stars_last : StarsServeLast
unfolding computing
stars_last = (simp (expression-by_form, statement-by_form, pattern-by_form, element-by_form) refl, simp (expression-by_form, statement-by_form, pattern-by_form, element-by_form) refl)

pub governing : ConditionsGovern
unfolding computing
governing = (simp (expression-by_form, statement-by_form, pattern-by_form) refl, simp (expression-by_form, statement-by_form, pattern-by_form) refl, simp (expression-by_form, statement-by_form, pattern-by_form) refl)

pub declaring : OnlySettingDeclares
unfolding computing
declaring = (simp (expression-by_form, statement-by_form) refl, simp (expression-by_form, statement-by_form) refl, simp (expression-by_form, statement-by_form) refl)

pub new_holes : HolesAreNew
unfolding computing
new_holes = (simp (expression-by_form, statement-by_form, pattern-by_form) refl, simp (expression-by_form, statement-by_form, pattern-by_form) refl)

pub holes : HolesAreNoTests
unfolding computing
holes = (simp (expression-by_form, statement-by_form) refl, simp (expression-by_form, statement-by_form) refl)

pub same_cleared : AreTheSameCleared
unfolding computing cleared_expression cleared_statement cleared_pattern
same_cleared =
    simp (fold_out-Exp Exp Suffix Case Handler Stat cleared_expression_form cleared_suffix_form cleared_case_form cleared_handler_form cleared_statement_form, fold_out-Stat Exp Suffix Case Handler Stat cleared_expression_form cleared_suffix_form cleared_case_form cleared_handler_form cleared_statement_form, fold_out-Pattern Pattern PatternElement cleared_pattern_form cleared_element_form) refl
