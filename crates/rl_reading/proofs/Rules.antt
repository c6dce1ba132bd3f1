-- Every rule of the grammar meets what reading asks of it.
use Rattle.std.specs.Prelude.{◌≡◌, ℕ, Bool, true, false, List, [], ◌∷◌, refl, codes}
use Rattle.std.proofs.Common.{subst}
use Rattle.std.specs.List.{list_any}
use Rattle.std.specs.Str.{bytes_eq}
use Rattle.std.proofs.lemmas.Slice.Eq.{bytes_eq-Decides}
use Rattle.rl_phrase_table.specs.Expression.{Expression, Word, Name, Group, Parts, none}
use Rattle.rl_phrase_table.specs.Grammar as grammar
use Rattle.rl_phrase_table.specs.declared.rules.TheConstants as rule
use Rattle.rl_phrase.specs.declared.table.Rule.{Rule}
use Rattle.rl_reading.proofs.Facts.{says_in}
use Rattle.rl_reading.proofs.Reading.{Fact}
use Rattle.rl_reading.proofs.Modules as modules
use Rattle.rl_reading.proofs.SyntaxDefinitions as syntax_definitions
use Rattle.rl_reading.proofs.Statements as statements
use Rattle.rl_reading.proofs.Expressions as expressions
use Rattle.rl_reading.proofs.Patterns as patterns
use Rattle.rl_reading.proofs.Functions as functions

abbrev pub rules : List Rule
rules = rule.RULES.now

abbrev pub starts : List (List ℕ × ℕ)
starts =
    (codes "Module", rule.MODULE)
    ∷ (codes "QName", rule.QUALIFIED_NAME)
    ∷ (codes "Top", rule.TOP_LEVEL)
    ∷ (codes "Import", rule.IMPORT)
    ∷ (codes "DataDef", rule.DATA_DEFINITION)
    ∷ (codes "Variant", rule.VARIANT)
    ∷ (codes "Field", rule.FIELD)
    ∷ (codes "Global", rule.GLOBAL)
    ∷ (codes "Fun", rule.FUNCTION)
    ∷ (codes "Type", rule.TYPE)
    ∷ (codes "Syntax", rule.SYNTAX_DEFINITION)
    ∷ (codes "Level", rule.LEVEL)
    ∷ (codes "Alt", rule.ALTERNATIVE)
    ∷ (codes "Assoc", rule.ASSOCIATIVITY)
    ∷ (codes "Prod", rule.PRODUCTION)
    ∷ (codes "Sym", rule.SYMBOL)
    ∷ (codes "Near", rule.ADJOINING)
    ∷ (codes "Rep", rule.REPETITION)
    ∷ (codes "Atom", rule.ATOM)
    ∷ (codes "Chars", rule.CHARACTERS)
    ∷ (codes "Stat", rule.STATEMENT)
    ∷ (codes "Block", rule.BLOCK)
    ∷ (codes "If", rule.IF)
    ∷ (codes "Switch", rule.SWITCH)
    ∷ (codes "Case", rule.CASE)
    ∷ (codes "Loop", rule.LOOP)
    ∷ (codes "Solve", rule.SOLVE)
    ∷ (codes "Try", rule.TRY)
    ∷ (codes "Catch", rule.CATCH)
    ∷ (codes "Finally", rule.FINALLY)
    ∷ (codes "Simple", rule.SIMPLE_STATEMENT)
    ∷ (codes "Rhs", rule.RIGHT_SIDE)
    ∷ (codes "Conds", rule.CONDITIONS)
    ∷ (codes "Exp", rule.EXPRESSION)
    ∷ (codes "Imp", rule.IMPLICATION)
    ∷ (codes "Or", rule.DISJUNCTION)
    ∷ (codes "And", rule.CONJUNCTION)
    ∷ (codes "Test", rule.MATCH)
    ∷ (codes "Cmp", rule.EQUALITY)
    ∷ (codes "Rel", rule.COMPARISON)
    ∷ (codes "Add", rule.SUM)
    ∷ (codes "Mul", rule.PRODUCT)
    ∷ (codes "Com", rule.COMPOSITION)
    ∷ (codes "Un", rule.UNARY)
    ∷ (codes "Suf", rule.SUFFIX)
    ∷ (codes "Sub", rule.SUBSCRIPT)
    ∷ (codes "Starter", rule.STARTER)
    ∷ (codes "Prim", rule.PRIMARY)
    ∷ (codes "Arg", rule.ARGUMENT)
    ∷ (codes "Visit", rule.VISIT_EXPRESSION)
    ∷ (codes "Strategy", rule.VISIT_STRATEGY)
    ∷ (codes "Concrete", rule.CONCRETE)
    ∷ (codes "Paren", rule.PARENTHESIZED)
    ∷ (codes "List", rule.LIST_EXPRESSION)
    ∷ (codes "Set", rule.SET_EXPRESSION)
    ∷ (codes "Elem", rule.ELEMENT)
    ∷ (codes "Pat", rule.PATTERN)
    ∷ (codes "Plain", rule.PLAIN_PATTERN)
    ∷ (codes "Star", rule.PATTERN_ELEMENT) ∷ []

-- the rules whose phrases are parts of others
abbrev pub names : List (List ℕ)
names =
    codes "QName"
    ∷ codes "Top"
    ∷ codes "Import"
    ∷ codes "DataDef"
    ∷ codes "Variant"
    ∷ codes "Field"
    ∷ codes "Global"
    ∷ codes "Fun"
    ∷ codes "Type"
    ∷ codes "Syntax"
    ∷ codes "Level"
    ∷ codes "Alt"
    ∷ codes "Assoc"
    ∷ codes "Prod"
    ∷ codes "Sym"
    ∷ codes "Near"
    ∷ codes "Rep"
    ∷ codes "Atom"
    ∷ codes "Chars"
    ∷ codes "Stat"
    ∷ codes "Block"
    ∷ codes "If"
    ∷ codes "Switch"
    ∷ codes "Case"
    ∷ codes "Loop"
    ∷ codes "Solve"
    ∷ codes "Try"
    ∷ codes "Catch"
    ∷ codes "Finally"
    ∷ codes "Simple"
    ∷ codes "Rhs"
    ∷ codes "Conds"
    ∷ codes "Exp"
    ∷ codes "Imp"
    ∷ codes "Or"
    ∷ codes "And"
    ∷ codes "Test"
    ∷ codes "Cmp"
    ∷ codes "Rel"
    ∷ codes "Add"
    ∷ codes "Mul"
    ∷ codes "Com"
    ∷ codes "Un"
    ∷ codes "Suf"
    ∷ codes "Sub"
    ∷ codes "Prim"
    ∷ codes "Arg"
    ∷ codes "Visit"
    ∷ codes "Strategy"
    ∷ codes "Concrete"
    ∷ codes "Paren"
    ∷ codes "List"
    ∷ codes "Set"
    ∷ codes "Elem"
    ∷ codes "Pat"
    ∷ codes "Plain"
    ∷ codes "Star" ∷ []

abbrev pub is_among_names : List (List ℕ) → List ℕ → Bool
is_among_names names name = list_any (λ one. bytes_eq one name) names

abbrev pub is_rule : List ℕ → Bool
is_rule name = is_among_names names name

abbrev pub inside : Expression → Parts
inside (Group form parts) = parts
inside (Word text) = none
inside (Name name) = none

abbrev IsFact : List ℕ → Type 0
IsFact name = Fact rules starts is_rule name

qualified_name_fact : IsFact (codes "QName")
qualified_name_fact = record { parts = inside (says_in grammar.modules (codes "QName")); naming = refl; row = refl; rows = refl; is_known = modules.qualified_name }

top_fact : IsFact (codes "Top")
top_fact = record { parts = inside (says_in grammar.modules (codes "Top")); naming = refl; row = refl; rows = refl; is_known = modules.top }

imported_fact : IsFact (codes "Import")
imported_fact = record { parts = inside (says_in grammar.modules (codes "Import")); naming = refl; row = refl; rows = refl; is_known = modules.imported }

data_definition_fact : IsFact (codes "DataDef")
data_definition_fact = record { parts = inside (says_in grammar.modules (codes "DataDef")); naming = refl; row = refl; rows = refl; is_known = modules.data_definition }

variant_fact : IsFact (codes "Variant")
variant_fact = record { parts = inside (says_in grammar.modules (codes "Variant")); naming = refl; row = refl; rows = refl; is_known = modules.variant }

field_fact : IsFact (codes "Field")
field_fact = record { parts = inside (says_in grammar.modules (codes "Field")); naming = refl; row = refl; rows = refl; is_known = modules.field }

global_fact : IsFact (codes "Global")
global_fact = record { parts = inside (says_in grammar.modules (codes "Global")); naming = refl; row = refl; rows = refl; is_known = modules.global }

function_fact : IsFact (codes "Fun")
function_fact = record { parts = inside (says_in grammar.modules (codes "Fun")); naming = refl; row = refl; rows = refl; is_known = functions.function }

type_fact : IsFact (codes "Type")
type_fact = record { parts = inside (says_in grammar.modules (codes "Type")); naming = refl; row = refl; rows = refl; is_known = modules.type }

syntax_definition_fact : IsFact (codes "Syntax")
syntax_definition_fact = record { parts = inside (says_in grammar.syntax_definitions (codes "Syntax")); naming = refl; row = refl; rows = refl; is_known = functions.syntax_definition }

level_fact : IsFact (codes "Level")
level_fact = record { parts = inside (says_in grammar.syntax_definitions (codes "Level")); naming = refl; row = refl; rows = refl; is_known = syntax_definitions.level }

alternative_fact : IsFact (codes "Alt")
alternative_fact = record { parts = inside (says_in grammar.syntax_definitions (codes "Alt")); naming = refl; row = refl; rows = refl; is_known = syntax_definitions.alternative }

associativity_fact : IsFact (codes "Assoc")
associativity_fact = record { parts = inside (says_in grammar.syntax_definitions (codes "Assoc")); naming = refl; row = refl; rows = refl; is_known = syntax_definitions.associativity }

production_fact : IsFact (codes "Prod")
production_fact = record { parts = inside (says_in grammar.syntax_definitions (codes "Prod")); naming = refl; row = refl; rows = refl; is_known = syntax_definitions.production }

symbol_fact : IsFact (codes "Sym")
symbol_fact = record { parts = inside (says_in grammar.syntax_definitions (codes "Sym")); naming = refl; row = refl; rows = refl; is_known = syntax_definitions.symbol }

adjoining_fact : IsFact (codes "Near")
adjoining_fact = record { parts = inside (says_in grammar.syntax_definitions (codes "Near")); naming = refl; row = refl; rows = refl; is_known = syntax_definitions.adjoining }

repetition_fact : IsFact (codes "Rep")
repetition_fact = record { parts = inside (says_in grammar.syntax_definitions (codes "Rep")); naming = refl; row = refl; rows = refl; is_known = syntax_definitions.repetition }

atom_fact : IsFact (codes "Atom")
atom_fact = record { parts = inside (says_in grammar.syntax_definitions (codes "Atom")); naming = refl; row = refl; rows = refl; is_known = syntax_definitions.atom }

characters_fact : IsFact (codes "Chars")
characters_fact = record { parts = inside (says_in grammar.syntax_definitions (codes "Chars")); naming = refl; row = refl; rows = refl; is_known = syntax_definitions.characters }

statement_fact : IsFact (codes "Stat")
statement_fact = record { parts = inside (says_in grammar.statements (codes "Stat")); naming = refl; row = refl; rows = refl; is_known = statements.statement }

block_fact : IsFact (codes "Block")
block_fact = record { parts = inside (says_in grammar.statements (codes "Block")); naming = refl; row = refl; rows = refl; is_known = statements.block }

conditional_fact : IsFact (codes "If")
conditional_fact = record { parts = inside (says_in grammar.statements (codes "If")); naming = refl; row = refl; rows = refl; is_known = statements.conditional }

switch_fact : IsFact (codes "Switch")
switch_fact = record { parts = inside (says_in grammar.statements (codes "Switch")); naming = refl; row = refl; rows = refl; is_known = statements.switch }

case_fact : IsFact (codes "Case")
case_fact = record { parts = inside (says_in grammar.statements (codes "Case")); naming = refl; row = refl; rows = refl; is_known = statements.case }

loop_fact : IsFact (codes "Loop")
loop_fact = record { parts = inside (says_in grammar.statements (codes "Loop")); naming = refl; row = refl; rows = refl; is_known = statements.loop }

solve_fact : IsFact (codes "Solve")
solve_fact = record { parts = inside (says_in grammar.statements (codes "Solve")); naming = refl; row = refl; rows = refl; is_known = statements.solve }

trying_fact : IsFact (codes "Try")
trying_fact = record { parts = inside (says_in grammar.statements (codes "Try")); naming = refl; row = refl; rows = refl; is_known = statements.trying }

handler_fact : IsFact (codes "Catch")
handler_fact = record { parts = inside (says_in grammar.statements (codes "Catch")); naming = refl; row = refl; rows = refl; is_known = statements.handler }

final_fact : IsFact (codes "Finally")
final_fact = record { parts = inside (says_in grammar.statements (codes "Finally")); naming = refl; row = refl; rows = refl; is_known = statements.final }

simple_fact : IsFact (codes "Simple")
simple_fact = record { parts = inside (says_in grammar.statements (codes "Simple")); naming = refl; row = refl; rows = refl; is_known = statements.simple }

right_side_fact : IsFact (codes "Rhs")
right_side_fact = record { parts = inside (says_in grammar.statements (codes "Rhs")); naming = refl; row = refl; rows = refl; is_known = statements.right_side }

conditions_fact : IsFact (codes "Conds")
conditions_fact = record { parts = inside (says_in grammar.statements (codes "Conds")); naming = refl; row = refl; rows = refl; is_known = statements.conditions }

expression_fact : IsFact (codes "Exp")
expression_fact = record { parts = inside (says_in grammar.expressions (codes "Exp")); naming = refl; row = refl; rows = refl; is_known = expressions.expression }

implication_fact : IsFact (codes "Imp")
implication_fact = record { parts = inside (says_in grammar.expressions (codes "Imp")); naming = refl; row = refl; rows = refl; is_known = expressions.implication }

disjunction_fact : IsFact (codes "Or")
disjunction_fact = record { parts = inside (says_in grammar.expressions (codes "Or")); naming = refl; row = refl; rows = refl; is_known = expressions.disjunction }

conjunction_fact : IsFact (codes "And")
conjunction_fact = record { parts = inside (says_in grammar.expressions (codes "And")); naming = refl; row = refl; rows = refl; is_known = expressions.conjunction }

match_fact : IsFact (codes "Test")
match_fact = record { parts = inside (says_in grammar.expressions (codes "Test")); naming = refl; row = refl; rows = refl; is_known = expressions.match }

equality_fact : IsFact (codes "Cmp")
equality_fact = record { parts = inside (says_in grammar.expressions (codes "Cmp")); naming = refl; row = refl; rows = refl; is_known = expressions.equality }

comparison_fact : IsFact (codes "Rel")
comparison_fact = record { parts = inside (says_in grammar.expressions (codes "Rel")); naming = refl; row = refl; rows = refl; is_known = expressions.comparison }

sum_fact : IsFact (codes "Add")
sum_fact = record { parts = inside (says_in grammar.expressions (codes "Add")); naming = refl; row = refl; rows = refl; is_known = expressions.sum }

product_fact : IsFact (codes "Mul")
product_fact = record { parts = inside (says_in grammar.expressions (codes "Mul")); naming = refl; row = refl; rows = refl; is_known = expressions.product }

composition_fact : IsFact (codes "Com")
composition_fact = record { parts = inside (says_in grammar.expressions (codes "Com")); naming = refl; row = refl; rows = refl; is_known = expressions.composition }

unary_fact : IsFact (codes "Un")
unary_fact = record { parts = inside (says_in grammar.expressions (codes "Un")); naming = refl; row = refl; rows = refl; is_known = expressions.unary }

suffix_fact : IsFact (codes "Suf")
suffix_fact = record { parts = inside (says_in grammar.expressions (codes "Suf")); naming = refl; row = refl; rows = refl; is_known = expressions.suffix }

subscript_fact : IsFact (codes "Sub")
subscript_fact = record { parts = inside (says_in grammar.expressions (codes "Sub")); naming = refl; row = refl; rows = refl; is_known = expressions.subscript }

primary_fact : IsFact (codes "Prim")
primary_fact = record { parts = inside (says_in grammar.expressions (codes "Prim")); naming = refl; row = refl; rows = refl; is_known = expressions.primary }

argument_fact : IsFact (codes "Arg")
argument_fact = record { parts = inside (says_in grammar.expressions (codes "Arg")); naming = refl; row = refl; rows = refl; is_known = expressions.argument }

visit_fact : IsFact (codes "Visit")
visit_fact = record { parts = inside (says_in grammar.expressions (codes "Visit")); naming = refl; row = refl; rows = refl; is_known = expressions.visit }

strategy_fact : IsFact (codes "Strategy")
strategy_fact = record { parts = inside (says_in grammar.expressions (codes "Strategy")); naming = refl; row = refl; rows = refl; is_known = expressions.strategy }

concrete_fact : IsFact (codes "Concrete")
concrete_fact = record { parts = inside (says_in grammar.expressions (codes "Concrete")); naming = refl; row = refl; rows = refl; is_known = expressions.concrete }

parenthesized_fact : IsFact (codes "Paren")
parenthesized_fact = record { parts = inside (says_in grammar.expressions (codes "Paren")); naming = refl; row = refl; rows = refl; is_known = expressions.parenthesized }

list_fact : IsFact (codes "List")
list_fact = record { parts = inside (says_in grammar.expressions (codes "List")); naming = refl; row = refl; rows = refl; is_known = expressions.list }

set_fact : IsFact (codes "Set")
set_fact = record { parts = inside (says_in grammar.expressions (codes "Set")); naming = refl; row = refl; rows = refl; is_known = expressions.set }

element_fact : IsFact (codes "Elem")
element_fact = record { parts = inside (says_in grammar.expressions (codes "Elem")); naming = refl; row = refl; rows = refl; is_known = expressions.element }

pattern_fact : IsFact (codes "Pat")
pattern_fact = record { parts = inside (says_in grammar.patterns (codes "Pat")); naming = refl; row = refl; rows = refl; is_known = patterns.pattern }

plain_pattern_fact : IsFact (codes "Plain")
plain_pattern_fact = record { parts = inside (says_in grammar.patterns (codes "Plain")); naming = refl; row = refl; rows = refl; is_known = patterns.plain_pattern }

pattern_element_fact : IsFact (codes "Star")
pattern_element_fact = record { parts = inside (says_in grammar.patterns (codes "Star")); naming = refl; row = refl; rows = refl; is_known = patterns.pattern_element }

abbrev Facts : List (List ℕ) → Type 0
Facts [] = Unit {0}
Facts (name ∷ names) = IsFact name × Facts names

facts : Facts names
facts = (qualified_name_fact, (top_fact, (imported_fact, (data_definition_fact, (variant_fact, (field_fact, (global_fact, (function_fact, (type_fact, (syntax_definition_fact, (level_fact, (alternative_fact, (associativity_fact, (production_fact, (symbol_fact, (adjoining_fact, (repetition_fact, (atom_fact, (characters_fact, (statement_fact, (block_fact, (conditional_fact, (switch_fact, (case_fact, (loop_fact, (solve_fact, (trying_fact, (handler_fact, (final_fact, (simple_fact, (right_side_fact, (conditions_fact, (expression_fact, (implication_fact, (disjunction_fact, (conjunction_fact, (match_fact, (equality_fact, (comparison_fact, (sum_fact, (product_fact, (composition_fact, (unary_fact, (suffix_fact, (subscript_fact, (primary_fact, (argument_fact, (visit_fact, (strategy_fact, (concrete_fact, (parenthesized_fact, (list_fact, (set_fact, (element_fact, (pattern_fact, (plain_pattern_fact, (pattern_element_fact, tt)))))))))))))))))))))))))))))))))))))))))))))))))))))))))

fact_in : (all : List (List ℕ)) → Facts all → (name : List ℕ) → is_among_names all name ≡ true → IsFact name
fact_in [] found name e = absurd cc
fact_in (one ∷ more) found name e = by (bytes_eq one name) refl e (fact_in more found.1 name)
  where
    by : (b : Bool) → bytes_eq one name ≡ b → is_among_names (one ∷ more) name ≡ true → (is_among_names more name ≡ true → IsFact name) → IsFact name
    by true same e' others = subst IsFact ((bytes_eq-Decides one name).0 same) found.0
    by false same e' others =
        let rest : is_among_names more name ≡ true = rw same at e' in
        others rest

pub fact : (name : List ℕ) → is_rule name ≡ true → IsFact name
fact name e = fact_in names facts name e
