-- What a phrase of each rule says, by the part that the rule plays.
use Rattle.std.specs.Prelude.{◌≡◌, ℕ, List, [], ◌∷◌, Option, Some, None, refl, codes, if◌then◌else◌, ◌⊎◌}
use Rattle.std.proofs.Common.{inl, inr}
use Rattle.std.specs.Str.{bytes_eq}
use Rattle.rl_base.specs.declared.place.Place.{Place}
use Rattle.rl_productions.specs.declared.definition.Alt.{Alt}
use Rattle.rl_productions.specs.declared.definition.Assoc.{Assoc}
use Rattle.rl_productions.specs.declared.definition.Level.{Level}
use Rattle.rl_productions.specs.declared.definition.Prod.{Prod}
use Rattle.rl_productions.specs.declared.symbol.Atom.{Atom}
use Rattle.rl_productions.specs.declared.symbol.CharClass.{CharClass}
use Rattle.rl_productions.specs.declared.symbol.Near.{Near}
use Rattle.rl_productions.specs.declared.symbol.Rep.{Rep}
use Rattle.rl_productions.specs.declared.symbol.Sym.{Sym}
use Rattle.rl_syntax.specs.declared.declaration.Decl.{Decl}
use Rattle.rl_syntax.specs.declared.declaration.Variant.{Variant}
use Rattle.rl_syntax.specs.declared.expression.Exp.{Exp}
use Rattle.rl_syntax.specs.declared.expression.Suffix.{Suffix}
use Rattle.rl_syntax.specs.declared.fragment.Concrete.{Concrete}
use Rattle.rl_syntax.specs.declared.operator.Strategy.{Strategy}
use Rattle.rl_syntax.specs.declared.pattern.Pattern.{Pattern}
use Rattle.rl_syntax.specs.declared.pattern.PatternElement.{PatternElement}
use Rattle.rl_syntax.specs.declared.statement.Case.{Case}
use Rattle.rl_syntax.specs.declared.statement.Handler.{Handler}
use Rattle.rl_syntax.specs.declared.statement.Stat.{Stat}
use Rattle.rl_syntax.specs.declared.ty.Field.{Field}
use Rattle.rl_syntax.specs.declared.ty.Ty.{Ty}
use Rattle.rl_forms.specs.declared.form.Form.{Form}
use Rattle.rl_forms.specs.declared.form.Form.TheVariants as f
use Rattle.rl_forms.specs.Declarations.{as_type, as_field, as_variant, as_declaration}
use Rattle.rl_forms.specs.Expressions.{as_conditions, as_expression, as_strategy, as_suffix}
use Rattle.rl_forms.specs.Patterns.{as_element, as_pattern}
use Rattle.rl_forms.specs.Productions.{as_alternative, as_atom, as_level, as_mark, as_near, as_production, as_repetition, as_symbol, in_grammar}
use Rattle.rl_forms.specs.Statements.{as_case, as_handler, as_statement}
use Rattle.rl_forms.specs.declared.form.GrammarForm.{GrammarForm}
use Rattle.rl_forms.specs.declared.form.GrammarForm.TheVariants as g

pub data Role : Type 0 where
  QualifiedNames : Role
  Declarations : Role
  Variants : Role
  Fields : Role
  Types : Role
  Levels : Role
  Alternatives : Role
  Marks : Role
  Productions : Role
  Symbols : Role
  Adjoinings : Role
  Repetitions : Role
  Atoms : Role
  Classes : Role
  Statements : Role
  OwnStatements : Role
  Cases : Role
  Handlers : Role
  Finals : Role
  Conditions : Role
  Expressions : Role
  Visits : Role
  Fragments : Role
  Suffixes : Role
  Subscripts : Role
  Strategies : Role
  Patterns : Role
  Elements : Role
  -- no phrase of the rule is a part of another
  Unread : Role

abbrev pub roles : List (List ℕ × Role)
roles =
    (codes "QName", QualifiedNames) ∷ (codes "Top", Declarations) ∷ (codes "Import", Declarations) ∷ (codes "DataDef", Declarations)
    ∷ (codes "Variant", Variants) ∷ (codes "Field", Fields) ∷ (codes "Global", Declarations) ∷ (codes "Fun", Declarations)
    ∷ (codes "Type", Types) ∷ (codes "Syntax", Declarations) ∷ (codes "Level", Levels) ∷ (codes "Alt", Alternatives)
    ∷ (codes "Assoc", Marks) ∷ (codes "Prod", Productions) ∷ (codes "Sym", Symbols) ∷ (codes "Near", Adjoinings)
    ∷ (codes "Rep", Repetitions) ∷ (codes "Atom", Atoms) ∷ (codes "Chars", Classes) ∷ (codes "Stat", Statements)
    ∷ (codes "Block", OwnStatements) ∷ (codes "If", OwnStatements) ∷ (codes "Switch", OwnStatements) ∷ (codes "Case", Cases)
    ∷ (codes "Loop", OwnStatements) ∷ (codes "Solve", OwnStatements) ∷ (codes "Try", OwnStatements) ∷ (codes "Catch", Handlers)
    ∷ (codes "Finally", Finals) ∷ (codes "Simple", OwnStatements) ∷ (codes "Rhs", Statements) ∷ (codes "Conds", Conditions)
    ∷ (codes "Exp", Expressions) ∷ (codes "Imp", Expressions) ∷ (codes "Or", Expressions) ∷ (codes "And", Expressions)
    ∷ (codes "Test", Expressions) ∷ (codes "Cmp", Expressions) ∷ (codes "Rel", Expressions) ∷ (codes "Add", Expressions)
    ∷ (codes "Mul", Expressions) ∷ (codes "Com", Expressions) ∷ (codes "Un", Expressions) ∷ (codes "Suf", Suffixes)
    ∷ (codes "Sub", Subscripts) ∷ (codes "Prim", Expressions) ∷ (codes "Arg", Expressions) ∷ (codes "Visit", Visits)
    ∷ (codes "Strategy", Strategies) ∷ (codes "Concrete", Fragments) ∷ (codes "Paren", Expressions) ∷ (codes "List", Expressions)
    ∷ (codes "Set", Expressions) ∷ (codes "Elem", Expressions) ∷ (codes "Pat", Patterns) ∷ (codes "Plain", Patterns)
    ∷ (codes "Star", Elements) ∷ []

abbrev pub role_in : List (List ℕ × Role) → List ℕ → Role
role_in [] name = Unread
role_in (row ∷ rows) name = if bytes_eq row.0 name then row.1 else role_in rows name

abbrev pub role_of : List ℕ → Role
role_of name = role_in roles name

-- what a phrase of the role says: a phrase that is its only part may say less than its own rule
abbrev pub Said : Role → Type 0
Said QualifiedNames = Place × List ℕ
Said Declarations = Decl
Said Variants = Variant
Said Fields = Field ⊎ Ty
Said Types = Ty
Said Levels = Level ⊎ (Alt ⊎ (Prod ⊎ (Sym ⊎ (Rep ⊎ (Atom ⊎ CharClass)))))
Said Alternatives = Alt ⊎ (Prod ⊎ (Sym ⊎ (Rep ⊎ (Atom ⊎ CharClass))))
Said Marks = Assoc
Said Productions = Prod ⊎ (Sym ⊎ (Rep ⊎ (Atom ⊎ CharClass)))
Said Symbols = Sym ⊎ (Rep ⊎ (Atom ⊎ CharClass))
Said Adjoinings = Near ⊎ CharClass
Said Repetitions = Rep ⊎ (Atom ⊎ CharClass)
Said Atoms = Atom ⊎ CharClass
Said Classes = CharClass
Said Statements = Stat ⊎ Exp
Said OwnStatements = Stat
Said Cases = Case
Said Handlers = Handler
Said Finals = Stat
Said Conditions = List Exp ⊎ (Exp ⊎ Concrete)
Said Expressions = Exp ⊎ Concrete
Said Visits = Exp
Said Fragments = Concrete
Said Suffixes = Suffix
Said Subscripts = (Option Exp × Option Exp) ⊎ (Exp ⊎ Concrete)
Said Strategies = Strategy
Said Patterns = Pattern ⊎ Concrete
Said Elements = PatternElement ⊎ (Pattern ⊎ Concrete)
Said Unread = ⊥

abbrev pub atom_form : Atom ⊎ CharClass → Form
atom_form (inl atom) = f.Grammar (g.Atom atom)
atom_form (inr found) = f.Grammar (g.Class found)

abbrev pub repetition_form : Rep ⊎ (Atom ⊎ CharClass) → Form
repetition_form (inl rep) = f.Grammar (g.Repetition rep)
repetition_form (inr said) = atom_form said

abbrev pub symbol_form : Sym ⊎ (Rep ⊎ (Atom ⊎ CharClass)) → Form
symbol_form (inl symbol) = f.Grammar (g.Symbol symbol)
symbol_form (inr said) = repetition_form said

abbrev pub production_form : Prod ⊎ (Sym ⊎ (Rep ⊎ (Atom ⊎ CharClass))) → Form
production_form (inl production) = f.Grammar (g.Production production)
production_form (inr said) = symbol_form said

abbrev pub alternative_form : Alt ⊎ (Prod ⊎ (Sym ⊎ (Rep ⊎ (Atom ⊎ CharClass)))) → Form
alternative_form (inl alternative) = f.Grammar (g.Alternative alternative)
alternative_form (inr said) = production_form said

abbrev pub expression_said : Exp ⊎ Concrete → Form
expression_said (inl expression) = f.Expression expression
expression_said (inr fragment) = f.Fragment fragment

abbrev pub pattern_said : Pattern ⊎ Concrete → Form
pattern_said (inl pattern) = f.Pattern pattern
pattern_said (inr fragment) = f.Fragment fragment

abbrev pub form_in : (role : Role) → Said role → Form
form_in QualifiedNames said = f.QualifiedName said.0 said.1
form_in Declarations said = f.Declaration said
form_in Variants said = f.Variant said
form_in Fields (inl named) = f.Field named
form_in Fields (inr ty) = f.Type ty
form_in Types said = f.Type said
form_in Levels (inl level) = f.Grammar (g.Level level)
form_in Levels (inr said) = alternative_form said
form_in Alternatives said = alternative_form said
form_in Marks said = f.Grammar (g.Associativity said)
form_in Productions said = production_form said
form_in Symbols said = symbol_form said
form_in Adjoinings (inl near) = f.Grammar (g.Near near)
form_in Adjoinings (inr found) = f.Grammar (g.Class found)
form_in Repetitions said = repetition_form said
form_in Atoms said = atom_form said
form_in Classes said = f.Grammar (g.Class said)
form_in Statements (inl statement) = f.Statement statement
form_in Statements (inr expression) = f.Expression expression
form_in OwnStatements said = f.Statement said
form_in Cases said = f.Case said
form_in Handlers said = f.Handler said
form_in Finals said = f.Finally said
form_in Conditions (inl conditions) = f.Conditions conditions
form_in Conditions (inr said) = expression_said said
form_in Expressions said = expression_said said
form_in Visits said = f.Expression said
form_in Fragments said = f.Fragment said
form_in Suffixes said = f.Suffix said
form_in Subscripts (inl bounds) = f.Bounds bounds.0 bounds.1
form_in Subscripts (inr said) = expression_said said
form_in Strategies said = f.Strategy said
form_in Patterns said = pattern_said said
form_in Elements (inl element) = f.PatternElement element
form_in Elements (inr said) = pattern_said said
form_in Unread said = absurd said

-- a form that is what the role says
abbrev pub There : {A : Type 0} → Option A → Type 0
There None = ⊥
There (Some x) = Unit {0}

abbrev own_class : GrammarForm → Option CharClass
own_class (g.Class found) = Some found
own_class _ = None

abbrev own_name : Form → Option (Place × List ℕ)
own_name (f.QualifiedName place name) = Some (place, name)
own_name _ = None

abbrev own_statement : Form → Option Stat
own_statement (f.Statement statement) = Some statement
own_statement _ = None

abbrev own_final : Form → Option Stat
own_final (f.Finally statement) = Some statement
own_final _ = None

abbrev own_expression : Form → Option Exp
own_expression (f.Expression expression) = Some expression
own_expression _ = None

abbrev own_fragment : Form → Option Concrete
own_fragment (f.Fragment fragment) = Some fragment
own_fragment _ = None

abbrev bounds_or_expression : Form → Type 0
bounds_or_expression (f.Bounds from to) = Unit {0}
bounds_or_expression (f.Expression expression) = Unit {0}
bounds_or_expression (f.Fragment fragment) = Unit {0}
bounds_or_expression _ = ⊥

abbrev pub Plays : Role → Form → Type 0
Plays QualifiedNames form = There (own_name form)
Plays Declarations form = There (as_declaration form)
Plays Variants form = There (as_variant form)
Plays Fields form = There (as_field form)
Plays Types form = There (as_type form)
Plays Levels form = There (as_level form)
Plays Alternatives form = There (as_alternative form)
Plays Marks form = There (as_mark form)
Plays Productions form = There (as_production form)
Plays Symbols form = There (as_symbol form)
Plays Adjoinings form = There (as_near form)
Plays Repetitions form = There (as_repetition form)
Plays Atoms form = There (as_atom form)
Plays Classes form = There (in_grammar own_class form)
Plays Statements form = There (as_statement form)
Plays OwnStatements form = There (own_statement form)
Plays Cases form = There (as_case form)
Plays Handlers form = There (as_handler form)
Plays Finals form = There (own_final form)
Plays Conditions form = There (as_conditions form)
Plays Expressions form = There (as_expression form)
Plays Visits form = There (own_expression form)
Plays Fragments form = There (own_fragment form)
Plays Suffixes form = There (as_suffix form)
Plays Subscripts form = bounds_or_expression form
Plays Strategies form = There (as_strategy form)
Plays Patterns form = There (as_pattern form)
Plays Elements form = There (as_element form)
Plays Unread form = ⊥

-- what a form that plays the role says
abbrev pub IsSaid : Role → Form → Type 0
IsSaid role form = (said : Said role) × (form ≡ form_in role said)

qualified_names_say : (form : Form) → Plays QualifiedNames form → IsSaid QualifiedNames form
qualified_names_say (f.QualifiedName place name) plays = ((place, name), refl)
qualified_names_say _ plays = absurd plays

declarations_say : (form : Form) → Plays Declarations form → IsSaid Declarations form
declarations_say (f.Declaration x) plays = (x, refl)
declarations_say _ plays = absurd plays

variants_say : (form : Form) → Plays Variants form → IsSaid Variants form
variants_say (f.Variant x) plays = (x, refl)
variants_say _ plays = absurd plays

fields_say : (form : Form) → Plays Fields form → IsSaid Fields form
fields_say (f.Field x) plays = (inl x, refl)
fields_say (f.Type x) plays = (inr x, refl)
fields_say _ plays = absurd plays

types_say : (form : Form) → Plays Types form → IsSaid Types form
types_say (f.Type x) plays = (x, refl)
types_say _ plays = absurd plays

levels_say : (form : Form) → Plays Levels form → IsSaid Levels form
levels_say (f.Grammar (g.Level x)) plays = (inl x, refl)
levels_say (f.Grammar (g.Alternative x)) plays = (inr (inl x), refl)
levels_say (f.Grammar (g.Production x)) plays = (inr (inr (inl x)), refl)
levels_say (f.Grammar (g.Symbol x)) plays = (inr (inr (inr (inl x))), refl)
levels_say (f.Grammar (g.Repetition x)) plays = (inr (inr (inr (inr (inl x)))), refl)
levels_say (f.Grammar (g.Atom x)) plays = (inr (inr (inr (inr (inr (inl x))))), refl)
levels_say (f.Grammar (g.Class x)) plays = (inr (inr (inr (inr (inr (inr x))))), refl)
levels_say _ plays = absurd plays

alternatives_say : (form : Form) → Plays Alternatives form → IsSaid Alternatives form
alternatives_say (f.Grammar (g.Alternative x)) plays = (inl x, refl)
alternatives_say (f.Grammar (g.Production x)) plays = (inr (inl x), refl)
alternatives_say (f.Grammar (g.Symbol x)) plays = (inr (inr (inl x)), refl)
alternatives_say (f.Grammar (g.Repetition x)) plays = (inr (inr (inr (inl x))), refl)
alternatives_say (f.Grammar (g.Atom x)) plays = (inr (inr (inr (inr (inl x)))), refl)
alternatives_say (f.Grammar (g.Class x)) plays = (inr (inr (inr (inr (inr x)))), refl)
alternatives_say _ plays = absurd plays

marks_say : (form : Form) → Plays Marks form → IsSaid Marks form
marks_say (f.Grammar (g.Associativity x)) plays = (x, refl)
marks_say _ plays = absurd plays

productions_say : (form : Form) → Plays Productions form → IsSaid Productions form
productions_say (f.Grammar (g.Production x)) plays = (inl x, refl)
productions_say (f.Grammar (g.Symbol x)) plays = (inr (inl x), refl)
productions_say (f.Grammar (g.Repetition x)) plays = (inr (inr (inl x)), refl)
productions_say (f.Grammar (g.Atom x)) plays = (inr (inr (inr (inl x))), refl)
productions_say (f.Grammar (g.Class x)) plays = (inr (inr (inr (inr x))), refl)
productions_say _ plays = absurd plays

symbols_say : (form : Form) → Plays Symbols form → IsSaid Symbols form
symbols_say (f.Grammar (g.Symbol x)) plays = (inl x, refl)
symbols_say (f.Grammar (g.Repetition x)) plays = (inr (inl x), refl)
symbols_say (f.Grammar (g.Atom x)) plays = (inr (inr (inl x)), refl)
symbols_say (f.Grammar (g.Class x)) plays = (inr (inr (inr x)), refl)
symbols_say _ plays = absurd plays

adjoinings_say : (form : Form) → Plays Adjoinings form → IsSaid Adjoinings form
adjoinings_say (f.Grammar (g.Near x)) plays = (inl x, refl)
adjoinings_say (f.Grammar (g.Class x)) plays = (inr x, refl)
adjoinings_say _ plays = absurd plays

repetitions_say : (form : Form) → Plays Repetitions form → IsSaid Repetitions form
repetitions_say (f.Grammar (g.Repetition x)) plays = (inl x, refl)
repetitions_say (f.Grammar (g.Atom x)) plays = (inr (inl x), refl)
repetitions_say (f.Grammar (g.Class x)) plays = (inr (inr x), refl)
repetitions_say _ plays = absurd plays

atoms_say : (form : Form) → Plays Atoms form → IsSaid Atoms form
atoms_say (f.Grammar (g.Atom x)) plays = (inl x, refl)
atoms_say (f.Grammar (g.Class x)) plays = (inr x, refl)
atoms_say _ plays = absurd plays

classes_say : (form : Form) → Plays Classes form → IsSaid Classes form
classes_say (f.Grammar (g.Class x)) plays = (x, refl)
classes_say _ plays = absurd plays

statements_say : (form : Form) → Plays Statements form → IsSaid Statements form
statements_say (f.Statement x) plays = (inl x, refl)
statements_say (f.Expression x) plays = (inr x, refl)
statements_say _ plays = absurd plays

own_statements_say : (form : Form) → Plays OwnStatements form → IsSaid OwnStatements form
own_statements_say (f.Statement x) plays = (x, refl)
own_statements_say _ plays = absurd plays

cases_say : (form : Form) → Plays Cases form → IsSaid Cases form
cases_say (f.Case x) plays = (x, refl)
cases_say _ plays = absurd plays

handlers_say : (form : Form) → Plays Handlers form → IsSaid Handlers form
handlers_say (f.Handler x) plays = (x, refl)
handlers_say _ plays = absurd plays

finals_say : (form : Form) → Plays Finals form → IsSaid Finals form
finals_say (f.Finally x) plays = (x, refl)
finals_say _ plays = absurd plays

conditions_say : (form : Form) → Plays Conditions form → IsSaid Conditions form
conditions_say (f.Conditions x) plays = (inl x, refl)
conditions_say (f.Expression x) plays = (inr (inl x), refl)
conditions_say (f.Fragment x) plays = (inr (inr x), refl)
conditions_say _ plays = absurd plays

expressions_say : (form : Form) → Plays Expressions form → IsSaid Expressions form
expressions_say (f.Expression x) plays = (inl x, refl)
expressions_say (f.Fragment x) plays = (inr x, refl)
expressions_say _ plays = absurd plays

visits_say : (form : Form) → Plays Visits form → IsSaid Visits form
visits_say (f.Expression x) plays = (x, refl)
visits_say _ plays = absurd plays

fragments_say : (form : Form) → Plays Fragments form → IsSaid Fragments form
fragments_say (f.Fragment x) plays = (x, refl)
fragments_say _ plays = absurd plays

suffixes_say : (form : Form) → Plays Suffixes form → IsSaid Suffixes form
suffixes_say (f.Suffix x) plays = (x, refl)
suffixes_say _ plays = absurd plays

subscripts_say : (form : Form) → Plays Subscripts form → IsSaid Subscripts form
subscripts_say (f.Bounds x y) plays = (inl (x, y), refl)
subscripts_say (f.Expression x) plays = (inr (inl x), refl)
subscripts_say (f.Fragment x) plays = (inr (inr x), refl)
subscripts_say _ plays = absurd plays

strategies_say : (form : Form) → Plays Strategies form → IsSaid Strategies form
strategies_say (f.Strategy x) plays = (x, refl)
strategies_say _ plays = absurd plays

patterns_say : (form : Form) → Plays Patterns form → IsSaid Patterns form
patterns_say (f.Pattern x) plays = (inl x, refl)
patterns_say (f.Fragment x) plays = (inr x, refl)
patterns_say _ plays = absurd plays

elements_say : (form : Form) → Plays Elements form → IsSaid Elements form
elements_say (f.PatternElement x) plays = (inl x, refl)
elements_say (f.Pattern x) plays = (inr (inl x), refl)
elements_say (f.Fragment x) plays = (inr (inr x), refl)
elements_say _ plays = absurd plays

pub role_says : (role : Role) (form : Form) → Plays role form → IsSaid role form
role_says QualifiedNames form plays = qualified_names_say form plays
role_says Declarations form plays = declarations_say form plays
role_says Variants form plays = variants_say form plays
role_says Fields form plays = fields_say form plays
role_says Types form plays = types_say form plays
role_says Levels form plays = levels_say form plays
role_says Alternatives form plays = alternatives_say form plays
role_says Marks form plays = marks_say form plays
role_says Productions form plays = productions_say form plays
role_says Symbols form plays = symbols_say form plays
role_says Adjoinings form plays = adjoinings_say form plays
role_says Repetitions form plays = repetitions_say form plays
role_says Atoms form plays = atoms_say form plays
role_says Classes form plays = classes_say form plays
role_says Statements form plays = statements_say form plays
role_says OwnStatements form plays = own_statements_say form plays
role_says Cases form plays = cases_say form plays
role_says Handlers form plays = handlers_say form plays
role_says Finals form plays = finals_say form plays
role_says Conditions form plays = conditions_say form plays
role_says Expressions form plays = expressions_say form plays
role_says Visits form plays = visits_say form plays
role_says Fragments form plays = fragments_say form plays
role_says Suffixes form plays = suffixes_say form plays
role_says Subscripts form plays = subscripts_say form plays
role_says Strategies form plays = strategies_say form plays
role_says Patterns form plays = patterns_say form plays
role_says Elements form plays = elements_say form plays
role_says Unread form plays = absurd plays
