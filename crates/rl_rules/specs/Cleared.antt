-- Modules without what checking sets in them, and which program they are.
use Rattle.std.specs.Prelude.{◌≡◌, false, IsTrue, List, map, option_map}
use Rattle.rl_syntax.specs.declared.declaration.Body.{Body}
use Rattle.rl_syntax.specs.declared.declaration.Body.TheVariants as bodies
use Rattle.rl_syntax.specs.declared.declaration.Decl.{Decl}
use Rattle.rl_syntax.specs.declared.declaration.Decl.TheVariants as d
use Rattle.rl_syntax.specs.declared.declaration.Function.{Function}
use Rattle.rl_syntax.specs.declared.declaration.Variant.{Variant}
use Rattle.rl_syntax.specs.declared.expression.Exp.{Exp}
use Rattle.rl_syntax.specs.declared.expression.Exp.TheFolds.{fold-Exp, fold-Stat}
use Rattle.rl_syntax.specs.declared.expression.Exp.TheOpen as e
use Rattle.rl_syntax.specs.declared.expression.Exp.TheVariants as exp
use Rattle.rl_syntax.specs.declared.expression.Suffix.{Suffix}
use Rattle.rl_syntax.specs.declared.expression.Suffix.TheVariants as suffix
use Rattle.rl_syntax.specs.declared.fragment.Concrete.{Concrete}
use Rattle.rl_syntax.specs.declared.fragment.Piece.{Piece}
use Rattle.rl_syntax.specs.declared.fragment.Piece.TheVariants as pieces
use Rattle.rl_syntax.specs.declared.identifier.Identifier.{Identifier}
use Rattle.rl_syntax.specs.declared.identifier.PatternVariable.{PatternVariable}
use Rattle.rl_syntax.specs.declared.module.Module.{Module}
use Rattle.rl_syntax.specs.declared.module.Modules.{Modules}
use Rattle.rl_syntax.specs.declared.pattern.Pattern.{Pattern}
use Rattle.rl_syntax.specs.declared.pattern.Pattern.TheFolds.{fold-Pattern}
use Rattle.rl_syntax.specs.declared.pattern.Pattern.TheOpen as p
use Rattle.rl_syntax.specs.declared.pattern.Pattern.TheVariants as pat
use Rattle.rl_syntax.specs.declared.pattern.PatternElement.{PatternElement}
use Rattle.rl_syntax.specs.declared.pattern.PatternElement.TheVariants as item
use Rattle.rl_syntax.specs.declared.statement.Case.{Case}
use Rattle.rl_syntax.specs.declared.statement.Case.TheVariants as cases
use Rattle.rl_syntax.specs.declared.statement.Handler.{Handler}
use Rattle.rl_syntax.specs.declared.statement.Handler.TheVariants as handler
use Rattle.rl_syntax.specs.declared.statement.Stat.{Stat}
use Rattle.rl_syntax.specs.declared.statement.Stat.TheVariants as stat
use Rattle.rl_syntax.specs.declared.ty.Field.{Field}
use Rattle.rl_syntax.specs.declared.ty.Ty.TheVariants as types
use Rattle.rl_rules.specs.Numbering.{is_numbered}
use Rattle.rl_rules.specs.Program.{Grammars, Program, program_of}

abbrev pub cleared_name : Identifier → Identifier
cleared_name name = record name { number = 0 }

abbrev pub cleared_variable : PatternVariable → PatternVariable
cleared_variable x = record x { number = 0; is_test = false }

abbrev pub cleared_piece : Piece → Piece
cleared_piece (pieces.Text text) = pieces.Text text
cleared_piece (pieces.Hole sort x) = pieces.Hole sort (cleared_variable x)

abbrev pub cleared_fragment : Concrete → Concrete
cleared_fragment fragment = record fragment { pieces = map cleared_piece fragment.pieces; number = 0 }

-- Patterns.

abbrev pub cleared_pattern_form : p.Pattern-F Pattern PatternElement → Pattern
cleared_pattern_form (p.TypedBinding place ty x inner) = pat.TypedBinding place ty (cleared_variable x) inner
cleared_pattern_form (p.Binding place x inner) = pat.Binding place (cleared_variable x) inner
cleared_pattern_form (p.Negation place inner) = pat.Negation place inner
cleared_pattern_form (p.Descendant place inner) = pat.Descendant place inner
cleared_pattern_form (p.Fragment place fragment) = pat.Fragment place (cleared_fragment fragment)
cleared_pattern_form (p.Constructor place name parts) = pat.Constructor place (cleared_name name) parts
cleared_pattern_form (p.TypedVariable place ty x) = pat.TypedVariable place ty (cleared_variable x)
cleared_pattern_form (p.TypedWildcard place ty) = pat.TypedWildcard place ty
cleared_pattern_form (p.List place elements) = pat.List place elements
cleared_pattern_form (p.Set place elements) = pat.Set place elements
cleared_pattern_form (p.Tuple place parts) = pat.Tuple place parts
cleared_pattern_form (p.Integer place number) = pat.Integer place number
cleared_pattern_form (p.Text place text) = pat.Text place text
cleared_pattern_form (p.Location place path) = pat.Location place path
cleared_pattern_form (p.Truth place truth) = pat.Truth place truth
cleared_pattern_form (p.Wildcard place) = pat.Wildcard place
cleared_pattern_form (p.Variable place x) = pat.Variable place (cleared_variable x)

abbrev pub cleared_element_form : p.PatternElement-F Pattern PatternElement → PatternElement
cleared_element_form (p.AnyRest place) = item.AnyRest place
cleared_element_form (p.TypedRest place ty x) = item.TypedRest place ty (cleared_variable x)
cleared_element_form (p.Rest place x) = item.Rest place (cleared_variable x)
cleared_element_form (p.Single inner) = item.Single inner

unfoldable pub cleared_pattern : Pattern → Pattern
cleared_pattern = fold-Pattern Pattern PatternElement cleared_pattern_form cleared_element_form

-- Expressions and statements. The type of a visit's subject is set, too.

abbrev pub cleared_expression_form : e.Exp-F Exp Suffix Case Handler Stat → Exp
cleared_expression_form (e.Conditional place c x y) = exp.Conditional place c x y
cleared_expression_form (e.Fallback place x y) = exp.Fallback place x y
cleared_expression_form (e.Implication place x y) = exp.Implication place x y
cleared_expression_form (e.Equivalence place x y) = exp.Equivalence place x y
cleared_expression_form (e.Disjunction place xs) = exp.Disjunction place xs
cleared_expression_form (e.Conjunction place xs) = exp.Conjunction place xs
cleared_expression_form (e.Match place pattern x) = exp.Match place (cleared_pattern pattern) x
cleared_expression_form (e.NoMatch place pattern x) = exp.NoMatch place (cleared_pattern pattern) x
cleared_expression_form (e.Enumeration place pattern x) = exp.Enumeration place (cleared_pattern pattern) x
cleared_expression_form (e.Equal place x y) = exp.Equal place x y
cleared_expression_form (e.NotEqual place x y) = exp.NotEqual place x y
cleared_expression_form (e.Compared place x comparison y) = exp.Compared place x comparison y
cleared_expression_form (e.Is place x name) = exp.Is place x (cleared_name name)
cleared_expression_form (e.Sum place x rest) = exp.Sum place x rest
cleared_expression_form (e.Product place x rest) = exp.Product place x rest
cleared_expression_form (e.Composition place xs) = exp.Composition place xs
cleared_expression_form (e.Not place x) = exp.Not place x
cleared_expression_form (e.Negative place x) = exp.Negative place x
cleared_expression_form (e.Suffixed place x xs) = exp.Suffixed place x xs
cleared_expression_form (e.Integer place n) = exp.Integer place n
cleared_expression_form (e.Text place bytes) = exp.Text place bytes
cleared_expression_form (e.Interpolation place first rest) = exp.Interpolation place first rest
cleared_expression_form (e.Location place path) = exp.Location place path
cleared_expression_form (e.Truth place b) = exp.Truth place b
cleared_expression_form (e.It place) = exp.It place
cleared_expression_form (e.Visit place strategy subject cs ty) = exp.Visit place strategy subject cs (types.Value place)
cleared_expression_form (e.Fragment place fragment) = exp.Fragment place (cleared_fragment fragment)
cleared_expression_form (e.Parenthesized place x) = exp.Parenthesized place x
cleared_expression_form (e.Reducer place start step cs) = exp.Reducer place start step cs
cleared_expression_form (e.Map place entries) = exp.Map place entries
cleared_expression_form (e.MapComprehension place key value cs) = exp.MapComprehension place key value cs
cleared_expression_form (e.Range place first second last) = exp.Range place first second last
cleared_expression_form (e.List place xs) = exp.List place xs
cleared_expression_form (e.ListComprehension place xs cs) = exp.ListComprehension place xs cs
cleared_expression_form (e.Set place xs) = exp.Set place xs
cleared_expression_form (e.SetComprehension place xs cs) = exp.SetComprehension place xs cs
cleared_expression_form (e.Tuple place xs) = exp.Tuple place xs
cleared_expression_form (e.Call place name xs) = exp.Call place (cleared_name name) xs
cleared_expression_form (e.Splice place x) = exp.Splice place x
cleared_expression_form (e.TypeName place name) = exp.TypeName place (cleared_name name)
cleared_expression_form (e.StartSort place start name) = exp.StartSort place start (cleared_name name)
cleared_expression_form (e.Loop place x) = exp.Loop place x
cleared_expression_form (e.Variable place name) = exp.Variable place (cleared_name name)

abbrev pub cleared_suffix_form : e.Suffix-F Exp Suffix Case Handler Stat → Suffix
cleared_suffix_form (e.Subscript place x) = suffix.Subscript place x
cleared_suffix_form (e.Slice place from to) = suffix.Slice place from to
cleared_suffix_form (e.Field place name) = suffix.Field place (cleared_name name)
cleared_suffix_form (e.TransitiveClosure place) = suffix.TransitiveClosure place
cleared_suffix_form (e.ReflexiveClosure place) = suffix.ReflexiveClosure place

abbrev pub cleared_case_form : e.Case-F Exp Suffix Case Handler Stat → Case
cleared_case_form (e.Default place body) = cases.Default place body
cleared_case_form (e.Replacement place pattern x cs) = cases.Replacement place (cleared_pattern pattern) x cs
cleared_case_form (e.Statements place pattern body) = cases.Statements place (cleared_pattern pattern) body

abbrev pub cleared_handler_form : e.Handler-F Exp Suffix Case Handler Stat → Handler
cleared_handler_form (e.Any place body) = handler.Any place body
cleared_handler_form (e.Matching place pattern body) = handler.Matching place (cleared_pattern pattern) body

abbrev pub cleared_statement_form : e.Stat-F Exp Suffix Case Handler Stat → Stat
cleared_statement_form (e.Block place xs) = stat.Block place xs
cleared_statement_form (e.If place cs x other) = stat.If place cs x other
cleared_statement_form (e.Switch place x cs) = stat.Switch place x cs
cleared_statement_form (e.For place cs body) = stat.For place cs body
cleared_statement_form (e.While place cs body) = stat.While place cs body
cleared_statement_form (e.Do place body cs) = stat.Do place body cs
cleared_statement_form (e.Solve place names body) = stat.Solve place (map cleared_name names) body
cleared_statement_form (e.Try place body handlers last) = stat.Try place body handlers last
cleared_statement_form (e.Return place) = stat.Return place
cleared_statement_form (e.ReturnValue place x) = stat.ReturnValue place x
cleared_statement_form (e.Insert place x) = stat.Insert place x
cleared_statement_form (e.Append place x) = stat.Append place x
cleared_statement_form (e.Throw place x) = stat.Throw place x
cleared_statement_form (e.Fail place) = stat.Fail place
cleared_statement_form (e.Break place) = stat.Break place
cleared_statement_form (e.Continue place) = stat.Continue place
cleared_statement_form (e.Empty place) = stat.Empty place
cleared_statement_form (e.Declaration place ty name x) = stat.Declaration place ty (cleared_name name) x
cleared_statement_form (e.TupleAssignment place names x) = stat.TupleAssignment place (map cleared_name names) x
cleared_statement_form (e.Assign place name path op x) = stat.Assign place (cleared_name name) path op x
cleared_statement_form (e.Expression place x) = stat.Expression place x

unfoldable pub cleared_expression : Exp → Exp
cleared_expression = fold-Exp Exp Suffix Case Handler Stat cleared_expression_form cleared_suffix_form cleared_case_form cleared_handler_form cleared_statement_form

unfoldable pub cleared_statement : Stat → Stat
cleared_statement = fold-Stat Exp Suffix Case Handler Stat cleared_expression_form cleared_suffix_form cleared_case_form cleared_handler_form cleared_statement_form

-- Modules.

abbrev pub cleared_body : Body → Body
cleared_body (bodies.Value value cs) = bodies.Value (cleared_expression value) (map cleared_expression cs)
cleared_body (bodies.Statements xs) = bodies.Statements (map cleared_statement xs)

abbrev pub cleared_function : Function → Function
cleared_function function =
    record function { name = cleared_name function.name; parameters = map cleared_pattern function.parameters; body = cleared_body function.body }

abbrev pub cleared_field : Field → Field
cleared_field field = record field { name = option_map cleared_name field.name }

abbrev pub cleared_variant : Variant → Variant
cleared_variant variant = record variant { name = cleared_name variant.name; fields = map cleared_field variant.fields }

abbrev pub cleared_declaration : Decl → Decl
cleared_declaration (d.Import place name) = d.Import place name
cleared_declaration (d.Extend place name) = d.Extend place name
cleared_declaration (d.Syntax definition) = d.Syntax definition
cleared_declaration (d.Data place name variants) = d.Data place (cleared_name name) (map cleared_variant variants)
cleared_declaration (d.Global place private ty name value) = d.Global place private ty (cleared_name name) (cleared_expression value)
cleared_declaration (d.Function function) = d.Function (cleared_function function)

abbrev pub cleared_module : Module → Module
cleared_module m = record m { declarations = map cleared_declaration m.declarations }

abbrev pub cleared : List Module → List Module
cleared modules = map cleared_module modules

-- The program that the rules run.

-- It has the modules that were read but for what checking sets, in their order, and their numbers are right.
abbrev pub IsProgramOf : Grammars → Modules → Program → Type 0
IsProgramOf grammars loaded p =
    (cleared p.modules ≡ cleared loaded.list) × IsTrue (is_numbered p.modules)
    × (p ≡ program_of grammars (record { list = p.modules; finished = loaded.finished }))
