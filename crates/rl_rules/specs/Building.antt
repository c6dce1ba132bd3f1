-- Small programs, built by hand for the examples.
use Rattle.std.specs.Prelude.{ℕ, pos, Bool, true, false, List, [], ◌∷◌, Option, Some, None, codes}
use Rattle.rl_base.specs.declared.place.Place.{Place}
use Rattle.rl_base.specs.Holds.{FileMap}
use Rattle.rl_exception.specs.Answer.{Gives}
use Rattle.rl_syntax.specs.declared.declaration.Body.TheVariants.{Statements, Value}
use Rattle.rl_syntax.specs.declared.declaration.Decl.{Decl}
use Rattle.rl_syntax.specs.declared.declaration.Decl.TheVariants as d
use Rattle.rl_syntax.specs.declared.declaration.Modifier.{Modifier}
use Rattle.rl_syntax.specs.declared.declaration.Modifier.TheVariants.{Default, Test}
use Rattle.rl_syntax.specs.declared.expression.Exp.{Exp}
use Rattle.rl_syntax.specs.declared.expression.Exp.TheVariants as x
use Rattle.rl_syntax.specs.declared.expression.Suffix.TheVariants as u
use Rattle.rl_syntax.specs.declared.identifier.Identifier.{Identifier}
use Rattle.rl_syntax.specs.declared.identifier.PatternVariable.{PatternVariable}
use Rattle.rl_syntax.specs.declared.module.Module.{Module}
use Rattle.rl_syntax.specs.declared.operator.Assignment.TheVariants as a
use Rattle.rl_syntax.specs.declared.operator.Comparison.TheVariants as c
use Rattle.rl_syntax.specs.declared.operator.SumOperator.TheVariants as o
use Rattle.rl_syntax.specs.declared.operator.Strategy.{Strategy}
use Rattle.rl_syntax.specs.declared.pattern.Pattern.{Pattern}
use Rattle.rl_syntax.specs.declared.pattern.Pattern.TheVariants as p
use Rattle.rl_syntax.specs.declared.pattern.PatternElement.{PatternElement}
use Rattle.rl_syntax.specs.declared.pattern.PatternElement.TheVariants as q
use Rattle.rl_syntax.specs.declared.statement.Case.{Case}
use Rattle.rl_syntax.specs.declared.statement.Case.TheVariants as k
use Rattle.rl_syntax.specs.declared.statement.Handler.{Handler}
use Rattle.rl_syntax.specs.declared.statement.Handler.TheVariants as h
use Rattle.rl_syntax.specs.declared.statement.Stat.{Stat}
use Rattle.rl_syntax.specs.declared.statement.Stat.TheVariants as t
use Rattle.rl_syntax.specs.declared.ty.Ty.{Ty}
use Rattle.rl_syntax.specs.declared.ty.Ty.TheVariants as ty
use Rattle.rl_types.specs.Declarations.{Constructor}
use Rattle.rl_types.specs.PlainType.{PlainType}
use Rattle.rl_value.specs.Plain.{empty_tuple}
use Rattle.rl_rules.specs.Evaluation.{Ran, Done, Cut, Stuck}
use Rattle.rl_rules.specs.Program.{Program}
use Rattle.rl_rules.specs.Rule.{Outcome}
use Rattle.rl_rules.specs.Run.{derivation, main as main_rule}

abbrev pub here : Place
here = record { «module» = 0; offset = 0; line = 1; column = 1 }

-- a name, with the number that checking gives it
abbrev pub name : List ℕ → ℕ → Identifier
name text number = record { place = here; name = text; number = number }

-- Expressions.

abbrev pub truth : Bool → Exp
truth b = x.Truth here b

abbrev pub number : ℕ → Exp
number n = x.Integer here (pos n)

abbrev pub text : List ℕ → Exp
text bytes = x.Text here bytes

abbrev pub variable : ℕ → Exp
variable n = x.Variable here (name (codes "x") n)

abbrev pub call : List ℕ → List Exp → Exp
call function arguments = x.Call here (name function 0) arguments

-- a call that stands in module 1
abbrev pub call_in_extended : List ℕ → List Exp → Exp
call_in_extended function arguments =
    x.Call here (record { place = record { «module» = 1; offset = 0; line = 1; column = 1 }; name = function; number = 0 }) arguments

-- `#S`, as an argument
abbrev pub sort_argument : List ℕ → Exp
sort_argument sort = x.TypeName here (name sort 0)

abbrev pub list : List Exp → Exp
list xs = x.List here xs

abbrev pub set : List Exp → Exp
set xs = x.Set here xs

abbrev pub pair : Exp → Exp → Exp
pair first second = x.Tuple here (first ∷ second ∷ [])

abbrev pub plus : Exp → Exp → Exp
plus left right = x.Sum here left ((o.Add, right) ∷ [])

abbrev pub less : Exp → Exp → Exp
less left right = x.Compared here left c.Less right

-- `e[i]`
abbrev pub subscript : Exp → Exp → Exp
subscript value index = x.Suffixed here value (u.Subscript here index ∷ [])

-- `a ? b`
abbrev pub fallback : Exp → Exp → Exp
fallback value other = x.Fallback here value other

abbrev pub matches : Pattern → Exp → Exp
matches pattern value = x.Match here pattern value

abbrev pub enumerate : Pattern → Exp → Exp
enumerate pattern collection = x.Enumeration here pattern collection

abbrev pub it : Exp
it = x.It here

abbrev pub reduce : Exp → Exp → List Exp → Exp
reduce start step conditions = x.Reducer here start step conditions

abbrev pub visit : Strategy → Exp → List Case → Ty → Exp
visit strategy subject cases type = x.Visit here strategy subject cases type

-- a loop for the list of what it appends
abbrev pub loop_value : Stat → Exp
loop_value loop = x.Loop here loop

abbrev pub both : Exp → Exp → Exp
both first second = x.Conjunction here (first ∷ second ∷ [])

abbrev pub in_parentheses : Exp → Exp
in_parentheses value = x.Parenthesized here value

-- `[e | conditions]`
abbrev pub collect : Exp → List Exp → Exp
collect value conditions = x.ListComprehension here (value ∷ []) conditions

-- Statements.

abbrev pub only : Exp → Stat
only value = t.Expression here value

-- `println(e);`
abbrev pub print_line : Exp → Stat
print_line value = only (call (codes "println") (value ∷ []))

abbrev pub block : List Stat → Stat
block body = t.Block here body

abbrev pub provided : List Exp → Stat → Stat
provided conditions first = t.If here conditions first None

abbrev pub each : List Exp → Stat → Stat
each conditions body = t.For here conditions body

-- `while`
abbrev pub repeat : List Exp → Stat → Stat
repeat conditions body = t.While here conditions body

-- `do body while (conditions);`
abbrev pub repeat_after : Stat → List Exp → Stat
repeat_after body conditions = t.Do here body conditions

abbrev pub switch : Exp → List Case → Stat
switch subject cases = t.Switch here subject cases

abbrev pub finally : Stat → Stat → Stat
finally body last = t.Try here body [] (Some last)

abbrev pub trying : Stat → List Handler → Stat
trying body handlers = t.Try here body handlers None

abbrev pub catch : Pattern → Stat → Handler
catch pattern body = h.Matching here pattern body

-- `try body catch: handler`
abbrev pub catching : Stat → Stat → Stat
catching body handler = trying body (h.Any here handler ∷ [])

abbrev pub return : Exp → Stat
return value = t.ReturnValue here value

abbrev pub throw : Exp → Stat
throw value = t.Throw here value

abbrev pub fail : Stat
fail = t.Fail here

abbrev pub break : Stat
break = t.Break here

abbrev pub continue : Stat
continue = t.Continue here

-- `;`
abbrev pub nothing : Stat
nothing = t.Empty here

-- `int x = e;`
abbrev pub declare : ℕ → Exp → Stat
declare n value = t.Declaration here (ty.Int here) (name (codes "x") n) value

abbrev pub assign : ℕ → Exp → Stat
assign n value = t.Assign here (name (codes "x") n) [] a.Set value

abbrev pub append : Exp → Stat
append value = t.Append here value

abbrev pub solve : ℕ → Stat → Stat
solve n body = t.Solve here (name (codes "x") n ∷ []) body

-- `<x, y> = e;`
abbrev pub assign_pair : ℕ → ℕ → Exp → Stat
assign_pair m n value = t.TupleAssignment here (name (codes "x") m ∷ name (codes "y") n ∷ []) value

-- `x[e][f] = value;`
abbrev pub assign_at : ℕ → Exp → Exp → Exp → Stat
assign_at n first second value = t.Assign here (name (codes "x") n) (u.Subscript here first ∷ u.Subscript here second ∷ []) a.Set value

abbrev pub increase : ℕ → Exp → Stat
increase n value = t.Assign here (name (codes "x") n) [] a.Add value

abbrev pub on : Pattern → List Stat → Case
on pattern body = k.Statements here pattern body

-- `case pattern => e`
abbrev pub replace : Pattern → Exp → Case
replace pattern value = k.Replacement here pattern value []

-- Patterns.

abbrev pub pattern_variable : ℕ → Bool → PatternVariable
pattern_variable n is_test = record { place = here; name = codes "x"; number = n; is_test = is_test }

abbrev pub new : ℕ → Pattern
new n = p.Variable here (pattern_variable n false)

abbrev pub test : ℕ → Pattern
test n = p.Variable here (pattern_variable n true)

abbrev pub number_pattern : ℕ → Pattern
number_pattern n = p.Integer here (pos n)

abbrev pub text_pattern : List ℕ → Pattern
text_pattern bytes = p.Text here bytes

-- `*x`
abbrev pub rest : ℕ → PatternElement
rest n = q.Rest here (pattern_variable n false)

abbrev pub one : Pattern → PatternElement
one pattern = q.Single pattern

abbrev pub list_pattern : List PatternElement → Pattern
list_pattern elements = p.List here elements

abbrev pub set_pattern : List PatternElement → Pattern
set_pattern elements = p.Set here elements

abbrev pub pair_pattern : Pattern → Pattern → Pattern
pair_pattern first second = p.Tuple here (first ∷ second ∷ [])

abbrev pub constructor_pattern : List ℕ → List Pattern → Pattern
constructor_pattern constructor parts = p.Constructor here (name constructor 0) parts

-- Declarations.

abbrev pub void_type : Ty
void_type = ty.Void here

abbrev pub int_type : Ty
int_type = ty.Int here

abbrev pub bool_type : Ty
bool_type = ty.Bool here

abbrev pub named_type : List ℕ → Ty
named_type text = ty.Named here text

abbrev pub function_marked : Option Modifier → Ty → List ℕ → List Pattern → List Stat → Decl
function_marked modifier type text parameters body =
    d.Function (record { place = here; private = false; modifier = modifier; ty = type; name = name text 0; parameters = parameters; body = Statements body })

abbrev pub function : Ty → List ℕ → List Pattern → List Stat → Decl
function = function_marked None

abbrev pub default_function : Ty → List ℕ → List Pattern → List Stat → Decl
default_function = function_marked (Some Default)

-- `test bool name() { body }`
abbrev pub test_function : List ℕ → List Stat → Decl
test_function text body = function_marked (Some Test) bool_type text [] body

-- a function whose body is `= e when conditions`
abbrev pub function_when : Option Modifier → Ty → List ℕ → List Pattern → Exp → List Exp → Decl
function_when modifier type text parameters value conditions =
    d.Function (record { place = here; private = false; modifier = modifier; ty = type; name = name text 0; parameters = parameters; body = Value value conditions })

abbrev pub extends : List ℕ → Decl
extends text = d.Extend here text

-- `int name = e;`
abbrev pub global : List ℕ → ℕ → Exp → Decl
global text n value = d.Global here false int_type (name text n) value

abbrev pub module_named : List ℕ → List Decl → Module
module_named name declarations = record { place = here; path = codes "Main.rsc"; name = name; declarations = declarations }

-- of modules that finished in this order
abbrev pub program_of : List Module → List ℕ → List Constructor → Program
program_of modules finished constructors = record {
  modules = modules;
  finished = finished;
  declarations = record { data_types = []; constructors = constructors; sorts = [] };
  grammars = record {
    on_fragment = λ fragment v b. [];
    filled = λ fragment vs. None;
    parsed = λ sort around bytes. Gives empty_tuple;
    imploded = λ type v. Gives empty_tuple;
  };
}

abbrev pub program_with : List Constructor → List Decl → Program
program_with constructors declarations = program_of (module_named (codes "Main") declarations ∷ []) (0 ∷ []) constructors

-- a constructor of the data type T, with these fields
abbrev pub constructor : List ℕ → List (List ℕ × PlainType) → Constructor
constructor text fields = record { owner = codes "T"; name = text; fields = fields }

abbrev pub program : List Decl → Program
program = program_with []

-- `void main() { body }`
abbrev pub main : List Stat → Program
main body = program (function void_type (codes "main") [] body ∷ [])

-- What comes of a run, but for the state.

pub data Came : Type 0 where
  done : Outcome → (left : ℕ) → (printed : List ℕ) → Came
  cut : (printed : List ℕ) → Came
  stuck : (printed : List ℕ) → Came

abbrev pub came_of : Ran → Came
came_of (Done r s n t) = done r n t
came_of (Cut t) = cut t
came_of (Stuck t) = stuck t

abbrev pub run : Program → FileMap → ℕ → Came
run program files units = came_of (derivation program files (main_rule program []) units)
