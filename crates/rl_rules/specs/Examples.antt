-- Small programs with what they print, how they end, and the units that are left.
use Rattle.std.specs.Prelude.{◌≡◌, ℕ, pos, true, false, List, [], ◌∷◌, Some, None, map, codes}
use Rattle.rl_base.specs.Holds.{FileMap}
use Rattle.rl_exception.specs.Exceptions.{uninitialized_variable, index_out_of_bounds, stack_overflow}
use Rattle.rl_rules.specs.Building.{main, program, program_with, constructor, function, default_function, void_type, int_type, bool_type, print_line, text, truth, run, done, cut, block, increase, variable, less, declare, assign, finally, catching, trying, catch, only, Came, came_of, return, throw, fail, break, continue, nothing, repeat, repeat_after, provided, number, list, set, pair, plus, it, reduce, matches, enumerate, each, switch, on, new, test, rest, one, number_pattern, text_pattern, list_pattern, set_pattern, pair_pattern, subscript, fallback, global, call, sort_argument, visit, replace, constructor_pattern, named_type, append, loop_value, both, in_parentheses, collect, solve, assign_pair, assign_at, function_when, test_function, call_in_extended, program_of, module_named, extends}
use Rattle.rl_rules.specs.Evaluation.{eval}
use Rattle.rl_rules.specs.Form.{expression}
use Rattle.rl_rules.specs.Program.{Program}
use Rattle.rl_rules.specs.Rule.{Val, Thr}
use Rattle.rl_rules.specs.Run.{first_state, derivation, tests, test as test_rule, Verdict, Pass, Fails, Error, OutOfUnits, verdict_of}
use Rattle.rl_syntax.specs.declared.declaration.Modifier.TheVariants.{Default}
use Rattle.rl_syntax.specs.declared.operator.Strategy.TheVariants.{TopDown, TopDownBreak, BottomUp, BottomUpBreak, Innermost, Outermost}
use Rattle.rl_syntax.specs.declared.expression.Exp.{Exp}
use Rattle.rl_syntax.specs.declared.operator.Strategy.{Strategy}
use Rattle.rl_syntax.specs.declared.statement.Stat.{Stat}
use Rattle.rl_types.specs.PlainType as plain
use Rattle.rl_value.specs.Plain as v
use Rattle.rl_value.specs.Plain.{empty_tuple}

-- void main() { println("hi"); }
abbrev pub one_line : Program
one_line = main (print_line (text (codes "hi")) ∷ [])

-- the alternative, its binding, the statement, the call and the literal
abbrev pub OneLine : FileMap → Type 0
OneLine files = (run one_line files 5 ≡ done (Val empty_tuple) 0 (codes "hi\n")) × (run one_line files 4 ≡ cut [])

-- int main() { try { return 1; } finally { println("f"); } }
abbrev pub finally_after_return : Program
finally_after_return = program (
    function int_type (codes "main") [] (
    finally (block (return (number 1) ∷ [])) (block (print_line (text (codes "f")) ∷ []))
    ∷ [])
    ∷ [])

-- the value that is returned stands, after `finally` was used
abbrev pub FinallyAfterReturn : FileMap → Type 0
FinallyAfterReturn files = run finally_after_return files 10 ≡ done (Val (v.int (pos 1))) 0 (codes "f\n")

-- int main() { try { return 1; } finally { throw "t"; } }
abbrev pub finally_throws : Program
finally_throws = program (
    function int_type (codes "main") [] (
    finally (block (return (number 1) ∷ [])) (block (throw (text (codes "t")) ∷ []))
    ∷ [])
    ∷ [])

-- the end of `finally` stands where it is no value
abbrev pub FinallyThrows : FileMap → Type 0
FinallyThrows files = run finally_throws files 10 ≡ done (Thr (v.text (codes "t"))) 1 []

-- void main() { int x = 0; while (x < 2) { println(x); x += 1; } }
abbrev pub counting : Program
counting = main (
    declare 0 (number 0)
    ∷ repeat (less (variable 0) (number 2) ∷ []) (block (print_line (variable 0) ∷ increase 0 (number 1) ∷ []))
    ∷ [])

-- a `while` takes its unit once, and each turn the units of its condition and its body; without the last unit it is cut at its last condition
abbrev pub Counting : FileMap → Type 0
Counting files = (run counting files 26 ≡ done (Val empty_tuple) 0 (codes "0\n1\n")) × (run counting files 25 ≡ cut (codes "0\n1\n"))

-- int y = f(); int x = 1; int f() { x += 1; return x; } void main() { }
abbrev pub without_value : Program
without_value = program (
    global (codes "y") 1 (call (codes "f") [])
    ∷ global (codes "x") 0 (number 1)
    ∷ function int_type (codes "f") [] (increase 0 (number 1) ∷ return (variable 0) ∷ [])
    ∷ function void_type (codes "main") [] []
    ∷ [])

-- a global is looked for after the right side was evaluated, and has no value before its initialiser was
abbrev pub WithoutValue : FileMap → Type 0
WithoutValue files = run without_value files 5 ≡ done (Thr (uninitialized_variable (codes "x"))) 0 []

-- void main() { println([1][1]); }
abbrev pub out_of_range : Program
out_of_range = main (print_line (subscript (list (number 1 ∷ [])) (number 1)) ∷ [])

abbrev pub OutOfRange : FileMap → Type 0
OutOfRange files = run out_of_range files 8 ≡ done (Thr (index_out_of_bounds (pos 1))) 0 []

-- void main() { println([1][1] ? 2); }
abbrev pub falling_back : Program
falling_back = main (print_line (fallback (subscript (list (number 1 ∷ [])) (number 1)) (number 2)) ∷ [])

abbrev pub FallingBack : FileMap → Type 0
FallingBack files = run falling_back files 10 ≡ done (Val empty_tuple) 0 (codes "2\n")

-- void main() { int x = 0; do { x += 1; if (x < 2) continue; println(x); break; } while (true); }
abbrev pub leaving_loop : Program
leaving_loop = main (
    declare 0 (number 0)
    ∷ repeat_after (block (increase 0 (number 1) ∷ provided (less (variable 0) (number 2) ∷ []) continue ∷ print_line (variable 0) ∷ break ∷ [])) (truth true ∷ [])
    ∷ [])

-- the test is evaluated after `continue`, and not after `break`
abbrev pub LeavingLoop : FileMap → Type 0
LeavingLoop files = run leaving_loop files 25 ≡ done (Val empty_tuple) 0 (codes "2\n")

-- void main() { int x = 0; try { x = 1; throw "a"; } catch: println(x); }
abbrev pub handled : Program
handled = main (
    declare 0 (number 0)
    ∷ catching (block (assign 0 (number 1) ∷ throw (text (codes "a")) ∷ [])) (print_line (variable 0))
    ∷ [])

-- a handler sees the state as the throw left it
abbrev pub Handled : FileMap → Type 0
Handled files = run handled files 14 ≡ done (Val empty_tuple) 0 (codes "1\n")

-- void main() { try { println("a"); println("b"); } finally println("c"); }
abbrev pub finally_at_a_cut : Program
finally_at_a_cut = main (
    finally (block (print_line (text (codes "a")) ∷ print_line (text (codes "b")) ∷ [])) (print_line (text (codes "c")))
    ∷ [])

-- where the derivation is cut, `finally` is not used
abbrev pub FinallyAtACut : FileMap → Type 0
FinallyAtACut files = (run finally_at_a_cut files 13 ≡ done (Val empty_tuple) 0 (codes "a\nb\nc\n")) × (run finally_at_a_cut files 8 ≡ cut (codes "a\n"))

-- default int f() { return 2; } int f() { println("f"); fail; } void main() { println(f()); }
abbrev pub next_alternative : Program
next_alternative = program (
    default_function int_type (codes "f") [] (return (number 2) ∷ [])
    ∷ function int_type (codes "f") [] (print_line (text (codes "f")) ∷ fail ∷ [])
    ∷ function void_type (codes "main") [] (print_line (call (codes "f") []) ∷ [])
    ∷ [])

-- `fail` leads to the next alternative, those marked `default` come last, and what was printed stays
abbrev pub NextAlternative : FileMap → Type 0
NextAlternative files = run next_alternative files 15 ≡ done (Val empty_tuple) 0 (codes "f\n2\n")

-- int x = 0; bool f() { x += 1; return false; } void main() { if (f()) ; println(x); }
abbrev pub false_condition : Program
false_condition = program (
    global (codes "x") 0 (number 0)
    ∷ function bool_type (codes "f") [] (increase 0 (number 1) ∷ return (truth false) ∷ [])
    ∷ function void_type (codes "main") [] (provided (call (codes "f") [] ∷ []) nothing ∷ print_line (variable 0) ∷ [])
    ∷ [])

-- where nothing was bound, the changes of a condition that is false stand
abbrev pub FalseCondition : FileMap → Type 0
FalseCondition files = run false_condition files 14 ≡ done (Val empty_tuple) 0 (codes "1\n")

-- void main() { for (x <- [1, 2, 3]) ; }
abbrev pub three_elements : Program
three_elements = main (each (enumerate (new 0) (list (number 1 ∷ number 2 ∷ number 3 ∷ [])) ∷ []) nothing ∷ [])

-- the alternative, its binding, the loop, the enumeration, the list with its three literals, and for each element its binding and the body
abbrev pub ThreeElements : FileMap → Type 0
ThreeElements files = (run three_elements files 14 ≡ done (Val empty_tuple) 0 []) × (run three_elements files 13 ≡ cut [])

-- void main() { println((0 | it + x | x <- [1, 2, 3])); }
abbrev pub reducing : Program
reducing = main (print_line (reduce (number 0) (plus it (variable 0)) (enumerate (new 0) (list (number 1 ∷ number 2 ∷ number 3 ∷ [])) ∷ [])) ∷ [])

abbrev pub Reducing : FileMap → Type 0
Reducing files = run reducing files 23 ≡ done (Val empty_tuple) 0 (codes "6\n")

-- void main() { int n = 0; switch ([1, 2, 3]) { case [*a, x, *b]: { n += 1; println(x); if (x < 3) fail; println(n); } } }
abbrev pub taken_back : Program
taken_back = main (
    declare 0 (number 0)
    ∷ switch (list (number 1 ∷ number 2 ∷ number 3 ∷ [])) (
    on (list_pattern (rest 1 ∷ one (new 2) ∷ rest 3 ∷ []))
    (block (increase 0 (number 1) ∷ print_line (variable 2) ∷ provided (less (variable 2) (number 3) ∷ []) fail ∷ print_line (variable 0) ∷ []) ∷ [])
    ∷ [])
    ∷ [])

-- a binding under which the body fails is taken back with what was assigned under it, but not with what was printed
abbrev pub TakenBack : FileMap → Type 0
TakenBack files = run taken_back files 47 ≡ done (Val empty_tuple) 0 (codes "1\n2\n3\n1\n")

-- void main() { int k = 1; for (<k, y> <- [<1, 2>, <2, 3>, <1, 4>]) { k = 2; println(y); } }
abbrev pub fixed_at_start : Program
fixed_at_start = main (
    declare 0 (number 1)
    ∷ each (enumerate (pair_pattern (test 0) (new 1)) (list (pair (number 1) (number 2) ∷ pair (number 2) (number 3) ∷ pair (number 1) (number 4) ∷ [])) ∷ [])
    (block (assign 0 (number 2) ∷ print_line (variable 1) ∷ []))
    ∷ [])

-- the bindings are those with the value that k has where the loop begins
abbrev pub FixedAtStart : FileMap → Type 0
FixedAtStart files = run fixed_at_start files 30 ≡ done (Val empty_tuple) 0 (codes "2\n4\n")

-- void main() { for ({*a, *b} := {2, 1}) println(<a, b>); }
abbrev pub divided : Program
divided = main (
    each (matches (set_pattern (rest 0 ∷ rest 1 ∷ [])) (set (number 2 ∷ number 1 ∷ [])) ∷ []) (print_line (pair (variable 0) (variable 1)))
    ∷ [])

abbrev pub Divided : FileMap → Type 0
Divided files = run divided files 31 ≡ done (Val empty_tuple) 0 (codes "<{1,2},{}>\n<{1},{2}>\n<{2},{1}>\n<{},{1,2}>\n")

-- int x = 0; bool f() { x += 1; return false; } void main() { if (y <- [1, 2], f()) ; println(x); }
abbrev pub false_under_member : Program
false_under_member = program (
    global (codes "x") 0 (number 0)
    ∷ function bool_type (codes "f") [] (increase 0 (number 1) ∷ return (truth false) ∷ [])
    ∷ function void_type (codes "main") [] (provided (enumerate (new 1) (list (number 1 ∷ number 2 ∷ [])) ∷ call (codes "f") [] ∷ []) nothing ∷ print_line (variable 0) ∷ [])
    ∷ [])

-- the changes of a condition that is false under a member are undone with the member
abbrev pub FalseUnderMember : FileMap → Type 0
FalseUnderMember files = run false_under_member files 27 ≡ done (Val empty_tuple) 0 (codes "0\n")

-- int f(1) { return 10; } int f(n) { return 20; } void main() { println(f(2)); }
abbrev pub other_alternative : Program
other_alternative = program (
    function int_type (codes "f") (number_pattern 1 ∷ []) (return (number 10) ∷ [])
    ∷ function int_type (codes "f") (new 0 ∷ []) (return (number 20) ∷ [])
    ∷ function void_type (codes "main") [] (print_line (call (codes "f") (number 2 ∷ [])) ∷ [])
    ∷ [])

-- an alternative that does not take the arguments costs its unit, and leads to the next
abbrev pub OtherAlternative : FileMap → Type 0
OtherAlternative files = run other_alternative files 11 ≡ done (Val empty_tuple) 0 (codes "20\n")

-- int y = f(1); int x = 2; int f(x) { return 5; } void main() { }
abbrev pub test_without_value : Program
test_without_value = program (
    global (codes "y") 1 (call (codes "f") (number 1 ∷ []))
    ∷ global (codes "x") 0 (number 2)
    ∷ function int_type (codes "f") (test 0 ∷ []) (return (number 5) ∷ [])
    ∷ function void_type (codes "main") [] []
    ∷ [])

-- a pattern that tests a global without a value throws where its bindings would be made
abbrev pub TestWithoutValue : FileMap → Type 0
TestWithoutValue files = run test_without_value files 3 ≡ done (Thr (uninitialized_variable (codes "x"))) 0 []

-- void main() { try throw "a"; catch "b": ; catch x: println(x); }
abbrev pub second_handler : Program
second_handler = main (
    trying (throw (text (codes "a"))) (
    catch (text_pattern (codes "b")) nothing
    ∷ catch (new 0) (print_line (variable 0))
    ∷ [])
    ∷ [])

-- the first handler that takes the exception is used
abbrev pub SecondHandler : FileMap → Type 0
SecondHandler files = run second_handler files 9 ≡ done (Val empty_tuple) 0 (codes "a\n")

-- void main() { f(); } void f() { }
abbrev pub calling : Program
calling = program (
    function void_type (codes "main") [] (only (call (codes "f") []) ∷ [])
    ∷ function void_type (codes "f") [] []
    ∷ [])

-- The call f() at this depth, with three units: for itself, for the alternative, and for its binding.
abbrev pub CallAt : FileMap → ℕ → Came → Type 0
CallAt files depth came = came_of (eval calling files (expression (call (codes "f") [])) depth first_state 3 []) ≡ came

-- the alternative stands one deeper than the call, and past the greatest depth it takes its unit and throws
abbrev pub DeepestCall : FileMap → Type 0
DeepestCall files = CallAt files 999999 (done (Val empty_tuple) 0 []) × CallAt files 1000000 (done (Thr stack_overflow) 1 [])

-- data T = parse(str s); void main() { println(parse(#S, "a")); println(parse("a")); }, where parsing gives the empty tuple
abbrev pub parsing : Program
parsing = program_with (constructor (codes "parse") ((codes "s", plain.str) ∷ []) ∷ []) (
    function void_type (codes "main") [] (
    print_line (call (codes "parse") (sort_argument (codes "S") ∷ text (codes "a") ∷ []))
    ∷ print_line (call (codes "parse") (text (codes "a") ∷ []))
    ∷ [])
    ∷ [])

-- `#S` costs nothing, but counts where a constructor with as many fields as there are arguments is looked for
abbrev pub Parsing : FileMap → Type 0
Parsing files = run parsing files 10 ≡ done (Val empty_tuple) 0 (codes "<>\nparse(\"a\")\n")

-- void main() { println([x + 1 | x <- [1, 2]]); }
abbrev pub collecting : Program
collecting = main (print_line (collect (plus (variable 0) (number 1)) (enumerate (new 0) (list (number 1 ∷ number 2 ∷ [])) ∷ [])) ∷ [])

abbrev pub Collecting : FileMap → Type 0
Collecting files = run collecting files 17 ≡ done (Val empty_tuple) 0 (codes "[2,3]\n")

-- void main() { int x = 1; int y = 2; <x, y> = <y, x>; println(x); println(y); }
abbrev pub exchanging : Program
exchanging = main (
    declare 0 (number 1)
    ∷ declare 1 (number 2)
    ∷ assign_pair 0 1 (pair (variable 1) (variable 0))
    ∷ print_line (variable 0)
    ∷ print_line (variable 1)
    ∷ [])

-- the value is complete before the first variable is written
abbrev pub Exchanging : FileMap → Type 0
Exchanging files = run exchanging files 16 ≡ done (Val empty_tuple) 0 (codes "2\n1\n")

-- void main() { list[list[int]] x = [[1], [2]]; x[1][0] = 5; println(x); }
abbrev pub changing_inside : Program
changing_inside = main (
    declare 0 (list (list (number 1 ∷ []) ∷ list (number 2 ∷ []) ∷ []))
    ∷ assign_at 0 (number 1) (number 0) (number 5)
    ∷ print_line (variable 0)
    ∷ [])

abbrev pub ChangingInside : FileMap → Type 0
ChangingInside files = run changing_inside files 15 ≡ done (Val empty_tuple) 0 (codes "[[1],[5]]\n")

-- void main() { if (true && (x := 1)) println(x); println((y := 1) && y < 2); }
abbrev pub joined_conditions : Program
joined_conditions = main (
    provided (both (truth true) (in_parentheses (matches (new 0) (number 1))) ∷ []) (print_line (variable 0))
    ∷ print_line (both (in_parentheses (matches (new 1) (number 1))) (less (variable 1) (number 2)))
    ∷ [])

-- in a list of conditions `&&` takes no unit, and what is bound in its parts is seen behind them; as an expression it takes one
abbrev pub JoinedConditions : FileMap → Type 0
JoinedConditions files = run joined_conditions files 19 ≡ done (Val empty_tuple) 0 (codes "1\ntrue\n")

-- int f(x) = 10 when x < 2; default int f(x) = 20; void main() { println(f(1)); println(f(3)); }
abbrev pub under_conditions : Program
under_conditions = program (
    function_when None int_type (codes "f") (new 0 ∷ []) (number 10) (less (variable 0) (number 2) ∷ [])
    ∷ function_when (Some Default) int_type (codes "f") (new 1 ∷ []) (number 20) []
    ∷ function void_type (codes "main") [] (print_line (call (codes "f") (number 1 ∷ [])) ∷ print_line (call (codes "f") (number 3 ∷ [])) ∷ [])
    ∷ [])

abbrev pub UnderConditions : FileMap → Type 0
UnderConditions files = run under_conditions files 24 ≡ done (Val empty_tuple) 0 (codes "10\n20\n")

-- void main() { int x = 0; solve (x) { if (x < 2) x += 1; } println(x); }
abbrev pub solving : Program
solving = main (
    declare 0 (number 0)
    ∷ solve 0 (block (provided (less (variable 0) (number 2) ∷ []) (increase 0 (number 1)) ∷ []))
    ∷ print_line (variable 0)
    ∷ [])

-- the body is used until it leaves the variable as it was
abbrev pub Solving : FileMap → Type 0
Solving files = run solving files 27 ≡ done (Val empty_tuple) 0 (codes "2\n")

-- Main: extend A; int g() { return 1; } void main() { println(f()); }   A: int f() { return g(); } default int g() { return 2; }
abbrev pub extending : Program
extending = program_of (
    module_named (codes "Main") (
    extends (codes "A")
    ∷ function int_type (codes "g") [] (return (number 1) ∷ [])
    ∷ function void_type (codes "main") [] (print_line (call (codes "f") []) ∷ [])
    ∷ [])
    ∷ module_named (codes "A") (
    function int_type (codes "f") [] (return (call_in_extended (codes "g") []) ∷ [])
    ∷ default_function int_type (codes "g") [] (return (number 2) ∷ [])
    ∷ [])
    ∷ []) (1 ∷ 0 ∷ []) []

-- a call in an extended module finds the alternatives of the module that acts
abbrev pub Extending : FileMap → Type 0
Extending files = run extending files 13 ≡ done (Val empty_tuple) 0 (codes "1\n")

-- visit (x) { case n: append n; }
abbrev pub append_in_visit : ℕ → ℕ → Exp
append_in_visit x n = visit BottomUp (variable x) (on (new n) (append (variable n) ∷ []) ∷ []) int_type

-- for (y <- [visit (x) { case n: append n; }])
abbrev pub over_visit : ℕ → Stat → Stat
over_visit x body = each (enumerate (new 1) (list (append_in_visit x 2 ∷ [])) ∷ []) body

-- void main() { l = for (x <- [1]) { for (y <- [visit (x) { case n: append n; }]) ; } println(l); }
abbrev pub appending_in_conditions : Program
appending_in_conditions = main (
    declare 3 (loop_value (each (enumerate (new 0) (list (number 1 ∷ [])) ∷ []) (over_visit 0 nothing)))
    ∷ print_line (variable 3)
    ∷ [])

-- an `append` in a loop's conditions adds to the loop in whose body that loop stands
abbrev pub AppendingInConditions : FileMap → Type 0
AppendingInConditions files = run appending_in_conditions files 22 ≡ done (Val empty_tuple) 0 (codes "[1]\n")

-- void main() { for (x <- [1]) { l = for (y <- [visit (x) { case n: append n; }]) append "a"; println(l[0] + "b"); } }
abbrev pub appending_in_body : Program
appending_in_body = main (
    each (enumerate (new 0) (list (number 1 ∷ [])) ∷ []) (block (
    declare 3 (loop_value (over_visit 0 (append (text (codes "a")))))
    ∷ print_line (plus (subscript (variable 3) (number 0)) (text (codes "b")))
    ∷ []))
    ∷ [])

-- an `append` in a loop's body adds to that loop alone
abbrev pub AppendingInBody : FileMap → Type 0
AppendingInBody files = run appending_in_body files 28 ≡ done (Val empty_tuple) 0 (codes "ab\n")

-- void main() { l = for (x <- [1]) { while (visit (x) { case n: append n; } < 1) ; } println(l); }
abbrev pub appending_in_while : Program
appending_in_while = main (
    declare 3 (loop_value (each (enumerate (new 0) (list (number 1 ∷ [])) ∷ []) (repeat (less (append_in_visit 0 2) (number 1) ∷ []) nothing)))
    ∷ print_line (variable 3)
    ∷ [])

-- void main() { l = for (x <- [1]) { do ; while (visit (x) { case n: append n; } < 1); } println(l); }
abbrev pub appending_in_do : Program
appending_in_do = main (
    declare 3 (loop_value (each (enumerate (new 0) (list (number 1 ∷ [])) ∷ []) (repeat_after nothing (less (append_in_visit 0 2) (number 1) ∷ []))))
    ∷ print_line (variable 3)
    ∷ [])

-- so does one in the conditions of `while`, and in the test of `do`
abbrev pub AppendingInTests : FileMap → Type 0
AppendingInTests files =
    (run appending_in_while files 20 ≡ done (Val empty_tuple) 0 (codes "[1]\n")) × (run appending_in_do files 21 ≡ done (Val empty_tuple) 0 (codes "[1]\n"))

-- int x = 1; test bool a() { return x < 2; } test bool b() { return 2 < x; } test bool c() { throw "t"; }
abbrev pub with_tests : Program
with_tests = program (
    global (codes "x") 0 (number 1)
    ∷ test_function (codes "a") (return (less (variable 0) (number 2)) ∷ [])
    ∷ test_function (codes "b") (return (less (number 2) (variable 0)) ∷ [])
    ∷ test_function (codes "c") (throw (text (codes "t")) ∷ [])
    ∷ [])

abbrev pub verdicts : FileMap → ℕ → List Verdict
verdicts files units = map (λ a. verdict_of (derivation with_tests files (test_rule a) units)) (tests with_tests)

-- each test begins with the initialisers, and has a budget of its own
abbrev pub Testing : FileMap → Type 0
Testing files =
    (verdicts files 7 ≡ Pass ∷ Fails ∷ Error (v.text (codes "t")) ∷ []) × (verdicts files 6 ≡ OutOfUnits ∷ OutOfUnits ∷ Error (v.text (codes "t")) ∷ [])

-- data T = f(T t) | a(); void main() { println(visit (f(a())) { case f(x) => x }); }
abbrev pub visiting : Program
visiting = program_with (constructor (codes "f") ((codes "t", plain.named (codes "T")) ∷ []) ∷ constructor (codes "a") [] ∷ []) (
    function void_type (codes "main") [] (
    print_line (visit BottomUp (call (codes "f") (call (codes "a") [] ∷ [])) (replace (constructor_pattern (codes "f") (new 0 ∷ [])) (variable 0) ∷ []) (named_type (codes "T")))
    ∷ [])
    ∷ [])

-- each node costs a unit, and where a case takes it those of the binding, of `insert` and of the value
abbrev pub Visiting : FileMap → Type 0
Visiting files = run visiting files 12 ≡ done (Val empty_tuple) 0 (codes "a()\n")

-- println(strategy visit (f(f(a()))) { case f(x) => x });
abbrev pub print_visit : Strategy → Stat
print_visit strategy = print_line (
    visit strategy (call (codes "f") (call (codes "f") (call (codes "a") [] ∷ []) ∷ [])) (replace (constructor_pattern (codes "f") (new 0 ∷ [])) (variable 0) ∷ []) (named_type (codes "T")))

-- data T = f(T t) | a(); void main() { the six visits }
abbrev pub six_strategies : Program
six_strategies = program_with (constructor (codes "f") ((codes "t", plain.named (codes "T")) ∷ []) ∷ constructor (codes "a") [] ∷ []) (
    function void_type (codes "main") [] (
    print_visit TopDown ∷ print_visit TopDownBreak ∷ print_visit BottomUp ∷ print_visit BottomUpBreak ∷ print_visit Innermost ∷ print_visit Outermost
    ∷ [])
    ∷ [])

-- the visits take 5, 4, 9, 5, 10 and 10 units beside six each for the statement and the parts of its expression
abbrev pub SixStrategies : FileMap → Type 0
SixStrategies files = run six_strategies files 81 ≡ done (Val empty_tuple) 0 (codes "f(a())\nf(a())\na()\nf(a())\na()\na()\n")
