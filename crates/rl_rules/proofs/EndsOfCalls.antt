-- How assignments, calls and fragments end.
use Rattle.std.proofs.Common.{ℕ, Bool, true, false, if◌then◌else◌, List, [], ◌∷◌, length, filter, Option, Some, None, is_some}
use Rattle.std.specs.Prelude.{◌^◌, nat_le, Result, Ok, Err, codes, bytes_eq}
use Rattle.std.specs.List.{list_any}
use Rattle.rl_base.specs.Decode.{text_of}
use Rattle.rl_exception.specs.Exceptions.{io_exception, call_failed}
use Rattle.rl_library.specs.declared.functions.Lib.{Lib}
use Rattle.rl_library.specs.Library.{library_of}
use Rattle.rl_match.specs.Bindings.{joined_bindings}
use Rattle.rl_syntax.specs.declared.declaration.Body.{Body}
use Rattle.rl_syntax.specs.declared.declaration.Body.TheVariants.{Value, Statements}
use Rattle.rl_syntax.specs.declared.declaration.Function.{Function}
use Rattle.rl_syntax.specs.declared.expression.Exp.{Exp}
use Rattle.rl_syntax.specs.declared.expression.Exp.TheOpen as e
use Rattle.rl_syntax.specs.declared.expression.Suffix.{Suffix, out-Suffix}
use Rattle.rl_syntax.specs.declared.identifier.Identifier.{Identifier}
use Rattle.rl_syntax.specs.declared.identifier.PatternVariable.{PatternVariable}
use Rattle.rl_syntax.specs.declared.operator.Assignment.{Assignment}
use Rattle.rl_syntax.specs.declared.operator.Assignment.TheVariants as a
use Rattle.rl_syntax.specs.declared.statement.Case.{Case}
use Rattle.rl_syntax.specs.declared.statement.Handler.{Handler}
use Rattle.rl_syntax.specs.declared.statement.Stat.{Stat}
use Rattle.rl_value.specs.declared.shape.Scheme.TheVariants.{Cwd}
use Rattle.rl_types.specs.Declarations.{constructor}
use Rattle.rl_value.specs.Plain.{node as node_value}
use Rattle.rl_value.specs.Plain.{Plain, list, plains_of, tuple, location, text, tree, items_of}
use Rattle.rl_visibility.specs.Visible.{Alternative, alternatives}
use Rattle.rl_rules.specs.Assignments.{declared, written, write_each, written_pairs, paired, written_tuple, declaration, assigned_value, assigned_old, assigned, Step, one_more_subscript, step_of, steps, right_side, assignment}
use Rattle.rl_rules.specs.Calls.{after_alternative, try_each, function_call, in_order, takes, failed, body, returned, parameter_members, parameters, alternative_rule, is_void, called, has_function, call, operands, sort_among}
use Rattle.rl_rules.specs.Fragments.{hole_values, filled_or}
use Rattle.rl_rules.specs.Laws.{IsEnd, IsEndOrMiss, HasAsMany}
use Rattle.rl_rules.specs.LibraryCalls.{SortArgument, sort, start_sort, println, print, read_file, read_path, segments_of, is_no_name, text_of_file, text_or_fault, parse, implode, by_definition, function_named, on_one, library_call}
use Rattle.rl_rules.specs.Literals.{literal, with_variable}
use Rattle.rl_rules.specs.Parts.{raise, one_more}
use Rattle.rl_rules.specs.Program.{Program, context, is_global}
use Rattle.rl_rules.specs.Rule.{Outcome, Val, Ret, Fail, Miss, Rule}
use Rattle.rl_rules.specs.Scopes.{statements}
use Rattle.rl_rules.specs.State.{State, write, enter_call, leave_call}
use Rattle.rl_rules.specs.Statements.{returned_value, return_value}
use Rattle.rl_rules.proofs.Counts.{call-like, declare-like, like-refl, like-trans, write-like}
use Rattle.rl_rules.proofs.Ends.{Always, Ends, G, S, So, Stays, answer-ends, answer-well, at-each, either-well, end-or_miss, ends-after, literal-ends, members-well, part-ends, parts-ends, raise-well, same, stays-from, tested-well, with_value-ends, wrong-ends}
use Rattle.rl_rules.proofs.EndsOfConditions.{always-end, always-where, or_miss}
use Rattle.rl_rules.proofs.EndsOfCases.{statements-always}

-- Assignments.

write_each-like : (p : Program) (pairs : List (Identifier × Plain)) (s : State) → HasAsMany s (write_each p pairs s)
write_each-like p [] s = like-refl s
write_each-like p ((x, v) ∷ pairs) s = like-trans s _ _ (write-like (is_global p x.number) x.number v s) (write_each-like p pairs (write (is_global p x.number) x.number v s))

written-ends : (s : State) (p : Program) (x : Identifier) → G s (written p x)
written-ends s p x v t l = (tt, like-trans s t _ l (write-like (is_global p x.number) x.number v t))

pub declaration-ends : (s : State) (x : Identifier) (value : Exp) (d : ℕ) → S s (declaration x value d)
declaration-ends s x value d = part-ends s value d (declared x) (λ v t l. (tt, like-trans s t _ l (declare-like x.number v t)))

pairs-ends : (s : State) (p : Program) (pairs : Option (List (Identifier × Plain))) → S s (written_pairs p pairs)
pairs-ends s p None t l = wrong-ends s t l
pairs-ends s p (Some pairs) t l = (tt, like-trans s t _ l (write_each-like p pairs t))

pub tuple-ends : (s : State) (p : Program) (xs : List Identifier) → G s (written_tuple p xs)
tuple-ends s p xs (tuple ts) t l = pairs-ends s p (paired xs (items_of ts)) t l
tuple-ends s p xs v t l = wrong-ends s t l

old-ends : (s : State) (p : Program) (x : Identifier) (op : Assignment) (ks : List Step) (v : Plain) → S s (with_variable x (assigned_old p x op ks v))
old-ends s p x op ks v = with_value-ends s x.number x.name (assigned_old p x op ks v) (λ old. answer-well IsEnd same s (assigned_value p op ks old v) (written p x) (written-ends s p x))

assigned-ends : (s : State) (p : Program) (x : Identifier) (op : Assignment) (ks : List Step) → G s (assigned p x op ks)
assigned-ends s p x a.Set [] v t l = written-ends s p x v t l
assigned-ends s p x op ks v t l = old-ends s p x op ks v t l

step-ends : (s : State) (y : e.Suffix-F Exp Suffix Case Handler Stat) (d : ℕ) (go : List Step → State → Rule) → ((ks : List Step) → S s (go ks)) → (ks : List Step) → S s (step_of y d go ks)
step-ends s (e.Subscript place y) d go h ks t l = part-ends s y d (one_more_subscript go ks) (λ v u k. h _ u k) t l
step-ends s (e.Field place name) d go h ks t l = h _ t l
step-ends s suffix d go h ks t l = wrong-ends s t l

steps-ends : (s : State) (xs : List Suffix) (d : ℕ) (go : List Step → State → Rule) → ((ks : List Step) → S s (go ks)) → (ks : List Step) → S s (steps xs d go ks)
steps-ends s [] d go h ks t l = h ks t l
steps-ends s (x ∷ xs) d go h ks t l = step-ends s (out-Suffix x) d (steps xs d go) (λ js. steps-ends s xs d go h js) ks t l

pub assignment-ends : (s : State) (p : Program) (x : Identifier) (path : List Suffix) (op : Assignment) (value : Exp) (d : ℕ) → S s (assignment p x path op value d)
assignment-ends s p x path op value d = steps-ends s path d (right_side p x op value d) (λ ks. part-ends s value d (assigned p x op ks) (assigned-ends s p x op ks)) []

-- Calls.

after_alternative-ends : (s : State) (next : State → Rule) → S s next → (caller : State) → HasAsMany s caller → (acting : ℕ) (r : Outcome) → IsEndOrMiss r → (t : State) → HasAsMany (enter_call acting caller) t → Ends (So IsEnd s) (after_alternative next caller r t)
after_alternative-ends s next h caller l acting Miss e t k = h (leave_call caller t) (like-trans s caller _ l (call-like acting caller t k))
after_alternative-ends s next h caller l acting Fail e t k = h (leave_call caller t) (like-trans s caller _ l (call-like acting caller t k))
after_alternative-ends s next h caller l acting r e t k = (e, like-trans s caller _ l (call-like acting caller t k))

try_each-ends : (s : State) (others : List Alternative) (vs : List Plain) (d : ℕ) (none : State → Rule) → S s none → S s (try_each others vs d none)
try_each-ends s [] vs d none h t l = h t l
try_each-ends s (x ∷ others) vs d none h t l =
    (tt, λ r u e k. after_alternative-ends s (try_each others vs d none) (try_each-ends s others vs d none h) t l x.acting r e u k)

body_of-always : (p : Program) (b : Body) (d : ℕ) → Always IsEndOrMiss (body p b d)
body_of-always p (Value x cs) d s = always-where IsEndOrMiss end-or_miss tt p cs d (return_value x d) (or_miss (return_value x d) (always-end (return_value x d) (λ t. part-ends t x d returned_value (λ v u l. (tt, l))))) s
body_of-always p (Statements xs) d s = or_miss (statements xs d) (statements-always xs d) s

returned-ends : (s : State) (void : Bool) (r : Outcome) → IsEndOrMiss r → Stays IsEndOrMiss end-or_miss s (returned void r)
returned-ends s true (Ret v) e t l = (tt, l)
returned-ends s true (Val v) e t l = (tt, l)
returned-ends s false (Ret v) e t l = (tt, l)
returned-ends s false (Val v) e t l = raise-well IsEndOrMiss end-or_miss s _ t l
returned-ends s void r e t l = (e, l)

parameters-always : (p : Program) (f : Function) (d : ℕ) (vs : List Plain) → Always IsEndOrMiss (parameters p f d vs)
parameters-always p f d vs =
    at-each IsEndOrMiss end-or_miss (parameters p f d vs) (λ s. tested-well IsEndOrMiss end-or_miss s f.parameters (parameter_members p f d vs)
    (λ t l. members-well IsEndOrMiss end-or_miss s (joined_bindings (context p t) f.parameters vs []) false tt (body p f.body d) (stays-from IsEndOrMiss end-or_miss s (body p f.body d) (body_of-always p f.body d)) t l))

pub alternative-always : (p : Program) (x : Alternative) (vs : List Plain) (d : ℕ) → Always IsEndOrMiss (alternative_rule p x vs d)
alternative-always p x vs d s =
    ends-after (So IsEndOrMiss s) (So IsEndOrMiss s) (parameters p x.function d vs s) (returned (is_void x.function.ty)) (parameters-always p x.function d vs s)
    (λ r t k. returned-ends s (is_void x.function.ty) r k.0 t k.1)

-- Library functions.

one-ends : (s : State) (rule : Plain → State → Rule) → G s rule → (vs : List Plain) → S s (on_one rule vs)
one-ends s rule h [] t l = wrong-ends s t l
one-ends s rule h (v ∷ []) t l = h v t l
one-ends s rule h (v ∷ u ∷ vs) t l = wrong-ends s t l

text-ends : (s : State) (bytes : List ℕ) (r : Result (List ℕ) ℕ) → S s (text_or_fault bytes r)
text-ends s bytes (Ok characters) t l = literal-ends s _ t l
text-ends s bytes (Err count) t l = raise-well IsEnd same s _ t l

file-ends : (s : State) (place : Plain) (t : State) → HasAsMany s t → (found : Option (List ℕ)) → Ends (So IsEnd s) (text_of_file place t found)
file-ends s place t l None = raise-well IsEnd same s _ t l
file-ends s place t l (Some bytes) =
    either-well IsEnd same s (nat_le (length bytes) (2 ^ 24)) (text_or_fault bytes (text_of bytes) t) (raise (io_exception (codes "file too long")) t)
    (text-ends s bytes (text_of bytes) t l) (raise-well IsEnd same s (io_exception (codes "file too long")) t l)

path-ends : (s : State) (path : List ℕ) (place : Plain) → S s (read_path path place)
path-ends s path place t l = either-well IsEnd same s (list_any is_no_name (segments_of path)) _ _ (raise-well IsEnd same s _ t l) (λ found. file-ends s place t l found)

read-ends : (s : State) → G s read_file
read-ends s (location Cwd path None) t l = path-ends s path _ t l
read-ends s (location scheme path span) t l = raise-well IsEnd same s _ t l
read-ends s v t l = wrong-ends s t l

parse-ends : (s : State) (p : Program) (one : SortArgument) → G s (parse p one)
parse-ends s p (sort name) (text bytes) t l = answer-ends s (p.grammars.parsed name false bytes) t l
parse-ends s p (start_sort name) (text bytes) t l = answer-ends s (p.grammars.parsed name true bytes) t l
parse-ends s p one v t l = wrong-ends s t l

implode-ends : (s : State) (p : Program) (one : SortArgument) → G s (implode p one)
implode-ends s p (sort name) (tree shape ts) t l = answer-ends s (p.grammars.imploded name (tree shape ts)) t l
implode-ends s p one v t l = wrong-ends s t l

definition-ends : (s : State) (f : Option Lib) (vs : List Plain) → S s (by_definition f vs)
definition-ends s None vs t l = wrong-ends s t l
definition-ends s (Some f) vs t l = answer-ends s (library_of f vs) t l

library-ends : (s : State) (p : Program) (name : List ℕ) (one : SortArgument) (vs : List Plain) → S s (library_call p name one vs)
library-ends s p name one vs t l =
    either-well IsEnd same s (bytes_eq name (codes "println")) _ _ (one-ends s println (λ v u k. (tt, k)) vs t l)
    (either-well IsEnd same s (bytes_eq name (codes "print")) _ _ (one-ends s print (λ v u k. (tt, k)) vs t l)
    (either-well IsEnd same s (bytes_eq name (codes "readFile")) _ _ (one-ends s read_file (read-ends s) vs t l)
    (either-well IsEnd same s (bytes_eq name (codes "parse")) _ _ (one-ends s (parse p one) (parse-ends s p one) vs t l)
    (either-well IsEnd same s (bytes_eq name (codes "implode")) _ _ (one-ends s (implode p one) (implode-ends s p one) vs t l)
    (definition-ends s (function_named name) vs t l)))))

function-ends : (s : State) (p : Program) (x : ℕ) (name : List ℕ) (vs : List Plain) (d : ℕ) → S s (function_call p x name vs d)
function-ends s p x name vs d t l =
    try_each-ends s (in_order (filter (takes name (length vs)) (alternatives p.modules x t.acting))) vs d (failed vs) (raise-well IsEnd same s (call_failed (list (plains_of vs)))) t l

called-ends : (s : State) (p : Program) (x : ℕ) (name : List ℕ) (count : ℕ) (wanted : SortArgument) (d : ℕ) (vs : List Plain) → S s (called p x name count wanted d vs)
called-ends s p x name count wanted d vs t l =
    either-well IsEnd same s (is_some (constructor p.declarations name count)) (literal (node_value name (plains_of vs)) t) (if has_function p x name then function_call p x name vs d t else library_call p name wanted vs t)
    (literal-ends s (node_value name (plains_of vs)) t l)
    (either-well IsEnd same s (has_function p x name) (function_call p x name vs d t) (library_call p name wanted vs t) (function-ends s p x name vs d t l) (library-ends s p name wanted vs t l))

pub call-ends : (s : State) (p : Program) (name : Identifier) (xs : List Exp) (d : ℕ) → S s (call p name xs d)
call-ends s p name xs d = parts-ends s (operands xs) d (called p name.place.module name.name (length xs) (sort_among xs) d) (λ vs. called-ends s p name.place.module name.name (length xs) (sort_among xs) d vs) []

-- Fragments.

pub holes-ends : (s : State) (xs : List PatternVariable) (go : List Plain → State → Rule) → ((vs : List Plain) → S s (go vs)) → (vs : List Plain) → S s (hole_values xs go vs)
holes-ends s [] go h vs t l = h vs t l
holes-ends s (x ∷ xs) go h vs t l = with_value-ends s x.number x.name (one_more (hole_values xs go) vs) (λ v u k. holes-ends s xs go h _ u k) t l

pub filled-ends : (s : State) (o : Option Plain) → S s (filled_or o)
filled-ends s None t l = wrong-ends s t l
filled-ends s (Some v) t l = literal-ends s v t l
