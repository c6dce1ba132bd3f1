-- The rule of each form.
use Rattle.std.specs.Prelude.{ℕ, List, [], ◌∷◌, ◌++◌}
use Rattle.rl_value.specs.Plain.{Plain, text, empty_tuple}
use Rattle.rl_eval.specs.declared.form.Form.{Form}
use Rattle.rl_eval.specs.declared.form.Form.TheVariants as form
use Rattle.rl_eval.specs.Rule.{Rule, Give, Use, Take, Put}

-- a text, and an LF
abbrev pub line_of : List ℕ → List ℕ
line_of literal = literal ++ 10 ∷ []

-- an expression statement ends in the value of its expression
abbrev pub statement_of : Plain → Rule
statement_of value = Give value

-- a statement uses its expression
abbrev pub statement : List ℕ → Rule
statement literal = Use (form.Call literal) statement_of

-- with its argument's value, a call of `println` puts the text and an LF, and ends in the empty tuple
abbrev pub println_of : List ℕ → Plain → Rule
println_of literal value = Put (line_of literal) (Give empty_tuple)

-- a call uses its argument
abbrev pub call : List ℕ → Rule
call literal = Use (form.Literal literal) (println_of literal)

-- a body uses its statements in order; a void function ends in the empty tuple
abbrev pub body : List (List ℕ) → Rule
body [] = Give empty_tuple
body (literal ∷ literals) = Use (form.Statement literal) (λ value. body literals)

-- an alternative takes the one member of its parameters, and its body follows under it
abbrev pub alternative : List (List ℕ) → Rule
alternative literals = Take (body literals)

-- the form's own rule
unfoldable pub rule_of : Form → Rule
rule_of (form.Alternative literals) = alternative literals
rule_of (form.Statement literal) = statement literal
rule_of (form.Call literal) = call literal
rule_of (form.Literal literal) = Give (text literal)
