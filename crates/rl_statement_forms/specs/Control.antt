-- Statements that choose or repeat others.
use Rattle.std.specs.Prelude.{ℕ, ◌-◌, ◌==◌, if◌then◌else◌, List, length, Option, Some, None}
use Rattle.std.specs.List.{filter_map}
use Rattle.rl_base.specs.declared.place.Place.{Place}
use Rattle.rl_syntax.specs.declared.statement.Stat.{Stat}
use Rattle.rl_syntax.specs.declared.statement.Stat.TheVariants as s
use Rattle.rl_tokens.specs.declared.terminal.TheConstants.{FOR, WHILE, DO}
use Rattle.rl_forms.specs.declared.form.Form.{Form}
use Rattle.rl_forms.specs.Part.{given, part_at}
use Rattle.rl_forms.specs.Words.{word_at}
use Rattle.rl_forms.specs.Names.{as_name}
use Rattle.rl_forms.specs.Expressions.{as_conditions, as_expression}
use Rattle.rl_forms.specs.Statements.{as_case, as_statement}

-- { statements }
abbrev pub block_of : Place → List Form → Stat
block_of place parts = s.Block place (filter_map as_statement parts)

-- if (conditions) statement else statement
unfoldable pub if_of : Place → List Form → Option Stat
if_of place parts =
    given (part_at as_conditions parts 2) (λ conditions.
    given (part_at as_statement parts 4) (λ body. Some (s.If place conditions body (part_at as_statement parts 6))))

-- switch (e) { cases }
unfoldable pub switch_of : Place → List Form → Option Stat
switch_of place parts = given (part_at as_expression parts 2) (λ subject. Some (s.Switch place subject (filter_map as_case parts)))

-- for (conditions) statement
unfoldable pub for_of : Place → List Form → Option Stat
for_of place parts =
    given (part_at as_conditions parts 2) (λ conditions. given (part_at as_statement parts 4) (λ body. Some (s.For place conditions body)))

-- while (conditions) statement
unfoldable pub while_of : Place → List Form → Option Stat
while_of place parts =
    given (part_at as_conditions parts 2) (λ conditions. given (part_at as_statement parts 4) (λ body. Some (s.While place conditions body)))

-- do statement while (conditions);
unfoldable pub do_of : Place → List Form → Option Stat
do_of place parts =
    given (part_at as_statement parts 1) (λ body. given (part_at as_conditions parts 4) (λ conditions. Some (s.Do place body conditions)))

abbrev pub loop_by : Place → List Form → ℕ → Option Stat
loop_by place parts word =
    if word == FOR then for_of place parts
    else (if word == WHILE then while_of place parts
    else (if word == DO then do_of place parts else None))

-- a loop, by its first word
unfoldable pub loop_of : Place → List Form → Option Stat
loop_of place parts = given (word_at parts 0) (loop_by place parts)

-- solve (x, y) statement
unfoldable pub solve_of : Place → List Form → Option Stat
solve_of place parts =
    given (part_at as_statement parts (length parts - 1)) (λ body. Some (s.Solve place (filter_map as_name parts) body))
