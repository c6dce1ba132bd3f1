-- Going through members: bindings that are taken one after another.
use Rattle.std.specs.Prelude.{ℕ, if◌then◌else◌, Bool, true, List, [], ◌∷◌, Option, Some, None, is_none}
use Rattle.rl_exception.specs.Exceptions.{uninitialized_variable}
use Rattle.rl_match.specs.Bindings.{Binding}
use Rattle.rl_match.specs.Tests.{outside_tests}
use Rattle.rl_syntax.specs.declared.identifier.PatternVariable.{PatternVariable}
use Rattle.rl_syntax.specs.declared.pattern.Pattern.{Pattern}
use Rattle.rl_rules.specs.Parts.{raise}
use Rattle.rl_rules.specs.Rule.{Outcome, Miss, Fail, Kept, Rule, Give, Take, after}
use Rattle.rl_rules.specs.State.{State, read, declare_all}

-- how what follows under a member ended: abandoned, kept, or with the result of the whole
abbrev pub under_member : (abandoned kept : State → Rule) → State → Outcome → State → Rule
under_member abandoned kept before Miss s = abandoned before
under_member abandoned kept before Fail s = abandoned before
under_member abandoned kept before Kept s = kept s
under_member abandoned kept before r s = Give r s

abbrev pub end_of_members : Bool → Outcome
end_of_members any = if any then Kept else Miss

-- Each member in turn takes a unit, its variables are set, and what follows is used under it. Where nothing under it is kept, it is abandoned: the store is again what it was before the member. `any` tells whether something was kept.
abbrev pub members : List Binding → (any : Bool) → (under : State → Rule) → State → Rule
members [] any under s = Give (end_of_members any) s
members (b ∷ bs) any under s = Take (after (under (declare_all b s)) (under_member (members bs any under) (members bs true under) s))

-- the one empty member of what has no pattern
abbrev pub empty_member : List Binding
empty_member = [] ∷ []

-- Tests of variables from outside.

abbrev pub without_value : State → List PatternVariable → Option (List ℕ)
without_value s [] = None
without_value s (x ∷ xs) = if is_none (read x.number s) then Some x.name else without_value s xs

abbrev pub raise_or : Option (List ℕ) → (State → Rule) → State → Rule
raise_or None rule s = rule s
raise_or (Some name) rule s = raise (uninitialized_variable name) s

-- goes on where each variable from outside that the patterns test has a value; else the first that has none is named
abbrev pub on_tested : List Pattern → (State → Rule) → State → Rule
on_tested patterns rule s = raise_or (without_value s (outside_tests patterns)) rule s
