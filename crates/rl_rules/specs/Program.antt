-- A program, as its rules see it.
use Rattle.std.specs.Prelude.{ℕ, nat_eq, Bool, false, List, Option}
use Rattle.std.specs.List.{list_any}
use Rattle.rl_exception.specs.Answer.{Answer}
use Rattle.rl_match.specs.Bindings.{Context, Matching}
use Rattle.rl_syntax.specs.declared.declaration.Decl.{Decl}
use Rattle.rl_syntax.specs.declared.declaration.Decl.TheVariants as d
use Rattle.rl_syntax.specs.declared.fragment.Concrete.{Concrete}
use Rattle.rl_syntax.specs.declared.module.Module.{Module}
use Rattle.rl_syntax.specs.declared.module.Modules.{Modules}
use Rattle.rl_syntax.specs.declared.ty.Ty.{Ty}
use Rattle.rl_types.specs.Declarations.{Declarations}
use Rattle.rl_types.specs.PlainType.{plain_type}
use Rattle.rl_types.specs.Program.{declarations_of}
use Rattle.rl_types.specs.Types.{has}
use Rattle.rl_value.specs.Plain.{Plain}
use Rattle.rl_rules.specs.State.{State, in_reach}

-- What grammars give. Its definitions stand with those of trees; here they are any.
pub record Grammars : Type 0 where
  -- how a fragment matches, as a pattern
  pub on_fragment : Concrete → Matching
  -- the tree of a fragment with these values in its holes, where each is a tree of its hole's sort
  pub filled : Concrete → List Plain → Option Plain
  -- what `parse` of a text answers for a sort, with layout around it or not
  pub parsed : List ℕ → (around : Bool) → List ℕ → Answer
  -- what `implode` of a tree answers for a data type
  pub imploded : List ℕ → Plain → Answer

pub record Program : Type 0 where
  -- the modules by their numbers, with the numbers of names set
  pub modules : List Module
  -- the numbers of the modules in the order in which loading finished them
  pub finished : List ℕ
  pub declarations : Declarations
  pub grammars : Grammars

-- the program of modules that were loaded, where each name has the number of its declaration, as Numbering.antt says
abbrev pub program_of : Grammars → Modules → Program
program_of grammars loaded = record { modules = loaded.list; finished = loaded.finished; declarations = declarations_of loaded.list; grammars = grammars }

-- whether a value has a type as it is written
abbrev pub has_type : Program → Plain → Ty → Bool
has_type p v ty = has p.declarations v (plain_type ty)

-- what patterns see from a state
abbrev pub context : Program → State → Context
context p s = record { has = has_type p; outside = in_reach s; on_fragment = p.grammars.on_fragment }

abbrev pub declares_global : ℕ → Decl → Bool
declares_global x (d.Global place private ty name value) = nat_eq x name.number
declares_global x declaration = false

-- whether the number is that of a global
abbrev pub is_global : Program → ℕ → Bool
is_global p x = list_any (λ m. list_any (declares_global x) m.declarations) p.modules
