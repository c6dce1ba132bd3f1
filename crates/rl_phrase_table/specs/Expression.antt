-- Grammars, and how they are written.
use Prim.Native.String.{String}
use Rattle.std.specs.Prelude.{ℕ, List, [], codes}
use Rattle.rl_phrase.specs.declared.table.Form.{Form}
use Rattle.rl_phrase.specs.declared.table.Form.TheVariants.{Named, Seq, Choice, Star, Plus, Opt, Not}

-- a word or a symbol, a rule or a class of tokens by its name, or parts, of which the form says what is done with them
mutual
  pub data Expression : Type 0 where
    Word : (text : List ℕ) → Expression
    Name : (name : List ℕ) → Expression
    Group : (form : Form) (parts : Parts) → Expression

  pub data Parts : Type 0 where
    none : Parts
    more : (first : Expression) (rest : Parts) → Parts

abbrev pub only : Expression → Parts
only part = more part none

-- a sequence stands for its parts, and any other expression for itself
abbrev pub in_turn : Expression → Parts
in_turn (Group Seq parts) = parts
in_turn part = only part

-- the same of a choice
abbrev pub alternatives : Expression → Parts
alternatives (Group Choice parts) = parts
alternatives part = only part

abbrev pub word : String → Expression
word text = Word (codes text)

-- one behind the other
infixr 74 ◌·◌
abbrev pub ◌·◌ : Expression → Expression → Expression
part · rest = Group Seq (more part (in_turn rest))

-- the first of them that succeeds
infixr 72 ◌∕◌
abbrev pub ◌∕◌ : Expression → Expression → Expression
part ∕ rest = Group Choice (more part (alternatives rest))

-- again and again, or not at all
infix 80 ◌*
abbrev pub ◌* : Expression → Expression
part * = Group Star (in_turn part)

-- again and again
infix 80 ◌+
abbrev pub ◌+ : Expression → Expression
part + = Group Plus (in_turn part)

-- once, or not at all
infix 80 ◌？
abbrev pub ◌？ : Expression → Expression
part ？ = Group Opt (in_turn part)

-- nothing, where it fails
infix 78 !◌
abbrev pub !◌ : Expression → Expression
! part = Group Not (in_turn part)

-- a rule: its name, and the parts in turn that it is made of
pub record Definition : Type 0 where
  pub name : List ℕ
  pub says : Expression

abbrev pub name_of : Expression → List ℕ
name_of (Name name) = name
name_of part = []

infix 70 ◌⟶◌
abbrev pub ◌⟶◌ : Expression → Expression → Definition
rule ⟶ part = record { name = name_of rule; says = Group Named (in_turn part) }

abbrev pub Grammar : Type 0
Grammar = List Definition
