-- Tables in which no row comes back to itself without a token.
use Rattle.std.specs.Prelude.{◌≡◌, ℕ, zero, suc, ◌+◌, ◌<◌, List, Some, slice_get}
use Rattle.rl_phrase.specs.declared.table.Rule.{Rule}
use Rattle.rl_phrase.specs.declared.table.Form.{Form}
use Rattle.rl_phrase.specs.declared.table.Form.TheVariants.{Term, Link, Named, Seq, Choice, Star, Plus, Opt, Not}

-- a row of this form can take nothing, whatever its parts are
abbrev pub TakesNothing : Form → Type 0
TakesNothing Star = Unit {0}
TakesNothing Opt = Unit {0}
TakesNothing Not = Unit {0}
TakesNothing (Term kind) = ⊥
TakesNothing Link = ⊥
TakesNothing Named = ⊥
TakesNothing Seq = ⊥
TakesNothing Choice = ⊥
TakesNothing Plus = ⊥

-- a row of this form takes each of its parts
abbrev pub TakesParts : Form → Type 0
TakesParts Named = Unit {0}
TakesParts Seq = Unit {0}
TakesParts Plus = Unit {0}
TakesParts (Term kind) = ⊥
TakesParts Link = ⊥
TakesParts Choice = ⊥
TakesParts Star = ⊥
TakesParts Opt = ⊥
TakesParts Not = ⊥

-- The row can take nothing.
pub data CanBeEmpty (rules : List Rule) : ℕ → Type 0 where
  itself : (row first count : ℕ) (form : Form) → slice_get rules row ≡ Some (record { form = form; first = first; count = count }) → TakesNothing form → CanBeEmpty rules row
  link : (row first count : ℕ) → slice_get rules row ≡ Some (record { form = Link; first = first; count = count }) → CanBeEmpty rules first → CanBeEmpty rules row
  choice : (row first count : ℕ) → slice_get rules row ≡ Some (record { form = Choice; first = first; count = count }) → (i : ℕ) → i < count → CanBeEmpty rules (first + i) → CanBeEmpty rules row
  parts : (row first count : ℕ) (form : Form) → slice_get rules row ≡ Some (record { form = form; first = first; count = count }) → TakesParts form → ((i : ℕ) → i < count → CanBeEmpty rules (first + i)) → CanBeEmpty rules row

-- a part before which all parts can take nothing
abbrev pub IsReached : List Rule → (first count to : ℕ) → Type 0
IsReached rules first count to = (i : ℕ) × (i < count) × (to ≡ first + i) × ((j : ℕ) → j < i → CanBeEmpty rules (first + j))

-- a row of this form may begin with the row `to`
abbrev pub BeginsForm : List Rule → Form → (first count to : ℕ) → Type 0
BeginsForm rules (Term kind) first count to = ⊥
BeginsForm rules Link first count to = to ≡ first
BeginsForm rules Choice first count to = (i : ℕ) × (i < count) × (to ≡ first + i)
BeginsForm rules Named first count to = IsReached rules first count to
BeginsForm rules Seq first count to = IsReached rules first count to
BeginsForm rules Star first count to = IsReached rules first count to
BeginsForm rules Plus first count to = IsReached rules first count to
BeginsForm rules Opt first count to = IsReached rules first count to
BeginsForm rules Not first count to = IsReached rules first count to

abbrev pub Begins : List Rule → (row to : ℕ) → Type 0
Begins rules row to = (rule : Rule) × (slice_get rules row ≡ Some rule) × BeginsForm rules rule.form rule.first rule.count to

-- a walk of n steps, each to a row that the one before may begin with
abbrev pub Walk : List Rule → (from to n : ℕ) → Type 0
Walk rules from to zero = from ≡ to
Walk rules from to (suc n) = (mid : ℕ) × Begins rules from mid × Walk rules mid to n

-- no row comes back to itself in one or more steps
abbrev pub HasNoLeftRecursion : List Rule → Type 0
HasNoLeftRecursion rules = (row n : ℕ) → Walk rules row row (suc n) → ⊥
