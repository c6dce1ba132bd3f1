-- A constructor that is found by the number of values has as many fields.
use Rattle.std.proofs.Common.{◌≡◌, ℕ, ◌==◌, ◌&&◌, Bool, true, false, List, [], ◌∷◌, length, Option, Some, refl}
use Rattle.std.specs.Prelude.{cond}
use Rattle.std.specs.List.{find}
use Rattle.std.specs.Option.{IfSome}
use Rattle.std.specs.Str.{bytes_eq}
use Rattle.std.proofs.lemmas.Bool.{eqb-true}
use Rattle.rl_types.specs.Declarations.{Constructor, is_constructor}
use Rattle.rl_visit.specs.Laws.{FieldsAreAsMany}

as_many : (named : Bool) (n count : ℕ) → (named && (n == count)) ≡ true → n ≡ count
as_many true n count e = eqb-true n count e
as_many false n count e = (cc)

first_or : (P : Constructor → Type 0) (b : Bool) (c : Constructor) (rest : Option Constructor) → (b ≡ true → P c) → IfSome rest P → IfSome (cond b (Some c) rest) P
first_or P true c rest h k = h refl
first_or P false c rest h k = k

found : (name : List ℕ) (count : ℕ) (cs : List Constructor) → IfSome (find (is_constructor name count) cs) (λ c. length c.fields ≡ count)
found name count [] = tt
found name count (c ∷ cs) =
    first_or (λ c. length c.fields ≡ count) (is_constructor name count c) c (find (is_constructor name count) cs) (as_many (bytes_eq name c.name) (length c.fields) count) (found name count cs)

pub fields : FieldsAreAsMany
fields d name count = found name count d.constructors
