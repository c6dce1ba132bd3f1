-- What is found among those of one name.
use Rattle.std.proofs.Common.{◌≡◌, ℕ, ◌==◌, Bool, true, false, cond, ◌&&◌, List, [], ◌∷◌, map, length, Option, Some, None, refl, sym, ap, ◌∙◌}
use Rattle.std.specs.List.{find, filter}
use Rattle.std.specs.Option.{option_map, option_map_or}
use Rattle.std.specs.BTreeMap.{get_by_text}
use Rattle.std.specs.Str.{bytes_eq}
use Rattle.std.proofs.lemmas.List.{length-map}
use Rattle.rl_types.specs.Declarations.{Constructor, Declarations, is_constructor, constructor}
use Rattle.rl_types.specs.View.{field_of, constructor_of, declarations_in, IsIndexed}
use Rattle.rl_types.specs.declared.decls.Table.{Table}
use Rattle.rl_types.specs.declared.constructor.Constructor as c

find-filter : {X : Type 0} (q p : X → Bool) (xs : List X) → find p (filter q xs) ≡ find (λ x. q x && p x) xs
find-filter q p [] = refl
find-filter q p (x ∷ xs) =
    elim (q x) as (λ b. find p (cond b (x ∷ filter q xs) (filter q xs)) ≡ cond (b && p x) (Some x) (find (λ y. q y && p y) xs)) [
      | true ↦ ap (λ o. cond (p x) (Some x) o) (find-filter q p xs)
      | false ↦ find-filter q p xs
    ]

pub filter-constructors : (name : List ℕ) (cs : List c.Constructor) → map constructor_of (filter (λ c. bytes_eq name c.name) cs) ≡ filter (λ c. bytes_eq name c.name) (map constructor_of cs)
filter-constructors name [] = refl
filter-constructors name (c ∷ cs) =
    elim (bytes_eq name c.name) as (λ b. map constructor_of (cond b (c ∷ filter (λ c. bytes_eq name c.name) cs) (filter (λ c. bytes_eq name c.name) cs))
    ≡ cond b (constructor_of c ∷ filter (λ c. bytes_eq name c.name) (map constructor_of cs)) (filter (λ c. bytes_eq name c.name) (map constructor_of cs))) [
      | true ↦ ap (λ ds. constructor_of c ∷ ds) (filter-constructors name cs)
      | false ↦ filter-constructors name cs
    ]

find-constructors : (count : ℕ) (cs : List c.Constructor) → option_map constructor_of (find (λ c. length c.fields == count) cs) ≡ find (λ c. length c.fields == count) (map constructor_of cs)
find-constructors count [] = refl
find-constructors count (c ∷ cs) =
    let e : length (map field_of c.fields) ≡ length c.fields = length-map c.fields field_of in
    let f : (length c.fields == count) ≡ (length (map field_of c.fields) == count) = ap (λ n. n == count) (sym e) in
    elim (length c.fields == count) as (λ b. option_map constructor_of (cond b (Some c) (find (λ c. length c.fields == count) cs))
    ≡ cond b (Some (constructor_of c)) (find (λ c. length c.fields == count) (map constructor_of cs))) [
      | true ↦ refl
      | false ↦ find-constructors count cs
    ]
    ∙ ap (λ b. cond b (Some (constructor_of c)) (find (λ c. length c.fields == count) (map constructor_of cs))) f

-- the first with as many fields among those of the name
pub constructor-named : (d : Declarations) (name : List ℕ) (count : ℕ) (cs : List c.Constructor) → map constructor_of cs ≡ filter (λ c. bytes_eq name c.name) d.constructors
    → option_map constructor_of (find (λ c. length c.fields == count) cs) ≡ constructor d name count
constructor-named d name count cs e =
    find-constructors count cs ∙ ap (find (λ c. length c.fields == count)) e ∙ find-filter (λ c. bytes_eq name c.name) (λ c. length c.fields == count) d.constructors

-- the constructors of a name in a table
pub named-rows : (t : Table) → IsIndexed t → (name : List ℕ) (rows : List c.Constructor) → rows ≡ option_map_or (λ found. found.items) (get_by_text t.constructors_by_name name) []
    → map constructor_of rows ≡ filter (λ c. bytes_eq name c.name) (declarations_in t).constructors
named-rows t i name rows e = ap (map constructor_of) (e ∙ i.constructors name) ∙ filter-constructors name t.constructors.items
