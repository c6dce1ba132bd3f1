-- The divisions of a list of elements among stars. Stars are numbered from 0.
use Rattle.std.specs.Prelude.{ℕ, zero, suc, ◌==◌, if◌then◌else◌, List, [], ◌∷◌, length, map, flat_map}
use Rattle.std.specs.List.{range_with_len}

-- all lists of so many star numbers below k, in lexicographic order
abbrev pub choices : ℕ → ℕ → List (List ℕ)
choices k zero = [] ∷ []
choices k (suc n) = flat_map (λ star. map (λ stars. star ∷ stars) (choices k n)) (range_with_len 0 k)

-- The elements that a choice gives to a star. A choice has a star for each element, so that neither list ends before the other.
abbrev pub part : {A : Type 0} → List A → List ℕ → ℕ → List A
part [] choice star = []
part (e ∷ es) [] star = []
part (e ∷ es) (s ∷ choice) star = if s == star then e ∷ part es choice star else part es choice star

-- the parts of the k stars, where each element goes to the star of its number
abbrev pub parts : {A : Type 0} → List A → ℕ → List ℕ → List (List A)
parts es k choice = map (part es choice) (range_with_len 0 k)

-- the divisions among k stars: by each choice of a star for each element
abbrev pub divisions : {A : Type 0} → List A → ℕ → List (List (List A))
divisions es k = map (parts es k) (choices k (length es))
