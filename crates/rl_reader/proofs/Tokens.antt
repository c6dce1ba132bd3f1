-- Reads of a list of tokens.
use Rattle.std.proofs.Common.{◌≡◌, ℕ, zero, suc, ◌≤◌, List, [], ◌∷◌, length, map, get_or, refl, arith}

-- past the end the default stands
pub read_past : {X Y : Type 0} (f : X → Y) (xs : List X) (i : ℕ) (d : Y) → length xs ≤ i → get_or (map f xs) i d ≡ d
read_past f [] i d h = refl
read_past f (x ∷ xs) zero d h = absurd (omega arith)
read_past f (x ∷ xs) (suc i) d h = read_past f xs i d (omega arith)
