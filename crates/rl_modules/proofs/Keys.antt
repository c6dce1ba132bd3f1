-- Keys as their bytes.
use Rattle.std.proofs.Common.{◌≡◌, ℕ, Bool, false, ◌||◌, List, [], ◌∷◌, ◌++◌, map, string_bytes, refl, sym, ap, ◌∙◌}
use Rattle.std.proofs.lemmas.List.{map-append}
use Rattle.std.specs.Str.{bytes_eq}
use Rattle.std.specs.declared.string.String.{String}
use Rattle.std.specs.declared.alloc.Global.{Global}
use Rattle.indexmap.specs.IndexSet.{insert_key}
use Rattle.std.specs.List.{list_any}

pub list_any-map : {X Y : Type 0} (p : Y → Bool) (f : X → Y) (xs : List X) → list_any p (map f xs) ≡ list_any (λ x. p (f x)) xs
list_any-map p f [] = refl
list_any-map p f (x ∷ xs) = ap (λ b. p (f x) || b) (list_any-map p f xs)

-- a new key goes last
pub insert_key-new : (ks : List (String Global)) (k : String Global) (name : List ℕ) → string_bytes k ≡ name → list_any (bytes_eq name) (map string_bytes ks) ≡ false
    → map string_bytes (insert_key (λ a b. bytes_eq (string_bytes a) (string_bytes b)) ks k) ≡ map string_bytes ks ++ name ∷ []
insert_key-new ks k name same h =
    let new : list_any (λ x. bytes_eq (string_bytes k) (string_bytes x)) ks ≡ false = rw same (sym (list_any-map (bytes_eq name) string_bytes ks) ∙ h) in
    rw new (map-append string_bytes ks (k ∷ []) ∙ ap (λ n. map string_bytes ks ++ n ∷ []) same)
