-- A table of files, read and set at one path.
use Rattle.std.proofs.Common.{◌≡◌, ℕ, Bool, true, false, cond, List, [], ◌∷◌, Option, Some, refl, sym, ap, ◌∙◌}
use Rattle.std.specs.Prelude.{map, string_bytes}
use Rattle.std.specs.Option.{option_map}
use Rattle.std.specs.Ordering.{nat_cmp, eq_by_cmp, is_eq}
use Rattle.std.specs.Cmp.{eq_by_cmp_equiv}
use Rattle.std.specs.Cmp.Lexicographic.{slice_cmp, nat_list_cmp_total}
use Rattle.std.specs.Str.{bytes_eq}
use Rattle.std.specs.String.{string_cmp}
use Rattle.std.specs.Map.{lookup}
use Rattle.std.specs.BTreeMap.{BTreeMap, UpdatesBy, is_at, get_by_text}
use Rattle.std.specs.FinMap.{find, get, insert, get-from_entries, get-insert, same_map, nat_cmp-IsAntisymmetric, slice_cmp-IsAntisymmetric}
use Rattle.std.proofs.lemmas.Map.Text.{btree_map_updates_text, is_eq-slice_cmp, text_cmp}
use Rattle.std.specs.declared.string.String.{String}
use Rattle.std.specs.declared.vec.Vec.{Vec}
use Rattle.std.specs.declared.alloc.Global.{Global}
use Rattle.rl_base.specs.FileTable.{plain, files_of}

abbrev Table : Type 0
Table = BTreeMap (String Global) (Vec ℕ Global)

abbrev items : Vec ℕ Global → List ℕ
items bytes = bytes.items

pub find-plain : (path : List ℕ) (entries : List (String Global × Vec ℕ Global)) → find (slice_cmp nat_cmp) path (map plain entries) ≡ option_map items (lookup (is_at (text_cmp path)) entries)
find-plain path [] = refl
find-plain path (e ∷ es) =
    elim (is_eq (slice_cmp nat_cmp path (string_bytes e.0))) as (λ b. cond b (Some e.1.items) (find (slice_cmp nat_cmp) path (map plain es)) ≡ option_map items (cond b (Some e.1) (lookup (is_at (text_cmp path)) es))) [
      | true ↦ refl
      | false ↦ find-plain path es
    ]

pub get-files_of : (path : List ℕ) (table : Table) → get (files_of table.entries) path ≡ option_map items (get_by_text table path)
get-files_of path table = get-from_entries nat_list_cmp_total (map plain table.entries) path ∙ find-plain path table.entries

option_map-cond : (b : Bool) (v : Vec ℕ Global) (o : Option (Vec ℕ Global)) → option_map items (cond b (Some v) o) ≡ cond b (Some v.items) (option_map items o)
option_map-cond true v o = refl
option_map-cond false v o = refl

same_path : (a b : List ℕ) → bytes_eq a b ≡ eq_by_cmp (slice_cmp nat_cmp) b a
same_path a b = sym (is_eq-slice_cmp a b) ∙ (eq_by_cmp_equiv nat_list_cmp_total).symm a b

pub files_of-insert : (path : List ℕ) (v : Vec ℕ Global) (old new : Table) → UpdatesBy string_cmp (λ k. slice_cmp nat_cmp path (string_bytes k)) old new (Some v) → files_of new.entries ≡ insert (files_of old.entries) path v.items
files_of-insert path v old new updates = same_map nat_list_cmp_total (slice_cmp-IsAntisymmetric nat_cmp-IsAntisymmetric) _ _ (λ q.
    get-files_of q new
    ∙ ap (option_map items) (btree_map_updates_text path old new (Some v) updates q)
    ∙ option_map-cond (bytes_eq path q) v (get_by_text old q)
    ∙ ap (λ b. cond b (Some v.items) (option_map items (get_by_text old q))) (same_path path q)
    ∙ sym (get-insert nat_list_cmp_total (files_of old.entries) path v.items q ∙ ap (cond (eq_by_cmp (slice_cmp nat_cmp) q path) (Some v.items)) (get-files_of q old)))
