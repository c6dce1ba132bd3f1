-- Steps over the pieces of a text.
use Rattle.std.proofs.Common.{◌≡◌, ℕ, zero, suc, ◌+◌, ◌<◌, ◌≤◌, List, [], ◌∷◌, ◌++◌, length, drop, take, map, Option, Some, None, Err, refl, ap, sym, ◌∙◌, append_assoc, arith}
use Rattle.std.specs.Str.{IsUtf8}
use Rattle.std.proofs.lemmas.Str.{IsUtf8-drop}
use Rattle.std.specs.Str.Pattern.{FindsText, SplitsAroundMatch}
use Rattle.rl_value.specs.Plain.{Plain, text, plains_of, plain_size, plains_size, plain_height, plains_height, Fits}
use Rattle.rl_value.specs.Built.{Builds}
use Rattle.rl_value.specs.declared.build_end.BuildEnd.{BuildEnd}
use Rattle.rl_value.specs.declared.build_end.BuildEnd.TheVariants.{TooLarge, OutOfMemory}
use Rattle.rl_arguments.specs.Arguments.{list_of}
use Rattle.rl_arguments.specs.Lists.{BuildsList}
use Rattle.rl_strings.specs.Search.{first_at}
use Rattle.rl_strings.specs.Pieces.{pieces, all_pieces, joined, split_by}
use Rattle.rl_exception.specs.Answer.{fitting}
use Rattle.rl_strings.proofs.SearchLemmas.{found, absent}

-- a piece in front of a separator, and how many more can follow
pub record Cut (m : ℕ) (separator whole front back : List ℕ) : Type 0 where
  pub fewer : ℕ
  pub count : m ≡ suc fewer
  pub shorter : length back ≤ fewer
  pub utf8 : IsUtf8 back
  pub cut : pieces m separator whole ≡ front ∷ pieces fewer separator back

pub cut_at : (m : ℕ) (separator whole front back : List ℕ) → 0 < length separator → length whole ≤ m → IsUtf8 whole
    → SplitsAroundMatch (FindsText separator) whole front back → Cut m separator whole front back
cut_at zero separator whole front back some h u s = absurd (omega (arith, s.2.1.ends))
cut_at (suc k) separator whole front back some h u s =
    let first : first_at separator whole ≡ Some s.0 = found separator whole (drop s.1 whole) s.0 s.2.0 s.2.1.split (omega arith) in
    let behind : s.0 + length separator ≡ s.1 = sym s.2.1.ends in
    record {
      fewer = k;
      count = refl;
      shorter = omega (arith, s.2.1.ends);
      utf8 = rw (s.4, ← behind) (IsUtf8-drop whole (s.0 + length separator) u s.2.1.after);
      cut = rw (first, behind, s.3, s.4) refl;
    }

pub last_piece : (m : ℕ) (separator whole : List ℕ) → FindsText separator whole None → pieces m separator whole ≡ whole ∷ []
last_piece zero separator whole f = refl
last_piece (suc k) separator whole f = rw (absent separator whole f) refl

-- ---- texts joined
pieces_first : (m : ℕ) (separator whole : List ℕ) → (x : List ℕ) × (xs : List (List ℕ)) × (pieces m separator whole ≡ x ∷ xs)
pieces_first zero separator whole = (whole, [], refl)
pieces_first (suc k) separator whole = by (first_at separator whole) refl
  where
    by : (o : Option ℕ) → first_at separator whole ≡ o → (x : List ℕ) × (xs : List (List ℕ)) × (pieces (suc k) separator whole ≡ x ∷ xs)
    by None e = (whole, [], rw e refl)
    by (Some i) e = (take i whole, pieces k separator (drop (i + length separator) whole), rw e refl)

pub joined_first : (m : ℕ) (between front separator back : List ℕ) → joined between (front ∷ pieces m separator back) ≡ front ++ between ++ joined between (pieces m separator back)
joined_first m between front separator back = let p = pieces_first m separator back in rw p.2 refl

-- ---- a piece that does not fit
part_size_le : (xs ys : List Plain) (t : Plain) → plain_size t ≤ plains_size (plains_of (xs ++ t ∷ ys))
part_size_le [] ys t = omega arith
part_size_le (x ∷ xs) ys t = omega (arith, part_size_le xs ys t)

part_height_le : (xs ys : List Plain) (t : Plain) → plain_height t ≤ plains_height (plains_of (xs ++ t ∷ ys))
part_height_le [] ys t = omega arith
part_height_le (x ∷ xs) ys t = omega (arith, part_height_le xs ys t)

pub spoils : (all xs ys : List Plain) (t : Plain) (end : BuildEnd) → xs ++ t ∷ ys ≡ all → Builds t (Err end) → BuildsList all (Err end)
spoils all xs ys t TooLarge e b =
    λ f. b (record {
      size = omega (arith, f.size, part_size_le xs ys t, ap (λ ts. plains_size (plains_of ts)) e);
      height = omega (arith, f.height, part_height_le xs ys t, ap (λ ts. plains_height (plains_of ts)) e);
    })
spoils all xs ys t OutOfMemory e b = tt

pub list_unbuilt : (ts : List Plain) (end : BuildEnd) → BuildsList ts (Err end) → Builds (list_of ts) (Err end)
list_unbuilt ts TooLarge b = b
list_unbuilt ts OutOfMemory b = tt

-- ---- one more piece
pub pushed : (done all : List Plain) (ps qs : List (List ℕ)) (front : List ℕ) (t : Plain) → ps ≡ front ∷ qs → t ≡ text front
    → done ++ map text ps ≡ all → (done ++ t ∷ []) ++ map text qs ≡ all
pushed done all ps qs front t cut is inv =
    rw is (append_assoc done (text front ∷ []) (map text qs) ∙ ap (λ w. done ++ map text w) (sym cut) ∙ inv)

pub in_front : (done all : List Plain) (ps qs : List (List ℕ)) (front : List ℕ) → ps ≡ front ∷ qs → done ++ map text ps ≡ all → done ++ text front ∷ map text qs ≡ all
in_front done all ps qs front cut inv = ap (λ w. done ++ map text w) (sym cut) ∙ inv

three : (a b c d : List ℕ) → ((a ++ b) ++ c) ++ d ≡ a ++ ((b ++ c) ++ d)
three a b c d = simp append_assoc

pub replaced_on : (out all between front separator back : List ℕ) (ps : List (List ℕ)) (k : ℕ) → ps ≡ front ∷ pieces k separator back → out ++ joined between ps ≡ all
    → ((out ++ front) ++ between) ++ joined between (pieces k separator back) ≡ all
replaced_on out all between front separator back ps k cut inv =
    three out front between (joined between (pieces k separator back))
    ∙ ap (λ w. out ++ w) (sym (joined_first k between front separator back))
    ∙ ap (λ w. out ++ joined between w) (sym cut)
    ∙ inv

pub split_some : (separator whole : List ℕ) → 0 < length separator → split_by separator whole ≡ fitting (list_of (map text (all_pieces separator whole)))
split_some [] whole h = absurd (omega arith)
split_some (b ∷ bs) whole h = refl
