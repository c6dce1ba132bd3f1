-- The line and the column of an offset, by where the lines begin.
use Rattle.std.proofs.Common.{◌≡◌, ℕ, suc, zero, ◌+◌, ◌-◌, ◌<◌, ◌≤◌, Bool, true, false, cond, eqb, List, [], ◌∷◌, length, get_or, take, count_by, refl, subst, arith, zero-add, sub-one}
use Rattle.std.proofs.lemmas.List.Sums.{sum_by-cons}
use Rattle.rl_base.specs.Lines.{line_starts, IsCount}
use Rattle.rl_base.specs.Text.{line_behind, column_behind}

-- the starts of lines, where the first character is a line feed or not
abbrev either : Bool → ℕ → List ℕ → List ℕ
either b n starts = cond b ((n + 1) ∷ starts) starts

step_above : (b : Bool) (starts : List ℕ) (n j : ℕ) → ((i : ℕ) → i < length starts → n + 1 < get_or starts i 0) → j < length (either b n starts) → n < get_or (either b n starts) j 0
step_above true starts n zero above h = omega arith
step_above true starts n (suc j) above h = let a = above j (omega arith) in omega arith
step_above false starts n j above h = let a = above j h in omega arith

-- each line begins behind a character
pub line_starts_above : (cs : List ℕ) (n j : ℕ) → j < length (line_starts n cs) → n < get_or (line_starts n cs) j 0
line_starts_above [] n j h = absurd (omega arith)
line_starts_above (c ∷ cs) n j h = step_above (eqb c 10) (line_starts (n + 1) cs) n j (line_starts_above cs (n + 1)) h

step_rise : (b : Bool) (starts : List ℕ) (n i j : ℕ) → ((i : ℕ) → i < length starts → n + 1 < get_or starts i 0) → ((i j : ℕ) → i < j → j < length starts → get_or starts i 0 < get_or starts j 0) → i < j → j < length (either b n starts) → get_or (either b n starts) i 0 < get_or (either b n starts) j 0
step_rise true starts n i zero above rise l h = absurd (omega arith)
step_rise true starts n zero (suc j) above rise l h = above j (omega arith)
step_rise true starts n (suc i) (suc j) above rise l h = rise i j (omega arith) (omega arith)
step_rise false starts n i j above rise l h = rise i j l h

-- and the next line behind it
pub line_starts_rise : (cs : List ℕ) (n i j : ℕ) → i < j → j < length (line_starts n cs) → get_or (line_starts n cs) i 0 < get_or (line_starts n cs) j 0
line_starts_rise [] n i j l h = absurd (omega arith)
line_starts_rise (c ∷ cs) n i j l h = step_rise (eqb c 10) (line_starts (n + 1) cs) n i j (line_starts_above cs (n + 1)) (line_starts_rise cs (n + 1)) l h

step_count : (b : Bool) (starts : List ℕ) (n m : ℕ) → length starts ≤ m → length (either b n starts) ≤ suc m
step_count true starts n m h = omega arith
step_count false starts n m h = omega arith

-- no more lines begin than there are characters
pub length-line_starts : (cs : List ℕ) (n : ℕ) → length (line_starts n cs) ≤ length cs
length-line_starts [] n = omega arith
length-line_starts (c ∷ cs) n = step_count (eqb c 10) (line_starts (n + 1) cs) n (length cs) (length-line_starts cs (n + 1))

-- k line feeds were met in front of the offset, and the column there is the one behind the last of them
pub record IsBehind (starts : List ℕ) (met column k first offset : ℕ) : Type 0 where
  pub count : met ≡ k
  pub first_line : k ≡ 0 → column ≡ first
  pub later_line : 0 < k → column + get_or starts (k - 1) 0 ≡ 1 + offset

behind_start : (starts : List ℕ) (n k column : ℕ) → ((i : ℕ) → i < length starts → n < get_or starts i 0) → IsCount starts (n + 0) k → IsBehind starts 0 column k (column + 0) (n + 0)
behind_start starts n zero column above s = record { count = refl; first_line = λ _. omega arith; later_line = λ h. absurd (omega arith) }
behind_start starts n (suc k) column above s =
    let w = s.within in
    let a = above 0 (omega arith) in
    let b = s.below 0 (omega arith) in
    absurd (omega arith)

behind_later : (starts : List ℕ) (n o k met column : ℕ) → IsBehind starts met column k (1 + o) (n + 1 + o) → column + get_or ((n + 1) ∷ starts) k 0 ≡ 1 + (n + suc o)
behind_later starts n o zero met column r = let e = r.first_line refl in omega arith
behind_later starts n o (suc k) met column r =
    let e : column + get_or starts k 0 ≡ 1 + (n + 1 + o) = rw sub-one at (r.later_line (omega arith)) in omega arith

behind_feed : (starts : List ℕ) (n o k met column : ℕ) (column_from : ℕ → ℕ) → ((k column : ℕ) → IsCount starts (n + 1 + o) k → IsBehind starts met (column_from column) k (column + o) (n + 1 + o)) → IsCount ((n + 1) ∷ starts) (n + suc o) k → IsBehind ((n + 1) ∷ starts) (1 + met) (column_from 1) k (column + suc o) (n + suc o)
behind_feed starts n o zero met column column_from rest s =
    let w = s.within in
    let a = s.above 0 (omega arith) (omega arith) in
    absurd (omega arith)
behind_feed starts n o (suc k) met column column_from rest s =
    let w = s.within in
    let r = rest k 1 (record { within = omega arith; below = λ j h. let b = s.below (suc j) (omega arith) in omega arith; above = λ j h l. let b = s.above (suc j) (omega arith) (omega arith) in omega arith }) in
    record { count = let c = r.count in omega arith; first_line = λ h. absurd (omega arith); later_line = λ _. rw sub-one (behind_later starts n o k met (column_from 1) r) }

behind_other : (starts : List ℕ) (n o k met column : ℕ) (column_from : ℕ → ℕ) → ((k column : ℕ) → IsCount starts (n + 1 + o) k → IsBehind starts met (column_from column) k (column + o) (n + 1 + o)) → IsCount starts (n + suc o) k → IsBehind starts met (column_from (column + 1)) k (column + suc o) (n + suc o)
behind_other starts n o k met column column_from rest s =
    let r = rest k (column + 1) (record { within = s.within; below = λ j h. let b = s.below j h in omega arith; above = λ j h l. let b = s.above j h l in omega arith }) in
    record { count = r.count; first_line = λ h. let e = r.first_line h in omega arith; later_line = λ h. let e = r.later_line h in omega arith }

behind_step : (b : Bool) (starts : List ℕ) (n o k met column : ℕ) (column_from : ℕ → ℕ) → ((k column : ℕ) → IsCount starts (n + 1 + o) k → IsBehind starts met (column_from column) k (column + o) (n + 1 + o)) → IsCount (either b n starts) (n + suc o) k → IsBehind (either b n starts) (cond b 1 0 + met) (column_from (cond b 1 (column + 1))) k (column + suc o) (n + suc o)
behind_step true starts n o k met column column_from rest s = behind_feed starts n o k met column column_from rest s
behind_step false starts n o k met column column_from rest s = rw zero-add (behind_other starts n o k met column column_from rest s)

pub behind : (cs : List ℕ) (n o k column : ℕ) → o ≤ length cs → IsCount (line_starts n cs) (n + o) k → IsBehind (line_starts n cs) (count_by (λ c. eqb c 10) (take o cs)) (column_behind column (take o cs)) k (column + o) (n + o)
behind cs n zero k column l s = behind_start (line_starts n cs) n k column (line_starts_above cs n) s
behind [] n (suc o) k column l s = absurd (omega arith)
behind (c ∷ cs) n (suc o) k column l s =
    rw (sum_by-cons (λ c. cond (eqb c 10) 1 0) c (take o cs)) (behind_step (eqb c 10) (line_starts (n + 1) cs) n o k (count_by (λ c. eqb c 10) (take o cs)) column (λ column. column_behind column (take o cs)) (λ k column. behind cs (n + 1) o k column (omega arith)) s)

-- what a place says, from the starts of the lines
pub record IsPlaced (text : List ℕ) (offset k start : ℕ) : Type 0 where
  pub line : line_behind (take offset text) ≡ k + 1
  pub within : start ≤ offset
  pub column : column_behind 1 (take offset text) ≡ offset - start + 1
  pub few : k ≤ length text

placed_from : (text : List ℕ) (offset k start : ℕ) → IsBehind (line_starts 0 text) (count_by (λ c. eqb c 10) (take offset text)) (column_behind 1 (take offset text)) k (1 + offset) (0 + offset) → IsCount (line_starts 0 text) offset k → (k ≡ 0 → start ≡ 0) → (0 < k → start ≡ get_or (line_starts 0 text) (k - 1) 0) → k ≤ length text → IsPlaced text offset k start
placed_from text offset zero start b s first later few =
    let f = first refl in
    let e = b.first_line refl in
    let n = b.count in
    record { line = omega arith; within = omega arith; column = omega arith; few = few }
placed_from text offset (suc k) start b s first later few =
    let f = later (omega arith) in
    let e = b.later_line (omega arith) in
    let n = b.count in
    let l = s.below (suc k - 1) (omega arith) in
    record { line = omega arith; within = omega arith; column = omega arith; few = few }

pub placed : (text starts : List ℕ) (offset k start : ℕ) → starts ≡ line_starts 0 text → offset ≤ length text → IsCount starts offset k → (k ≡ 0 → start ≡ 0) → (0 < k → start ≡ get_or starts (k - 1) 0) → IsPlaced text offset k start
placed text starts offset k start e l s first later =
    let P : List ℕ → Type 0 = λ xs. IsCount xs offset k in
    let split = subst P e s in
    let split_0 : IsCount (line_starts 0 text) (0 + offset) k = rw zero-add split in
    let b = behind text 0 offset k 1 l split_0 in
    let w = split.within in
    placed_from text offset k start b split first (rw (← e) later) (omega (arith, length-line_starts text 0))
