-- What a store stands for, after each call.
use Rattle.std.proofs.Common.{◌≡◌, ℕ, zero, suc, ◌-◌, ◌<◌, ◌≤◌, ◌↔◌, List, [], ◌∷◌, ◌++◌, length, take, drop, reverse, Option, Some, None, refl, sym, ap, ◌∙◌, subst, arith, ◌==◌, ◌&&◌, Bool, true, false, if◌then◌else◌, eqb-true, inl, inr}
use Rattle.std.specs.Option.{option_to_list}
use Rattle.std.specs.List.{All}
use Rattle.std.specs.FinMap.{empty}
use Rattle.std.proofs.lemmas.List.{take-append-le, length-take-le, reverse-append, append-nil}
use Rattle.std.proofs.lemmas.List.Elements.{All-nil, All-take}
use Rattle.rl_value.specs.Plain.{Plain}
use Rattle.rl_store.specs.Scope.{Scope, value_at, changed_at}
use Rattle.rl_store.specs.Rooms.{LastNotes, last_note_at, HasRoom, KeepsLastNotes, KeepsOtherNotes, SetsLastNote}
use Rattle.rl_store.specs.Store.{PlainStore, Key, laid, laid_entries, noting, setting, opened, closed, marked, rolled_back, released, IsClosable, IsOpenedSince, IsLaid}
use Rattle.rl_store.specs.Journal.{entries_of, HasRoomIn, newest_first, marks_of, IsJournal, IsLast, AreLast, Notes, NotesSince, passed_down, floor_of}
use Rattle.rl_store.specs.declared.journal.Note.{Note}
use Rattle.rl_store.specs.declared.journal.MarkAt.{MarkAt}
use Rattle.rl_store.proofs.Laying.{length-laid, length-changed_at}
use Rattle.rl_store.proofs.LastNotes.{are_last_set, are_last_keeps, are_last_take, last_more, no_note_cons}
use Rattle.rl_store.proofs.StoreLemmas.{noted_in, marks-set, marks-mark, marks-release, marks-rollback, IsJournal-places, IsJournal-set, IsJournal-mark, IsJournal-release, room-set, room-stays, room-take, room-release}

abbrev pub seen : List Scope → List Note → List MarkAt → PlainStore
seen ss notes ms = record { scopes = ss; marks = marks_of ms notes ss }

-- set

marks_set : (newest : Option MarkAt) (older : List MarkAt) (old new : List Note) (ss : List Scope) (p x : ℕ) (v : Option Plain) → (newest ≡ None → older ≡ []) → IsJournal (newest_first newest older) old (length ss) → NotesSince newest (p, x) (value_at ss p x) old new
    → marks_of (newest_first newest older) new (changed_at ss p x v) ≡ noting (marks_of (newest_first newest older) old ss) (p, x) (value_at ss p x)
marks_set None older old new ss p x v h j c = rw (h refl) refl
marks_set (Some m) older old new ss p x v h j c = marks-set m (reverse older) old new ss p x v j.2 j.1 c

pub seen_set : (newest : Option MarkAt) (older : List MarkAt) (old new : List Note) (ss ts us : List Scope) (s : PlainStore) (p x : ℕ) (v : Plain) → seen ss old (newest_first newest older) ≡ s → (newest ≡ None → older ≡ []) → IsJournal (newest_first newest older) old (length ss)
    → ts ≡ ss → us ≡ changed_at ts p x (Some v) → NotesSince newest (p, x) (value_at ts p x) old new → seen us new (newest_first newest older) ≡ setting s p x v
seen_set newest older old new ss ts us s p x v e h j a b c =
    let P : List Scope → Type 0 = λ qs. NotesSince newest (p, x) (value_at qs p x) old new in
    let n : us ≡ changed_at ss p x (Some v) = b ∙ ap (λ qs. changed_at qs p x (Some v)) a in
    ap (λ qs. seen qs new (newest_first newest older)) n
    ∙ ap (λ ms. record { scopes = changed_at ss p x (Some v); marks = ms }) (marks_set newest older old new ss p x (Some v) h j (subst P a c))
    ∙ ap (λ t. setting t p x v) e

journal_notes : (newest : Option MarkAt) (older : List MarkAt) (old new : List Note) (count p x : ℕ) (w : Option Plain) → NotesSince newest (p, x) w old new → IsJournal (newest_first newest older) old count → IsJournal (newest_first newest older) new count
journal_notes None older old new count p x w c j = let P : List Note → Type 0 = λ ns. IsJournal (reverse older) ns count in subst P (sym c) j
journal_notes (Some m) older old new count p x w c j = IsJournal-set m (reverse older) (p, x) w old new count c j

room_notes : (newest : Option MarkAt) (p x : ℕ) (o : Option Plain) (old new : List Note) (rs qs : List (List ℕ)) → NotesSince newest (p, x) o old new → ((q y : ℕ) → HasRoom rs q y → HasRoom qs q y) → HasRoom qs p x → All (HasRoomIn rs) old → All (HasRoomIn qs) new
room_notes None p x o old new rs qs c stays here a = subst (All (HasRoomIn qs)) (sym c) (room-stays old rs qs stays a)
room_notes (Some m) p x o old new rs qs c stays here a = room-set m p x o old new rs qs c stays here a

pub journal_set : (newest : Option MarkAt) (older : List MarkAt) (old new : List Note) (ss ts us : List Scope) (p x : ℕ) (o w : Option Plain) → IsJournal (newest_first newest older) old (length ss) → ts ≡ ss → us ≡ changed_at ts p x o → NotesSince newest (p, x) w old new → IsJournal (newest_first newest older) new (length us)
journal_set newest older old new ss ts us p x o w j a b c =
    let l : length ss ≡ length us = sym (ap length b ∙ length-changed_at ts p x o ∙ ap length a) in
    let P : ℕ → Type 0 = λ n. IsJournal (newest_first newest older) new n in
    subst P l (journal_notes newest older old new (length ss) p x w c j)

pub room_set : (newest : Option MarkAt) (p x : ℕ) (o : Option Plain) (old new : List Note) (rs qs ts : List (List ℕ)) → NotesSince newest (p, x) o old new → ((q y : ℕ) → HasRoom rs q y → HasRoom qs q y) → HasRoom qs p x → ts ≡ qs → All (HasRoomIn rs) old → All (HasRoomIn ts) new
room_set newest p x o old new rs qs ts c stays here e a = let P : List (List ℕ) → Type 0 = λ ts. All (HasRoomIn ts) new in subst P (sym e) (room_notes newest p x o old new rs qs c stays here a)

other_last : (m : MarkAt) (p x : ℕ) (o : Option Plain) (old new : List Note) (l q y : ℕ) → Notes m (p, x) o old new → ((p == q) && (x == y)) ≡ false → IsLast old l q y → IsLast new l q y
other_last m p x o old new l q y (inl (e, c)) b h = let P : List Note → Type 0 = λ ns. IsLast ns l q y in subst P (sym e) h
other_last m p x o old new l q y (inr (n, e, en, lt, new_one, linked)) b h =
    let P : List Note → Type 0 = λ ns. IsLast ns l q y in
    let Q : Key → Type 0 = λ k. ((k.0 == q) && (k.1 == y)) ≡ false in
    let same : (p, x) ≡ (n.place, n.variable) = sym (ap (λ (d : Key × Option Plain). d.0) en) in
    subst P (sym e) (last_more old (n ∷ []) l q y (no_note_cons n [] (q, y) (subst Q same b) refl) h)

other_last_since : (newest : Option MarkAt) (p x : ℕ) (o : Option Plain) (old new : List Note) (l q y : ℕ) → NotesSince newest (p, x) o old new → ((p == q) && (x == y)) ≡ false → IsLast old l q y → IsLast new l q y
other_last_since None p x o old new l q y c b h = let P : List Note → Type 0 = λ ns. IsLast ns l q y in subst P (sym c) h
other_last_since (Some m) p x o old new l q y c b h = other_last m p x o old new l q y c b h

pub last_notes_set : (newest : Option MarkAt) (p x l : ℕ) (o : Option Plain) (old new : List Note) (hs ks ls : List LastNotes) → NotesSince newest (p, x) o old new → KeepsLastNotes hs ks → SetsLastNote ks ls p x l → IsLast new l p x → AreLast old hs → AreLast new ls
last_notes_set newest p x l o old new hs ks ls c k s h a =
    are_last_set new ks ls l p x s h (λ q y b. other_last_since newest p x o old new (last_note_at ks q y) q y c b (are_last_keeps old hs ks k a q y))

both_true : (b c : Bool) → (b && c) ≡ true → (b ≡ true) × (c ≡ true)
both_true true true e = (refl, refl)
both_true true false e = (cc)
both_true false c e = (cc)

-- the last note of one variable, where those of the others stay
sets_one : (hs ls : List LastNotes) (p x : ℕ) → KeepsOtherNotes hs ls p x → SetsLastNote hs ls p x (last_note_at ls p x)
sets_one hs ls p x k q y = by ((p == q) && (x == y)) refl
  where
    by : (b : Bool) → ((p == q) && (x == y)) ≡ b → last_note_at ls q y ≡ (if b then last_note_at ls p x else last_note_at hs q y)
    by true e = let t = both_true (p == q) (x == y) e in (λ i. last_note_at ls (sym (eqb-true p q t.0) i) (sym (eqb-true x y t.1) i))
    by false e = k q y e

keeps_all : (hs ls : List LastNotes) (p x : ℕ) → KeepsOtherNotes hs ls p x → last_note_at ls p x ≡ last_note_at hs p x → KeepsLastNotes hs ls
keeps_all hs ls p x k h q y = by ((p == q) && (x == y)) refl
  where
    by : (b : Bool) → ((p == q) && (x == y)) ≡ b → last_note_at ls q y ≡ last_note_at hs q y
    by true e =
        let t = both_true (p == q) (x == y) e in
        (λ i. last_note_at ls (sym (eqb-true p q t.0) i) (sym (eqb-true x y t.1) i)) ∙ h ∙ (λ i. last_note_at hs (eqb-true p q t.0 i) (eqb-true x y t.1 i))
    by false e = k q y e

pub last_notes_written : (newest : Option MarkAt) (p x : ℕ) (o : Option Plain) (old new : List Note) (hs ls : List LastNotes) → NotesSince newest (p, x) o old new → KeepsOtherNotes hs ls p x → IsLast new (last_note_at ls p x) p x → AreLast old hs → AreLast new ls
last_notes_written newest p x o old new hs ls c k h a = last_notes_set newest p x (last_note_at ls p x) o old new hs hs ls c (λ q y. refl) (sets_one hs ls p x k) h a

pub last_notes_kept : (p x : ℕ) (old new : List Note) (hs ls : List LastNotes) → new ≡ old → KeepsOtherNotes hs ls p x → last_note_at ls p x ≡ last_note_at hs p x → AreLast old hs → AreLast new ls
last_notes_kept p x old new hs ls e k h a =
    let P : List Note → Type 0 = λ ns. AreLast ns ls in
    subst P (sym e) (are_last_keeps old hs ls (keeps_all hs ls p x k h) a)

pub journal_kept : (ms : List MarkAt) (old new : List Note) (ss us : List Scope) → us ≡ ss → new ≡ old → IsJournal ms old (length ss) → IsJournal ms new (length us)
journal_kept ms old new ss us e n j =
    let P : List Note × List Scope → Type 0 = λ t. IsJournal ms t.0 (length t.1) in
    subst P (λ i. (sym n i, sym e i)) j

pub room_kept : (old new : List Note) (rs qs : List (List ℕ)) → new ≡ old → ((q y : ℕ) → HasRoom rs q y → HasRoom qs q y) → All (HasRoomIn rs) old → All (HasRoomIn qs) new
room_kept old new rs qs n stays a = subst (All (HasRoomIn qs)) (sym n) (room-stays old rs qs stays a)

-- open and close

take-take : {A : Type 0} (n k : ℕ) (xs : List A) → n ≤ k → take n (take k xs) ≡ take n xs
take-take zero k xs h = refl
take-take (suc n) zero xs h = absurd (omega arith)
take-take (suc n) (suc k) [] h = refl
take-take (suc n) (suc k) (x ∷ xs) h = ap (λ ys. x ∷ ys) (take-take n k xs (omega arith))

marks-open : (ms : List MarkAt) (notes : List Note) (ss : List Scope) (s : Scope) → IsJournal ms notes (length ss) → marks_of ms notes (ss ++ s ∷ []) ≡ marks_of ms notes ss
marks-open [] notes ss s j = refl
marks-open (m ∷ ms) notes ss s j = ap (λ us. let K : List Scope = laid (noted_in m.notes notes) us in record { kept = K; noted = noted_in m.notes notes } ∷ marks_of ms (take m.notes notes) K) (take-append-le m.scopes ss (s ∷ []) j.1)

pub seen_open : (ms : List MarkAt) (notes : List Note) (ss ts : List Scope) (s : PlainStore) → seen ss notes ms ≡ s → IsJournal ms notes (length ss) → ts ≡ ss ++ empty ∷ [] → seen ts notes ms ≡ opened s
seen_open ms notes ss ts s e j t =
    ap (λ us. seen us notes ms) t ∙ ap (λ k. record { scopes = ss ++ empty ∷ []; marks = k }) (marks-open ms notes ss empty j) ∙ ap opened e

journal_close : (ms : List MarkAt) (notes : List Note) (ss : List Scope) → IsJournal ms notes (length ss) → IsOpenedSince (marks_of ms notes ss) (length ss) → IsJournal ms notes (length ss - 1)
journal_close [] notes ss j h = j
journal_close (m ∷ ms) notes ss j h = (j.0, omega (arith, h, length-laid (noted_in m.notes notes) (take m.scopes ss), length-take-le m.scopes ss j.1), j.2, j.3, j.4, j.5, j.6)

marks-close : (ms : List MarkAt) (notes : List Note) (ss : List Scope) (n : ℕ) → IsJournal ms notes n → marks_of ms notes (take n ss) ≡ marks_of ms notes ss
marks-close [] notes ss n j = refl
marks-close (m ∷ ms) notes ss n j = ap (λ us. let K : List Scope = laid (noted_in m.notes notes) us in record { kept = K; noted = noted_in m.notes notes } ∷ marks_of ms (take m.notes notes) K) (take-take m.scopes n ss j.1)

closable : (ms : List MarkAt) (notes : List Note) (ss : List Scope) (s : PlainStore) → seen ss notes ms ≡ s → IsClosable s → IsClosable (seen ss notes ms)
closable ms notes ss s e h = subst IsClosable (sym e) h

pub seen_close : (ms : List MarkAt) (notes : List Note) (ss ts : List Scope) (s : PlainStore) → seen ss notes ms ≡ s → IsJournal ms notes (length ss) → IsClosable s → ts ≡ take (length ss - 1) ss → seen ts notes ms ≡ closed s
seen_close ms notes ss ts s e j h t =
    let c : IsClosable (seen ss notes ms) = closable ms notes ss s e h in
    ap (λ us. seen us notes ms) t
    ∙ ap (λ k. record { scopes = take (length ss - 1) ss; marks = k }) (marks-close ms notes ss (length ss - 1) (journal_close ms notes ss j c.1))
    ∙ ap closed e

pub journal_closed : (ms : List MarkAt) (notes : List Note) (ss ts : List Scope) (s : PlainStore) → seen ss notes ms ≡ s → IsJournal ms notes (length ss) → IsClosable s → ts ≡ take (length ss - 1) ss → IsJournal ms notes (length ts)
journal_closed ms notes ss ts s e j h t =
    let c : IsClosable (seen ss notes ms) = closable ms notes ss s e h in
    let l : length ss - 1 ≡ length ts = sym (ap length t ∙ length-take-le (length ss - 1) ss (omega arith)) in
    let P : ℕ → Type 0 = λ n. IsJournal ms notes n in
    subst P l (journal_close ms notes ss j c.1)

pub room_closed : (ms : List MarkAt) (notes : List Note) (ss : List Scope) (s : PlainStore) (rs qs : List (List ℕ)) → seen ss notes ms ≡ s → IsJournal ms notes (length ss) → IsClosable s → qs ≡ take (length ss - 1) rs → All (HasRoomIn rs) notes → All (HasRoomIn qs) notes
room_closed ms notes ss s rs qs e j h q a =
    let c : IsClosable (seen ss notes ms) = closable ms notes ss s e h in
    let P : List (List ℕ) → Type 0 = λ ts. All (HasRoomIn ts) notes in
    subst P (sym q) (room-take notes rs (length ss - 1) (IsJournal-places ms notes (length ss - 1) (journal_close ms notes ss j c.1)) a)

pub closable_is : (newest : Option MarkAt) (older : List MarkAt) (notes : List Note) (ss : List Scope) (s : PlainStore) → seen ss notes (newest_first newest older) ≡ s → (newest ≡ None → older ≡ []) → IsJournal (newest_first newest older) notes (length ss) → (floor_of newest < length ss) ↔ IsClosable s
closable_is None older notes ss s e h j =
    let f : seen ss notes [] ≡ s = ap (λ ms. seen ss notes (reverse ms)) (sym (h refl)) ∙ e in
    (λ i. subst IsClosable f (i, tt), λ k. (subst IsClosable (sym f) k).0)
closable_is (Some m) older notes ss s e h j =
    let l : length (laid (noted_in m.notes notes) (take m.scopes ss)) ≡ m.scopes = length-laid (noted_in m.notes notes) (take m.scopes ss) ∙ length-take-le m.scopes ss j.1 in
    (λ i. subst IsClosable e (omega (arith, i, j.0), omega (arith, i, l)), λ k. omega (arith, l, (subst IsClosable (sym e) k).1))

pub last_notes_closed : (ms : List MarkAt) (notes : List Note) (ss : List Scope) (s : PlainStore) (hs ks : List LastNotes) → seen ss notes ms ≡ s → IsJournal ms notes (length ss) → IsClosable s → ks ≡ take (length ss - 1) hs → AreLast notes hs → AreLast notes ks
last_notes_closed ms notes ss s hs ks e j h q a =
    let c : IsClosable (seen ss notes ms) = closable ms notes ss s e h in
    are_last_take notes hs ks (length ss - 1) q (IsJournal-places ms notes (length ss - 1) (journal_close ms notes ss j c.1)) a

-- mark

newest_first-push : (newest : Option MarkAt) (older : List MarkAt) → reverse (older ++ option_to_list newest) ≡ newest_first newest older
newest_first-push None older = ap reverse (append-nil older)
newest_first-push (Some m) older = reverse-append older (m ∷ [])

pub seen_mark : (newest : Option MarkAt) (older new : List MarkAt) (notes : List Note) (ss : List Scope) (s : PlainStore) (a b : ℕ) → seen ss notes (newest_first newest older) ≡ s → new ≡ older ++ option_to_list newest → a ≡ length ss → b ≡ length notes
    → seen ss notes (newest_first (Some (record { scopes = a; notes = b })) new) ≡ marked s
seen_mark newest older new notes ss s a b e n f g =
    ap (λ ms. seen ss notes (record { scopes = a; notes = b } ∷ ms)) (ap reverse n ∙ newest_first-push newest older)
    ∙ ap (λ (k : ℕ × ℕ). seen ss notes (record { scopes = k.0; notes = k.1 } ∷ newest_first newest older)) (λ i. (f i, g i))
    ∙ ap (λ ms. record { scopes = ss; marks = ms }) (marks-mark (newest_first newest older) notes ss)
    ∙ ap marked e

pub journal_marked : (newest : Option MarkAt) (older new : List MarkAt) (notes : List Note) (count a b : ℕ) → IsJournal (newest_first newest older) notes count → 1 ≤ a → new ≡ older ++ option_to_list newest → a ≡ count → b ≡ length notes
    → IsJournal (newest_first (Some (record { scopes = a; notes = b })) new) notes count
journal_marked newest older new notes count a b j h n f g =
    let P : List MarkAt → Type 0 = λ ms. IsJournal (record { scopes = count; notes = length notes } ∷ ms) notes count in
    let Q : ℕ × ℕ → Type 0 = λ k. IsJournal (record { scopes = k.0; notes = k.1 } ∷ reverse new) notes count in
    subst Q (λ i. (sym f i, sym g i)) (subst P (sym (ap reverse n ∙ newest_first-push newest older)) (IsJournal-mark (newest_first newest older) notes count (rw (← f) h) j))

-- rollback

pub older_first : (mark : MarkAt) (newest : Option MarkAt) (older new : List MarkAt) → older ≡ new ++ option_to_list newest → newest_first (Some mark) older ≡ mark ∷ newest_first newest new
older_first mark newest older new e = ap (λ ms. mark ∷ ms) (ap reverse e ∙ newest_first-push newest new)

pub seen_rollback : (m : MarkAt) (ms : List MarkAt) (notes new : List Note) (ss ts us : List Scope) (s : PlainStore) → seen ss notes (m ∷ ms) ≡ s → ts ≡ take m.scopes ss → us ≡ laid_entries (entries_of (drop m.notes notes)) ts → new ≡ take m.notes notes
    → seen us new ms ≡ rolled_back s.marks s
seen_rollback m ms notes new ss ts us s e t u n =
    let k : us ≡ laid (noted_in m.notes notes) (take m.scopes ss) = marks-rollback m ms notes ss us (u ∙ ap (laid_entries (entries_of (drop m.notes notes))) t) in
    ap (λ ns. seen us ns ms) n ∙ ap (λ qs. seen qs (take m.notes notes) ms) k ∙ ap (λ (s : PlainStore). rolled_back s.marks s) e

pub laid_rollback : (m : MarkAt) (ms : List MarkAt) (notes : List Note) (ss ts us : List Scope) (s : PlainStore) → seen ss notes (m ∷ ms) ≡ s → IsJournal (m ∷ ms) notes (length ss) → ts ≡ take m.scopes ss → us ≡ laid_entries (entries_of (drop m.notes notes)) ts → IsLaid s.marks s.scopes us
laid_rollback m ms notes ss ts us s e j t u =
    let N = noted_in m.notes notes in
    let k : us ≡ laid (noted_in m.notes notes) (take m.scopes ss) = marks-rollback m ms notes ss us (u ∙ ap (laid_entries (entries_of (drop m.notes notes))) t) in
    let l : length (laid (noted_in m.notes notes) (take m.scopes ss)) ≡ m.scopes = length-laid (noted_in m.notes notes) (take m.scopes ss) ∙ length-take-le m.scopes ss j.1 in
    let P : PlainStore → Type 0 = λ s. IsLaid s.marks s.scopes us in
    subst P e (k ∙ ap (λ n. laid (noted_in m.notes notes) (take n ss)) (sym l))

pub journal_rollback : (m : MarkAt) (ms : List MarkAt) (notes new : List Note) (ss ts us : List Scope) → IsJournal (m ∷ ms) notes (length ss) → ts ≡ take m.scopes ss → us ≡ laid_entries (entries_of (drop m.notes notes)) ts → new ≡ take m.notes notes → IsJournal ms new (length us)
journal_rollback m ms notes new ss ts us j t u n =
    let l : m.scopes ≡ length us = sym (ap length (marks-rollback m ms notes ss us (u ∙ ap (laid_entries (entries_of (drop m.notes notes))) t)) ∙ length-laid (noted_in m.notes notes) (take m.scopes ss) ∙ length-take-le m.scopes ss j.1) in
    let P : ℕ → Type 0 = λ k. IsJournal ms new k in
    let Q : List Note → Type 0 = λ ns. IsJournal ms ns m.scopes in
    subst P l (subst Q (sym n) j.4)

pub room_restore : (m : MarkAt) (ms : List MarkAt) (notes : List Note) (count : ℕ) (rs qs : List (List ℕ)) → IsJournal (m ∷ ms) notes count → qs ≡ take m.scopes rs → All (HasRoomIn rs) notes → All (HasRoomIn qs) notes
room_restore m ms notes count rs qs j q a =
    let P : List (List ℕ) → Type 0 = λ ts. All (HasRoomIn ts) notes in
    let i : IsJournal (m ∷ ms) notes m.scopes = (j.0, omega arith, j.2, j.3, j.4, j.5, j.6) in
    subst P (sym q) (room-take notes rs m.scopes (IsJournal-places (m ∷ ms) notes m.scopes i) a)

pub room_rollback : (m : MarkAt) (ms : List MarkAt) (notes new : List Note) (count : ℕ) (rs qs ts : List (List ℕ)) → IsJournal (m ∷ ms) notes count → qs ≡ take m.scopes rs → ts ≡ qs → new ≡ take m.notes notes → All (HasRoomIn rs) notes → All (HasRoomIn ts) new
room_rollback m ms notes new count rs qs ts j q t n a =
    let P : List (List ℕ) → Type 0 = λ ts. All (HasRoomIn ts) new in
    subst P (sym t) (subst (All (HasRoomIn qs)) (sym n) (All-take (HasRoomIn qs) m.notes notes (room_restore m ms notes count rs qs j q a)))

pub last_notes_restore : (m : MarkAt) (ms : List MarkAt) (notes : List Note) (count : ℕ) (hs ks : List LastNotes) → IsJournal (m ∷ ms) notes count → ks ≡ take m.scopes hs → AreLast notes hs → AreLast notes ks
last_notes_restore m ms notes count hs ks j q a =
    let i : IsJournal (m ∷ ms) notes m.scopes = (j.0, omega arith, j.2, j.3, j.4, j.5, j.6) in
    are_last_take notes hs ks m.scopes q (IsJournal-places (m ∷ ms) notes m.scopes i) a

-- release

pub seen_release : (m : MarkAt) (newest : Option MarkAt) (older : List MarkAt) (notes new : List Note) (ss : List Scope) (s : PlainStore) → (newest ≡ None → older ≡ []) → seen ss notes (m ∷ newest_first newest older) ≡ s → IsJournal (m ∷ newest_first newest older) notes (length ss) → new ≡ passed_down newest m.notes notes
    → seen ss new (newest_first newest older) ≡ released s
seen_release m None older notes new ss s h e j n = ap (λ ns. seen ss ns (reverse older)) n ∙ rw (h refl) refl ∙ ap released e
seen_release m (Some l) older notes new ss s h e j n =
    ap (λ ns. seen ss ns (l ∷ reverse older)) n ∙ ap (λ ms. record { scopes = ss; marks = ms }) (marks-release l m (reverse older) notes ss j) ∙ ap released e

pub journal_release : (m : MarkAt) (newest : Option MarkAt) (older : List MarkAt) (notes new : List Note) (count : ℕ) → (newest ≡ None → older ≡ []) → IsJournal (m ∷ newest_first newest older) notes count → new ≡ passed_down newest m.notes notes → IsJournal (newest_first newest older) new count
journal_release m None older notes new count h j n = let P : List MarkAt → Type 0 = λ ms. IsJournal (reverse ms) new count in subst P (sym (h refl)) n
journal_release m (Some l) older notes new count h j n = let P : List Note → Type 0 = λ ns. IsJournal (l ∷ reverse older) ns count in subst P (sym n) (IsJournal-release l m (reverse older) notes count j)

pub room_released : (m : MarkAt) (newest : Option MarkAt) (notes new : List Note) (rs : List (List ℕ)) → new ≡ passed_down newest m.notes notes → All (HasRoomIn rs) notes → All (HasRoomIn rs) new
room_released m None notes new rs n a = subst (All (HasRoomIn rs)) (sym n) (All-nil (HasRoomIn rs))
room_released m (Some l) notes new rs n a = subst (All (HasRoomIn rs)) (sym n) (room-release (take m.notes notes) l m.notes notes rs a)
