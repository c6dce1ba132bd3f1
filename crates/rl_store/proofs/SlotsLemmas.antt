-- The variables of one scope, after a change of its map.
use Rattle.std.proofs.Common.{◌≡◌, ℕ, ◌==◌, Bool, true, false, cond, List, [], ◌∷◌, Option, Some, None, refl, sym, ap, ◌∙◌, subst, eqb-true, Result, Ok, Err}
use Rattle.std.specs.Bool.{IsTrue}
use Rattle.std.specs.Result.{OnOk, OnErr}
use Rattle.std.specs.Option.{is_some, IsSome, unwrap_or}
use Rattle.std.specs.Ordering.{nat_cmp, is_eq}
use Rattle.std.specs.Cmp.{nat_cmp_total}
use Rattle.std.specs.Map.{lookup}
use Rattle.std.specs.BTreeMap.{BTreeMap, Updates, is_at}
use Rattle.std.specs.BTreeMap as tree
use Rattle.std.specs.FinMap.{get, get-empty, same_map, nat_cmp-IsAntisymmetric}
use Rattle.std.proofs.lemmas.Map.Made.{is_some-lookup}
use Rattle.rl_value.specs.Plain.{Plain}
use Rattle.rl_store.specs.declared.slots.Slot.{Slot}
use Rattle.rl_store.specs.Scope.{changed}
use Rattle.rl_store.specs.Rooms.{Variables, has_room, last_note_in}
use Rattle.rl_store.specs.Slots.{values_of, rooms_of, last_notes_of, value_in}
use Rattle.rl_store.proofs.Laying.{get-changed, is_eq-Equal}
use Rattle.rl_store.proofs.LastNotes.{turned, nat_cmp-eqb}

cond-value_in : (b : Bool) (s : Slot) (o : Option Slot) → cond b s.value (value_in o) ≡ value_in (cond b (Some s) o)
cond-value_in true s o = refl
cond-value_in false s o = refl

pub get-values_of : (x : ℕ) (es : List (ℕ × Slot)) → get (values_of es) x ≡ value_in (lookup (is_at (nat_cmp x)) es)
get-values_of x [] = get-empty nat_cmp x
get-values_of x (e ∷ es) =
    get-changed (values_of es) e.0 e.1.value x
    ∙ ap (cond (is_eq (nat_cmp x e.0)) e.1.value) (get-values_of x es)
    ∙ cond-value_in (is_eq (nat_cmp x e.0)) e.1 (lookup (is_at (nat_cmp x)) es)

pub values-insert : (m n : BTreeMap ℕ Slot) (k : ℕ) (s : Slot) → Updates nat_cmp m n k (Some s) → values_of n.entries ≡ changed (values_of m.entries) k s.value
values-insert m n k s u = same_map nat_cmp_total nat_cmp-IsAntisymmetric _ _ (λ q.
    get-values_of q n.entries
    ∙ ap value_in (u.0 q)
    ∙ sym (cond-value_in (is_eq (nat_cmp k q)) s (tree.get nat_cmp m q))
    ∙ ap (λ b. cond b s.value (value_in (tree.get nat_cmp m q))) (turned k q)
    ∙ ap (cond (is_eq (nat_cmp q k)) s.value) (sym (get-values_of q m.entries))
    ∙ sym (get-changed (values_of m.entries) k s.value q))

pub has_room-get : (m : BTreeMap ℕ Slot) (x : ℕ) → has_room (rooms_of m.entries) x ≡ is_some (tree.get nat_cmp m x)
has_room-get m x = sym (is_some-lookup (is_at (nat_cmp x)) m.entries)

is_some-cond : (b : Bool) (s : Slot) (o : Option Slot) → IsTrue (is_some o) → IsTrue (is_some (cond b (Some s) o))
is_some-cond true s o h = refl
is_some-cond false s o h = h

pub has_room-stays : (m n : BTreeMap ℕ Slot) (k : ℕ) (s : Slot) → Updates nat_cmp m n k (Some s) → (q : ℕ) → IsTrue (has_room (rooms_of m.entries) q) → IsTrue (has_room (rooms_of n.entries) q)
has_room-stays m n k s u q h =
    rw (has_room-get n q, u.0 q) (is_some-cond (is_at (nat_cmp k) q) s (tree.get nat_cmp m q) (rw (has_room-get m q) at h))

pub has_room-insert : (m n : BTreeMap ℕ Slot) (k : ℕ) (s : Slot) → Updates nat_cmp m n k (Some s) → IsTrue (has_room (rooms_of n.entries) k)
has_room-insert m n k s u = rw (has_room-get n k, u.1) refl

no_value : (o : Option Slot) → is_some o ≡ false → value_in o ≡ None
no_value None h = refl
no_value (Some s) h = (cc)

absent : (b : Bool) (o : Option Plain) → (b ≡ true → o ≡ None) → cond b None o ≡ o
absent true o h = sym (h refl)
absent false o h = refl

-- room for a variable that has none is no value
pub values-room : (m n : BTreeMap ℕ Slot) (k : ℕ) (s : Slot) → Updates nat_cmp m n k (Some s) → s.value ≡ None → is_some (tree.get nat_cmp m k) ≡ false → values_of n.entries ≡ values_of m.entries
values-room m n k s u v h = values-insert m n k s u ∙ same_map nat_cmp_total nat_cmp-IsAntisymmetric _ _ (λ q.
    get-changed (values_of m.entries) k s.value q
    ∙ ap (λ o. cond (is_eq (nat_cmp q k)) o (get (values_of m.entries) q)) v
    ∙ absent (is_eq (nat_cmp q k)) (get (values_of m.entries) q) (λ e. get-values_of q m.entries ∙ no_value _ (subst (λ x. is_some (tree.get nat_cmp m x) ≡ false) (sym (nat_cmp-IsAntisymmetric q k (is_eq-Equal _ e))) h)))

known : (o : Option Slot) → is_some o ≡ true → o ≡ None → ⊥
known o h e = let k : is_some o ≡ false = rw e refl in (cc)

-- a variable with room is not refused
pub has_room-known : (m : BTreeMap ℕ Slot) (x : ℕ) → IsTrue (has_room (rooms_of m.entries) x) → tree.get nat_cmp m x ≡ None → ⊥
has_room-known m x h e = known (tree.get nat_cmp m x) (sym (has_room-get m x) ∙ h) e

IsSome-is_some : (o : Option Slot) → is_some o ≡ true → IsSome o
IsSome-is_some None h = (cc)
IsSome-is_some (Some s) h = refl

pub was_known : (m : BTreeMap ℕ Slot) (x : ℕ) (o : Option Slot) → IsTrue (has_room (rooms_of m.entries) x) → o ≡ tree.get nat_cmp m x → IsSome o
was_known m x o h e = IsSome-is_some o (ap is_some e ∙ sym (has_room-get m x) ∙ h)

-- one more than the place of the last note of the slot's variable
abbrev pub last_in : Option Slot → ℕ
last_in None = 0
last_in (Some s) = s.last_note

last_step : (b : Bool) (s : Slot) (o : Option ℕ) (r : Option Slot) → unwrap_or o 0 ≡ last_in r → unwrap_or (cond b (Some s.last_note) o) 0 ≡ last_in (cond b (Some s) r)
last_step true s o r h = refl
last_step false s o r h = h

pub last_note_in-last_notes_of : (x : ℕ) (es : List (ℕ × Slot)) → last_note_in (last_notes_of es) x ≡ last_in (lookup (is_at (nat_cmp x)) es)
last_note_in-last_notes_of x [] = refl
last_note_in-last_notes_of x (e ∷ es) = last_step (is_eq (nat_cmp x e.0)) e.1 (lookup (is_at (nat_cmp x)) (last_notes_of es)) (lookup (is_at (nat_cmp x)) es) (last_note_in-last_notes_of x es)

last_in-cond : (b : Bool) (s : Slot) (o : Option Slot) → last_in (cond b (Some s) o) ≡ cond b s.last_note (last_in o)
last_in-cond true s o = refl
last_in-cond false s o = refl

pub last_notes-insert : (m n : BTreeMap ℕ Slot) (k : ℕ) (s : Slot) → Updates nat_cmp m n k (Some s) → (q : ℕ) → last_note_in (last_notes_of n.entries) q ≡ cond (k == q) s.last_note (last_note_in (last_notes_of m.entries) q)
last_notes-insert m n k s u q =
    last_note_in-last_notes_of q n.entries
    ∙ ap last_in (u.0 q)
    ∙ last_in-cond (is_eq (nat_cmp k q)) s (tree.get nat_cmp m q)
    ∙ ap (λ b. cond b s.last_note (last_in (tree.get nat_cmp m q))) (nat_cmp-eqb k q)
    ∙ ap (cond (k == q) s.last_note) (sym (last_note_in-last_notes_of q m.entries))

same_last : (b : Bool) (n l : ℕ) → (b ≡ true → n ≡ l) → cond b n l ≡ l
same_last true n l h = h refl
same_last false n l h = refl

no_last : (o : Option Slot) → is_some o ≡ false → last_in o ≡ 0
no_last None h = refl
no_last (Some s) h = (cc)

-- room for a variable that has none is no note
pub last_notes-room : (m n : BTreeMap ℕ Slot) (k : ℕ) (s : Slot) → Updates nat_cmp m n k (Some s) → s.last_note ≡ 0 → is_some (tree.get nat_cmp m k) ≡ false → (q : ℕ) → last_note_in (last_notes_of n.entries) q ≡ last_note_in (last_notes_of m.entries) q
last_notes-room m n k s u v h q =
    last_notes-insert m n k s u q
    ∙ same_last (k == q) s.last_note (last_note_in (last_notes_of m.entries) q) (λ e.
    v ∙ sym (no_last (tree.get nat_cmp m k) h) ∙ sym (last_note_in-last_notes_of k m.entries) ∙ ap (last_note_in (last_notes_of m.entries)) (eqb-true k q e))

same_at : (b : Bool) (o p : Option Plain) → (b ≡ true → o ≡ p) → cond b o p ≡ p
same_at true o p h = h refl
same_at false o p h = refl

known_value : (s : Slot) (o : Option Slot) → Some s ≡ o → value_in o ≡ s.value
known_value s o e = sym (ap value_in e)

-- a slot with the value that it had
pub values-same : (m n : BTreeMap ℕ Slot) (k : ℕ) (s t : Slot) → Updates nat_cmp m n k (Some t) → Some s ≡ tree.get nat_cmp m k → t.value ≡ s.value → values_of n.entries ≡ values_of m.entries
values-same m n k s t u h v = values-insert m n k t u ∙ same_map nat_cmp_total nat_cmp-IsAntisymmetric _ _ (λ q.
    get-changed (values_of m.entries) k t.value q
    ∙ same_at (is_eq (nat_cmp q k)) t.value (get (values_of m.entries) q) (λ e.
    v ∙ sym (known_value s (tree.get nat_cmp m k) h) ∙ sym (get-values_of k m.entries) ∙ ap (get (values_of m.entries)) (sym (nat_cmp-IsAntisymmetric q k (is_eq-Equal _ e)))))

some_known : (s : Slot) (o : Option Slot) → Some s ≡ o → IsSome o
some_known s None e = (cc)
some_known s (Some t) e = refl

pub is_known : (m : BTreeMap ℕ Slot) (x : ℕ) (s : Slot) → Some s ≡ tree.get nat_cmp m x → IsSome (tree.get nat_cmp m x)
is_known m x s e = some_known s (tree.get nat_cmp m x) e

pub on_ok : {A E : Type 0} {P Q : Type 0} (r : Result A E) → (P → Q) → OnOk r P → OnOk r Q
on_ok (Ok a) f h = f h
on_ok (Err e) f h = h

pub on_err : {A E : Type 0} {P Q : Type 0} (r : Result A E) → (P → Q) → OnErr r P → OnErr r Q
on_err (Ok a) f h = h
on_err (Err e) f h = f h

pub on_both : {A E : Type 0} {P Q R : Type 0} (r : Result A E) → (P → Q → R) → OnOk r P → OnOk r Q → OnOk r R
on_both (Ok a) f h k = f h k
on_both (Err e) f h k = h

pub err_both : {A E : Type 0} {P Q R : Type 0} (r : Result A E) → (P → Q → R) → OnErr r P → OnErr r Q → OnErr r R
err_both (Ok a) f h k = h
err_both (Err e) f h k = f h k

pub ok_pair : {A E : Type 0} (P Q : Type 0) (r : Result A E) → OnOk r P → OnOk r Q → OnOk r (P × Q)
ok_pair P Q (Ok a) h k = (h, k)
ok_pair P Q (Err e) h k = h

pub err_pair : {A E : Type 0} (P Q : Type 0) (r : Result A E) → OnErr r P → OnErr r Q → OnErr r (P × Q)
err_pair P Q (Ok a) h k = h
err_pair P Q (Err e) h k = (h, k)

pub either_way : {A E : Type 0} {P Q R : Type 0} (r : Result A E) → OnOk r P → OnErr r Q → (P → R) → (Q → R) → R
either_way (Ok a) h k f g = f h
either_way (Err e) h k f g = g k

pub in_any : {A E : Type 0} {P : Type 0} (r : Result A E) → P → OnOk r P
in_any (Ok a) h = h
in_any (Err e) h = tt

-- the slot of a variable has its last note and its value
pub slot_last : (m : BTreeMap ℕ Slot) (x : ℕ) (s : Slot) → Some s ≡ tree.get nat_cmp m x → last_note_in (last_notes_of m.entries) x ≡ s.last_note
slot_last m x s e = last_note_in-last_notes_of x m.entries ∙ ap last_in (sym e)

pub slot_value : (m : BTreeMap ℕ Slot) (x : ℕ) (s : Slot) → Some s ≡ tree.get nat_cmp m x → get (values_of m.entries) x ≡ s.value
slot_value m x s e = get-values_of x m.entries ∙ ap value_in (sym e)

-- what a map holds whose slot of x became another, of what it held
module _ (m n : BTreeMap ℕ Slot) (x : ℕ) (old new : Slot) (v : Variables)
    (view : record { scope = values_of m.entries; room = rooms_of m.entries; last_notes = last_notes_of m.entries } ≡ v)
    (known : Some old ≡ tree.get nat_cmp m x) (u : Updates nat_cmp m n x (Some new)) where
  pub had_last : last_note_in v.last_notes x ≡ old.last_note
  had_last = sym (ap (λ (v : Variables). last_note_in v.last_notes x) view) ∙ slot_last m x old known

  pub had_value : get v.scope x ≡ old.value
  had_value = sym (ap (λ (v : Variables). get v.scope x) view) ∙ slot_value m x old known

  pub now_scope : (o : Option Plain) → new.value ≡ o → values_of n.entries ≡ changed v.scope x o
  now_scope o e = values-insert m n x new u ∙ ap (λ o. changed (values_of m.entries) x o) e ∙ ap (λ (v : Variables). changed v.scope x o) view

  pub now_last : last_note_in (last_notes_of n.entries) x ≡ new.last_note
  now_last = slot_last n x new (sym u.1)

  pub other_last : (q : ℕ) → (x == q) ≡ false → last_note_in (last_notes_of n.entries) q ≡ last_note_in v.last_notes q
  other_last q e =
      last_notes-insert m n x new u q ∙ ap (λ b. cond b new.last_note (last_note_in (last_notes_of m.entries) q)) e
      ∙ ap (λ (v : Variables). last_note_in v.last_notes q) view

  pub same_scope : new ≡ old → values_of n.entries ≡ v.scope
  same_scope e = values-same m n x old new u known (ap (λ (s : Slot). s.value) e) ∙ ap (λ (v : Variables). v.scope) view

  pub same_last_note : new ≡ old → last_note_in (last_notes_of n.entries) x ≡ last_note_in v.last_notes x
  same_last_note e = now_last ∙ ap (λ (s : Slot). s.last_note) e ∙ sym had_last
