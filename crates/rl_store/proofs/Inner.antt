-- The first scope and those inside it.
use Rattle.std.proofs.Common.{◌≡◌, ◌≢◌, ℕ, zero, suc, ◌-◌, ◌<◌, ◌≤◌, cond, List, [], ◌∷◌, ◌++◌, length, take, drop, set, get_or, map, Bor, Option, Some, None, refl, sym, ap, ◌∙◌, subst, arith, Result, Ok, Err, add-one, ◌⊎◌, inr, ⊎_elim, true, false, ◌+◌, ◌==◌, ◌&&◌}
use Rattle.std.specs.Bool.{IsTrue}
use Rattle.std.specs.Option.{option_or, is_some, option_copied}
use Rattle.std.specs.Result.{OnOk}
use Rattle.std.specs.FinMap.{get}
use Rattle.std.proofs.Math.Dec.{eqb-suc-zero, eqb-zero-suc, eqb-suc-suc}
use Rattle.rl_value.specs.Plain.{Plain}
use Rattle.rl_store.specs.Scope.{Scope, changed, value_at, changed_at, value_of, place_of}
use Rattle.rl_store.specs.Rooms.{Variables, Rooms, LastNotes, has_room, HasRoom, last_note_in, last_note_at, KeepsLastNotes, KeepsOtherNotes, SetsLastNote}

abbrev pub scopes_of : List Variables → List Scope
scopes_of vs = map (λ v. v.scope) vs

abbrev pub rooms_in : List Variables → List (List ℕ)
rooms_in vs = map (λ v. v.room) vs

abbrev pub last_notes_in : List Variables → List LastNotes
last_notes_in vs = map (λ v. v.last_notes) vs

pub value_at-scopes_of : (vs : List Variables) (p x : ℕ) (d : Variables) → p < length vs → value_at (scopes_of vs) p x ≡ get (get_or vs p d).scope x
value_at-scopes_of [] p x d h = absurd (omega arith)
value_at-scopes_of (v ∷ vs) zero x d h = refl
value_at-scopes_of (v ∷ vs) (suc p) x d h = value_at-scopes_of vs p x d (omega arith)

pub changed_at-scopes_of : (vs : List Variables) (p x : ℕ) (o : Option Plain) (v d : Variables) → p < length vs → v.scope ≡ changed (get_or vs p d).scope x o → scopes_of (set vs p v) ≡ changed_at (scopes_of vs) p x o
changed_at-scopes_of [] p x o v d h e = absurd (omega arith)
changed_at-scopes_of (w ∷ vs) zero x o v d h e = ap (λ s. s ∷ scopes_of vs) e
changed_at-scopes_of (w ∷ vs) (suc p) x o v d h e = ap (λ ss. w.scope ∷ ss) (changed_at-scopes_of vs p x o v d (omega arith) e)

pub same-scopes_of : (vs : List Variables) (p : ℕ) (v d : Variables) → p < length vs → v.scope ≡ (get_or vs p d).scope → scopes_of (set vs p v) ≡ scopes_of vs
same-scopes_of [] p v d h e = absurd (omega arith)
same-scopes_of (w ∷ vs) zero v d h e = ap (λ s. s ∷ scopes_of vs) e
same-scopes_of (w ∷ vs) (suc p) v d h e = ap (λ ss. w.scope ∷ ss) (same-scopes_of vs p v d (omega arith) e)

pub same-rooms_in : (vs : List Variables) (p : ℕ) (v d : Variables) → p < length vs → v.room ≡ (get_or vs p d).room → rooms_in (set vs p v) ≡ rooms_in vs
same-rooms_in [] p v d h e = absurd (omega arith)
same-rooms_in (w ∷ vs) zero v d h e = ap (λ s. s ∷ rooms_in vs) e
same-rooms_in (w ∷ vs) (suc p) v d h e = ap (λ ss. w.room ∷ ss) (same-rooms_in vs p v d (omega arith) e)

pub HasRoom-set : (vs : List Variables) (p x : ℕ) (v d : Variables) → p < length vs → IsTrue (has_room v.room x) → HasRoom (rooms_in (set vs p v)) p x
HasRoom-set [] p x v d h e = absurd (omega arith)
HasRoom-set (w ∷ vs) zero x v d h e = e
HasRoom-set (w ∷ vs) (suc p) x v d h e = HasRoom-set vs p x v d (omega arith) e

pub HasRoom-stays : (vs : List Variables) (p : ℕ) (v d : Variables) → p < length vs → ((x : ℕ) → IsTrue (has_room (get_or vs p d).room x) → IsTrue (has_room v.room x)) → (q x : ℕ) → HasRoom (rooms_in vs) q x → HasRoom (rooms_in (set vs p v)) q x
HasRoom-stays [] p v d h e q x r = absurd (omega arith)
HasRoom-stays (w ∷ vs) zero v d h e zero x r = e x r
HasRoom-stays (w ∷ vs) zero v d h e (suc q) x r = r
HasRoom-stays (w ∷ vs) (suc p) v d h e zero x r = r
HasRoom-stays (w ∷ vs) (suc p) v d h e (suc q) x r = HasRoom-stays vs p v d (omega arith) e q x r

pub HasRoom-get_or : (vs : List Variables) (p x : ℕ) (d : Variables) → HasRoom (rooms_in vs) p x → (p < length vs) × IsTrue (has_room (get_or vs p d).room x)
HasRoom-get_or [] p x d r = absurd r
HasRoom-get_or (w ∷ vs) zero x d r = (omega arith, r)
HasRoom-get_or (w ∷ vs) (suc p) x d r = let i = HasRoom-get_or vs p x d r in (omega (arith, i.0), i.1)

pub HasRoom-append : (rs qs : List (List ℕ)) (p x : ℕ) → HasRoom rs p x → HasRoom (rs ++ qs) p x
HasRoom-append [] qs p x r = absurd r
HasRoom-append (w ∷ rs) qs zero x r = r
HasRoom-append (w ∷ rs) qs (suc p) x r = HasRoom-append rs qs p x r

pub HasRoom-take : (n : ℕ) (rs : List (List ℕ)) (p x : ℕ) → p < n → HasRoom rs p x → HasRoom (take n rs) p x
HasRoom-take zero rs p x h r = absurd (omega arith)
HasRoom-take (suc n) [] p x h r = absurd r
HasRoom-take (suc n) (w ∷ rs) zero x h r = r
HasRoom-take (suc n) (w ∷ rs) (suc p) x h r = HasRoom-take n rs p x (omega arith) r

-- a place that is not 0 is one more than another
one_less : (p : ℕ) → suc p - 1 ≡ p
one_less p = omega arith

value_at-inner : (s : Scope) (ss : List Scope) (p x : ℕ) → p ≢ 0 → value_at (s ∷ ss) p x ≡ value_at ss (p - 1) x
value_at-inner s ss zero x n = absurd (n refl)
value_at-inner s ss (suc p) x n = ap (λ q. value_at ss q x) (sym (one_less p))

changed_at-inner : (s : Scope) (ss : List Scope) (p x : ℕ) (o : Option Plain) → p ≢ 0 → changed_at (s ∷ ss) p x o ≡ s ∷ changed_at ss (p - 1) x o
changed_at-inner s ss zero x o n = absurd (n refl)
changed_at-inner s ss (suc p) x o n = ap (λ q. s ∷ changed_at ss q x o) (sym (one_less p))

HasRoom-inner : (r : List ℕ) (rs : List (List ℕ)) (p x : ℕ) → p ≢ 0 → HasRoom (r ∷ rs) p x → HasRoom rs (p - 1) x
HasRoom-inner r rs zero x n h = absurd (n refl)
HasRoom-inner r rs (suc p) x n h = let P : ℕ → Type 0 = λ q. HasRoom rs q x in subst P (sym (one_less p)) h

HasRoom-outer : (r : List ℕ) (rs : List (List ℕ)) (p x : ℕ) → p ≢ 0 → HasRoom rs (p - 1) x → HasRoom (r ∷ rs) p x
HasRoom-outer r rs zero x n h = absurd (n refl)
HasRoom-outer r rs (suc p) x n h = let P : ℕ → Type 0 = λ q. HasRoom rs q x in subst P (one_less p) h

length-scopes_of : (vs : List Variables) → length (scopes_of vs) ≡ length vs
length-scopes_of [] = refl
length-scopes_of (v ∷ vs) = ap suc (length-scopes_of vs)

abbrev pub whole : Variables → List Variables → Rooms
whole f vs = record { scopes = f.scope ∷ scopes_of vs; rooms = f.room ∷ rooms_in vs; last_notes = f.last_notes ∷ last_notes_in vs }

pub inner_within : (f : Variables) (vs : List Variables) (r : Rooms) (p : ℕ) → whole f vs ≡ r → p ≢ 0 → p < length r.scopes → p - 1 < length vs
inner_within f vs r p e n h = omega (arith, ap (λ (r : Rooms). length r.scopes) e, length-scopes_of vs)

pub inner_value : (f : Variables) (vs : List Variables) (r : Rooms) (p x : ℕ) (d : Variables) → whole f vs ≡ r → p ≢ 0 → p < length r.scopes → d ≡ get_or vs (p - 1) d → get d.scope x ≡ value_at r.scopes p x
inner_value f vs r p x d e n h i =
    ap (λ (v : Variables). get v.scope x) i
    ∙ sym (value_at-scopes_of vs (p - 1) x d (inner_within f vs r p e n h))
    ∙ sym (value_at-inner f.scope (scopes_of vs) p x n)
    ∙ ap (λ (r : Rooms). value_at r.scopes p x) e

pub inner_room : (f : Variables) (vs : List Variables) (r : Rooms) (p x : ℕ) (d : Variables) → whole f vs ≡ r → p ≢ 0 → HasRoom r.rooms p x → (p - 1 < length vs) × IsTrue (has_room (get_or vs (p - 1) d).room x)
inner_room f vs r p x d e n h =
    let P : Rooms → Type 0 = λ r. HasRoom r.rooms p x in
    HasRoom-get_or vs (p - 1) x d (HasRoom-inner f.room (rooms_in vs) p x n (subst P (sym e) h))

pub inner_changed : (f : Variables) (vs : List Variables) (r : Rooms) (p x : ℕ) (o : Option Plain) (v d : Variables) → whole f vs ≡ r → p ≢ 0 → p - 1 < length vs → d ≡ get_or vs (p - 1) d → v.scope ≡ changed d.scope x o → f.scope ∷ scopes_of (set vs (p - 1) v) ≡ changed_at r.scopes p x o
inner_changed f vs r p x o v d e n h i c =
    ap (λ ss. f.scope ∷ ss) (changed_at-scopes_of vs (p - 1) x o v d h (c ∙ ap (λ (w : Variables). changed w.scope x o) i))
    ∙ sym (changed_at-inner f.scope (scopes_of vs) p x o n)
    ∙ ap (λ (r : Rooms). changed_at r.scopes p x o) e

pub inner_same_scopes : (f : Variables) (vs : List Variables) (r : Rooms) (p : ℕ) (v d : Variables) → whole f vs ≡ r → p - 1 < length vs → d ≡ get_or vs (p - 1) d → v.scope ≡ d.scope → f.scope ∷ scopes_of (set vs (p - 1) v) ≡ r.scopes
inner_same_scopes f vs r p v d e h i c =
    ap (λ ss. f.scope ∷ ss) (same-scopes_of vs (p - 1) v d h (c ∙ ap (λ (w : Variables). w.scope) i)) ∙ ap (λ (r : Rooms). r.scopes) e

pub inner_same_rooms : (f : Variables) (vs : List Variables) (r : Rooms) (p : ℕ) (v d : Variables) → whole f vs ≡ r → p - 1 < length vs → d ≡ get_or vs (p - 1) d → v.room ≡ d.room → f.room ∷ rooms_in (set vs (p - 1) v) ≡ r.rooms
inner_same_rooms f vs r p v d e h i c =
    ap (λ rs. f.room ∷ rs) (same-rooms_in vs (p - 1) v d h (c ∙ ap (λ (w : Variables). w.room) i)) ∙ ap (λ (r : Rooms). r.rooms) e

pub inner_has_room : (f : Variables) (vs : List Variables) (p x : ℕ) (v d : Variables) → p ≢ 0 → p - 1 < length vs → IsTrue (has_room v.room x) → HasRoom (f.room ∷ rooms_in (set vs (p - 1) v)) p x
inner_has_room f vs p x v d n h i = HasRoom-outer f.room (rooms_in (set vs (p - 1) v)) p x n (HasRoom-set vs (p - 1) x v d h i)

first_or_inner : (r : List ℕ) (rs qs : List (List ℕ)) → ((q x : ℕ) → HasRoom rs q x → HasRoom qs q x) → (q x : ℕ) → HasRoom (r ∷ rs) q x → HasRoom (r ∷ qs) q x
first_or_inner r rs qs f zero x h = h
first_or_inner r rs qs f (suc q) x h = f q x h

pub inner_stays : (f : Variables) (vs : List Variables) (r : Rooms) (p : ℕ) (v d : Variables) → whole f vs ≡ r → p - 1 < length vs → d ≡ get_or vs (p - 1) d → ((x : ℕ) → IsTrue (has_room d.room x) → IsTrue (has_room v.room x)) → (q x : ℕ) → HasRoom r.rooms q x → HasRoom (f.room ∷ rooms_in (set vs (p - 1) v)) q x
inner_stays f vs r p v d e h i g q x k =
    let P : Rooms → Type 0 = λ r. HasRoom r.rooms q x in
    let D : Variables → Type 0 = λ w. (x : ℕ) → IsTrue (has_room w.room x) → IsTrue (has_room v.room x) in
    first_or_inner f.room (rooms_in vs) (rooms_in (set vs (p - 1) v)) (HasRoom-stays vs (p - 1) v d h (subst D i g)) q x (subst P (sym e) k)

take-scopes_of : (n : ℕ) (vs : List Variables) → scopes_of (take n vs) ≡ take n (scopes_of vs)
take-scopes_of zero vs = refl
take-scopes_of (suc n) [] = refl
take-scopes_of (suc n) (v ∷ vs) = ap (λ ss. v.scope ∷ ss) (take-scopes_of n vs)

take-rooms_in : (n : ℕ) (vs : List Variables) → rooms_in (take n vs) ≡ take n (rooms_in vs)
take-rooms_in zero vs = refl
take-rooms_in (suc n) [] = refl
take-rooms_in (suc n) (v ∷ vs) = ap (λ rs. v.room ∷ rs) (take-rooms_in n vs)

pub front_scopes : (f : Variables) (vs ws : List Variables) (r : Rooms) (n : ℕ) → whole f vs ≡ r → 1 ≤ n → ws ≡ take (n - 1) vs → f.scope ∷ scopes_of ws ≡ take n r.scopes
front_scopes f vs ws r zero e h i = absurd (omega arith)
front_scopes f vs ws r (suc n) e h i =
    ap (λ ws. f.scope ∷ scopes_of ws) (i ∙ ap (λ m. take m vs) (one_less n))
    ∙ ap (λ ss. f.scope ∷ ss) (take-scopes_of n vs) ∙ ap (λ (r : Rooms). take (suc n) r.scopes) e

pub front_rooms : (f : Variables) (vs ws : List Variables) (r : Rooms) (n : ℕ) → whole f vs ≡ r → 1 ≤ n → ws ≡ take (n - 1) vs → f.room ∷ rooms_in ws ≡ take n r.rooms
front_rooms f vs ws r zero e h i = absurd (omega arith)
front_rooms f vs ws r (suc n) e h i =
    ap (λ ws. f.room ∷ rooms_in ws) (i ∙ ap (λ m. take m vs) (one_less n))
    ∙ ap (λ ss. f.room ∷ ss) (take-rooms_in n vs) ∙ ap (λ (r : Rooms). take (suc n) r.rooms) e

rooms_in-push : (vs : List Variables) (v : Variables) → rooms_in (vs ++ v ∷ []) ≡ rooms_in vs ++ v.room ∷ []
rooms_in-push [] v = refl
rooms_in-push (w ∷ vs) v = ap (λ rs. w.room ∷ rs) (rooms_in-push vs v)

pub push_stays : (f : Variables) (vs ws : List Variables) (v : Variables) (r : Rooms) → whole f vs ≡ r → ws ≡ vs ++ v ∷ [] → (q x : ℕ) → HasRoom r.rooms q x → HasRoom (f.room ∷ rooms_in ws) q x
push_stays f vs ws v r e i q x k =
    let P : Rooms → Type 0 = λ r. HasRoom r.rooms q x in
    let Q : List (List ℕ) → Type 0 = λ rs. HasRoom (f.room ∷ rs) q x in
    subst Q (sym (ap rooms_in i ∙ rooms_in-push vs v))
    (first_or_inner f.room (rooms_in vs) (rooms_in vs ++ v.room ∷ []) (HasRoom-append (rooms_in vs) (v.room ∷ [])) q x (subst P (sym e) k))

pub on_ok : {A E : Type 0} {P Q : Type 0} (r : Result A E) → (P → Q) → OnOk r P → OnOk r Q
on_ok (Ok a) f h = f h
on_ok (Err e) f h = h

nothing : {A : Type 0} (o : Option A) → o ≡ None → is_some o ≡ false
nothing None e = refl
nothing (Some x) e = (cc)

-- a scope without the variable, below scopes without it
pub value_of-drop : (ss : List Scope) (p x : ℕ) → value_of (drop (suc p) ss) x ≡ None → value_at ss p x ≡ None → value_of (drop p ss) x ≡ None
value_of-drop [] zero x h e = refl
value_of-drop [] (suc p) x h e = refl
value_of-drop (s ∷ ss) zero x h e = ap (λ o. option_or o (get s x)) h ∙ e
value_of-drop (s ∷ ss) (suc p) x h e = value_of-drop ss p x h e

some_below : (ss : List Scope) (p x : ℕ) → is_some (value_at ss p x) ≡ true → is_some (value_of ss x) ≡ true
some_below [] p x e = (cc)
some_below (s ∷ ss) zero x e = elim (value_of ss x) as (λ o. is_some (option_or o (get s x)) ≡ true) [ None ↦ e | Some v ↦ refl ]
some_below (s ∷ ss) (suc p) x e = let h : is_some (value_of ss x) ≡ true = some_below ss p x e in
    elim (value_of ss x) as (λ o. is_some o ≡ true → is_some (option_or o (get s x)) ≡ true) [ None ↦ λ k. (cc) | Some v ↦ λ _. refl ] h

-- the place from which on no scope has the variable, and that is the first or has it
pub place_of-is : (ss : List Scope) (p x : ℕ) → value_of (drop (suc p) ss) x ≡ None → (p ≡ 0) ⊎ (is_some (value_at ss p x) ≡ true) → place_of ss x ≡ p
place_of-is [] zero x h e = refl
place_of-is [] (suc p) x h e = ⊎_elim (λ z. (cc)) (λ z. (cc)) e
place_of-is (s ∷ ss) zero x h e = ap (λ b. cond b (place_of ss x + 1) 0) (nothing (value_of ss x) h)
place_of-is (s ∷ ss) (suc p) x h e =
    let has : is_some (value_at ss p x) ≡ true = ⊎_elim (λ z. (cc)) (λ z. z) e in
    ap (λ b. cond b (place_of ss x + 1) 0) (some_below ss p x has)
    ∙ rw add-one (ap suc (place_of-is ss p x h (inr has)))

-- what stands at that place
pub value_at-place_of : (ss : List Scope) (x : ℕ) → value_at ss (place_of ss x) x ≡ value_of ss x
value_at-place_of [] x = refl
value_at-place_of (s ∷ []) x = refl
value_at-place_of (s ∷ t ∷ ss) x =
    elim (value_of (t ∷ ss) x) as (λ o. value_of (t ∷ ss) x ≡ o → value_at (s ∷ t ∷ ss) (cond (is_some o) (place_of (t ∷ ss) x + 1) 0) x ≡ option_or o (get s x)) [
      | None ↦ λ _. refl
      | Some v ↦ λ e. rw add-one (value_at-place_of (t ∷ ss) x ∙ e)
    ] refl

pub value_of-past : (ss : List Scope) (n x : ℕ) → length ss ≤ n → value_of (drop n ss) x ≡ None
value_of-past [] zero x h = refl
value_of-past [] (suc n) x h = refl
value_of-past (s ∷ ss) zero x h = absurd (omega arith)
value_of-past (s ∷ ss) (suc n) x h = value_of-past ss n x (omega arith)

is_some-copied : {X : Type 0} (r : Option (Bor X)) → is_some (option_copied r) ≡ is_some r
is_some-copied None = refl
is_some-copied (Some x) = refl

is_some-None : {X : Type 0} (o : Option X) → is_some o ≡ false → o ≡ None
is_some-None None e = refl
is_some-None (Some x) e = (cc)

-- one step down, where the scope does not have the variable
pub step_down : (ss : List Scope) (p x : ℕ) (r : Option (Bor Plain)) → 0 < p → value_of (drop (suc p) ss) x ≡ None → option_copied r ≡ value_at ss p x → is_some r ≡ false → value_of (drop (suc (p - 1)) ss) x ≡ None
step_down ss zero x r h n e b = absurd (omega arith)
step_down ss (suc p) x r h n e b =
    let k : value_at ss (suc p) x ≡ None = sym e ∙ is_some-None (option_copied r) (is_some-copied r ∙ b) in
    ap (λ q. value_of (drop (suc q) ss) x) (one_less p) ∙ value_of-drop ss (suc p) x n k

pub found : (ss : List Scope) (p x : ℕ) (r : Option (Bor Plain)) → value_of (drop (suc p) ss) x ≡ None → option_copied r ≡ value_at ss p x → is_some r ≡ true → place_of ss x ≡ p
found ss p x r n e b = place_of-is ss p x n (inr (ap is_some (sym e) ∙ is_some-copied r ∙ b))

-- last notes

last_note_at-in : (vs : List Variables) (p x : ℕ) (d : Variables) → p < length vs → last_note_at (last_notes_in vs) p x ≡ last_note_in (get_or vs p d).last_notes x
last_note_at-in [] p x d h = absurd (omega arith)
last_note_at-in (v ∷ vs) zero x d h = refl
last_note_at-in (v ∷ vs) (suc p) x d h = last_note_at-in vs p x d (omega arith)

last_note_at-inner : (l : LastNotes) (ls : List LastNotes) (p x : ℕ) → p ≢ 0 → last_note_at (l ∷ ls) p x ≡ last_note_at ls (p - 1) x
last_note_at-inner l ls zero x n = absurd (n refl)
last_note_at-inner l ls (suc p) x n = ap (λ q. last_note_at ls q x) (sym (one_less p))

pub inner_last_note : (f : Variables) (vs : List Variables) (r : Rooms) (p x : ℕ) (d : Variables) → whole f vs ≡ r → p ≢ 0 → p < length r.scopes → d ≡ get_or vs (p - 1) d → last_note_in d.last_notes x ≡ last_note_at r.last_notes p x
inner_last_note f vs r p x d e n h i =
    ap (λ (v : Variables). last_note_in v.last_notes x) i
    ∙ sym (last_note_at-in vs (p - 1) x d (inner_within f vs r p e n h))
    ∙ sym (last_note_at-inner f.last_notes (last_notes_in vs) p x n)
    ∙ ap (λ (r : Rooms). last_note_at r.last_notes p x) e

keeps-set : (vs : List Variables) (p : ℕ) (v d : Variables) → p < length vs → ((x : ℕ) → last_note_in v.last_notes x ≡ last_note_in (get_or vs p d).last_notes x) → KeepsLastNotes (last_notes_in vs) (last_notes_in (set vs p v))
keeps-set [] p v d h e q x = absurd (omega arith)
keeps-set (w ∷ vs) zero v d h e zero x = e x
keeps-set (w ∷ vs) zero v d h e (suc q) x = refl
keeps-set (w ∷ vs) (suc p) v d h e zero x = refl
keeps-set (w ∷ vs) (suc p) v d h e (suc q) x = keeps-set vs p v d (omega arith) e q x

keeps-first : (l : LastNotes) (ls ks : List LastNotes) → KeepsLastNotes ls ks → KeepsLastNotes (l ∷ ls) (l ∷ ks)
keeps-first l ls ks k zero x = refl
keeps-first l ls ks k (suc q) x = k q x

pub inner_keeps : (f : Variables) (vs : List Variables) (r : Rooms) (p : ℕ) (v d : Variables) → whole f vs ≡ r → p - 1 < length vs → d ≡ get_or vs (p - 1) d → ((x : ℕ) → last_note_in v.last_notes x ≡ last_note_in d.last_notes x) → KeepsLastNotes r.last_notes (f.last_notes ∷ last_notes_in (set vs (p - 1) v))
inner_keeps f vs r p v d e h i g =
    let P : Rooms → Type 0 = λ r. KeepsLastNotes r.last_notes (f.last_notes ∷ last_notes_in (set vs (p - 1) v)) in
    subst P e (keeps-first f.last_notes (last_notes_in vs) (last_notes_in (set vs (p - 1) v)) (keeps-set vs (p - 1) v d h (λ x. g x ∙ ap (λ (w : Variables). last_note_in w.last_notes x) i)))

keeps_first_of : (f g : Variables) (vs : List Variables) → ((x : ℕ) → last_note_in g.last_notes x ≡ last_note_in f.last_notes x) → KeepsLastNotes (f.last_notes ∷ last_notes_in vs) (g.last_notes ∷ last_notes_in vs)
keeps_first_of f g vs h zero x = h x
keeps_first_of f g vs h (suc q) x = refl

pub first_keeps : (f g : Variables) (vs : List Variables) (r : Rooms) → whole f vs ≡ r → ((x : ℕ) → last_note_in g.last_notes x ≡ last_note_in f.last_notes x) → KeepsLastNotes r.last_notes (g.last_notes ∷ last_notes_in vs)
first_keeps f g vs r e h =
    let P : Rooms → Type 0 = λ r. KeepsLastNotes r.last_notes (g.last_notes ∷ last_notes_in vs) in
    subst P e (keeps_first_of f g vs h)

-- of one scope, the variable has the last note l
abbrev pub SetsLast : LastNotes → LastNotes → ℕ → ℕ → Type 0
SetsLast old new variable l = (x : ℕ) → last_note_in new x ≡ cond (variable == x) l (last_note_in old x)

sets_zero : (a b : LastNotes) (ls : List LastNotes) (x l : ℕ) → SetsLast a b x l → SetsLastNote (a ∷ ls) (b ∷ ls) zero x l
sets_zero a b ls x l h zero y = h y
sets_zero a b ls x l h (suc q) y = ap (λ b. cond (b && (x == y)) l (last_note_at ls q y)) (sym (eqb-zero-suc q))

sets_suc : (a : LastNotes) (ls ks : List LastNotes) (p x l : ℕ) → SetsLastNote ls ks p x l → SetsLastNote (a ∷ ls) (a ∷ ks) (suc p) x l
sets_suc a ls ks p x l h zero y = ap (λ b. cond (b && (x == y)) l (last_note_in a y)) (sym (eqb-suc-zero p))
sets_suc a ls ks p x l h (suc q) y = h q y ∙ ap (λ b. cond (b && (x == y)) l (last_note_at ls q y)) (sym (eqb-suc-suc p q))

sets-set : (vs : List Variables) (p x l : ℕ) (v d : Variables) → p < length vs → SetsLast (get_or vs p d).last_notes v.last_notes x l → SetsLastNote (last_notes_in vs) (last_notes_in (set vs p v)) p x l
sets-set [] p x l v d h e = absurd (omega arith)
sets-set (w ∷ vs) zero x l v d h e = sets_zero w.last_notes v.last_notes (last_notes_in vs) x l e
sets-set (w ∷ vs) (suc p) x l v d h e = sets_suc w.last_notes (last_notes_in vs) (last_notes_in (set vs p v)) p x l (sets-set vs p x l v d (omega arith) e)

sets-inner : (a : LastNotes) (ls ks : List LastNotes) (p x l : ℕ) → p ≢ 0 → SetsLastNote ls ks (p - 1) x l → SetsLastNote (a ∷ ls) (a ∷ ks) p x l
sets-inner a ls ks zero x l n h = absurd (n refl)
sets-inner a ls ks (suc p) x l n h = let P : ℕ → Type 0 = λ q. SetsLastNote ls ks q x l in sets_suc a ls ks p x l (subst P (one_less p) h)

pub inner_sets : (f : Variables) (vs : List Variables) (r : Rooms) (p x l : ℕ) (v d : Variables) → whole f vs ≡ r → p ≢ 0 → p - 1 < length vs → d ≡ get_or vs (p - 1) d → SetsLast d.last_notes v.last_notes x l → SetsLastNote r.last_notes (f.last_notes ∷ last_notes_in (set vs (p - 1) v)) p x l
inner_sets f vs r p x l v d e n h i s =
    let P : Rooms → Type 0 = λ r. SetsLastNote r.last_notes (f.last_notes ∷ last_notes_in (set vs (p - 1) v)) p x l in
    let D : Variables → Type 0 = λ w. SetsLast w.last_notes v.last_notes x l in
    subst P e (sets-inner f.last_notes (last_notes_in vs) (last_notes_in (set vs (p - 1) v)) p x l n (sets-set vs (p - 1) x l v d h (subst D i s)))

pub first_sets : (f g : Variables) (vs : List Variables) (r : Rooms) (p x l : ℕ) → whole f vs ≡ r → p ≡ 0 → SetsLast f.last_notes g.last_notes x l → SetsLastNote r.last_notes (g.last_notes ∷ last_notes_in vs) p x l
first_sets f g vs r p x l e z s =
    let P : Rooms × ℕ → Type 0 = λ t. SetsLastNote t.0.last_notes (g.last_notes ∷ last_notes_in vs) t.1 x l in
    subst P (λ i. (e i, sym z i)) (sets_zero f.last_notes g.last_notes (last_notes_in vs) x l s)

take-last_notes_in : (n : ℕ) (vs : List Variables) → last_notes_in (take n vs) ≡ take n (last_notes_in vs)
take-last_notes_in zero vs = refl
take-last_notes_in (suc n) [] = refl
take-last_notes_in (suc n) (v ∷ vs) = ap (λ ls. v.last_notes ∷ ls) (take-last_notes_in n vs)

pub front_last_notes : (f : Variables) (vs ws : List Variables) (r : Rooms) (n : ℕ) → whole f vs ≡ r → 1 ≤ n → ws ≡ take (n - 1) vs → f.last_notes ∷ last_notes_in ws ≡ take n r.last_notes
front_last_notes f vs ws r zero e h i = absurd (omega arith)
front_last_notes f vs ws r (suc n) e h i =
    ap (λ ws. f.last_notes ∷ last_notes_in ws) (i ∙ ap (λ m. take m vs) (one_less n))
    ∙ ap (λ ls. f.last_notes ∷ ls) (take-last_notes_in n vs) ∙ ap (λ (r : Rooms). take (suc n) r.last_notes) e

keeps-push : (vs : List Variables) (v : Variables) → v.last_notes ≡ [] → KeepsLastNotes (last_notes_in vs) (last_notes_in (vs ++ v ∷ []))
keeps-push [] v e zero x = ap (λ l. last_note_in l x) e
keeps-push [] v e (suc q) x = refl
keeps-push (w ∷ vs) v e zero x = refl
keeps-push (w ∷ vs) v e (suc q) x = keeps-push vs v e q x

pub push_keeps : (f : Variables) (vs ws : List Variables) (v : Variables) (r : Rooms) → whole f vs ≡ r → ws ≡ vs ++ v ∷ [] → v.last_notes ≡ [] → KeepsLastNotes r.last_notes (f.last_notes ∷ last_notes_in ws)
push_keeps f vs ws v r e i h =
    let P : Rooms × List Variables → Type 0 = λ t. KeepsLastNotes t.0.last_notes (f.last_notes ∷ last_notes_in t.1) in
    subst P (λ j. (e j, sym i j)) (keeps-first f.last_notes (last_notes_in vs) (last_notes_in (vs ++ v ∷ [])) (keeps-push vs v h))

-- a variable of one scope is set, and the last notes of the others stay

abbrev pub KeepsOthers : LastNotes → LastNotes → ℕ → Type 0
KeepsOthers old new variable = (x : ℕ) → (variable == x) ≡ false → last_note_in new x ≡ last_note_in old x

last_note_at-set : (vs : List Variables) (p x : ℕ) (v : Variables) → p < length vs → last_note_at (last_notes_in (set vs p v)) p x ≡ last_note_in v.last_notes x
last_note_at-set [] p x v h = absurd (omega arith)
last_note_at-set (w ∷ vs) zero x v h = refl
last_note_at-set (w ∷ vs) (suc p) x v h = last_note_at-set vs p x v (omega arith)

pub inner_now_last : (f : Variables) (vs : List Variables) (p x : ℕ) (v : Variables) → p ≢ 0 → p - 1 < length vs → last_note_at (f.last_notes ∷ last_notes_in (set vs (p - 1) v)) p x ≡ last_note_in v.last_notes x
inner_now_last f vs p x v n h = last_note_at-inner f.last_notes (last_notes_in (set vs (p - 1) v)) p x n ∙ last_note_at-set vs (p - 1) x v h

others_zero : (a b : LastNotes) (ls : List LastNotes) (x : ℕ) → KeepsOthers a b x → KeepsOtherNotes (a ∷ ls) (b ∷ ls) zero x
others_zero a b ls x h zero y e = h y e
others_zero a b ls x h (suc q) y e = refl

others_suc : (a : LastNotes) (ls ks : List LastNotes) (p x : ℕ) → KeepsOtherNotes ls ks p x → KeepsOtherNotes (a ∷ ls) (a ∷ ks) (suc p) x
others_suc a ls ks p x h zero y e = refl
others_suc a ls ks p x h (suc q) y e = h q y (ap (λ b. b && (x == y)) (sym (eqb-suc-suc p q)) ∙ e)

others-set : (vs : List Variables) (p x : ℕ) (v d : Variables) → p < length vs → KeepsOthers (get_or vs p d).last_notes v.last_notes x → KeepsOtherNotes (last_notes_in vs) (last_notes_in (set vs p v)) p x
others-set [] p x v d h e = absurd (omega arith)
others-set (w ∷ vs) zero x v d h e = others_zero w.last_notes v.last_notes (last_notes_in vs) x e
others-set (w ∷ vs) (suc p) x v d h e = others_suc w.last_notes (last_notes_in vs) (last_notes_in (set vs p v)) p x (others-set vs p x v d (omega arith) e)

others-inner : (a : LastNotes) (ls ks : List LastNotes) (p x : ℕ) → p ≢ 0 → KeepsOtherNotes ls ks (p - 1) x → KeepsOtherNotes (a ∷ ls) (a ∷ ks) p x
others-inner a ls ks zero x n h = absurd (n refl)
others-inner a ls ks (suc p) x n h = let P : ℕ → Type 0 = λ q. KeepsOtherNotes ls ks q x in others_suc a ls ks p x (subst P (one_less p) h)

pub inner_others : (f : Variables) (vs : List Variables) (r : Rooms) (p x : ℕ) (v d : Variables) → whole f vs ≡ r → p ≢ 0 → p - 1 < length vs → d ≡ get_or vs (p - 1) d → KeepsOthers d.last_notes v.last_notes x → KeepsOtherNotes r.last_notes (f.last_notes ∷ last_notes_in (set vs (p - 1) v)) p x
inner_others f vs r p x v d e n h i s =
    let P : Rooms → Type 0 = λ r. KeepsOtherNotes r.last_notes (f.last_notes ∷ last_notes_in (set vs (p - 1) v)) p x in
    let D : Variables → Type 0 = λ w. KeepsOthers w.last_notes v.last_notes x in
    subst P e (others-inner f.last_notes (last_notes_in vs) (last_notes_in (set vs (p - 1) v)) p x n (others-set vs (p - 1) x v d h (subst D i s)))

pub first_others : (f g : Variables) (vs : List Variables) (r : Rooms) (p x : ℕ) → whole f vs ≡ r → p ≡ 0 → KeepsOthers f.last_notes g.last_notes x → KeepsOtherNotes r.last_notes (g.last_notes ∷ last_notes_in vs) p x
first_others f g vs r p x e z s =
    let P : Rooms × ℕ → Type 0 = λ t. KeepsOtherNotes t.0.last_notes (g.last_notes ∷ last_notes_in vs) t.1 x in
    subst P (λ i. (e i, sym z i)) (others_zero f.last_notes g.last_notes (last_notes_in vs) x s)

-- the value in the innermost scope that has the variable
pub innermost : (ss : List Scope) (p x : ℕ) (r : Option (Bor Plain)) → value_of (drop (suc p) ss) x ≡ None → option_copied r ≡ value_at ss p x → is_some r ≡ true → option_copied r ≡ value_of ss x
innermost ss p x r n e b = e ∙ ap (λ q. value_at ss q x) (sym (found ss p x r n e b)) ∙ value_at-place_of ss x

-- no scope from a place on has it, since that at the place does not
pub one_more_without : (ss : List Scope) (p x : ℕ) (r : Option (Bor Plain)) → value_of (drop (suc p) ss) x ≡ None → option_copied r ≡ value_at ss p x → is_some r ≡ false → value_of (drop p ss) x ≡ None
one_more_without ss p x r n e b = value_of-drop ss p x n (sym e ∙ is_some-None (option_copied r) (is_some-copied r ∙ b))
