use Rattle.std.proofs.Common.{◌≡◌, ◌⊎◌, ◌++◌, ◌∷◌, [], List, inl, inr, refl, sym, subst}
use Rattle.std.specs.List.{All, Contains, IsAmong}
use Rattle.std.proofs.lemmas.List.Elements.{All-append, All-cons, All-nil, All-contains_itself, All-weaker}
use Rattle.std.proofs.lemmas.Result.{on_ok_weaker}
use Rattle.rl_phrase.specs.declared.memory.Entry.{Entry}
use Rattle.rl_phrase.specs.Memory.{IsOneMore}
use Rattle.rl_phrase.proofs.memory.Memory.remember.Goals as goal

-- the entry is added to what was remembered, or to nothing
added : (entry : Entry) (old kept : List Entry) → (kept ≡ old) ⊎ (kept ≡ []) → IsOneMore entry old (kept ++ entry ∷ [])
added entry old kept h =
    let P : Entry → Type 0 = λ e. (e ≡ entry) ⊎ IsAmong old e in
    let among : All P old = All-weaker (Contains old) P (λ e m. inr (m.0, (m.1, sym m.2))) old (All-contains_itself old) in
    let none : All P [] = All-nil P in
    let first : All P kept = elim h [ inl e ↦ subst (λ v. All P v) (sym e) among | inr e ↦ subst (λ v. All P v) (sym e) none ] in
    All-append P kept (entry ∷ []) first (All-cons P entry [] (inl refl) none)

pub returns : goal.returns
returns c =
    let entry = c.args.entry in
    let old = c.args.self.now in
    let kept = c.column.new.self in
    let more : IsOneMore entry old (kept ++ entry ∷ []) = added entry old kept c.in_ok-column.ensures.kept in
    on_ok_weaker c.add.result (λ (e : c.add.new.self ≡ kept ++ entry ∷ []). subst (λ v. IsOneMore entry old v) (sym e) more) c.add.ensures
