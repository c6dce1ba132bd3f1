-- A whole run.
use Rattle.std.proofs.Common.{◌≡◌, ℕ, zero, suc, ◌+◌, ◌<◌, List, [], ◌∷◌, ◌++◌, length, take, drop, false, IsTrue, Some, None, Result, Ok, Err, OnErr, refl, sym, ◌∙◌, ap, subst, rules, arith, append_assoc}
use Rattle.std.proofs.lemmas.List.{take-append-drop}
use Rattle.rl_base.specs.Told.{Told, Grows, IsPrefixOf, TakesPart}
use Rattle.rl_base.proofs.Growth.{Grows-nil, Grows-then}
use Rattle.rl_value.specs.Plain.{Plain}
use Rattle.rl_eval.specs.declared.form.Form.{Form}
use Rattle.rl_eval.specs.declared.frame.Frame.{Frame}
use Rattle.rl_eval.specs.declared.frame.Member.{Member}
use Rattle.rl_eval.specs.declared.frame.Next.{Next}
use Rattle.rl_eval.specs.declared.frame.Next.TheVariants as next
use Rattle.rl_eval.specs.Rule.{Rule}
use Rattle.rl_eval.specs.Rules.{rule_of}
use Rattle.rl_eval.specs.Evaluation.{Ran, Done, Cut, run_by, eval, printed}
use Rattle.rl_eval.specs.Frames.{resume, under, after, finish, at, Goes}
use Rattle.rl_eval.proofs.Laws.{eval-zero, eval-suc}
use Rattle.rl_eval.proofs.Growth.{prefix-refl, prefix-after, prefix-trans, run-extends, eval-extends, on_done-extends}
use Rattle.rl_eval.proofs.StepLemmas.{finish-push}

pub on_err-always : {T E P : Type 0} (r : Result T E) → P → OnErr r P
on_err-always (Ok x) h = tt
on_err-always (Err e) h = h

-- no unit is left where none can be taken
pub none_left : (n : ℕ) → (0 < n → IsTrue false) → n ≡ 0
none_left zero h = refl
none_left (suc n) h = absurd (search (rules, h (omega arith)))

take-front : (xs ys : List ℕ) → take (length xs) (xs ++ ys) ≡ xs
take-front [] ys = refl
take-front (x ∷ xs) ys = ap (λ v. x ∷ v) (take-front xs ys)

-- what was heard is a front of the piece, if what was said is
takes_part : (t u : Told) (xs ys : List ℕ) → Grows t xs u → IsPrefixOf xs ys → TakesPart t ys u
takes_part t u xs ys e h =
    let P : List ℕ → Type 0 = λ front. Grows t front u in
    (length xs, subst P (sym (ap (take (length xs)) (sym h.1) ∙ take-front xs h.0)) e)

finish-nil : (fs : List Frame) (ran : Ran) → fs ≡ [] → finish fs ran ≡ ran
unfolding finish
finish-nil fs ran e = rw e refl

finish-cut : (fs : List Frame) (t : List ℕ) → finish fs (Cut t) ≡ Cut t
unfolding finish after
finish-cut [] t = refl
finish-cut (f ∷ fs) t = ap (after f) (finish-cut fs t)

finish-extends : (fs : List Frame) (ran : Ran) → IsPrefixOf (printed ran) (printed (finish fs ran))
unfolding finish after
finish-extends [] ran = prefix-refl (printed ran)
finish-extends (f ∷ fs) ran = on_done-extends (printed ran) (finish fs ran) (λ v n t. run_by eval (resume f v) n t) (finish-extends fs ran) (λ v n t. run-extends eval eval-extends (resume f v) n t)

at-extends : (now : Next) (n : ℕ) (t : List ℕ) → IsPrefixOf t (printed (at now n t))
unfolding at
at-extends (next.Enter f) n t = eval-extends f n t
at-extends (next.Take m) zero t = prefix-refl t
at-extends (next.Take m) (suc n) t = run-extends eval eval-extends (under m) n t
at-extends (next.Leave v) n t = prefix-refl t
at-extends (next.Put bytes v) n t = prefix-after t bytes

-- Some bytes were printed and heard; and what comes of the frames from here, after these bytes, is the whole.
pub record Stands (before now_told : Told) (fs : List Frame) (now : Next) (n : ℕ) (whole : Ran) : Type 0 where
  pub bytes : List ℕ
  pub heard : Grows before bytes now_told
  pub same : finish fs (at now n bytes) ≡ whole

pub started : (t : Told) (fs : List Frame) (f : Form) (n : ℕ) → fs ≡ [] → Stands t t fs (next.Enter f) n (eval f n [])
unfolding at
started t fs f n e = record { bytes = []; heard = Grows-nil t; same = finish-nil fs (eval f n []) e }

-- what was printed so far is a front of what is printed
pub so_far : (t u : Told) (fs : List Frame) (now : Next) (n : ℕ) (whole : Ran) → Stands t u fs now n whole → TakesPart t (printed whole) u
so_far t u fs now n whole s =
    takes_part t u s.bytes (printed whole) s.heard (rw (← s.same) (prefix-trans s.bytes (printed (at now n s.bytes)) _ (at-extends now n s.bytes) (finish-extends fs (at now n s.bytes))))

-- so is that with a front of the next piece
pub front_of : (t u w : Told) (fs : List Frame) (now : Next) (piece : List ℕ) (v : Plain) (n : ℕ) (whole : Ran) → Stands t u fs now n whole → now ≡ next.Put piece v → TakesPart u piece w → TakesPart t (printed whole) w
unfolding at
front_of t u w fs now piece v n whole s e h =
    let same = rw e at s.same in
    let part : IsPrefixOf (s.bytes ++ take h.0 piece) (s.bytes ++ piece) =
    (drop h.0 piece, append_assoc s.bytes (take h.0 piece) (drop h.0 piece) ∙ ap (λ x. s.bytes ++ x) (take-append-drop h.0 piece)) in
    takes_part t w (s.bytes ++ take h.0 piece) (printed whole)
    (Grows-then t u w s.bytes (take h.0 piece) s.heard h.1)
    (rw (← same) (prefix-trans _ (s.bytes ++ piece) _ part (finish-extends fs (Done v n (s.bytes ++ piece)))))

abbrev EndsCut : Ran → Told → Told → ℕ → Type 0
EndsCut whole t u n = (whole ≡ Cut (printed whole)) × Grows t (printed whole) u × (n ≡ 0)

ends_cut : (t u : Told) (bytes : List ℕ) (n : ℕ) (whole : Ran) → Grows t bytes u → Cut bytes ≡ whole → n ≡ 0 → EndsCut whole t u n
ends_cut t u bytes n whole h e k = rw (← e) (refl, h, k)

-- an entry without a unit
pub entry_cut : (t u : Told) (fs : List Frame) (now : Next) (f : Form) (n m : ℕ) (whole : Ran) → Stands t u fs now n whole → now ≡ next.Enter f → n ≡ 0 → m ≡ n → EndsCut whole t u m
unfolding at
entry_cut t u fs now f n m whole s e h k =
    ends_cut t u s.bytes m whole s.heard (sym (finish-cut fs s.bytes) ∙ (ap (finish fs) (sym (eval-zero f s.bytes)) ∙ (rw (e, h) at s.same))) (k ∙ h)

-- a member without a unit
pub member_cut : (t u : Told) (fs : List Frame) (now : Next) (m : Member) (n k : ℕ) (whole : Ran) → Stands t u fs now n whole → now ≡ next.Take m → n ≡ 0 → k ≡ n → EndsCut whole t u k
unfolding at
member_cut t u fs now m n k whole s e h l =
    ends_cut t u s.bytes k whole s.heard (sym (finish-cut fs s.bytes) ∙ (rw (e, h) at s.same)) (l ∙ h)

-- the last form is left
pub done : (t u : Told) (fs : List Frame) (now : Next) (v : Plain) (n : ℕ) (whole : Ran) → Stands t u fs now n whole → now ≡ next.Leave v → fs ≡ [] → (whole ≡ Done v n (printed whole)) × Grows t (printed whole) u
unfolding at
done t u fs now v n whole s e h =
    let here : Done v n s.bytes ≡ whole = sym (finish-nil fs (Done v n s.bytes) h) ∙ (rw e at s.same) in
    rw (← here) (refl, s.heard)

-- a step does what the rule from here says
pub goes_on : (t u : Told) (fs fs' : List Frame) (p : Rule) (n : ℕ) (now : Next) (whole : Ran) (bytes : List ℕ) → Grows t bytes u → finish fs (run_by eval p n bytes) ≡ whole → Goes fs p now fs' → Stands t u fs' now n whole
goes_on t u fs fs' p n now whole bytes h i g = record { bytes = bytes; heard = h; same = g.same n bytes ∙ i }

-- an entry takes a unit
pub entering : (t u : Told) (fs fs' : List Frame) (now now' : Next) (f : Form) (n m : ℕ) (whole : Ran) → Stands t u fs now n whole → now ≡ next.Enter f → n ≡ m + 1 → Goes fs (rule_of f) now' fs' → Stands t u fs' now' m whole
unfolding at
entering t u fs fs' now now' f n m whole s e h g =
    let one : n ≡ suc m = omega arith in
    goes_on t u fs fs' (rule_of f) m now' whole s.bytes s.heard (ap (finish fs) (sym (eval-suc f m s.bytes)) ∙ (rw (e, one) at s.same)) g

-- a member takes a unit
pub beginning : (t u : Told) (fs fs' : List Frame) (now now' : Next) (m : Member) (n k : ℕ) (whole : Ran) → Stands t u fs now n whole → now ≡ next.Take m → n ≡ k + 1 → Goes fs (under m) now' fs' → Stands t u fs' now' k whole
unfolding at
beginning t u fs fs' now now' m n k whole s e h g =
    let one : n ≡ suc k = omega arith in
    goes_on t u fs fs' (under m) k now' whole s.bytes s.heard (rw (e, one) at s.same) g

-- a form is left, and the last frame goes on
pub resuming : (t u : Told) (fs fs' new : List Frame) (g : Frame) (now now' : Next) (v : Plain) (n : ℕ) (whole : Ran) → Stands t u fs now n whole → now ≡ next.Leave v → fs ≡ fs' ++ g ∷ [] → Goes fs' (resume g v) now' new → Stands t u new now' n whole
unfolding at after
resuming t u fs fs' new g now now' v n whole s e h goes =
    goes_on t u fs' new (resume g v) n now' whole s.bytes s.heard
    (sym (finish-push fs' g (Done v n s.bytes)) ∙ (ap (λ w. finish w (Done v n s.bytes)) (sym h) ∙ (rw e at s.same))) goes

-- a piece is put
pub putting : (t u w : Told) (fs : List Frame) (now : Next) (piece : List ℕ) (v : Plain) (n : ℕ) (whole : Ran) → Stands t u fs now n whole → now ≡ next.Put piece v → Grows u piece w → Stands t w fs (next.Leave v) n whole
unfolding at
putting t u w fs now piece v n whole s e h = record {
  bytes = s.bytes ++ piece;
  heard = Grows-then t u w s.bytes piece s.heard h;
  same = rw e at s.same;
}
