use Rattle.std.proofs.Common.{◌≡◌, ℕ, ◌-◌, Bool, true, false, List, ◌++◌, Option, rules, length, take, drop, sym, ap, ◌∙◌, subst, append_assoc, take-append-drop}
use Rattle.std.specs.Bool.{OnFalse}
use Rattle.std.proofs.lemmas.List.{take_rest}
use Rattle.std.proofs.Math.Seq.{take-append_seam}
use Rattle.rl_base.specs.Told.{Grows, TakesPart}
use Rattle.rl_base.proofs.Growth.{Grows-then, Grows-appends, Grows-keeps}
use Rattle.rl_base.proofs.host_sink.write_piece.Goals as goal
use Rattle.rl_base.proofs.host_sink.write_piece.Goals.{in-Ok, in-Err}

moves_front : (all done rest : List ℕ) (n : ℕ) → all ≡ done ++ rest → all ≡ (done ++ take n rest) ++ take (length rest - n) (drop n rest)
moves_front all done rest n e =
    e ∙ ap (λ l. done ++ l) (sym (take-append-drop n rest)) ∙ sym (append_assoc done (take n rest) (drop n rest)) ∙ ap (λ l. (done ++ take n rest) ++ l) (sym (take_rest rest n))

part : (u v : Option (List ℕ)) (piece done rest : List ℕ) → piece ≡ done ++ rest → Grows u done v → TakesPart u piece v
part u v piece done rest split p = let P : List ℕ → Type 0 = λ xs. Grows u xs v in (length done, subst P (sym (ap (take (length done)) split ∙ take-append_seam done rest)) p)

on_false : (b : Bool) (P : Type 0) → P → OnFalse b P
on_false true P p = search rules
on_false false P p = p

pub loop-preserved : goal.loop-preserved
loop-preserved g c =
    let (done, split, appended) = c.loop.invariant in
    let rest = c.loop.rest.now in
    elim c.match-write.branch [
      | in-Ok w ↦ (done ++ take w.in-Ok.taken rest, rw w.rest-is (moves_front _ done rest w.in-Ok.taken split), Grows-then _ _ _ _ _ appended (Grows-appends _ _ _ w.in-Ok.ensures.bytes))
      | in-Err w ↦ (done, rw w.rest-is split, Grows-keeps _ _ _ _ appended w.in-Err.ensures.bytes)
    ]

pub returns-then-is_empty-clause-cut : goal.returns-then-is_empty-clause-cut
returns-then-is_empty-clause-cut g c =
    let (done, split, appended) = c.loop.invariant in
    on_false _ _ (part _ _ _ done _ split (Grows-keeps _ _ _ _ appended c.flush.ensures.bytes))

pub returns-in-Ok-eq0-clause-cut : goal.returns-in-Ok-eq0-clause-cut
returns-in-Ok-eq0-clause-cut g c =
    let (done, split, appended) = c.loop.invariant in
    let rest = c.loop.rest.now in
    let n = c.in-Ok-eq0.field-0 in
    let more = rw c.in-Ok-eq0.is at c.write.ensures.bytes in
    part _ _ _ (done ++ take n rest) _ (moves_front _ done rest n split) (Grows-then _ _ _ _ _ appended (Grows-appends _ _ _ more))

pub returns-in-Err-2-clause-cut : goal.returns-in-Err-2-clause-cut
returns-in-Err-2-clause-cut g c =
    let (done, split, appended) = c.loop.invariant in
    part _ _ _ done _ split (Grows-keeps _ _ _ _ appended c.in-Err-2.ensures.bytes)

pub returns-clause-cut : goal.returns-clause-cut
returns-clause-cut g c =
    let (done, split, appended) = c.loop.invariant in
    part _ _ _ done _ split appended
