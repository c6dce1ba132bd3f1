use Rattle.std.proofs.Common.{◌≡◌, ◌++◌, [], ◌∷◌, inl, inr, sym, subst, ap, ◌∙◌}
use Rattle.rl_value.specs.Plain.{Plain}
use Rattle.rl_value.specs.Rising.{In}
use Rattle.rl_relation.proofs.PathLemmas.{In-last, In-left}
use Rattle.rl_relation.proofs.closures.add.Goals as goal

pub returns-in_ok-push-clause-has : goal.returns-in_ok-push-clause-has
returns-in_ok-push-clause-has c =
    let items : c.push.new.self.items ≡ c.args.found.now.items ++ (c.args.value.now ∷ []) =
    c.in_ok-push.ensures.items ∙ ap (λ (v : Plain). c.args.found.now.items ++ (v ∷ [])) c.in_ok-share.ensures in
    subst (In c.args.value.now) (sym items) (In-last c.args.value.now c.args.found.now.items)

pub returns-in_ok-push-clause-covered : goal.returns-in_ok-push-clause-covered
returns-in_ok-push-clause-covered c =
    let items : c.push.new.self.items ≡ c.args.found.now.items ++ (c.args.value.now ∷ []) =
    c.in_ok-push.ensures.items ∙ ap (λ (v : Plain). c.args.found.now.items ++ (v ∷ [])) c.in_ok-share.ensures in
    λ q h.
    subst (In q) (sym items)
    (elim (c.in_ok-is_new.ensures.kept q h) [
      | inl k ↦ In-left q c.args.found.now.items (c.args.value.now ∷ []) (c.requires q k)
      | inr k ↦ subst (λ w. In w (c.args.found.now.items ++ (c.args.value.now ∷ []))) (sym k) (In-last c.args.value.now c.args.found.now.items)
    ])
