use Rattle.std.proofs.Common.{◌≡◌, ℕ, ◌+◌, [], ◌∷◌, length, map, drop, get_or, ap, ◌∙◌, subst, rules, arith, vec_len}
use Rattle.std.proofs.lemmas.List.{length-map}
use Rattle.rl_phrase.specs.declared.steps.Step.TheVariants.{Leaf}
use Rattle.rl_phrase.specs.View.{tree_of}
use Rattle.rl_phrase.specs.Build.{IsFit}
use Rattle.rl_phrase.proofs.Rebuild.{rebuild, rebuild_one, loop_fits, loop_adds, loop_ends}
use Rattle.rl_phrase.proofs.build.build.Goals as goal

pub add-requires : goal.add-requires
add-requires c =
    let fit = loop_fits c.args.steps.now c.loop-step.step-index (Leaf 0) (map tree_of c.loop-step.parts.items) (c.requires.0 ∷ []) c.loop-step-test.true (c.loop-step.invariant c.requires.0 c.requires.1) in
    let len : length c.loop-step.parts.items ≡ vec_len c.loop-step.parts = search rules in
    subst (λ (n : ℕ). IsFit (get_or c.args.steps.now c.loop-step.step-index (Leaf 0)) n) (length-map c.loop-step.parts.items tree_of ∙ len) fit

pub loop-step-preserved : goal.loop-step-preserved
loop-step-preserved c t e =
    ap (λ s. rebuild (drop (c.loop-step.step-index + 1) c.args.steps.now) s) c.in_ok-add.ensures
    ∙ loop_adds c.args.steps.now c.loop-step.step-index (Leaf 0) (map tree_of c.loop-step.parts.items) (t ∷ []) c.loop-step-test.true (c.loop-step.invariant t e)

pub loop-step-init : goal.loop-step-init
loop-step-init c t e =
    ap (λ ps. rebuild c.args.steps.now (map tree_of ps)) c.new-parts.ensures.items ∙ ap (λ ss. rebuild ss []) e ∙ rebuild_one t

pub returns : goal.returns
returns c t e = loop_ends c.args.steps.now c.loop-step.step-index (map tree_of c.loop-step.parts.items) (t ∷ []) (omega arith) (c.loop-step.invariant t e)
