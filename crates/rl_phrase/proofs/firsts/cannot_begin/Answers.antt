use Rattle.std.proofs.Common.{◌≡◌, true, false, not, Bool, Some, sym, subst, ap, ◌∙◌}
use Rattle.rl_tokens.specs.Token.{Token}
use Rattle.rl_phrase.specs.declared.firsts.First.{First}
use Rattle.rl_phrase.specs.Firsts.{LacksKind}
use Rattle.rl_phrase.proofs.TerminalLemmas.{read}
use Rattle.rl_phrase.proofs.firsts.cannot_begin.Goals as goal

is_false : (b : Bool) → not b ≡ true → b ≡ false
is_false true q = cc
is_false false q = cc

pub returns-then-not-first : goal.returns-then-not-first
returns-then-not-first c =
    let token = read c.args.tokens.now c.args.token c.kind.result c.kind.ensures in
    let first = c.first_at-first.result in (
      λ q.
          let lacks : LacksKind first c.kind.result = c.has_kind.ensures.0 (is_false c.has_kind.result q) in (
            token.0,
            token.1,
            ap (λ (f : First). f.may_be_empty) (sym c.first_at-first.ensures) ∙ is_false _ c.if-not-first.true,
            subst (λ (f : First). LacksKind f token.0.kind) c.first_at-first.ensures (subst (λ k. LacksKind first k) (sym token.2) lacks),
          ),
      λ h.
          let same : Some token.0 ≡ Some h.0 = sym token.1 ∙ h.1 in
          let here : token.0 ≡ h.0 = cc in
          let lacks : LacksKind first h.0.kind = subst (λ (f : First). LacksKind f h.0.kind) (sym c.first_at-first.ensures) h.3 in
          ap not (c.has_kind.ensures.1 (subst (λ k. LacksKind first k) (sym (ap (λ (t : Token). t.kind) here) ∙ token.2) lacks)),
    )
