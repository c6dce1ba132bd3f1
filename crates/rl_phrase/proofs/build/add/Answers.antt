use Rattle.std.proofs.Common.{◌≡◌, ℕ, ◌-◌, length, map, ap, sym, ◌∙◌, rules}
use Rattle.rl_phrase.specs.Build.{added}
use Rattle.rl_phrase.specs.View.{tree_of}
use Rattle.rl_phrase.proofs.Adds.{adds}
use Rattle.rl_phrase.proofs.build.add.Goals as goal

pub returns-in_ok-push-in-Node : goal.returns-in_ok-push-in-Node
returns-in_ok-push-in-Node c =
    let len : c.len.result ≡ length c.args.parts.now.items = search rules in
    adds c.args.parts.now.items c.push-in-Node.new.self.items c.split_off.new.self.items c.in_ok-own-in-Node.own.items c.node.result
    c.in-Node.rule c.in-Node.from c.in-Node.to c.in-Node.count (c.len.result - c.in-Node.count)
    (ap (λ (l : ℕ). l - c.in-Node.count) len) c.in_ok-push-in-Node.ensures.items c.in_ok-own-in-Node.ensures.items c.in_ok-own-in-Node.ensures.tail c.node.ensures
    ∙ ap (λ s. added s (map tree_of c.args.parts.now.items)) (sym c.in-Node.is)
