use Rattle.std.proofs.Common.{◌∙◌, ap}
use Rattle.rl_phrase.specs.Steps.{tree_steps}
use Rattle.rl_phrase.proofs.Named.{shown_node, shown_failure, answered}
use Rattle.rl_phrase.proofs.phrase.phrase.Goals as goal

pub finish-requires : goal.finish-requires
finish-requires c =
    let n = shown_node c.args.tokens.now c.args.rules.now c.args.start c.in-Found.steps c.in-Found.field-1 c.in_ok-far.field-0 c.requires.named c.requires.no_left_recursion c.in_ok-far.ensures c.in-Found.is in
    (n.node.rule, n.node.from, n.node.to, n.node.parts, c.deref.ensures.value ∙ n.are ∙ ap tree_steps n.node.is)

pub returns-in-Found : goal.returns-in-Found
returns-in-Found c =
    let n = shown_node c.args.tokens.now c.args.rules.now c.args.start c.in-Found.steps c.in-Found.field-1 c.in_ok-far.field-0 c.requires.named c.requires.no_left_recursion c.in_ok-far.ensures c.in-Found.is in
    answered c.args.tokens.now c.args.rules.now c.args.start n.tree c.finish.result n.gives (c.finish.ensures n.tree (c.deref.ensures.value ∙ n.are))

pub returns-in-Failed : goal.returns-in-Failed
returns-in-Failed c = shown_failure c.args.tokens.now c.args.rules.now c.args.start c.in-Failed.far c.in_ok-far.field-0 c.requires.no_left_recursion c.in_ok-far.ensures c.in-Failed.is
