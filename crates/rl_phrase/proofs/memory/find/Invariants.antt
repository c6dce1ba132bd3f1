use Rattle.rl_phrase.proofs.memory.find.Given as goal

abbrev pub decreases-chain : goal.decreases-chain
decreases-chain l = l.number
