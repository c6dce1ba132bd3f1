-- The examples compute.
use Rattle.std.proofs.Common.{refl}
use Rattle.rl_base.specs.Holds.{FileMap}
use Rattle.rl_rules.specs.Examples.{OneLine, FinallyAfterReturn, FinallyThrows, Counting, WithoutValue, OutOfRange, FallingBack, LeavingLoop, Handled, FinallyAtACut, NextAlternative, FalseCondition, ThreeElements, Reducing, TakenBack, FixedAtStart, Divided, FalseUnderMember, OtherAlternative, TestWithoutValue, SecondHandler, DeepestCall, Parsing, Collecting, Exchanging, ChangingInside, JoinedConditions, UnderConditions, Solving, Extending, Testing}
use Rattle.rl_rules.proofs.Computing.{computing}

pub one_line : (files : FileMap) → OneLine files
unfolding computing
one_line files = (refl, refl)

pub finally_after_return : (files : FileMap) → FinallyAfterReturn files
unfolding computing
finally_after_return files = refl

pub finally_throws : (files : FileMap) → FinallyThrows files
unfolding computing
finally_throws files = refl

pub counting : (files : FileMap) → Counting files
unfolding computing
counting files = (refl, refl)

pub without_value : (files : FileMap) → WithoutValue files
unfolding computing
without_value files = refl

pub out_of_range : (files : FileMap) → OutOfRange files
unfolding computing
out_of_range files = refl

pub falling_back : (files : FileMap) → FallingBack files
unfolding computing
falling_back files = refl

pub leaving_loop : (files : FileMap) → LeavingLoop files
unfolding computing
leaving_loop files = refl

pub handled : (files : FileMap) → Handled files
unfolding computing
handled files = refl

pub finally_at_a_cut : (files : FileMap) → FinallyAtACut files
unfolding computing
finally_at_a_cut files = (refl, refl)

pub next_alternative : (files : FileMap) → NextAlternative files
unfolding computing
next_alternative files = refl

pub false_condition : (files : FileMap) → FalseCondition files
unfolding computing
false_condition files = refl

pub three_elements : (files : FileMap) → ThreeElements files
unfolding computing
three_elements files = (refl, refl)

pub reducing : (files : FileMap) → Reducing files
unfolding computing
reducing files = refl

pub taken_back : (files : FileMap) → TakenBack files
unfolding computing
taken_back files = refl

pub fixed_at_start : (files : FileMap) → FixedAtStart files
unfolding computing
fixed_at_start files = refl

pub divided : (files : FileMap) → Divided files
unfolding computing
divided files = refl

pub false_under_member : (files : FileMap) → FalseUnderMember files
unfolding computing
false_under_member files = refl

pub other_alternative : (files : FileMap) → OtherAlternative files
unfolding computing
other_alternative files = refl

pub test_without_value : (files : FileMap) → TestWithoutValue files
unfolding computing
test_without_value files = refl

pub second_handler : (files : FileMap) → SecondHandler files
unfolding computing
second_handler files = refl

pub deepest_call : (files : FileMap) → DeepestCall files
unfolding computing
deepest_call files = (refl, refl)

pub parsing : (files : FileMap) → Parsing files
unfolding computing
parsing files = refl

pub collecting : (files : FileMap) → Collecting files
unfolding computing
collecting files = refl

pub exchanging : (files : FileMap) → Exchanging files
unfolding computing
exchanging files = refl

pub changing_inside : (files : FileMap) → ChangingInside files
unfolding computing
changing_inside files = refl

pub joined_conditions : (files : FileMap) → JoinedConditions files
unfolding computing
joined_conditions files = refl

pub under_conditions : (files : FileMap) → UnderConditions files
unfolding computing
under_conditions files = refl

pub solving : (files : FileMap) → Solving files
unfolding computing
solving files = refl

pub extending : (files : FileMap) → Extending files
unfolding computing
extending files = refl

pub testing : (files : FileMap) → Testing files
unfolding computing
testing files = (refl, refl)
