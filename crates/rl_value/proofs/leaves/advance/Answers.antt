use Rattle.std.proofs.Common.{◌+◌, ◌-◌, take, subst, arith}
use Rattle.std.proofs.lemmas.List.{length-set}
use Rattle.rl_value.specs.Levels.{LeavesRoom}
use Rattle.rl_value.proofs.LevelsLemmas.{no_items, LeavesRoom-front, levels_down, text_up, weight_up, text_down, weight_down, one_more, room_down}
use Rattle.rl_value.proofs.leaves.advance.Goals as goal

pub bounds-levels-top-in-Some : goal.bounds-levels-top-in-Some
bounds-levels-top-in-Some c =
    let more = one_more c.args.at.now.levels c.args.at.now.depth c.args.parts c.in-Some.part.now c.in-Some.others.now c.requires.some c.requires.full (omega arith) c.requires.lowest c.in-Some.ensures.cases.0 c.requires.room in
    rw length-set (omega arith)

pub returns-in-None-clause-room : goal.returns-in-None-clause-room
returns-in-None-clause-room c =
    LeavesRoom-front 0 (take (c.args.at.now.depth - 1) c.args.at.now.levels) c.args.parts (subst (LeavesRoom 0) c.requires.lowest c.requires.room)

pub returns-in-None-clause-text : goal.returns-in-None-clause-text
returns-in-None-clause-text c = text_up _ _ c.args.parts c.requires.lowest (no_items c.args.parts.now c.in-None.ensures.cases) _ c.requires.passed

pub returns-in-None-clause-weight : goal.returns-in-None-clause-weight
returns-in-None-clause-weight c = weight_up _ _ c.args.parts c.requires.lowest (no_items c.args.parts.now c.in-None.ensures.cases)

pub returns-in-Some-clause-full : goal.returns-in-Some-clause-full
returns-in-Some-clause-full c =
    one_more c.args.at.now.levels c.args.at.now.depth c.args.parts c.in-Some.part.now c.in-Some.others.now c.requires.some c.requires.full (omega arith) c.requires.lowest c.in-Some.ensures.cases.0 c.requires.room

pub returns-in-Some-clause-room : goal.returns-in-Some-clause-room
returns-in-Some-clause-room c =
    let more = one_more c.args.at.now.levels c.args.at.now.depth c.args.parts c.in-Some.part.now c.in-Some.others.now c.requires.some c.requires.full (omega arith) c.requires.lowest c.in-Some.ensures.cases.0 c.requires.room in
    room_down _ _ _ c.args.parts c.in-Some.others c.parts.result c.in-Some.part.now c.requires.lowest
    (levels_down c.args.at.now.levels (c.args.at.now.depth + 1) (c.args.at.now.depth - 1) c.in-Some.others c.parts.result (omega arith) (omega arith))
    c.in-Some.ensures.cases.0 c.parts.ensures.items c.requires.room

pub returns-in-Some-clause-text : goal.returns-in-Some-clause-text
returns-in-Some-clause-text c =
    let more = one_more c.args.at.now.levels c.args.at.now.depth c.args.parts c.in-Some.part.now c.in-Some.others.now c.requires.some c.requires.full (omega arith) c.requires.lowest c.in-Some.ensures.cases.0 c.requires.room in
    text_down _ _ _ c.args.parts c.in-Some.others c.parts.result c.in-Some.part.now c.requires.lowest
    (levels_down c.args.at.now.levels (c.args.at.now.depth + 1) (c.args.at.now.depth - 1) c.in-Some.others c.parts.result (omega arith) (omega arith))
    c.in-Some.ensures.cases.0 c.parts.ensures.items _ c.leaf_bytes-at.ensures

pub returns-in-Some-clause-weight : goal.returns-in-Some-clause-weight
returns-in-Some-clause-weight c =
    let more = one_more c.args.at.now.levels c.args.at.now.depth c.args.parts c.in-Some.part.now c.in-Some.others.now c.requires.some c.requires.full (omega arith) c.requires.lowest c.in-Some.ensures.cases.0 c.requires.room in
    weight_down _ _ _ c.args.parts c.in-Some.others c.parts.result c.in-Some.part.now c.requires.lowest
    (levels_down c.args.at.now.levels (c.args.at.now.depth + 1) (c.args.at.now.depth - 1) c.in-Some.others c.parts.result (omega arith) (omega arith))
    c.in-Some.ensures.cases.0 c.parts.ensures.items
