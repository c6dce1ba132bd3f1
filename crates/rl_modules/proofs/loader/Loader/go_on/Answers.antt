use Rattle.std.proofs.Common.{rules}
use Rattle.rl_modules.proofs.Goes.{goes-finished, goes-opened, goes-fault, goes-many, goes-memory, found-new, keeps-finished, keeps-opened}
use Rattle.rl_modules.specs.Unfinished.{outcome_of}
use Rattle.rl_modules.proofs.loader.Loader.go_on.Goals as goal

pub returns-then-number-ge-MOST_MODULES-clause-answer : goal.returns-then-number-ge-MOST_MODULES-clause-answer
returns-then-number-ge-MOST_MODULES-clause-answer g c =
    goes-many (g.F.Files.holds c.args.files.now) c.args.root.now (g.F.Files.asked c.args.files.now) c.args.self.now (λ held. outcome_of held c.args.root.now c.args.self.now) c.args.unfinished c.as_slice-declarations.result.now c.as_str-path.result.now c.len-number.result c.in-Some.import.place c.in-Some.import.name.now c.in-Some.index c.fault.result
    (record {
      sound = c.requires.sound;
      declarations = c.as_slice-declarations.ensures;
      path_is = c.as_str-path.ensures;
      number_is = search rules;
      skips = c.in-Some.ensures.none;
      behind = c.in-Some.ensures.some.0;
      within = c.in-Some.ensures.within;
      found = c.in-Some.ensures.some.1;
      nested = c.requires.nested;
    })
    c.if-number-ge-MOST_MODULES.true c.fault.ensures.answer c.fault.ensures.no_file_fault

pub returns-in-Err-clause-answer : goal.returns-in-Err-clause-answer
returns-in-Err-clause-answer g c =
    goes-fault (g.F.Files.holds c.args.files.now) c.args.root.now (g.F.Files.asked c.args.files.now) (g.F.Files.asked c.read.new.files) c.args.self.now (λ held. outcome_of held c.args.root.now c.args.self.now) c.args.unfinished c.as_slice-declarations.result.now c.as_str-path.result.now c.len-number.result c.in-Some.import.place c.in-Some.import.name.now c.in-Some.index c.in-Err.end
    (record {
      sound = c.requires.sound;
      declarations = c.as_slice-declarations.ensures;
      path_is = c.as_str-path.ensures;
      number_is = search rules;
      skips = c.in-Some.ensures.none;
      behind = c.in-Some.ensures.some.0;
      within = c.in-Some.ensures.within;
      found = c.in-Some.ensures.some.1;
      nested = c.requires.nested;
    })
    c.if-number-ge-MOST_MODULES.false c.in-Err.ensures.answer c.in-Err.ensures.asked

pub add-requires-clause-new : goal.add-requires-clause-new
add-requires-clause-new g c =
    rw (c.in-Ok.ensures.named, c.in_ok-put_off-in-Some.ensures.names)
    (found-new c.args.self.now c.args.unfinished c.as_slice-declarations.result.now c.as_str-path.result.now c.len-number.result c.in-Some.import.place c.in-Some.import.name.now c.in-Some.index
    (record {
      sound = c.requires.sound;
      declarations = c.as_slice-declarations.ensures;
      path_is = c.as_str-path.ensures;
      number_is = search rules;
      skips = c.in-Some.ensures.none;
      behind = c.in-Some.ensures.some.0;
      within = c.in-Some.ensures.within;
      found = c.in-Some.ensures.some.1;
      nested = c.requires.nested;
    }))

pub returns-in_ok-finish-in-None-clause-answer : goal.returns-in_ok-finish-in-None-clause-answer
returns-in_ok-finish-in-None-clause-answer g c =
    goes-finished (g.F.Files.holds c.args.files.now) c.args.root.now (g.F.Files.asked c.args.files.now) c.args.self.now c.finish.new.self c.args.unfinished c.requires.sound
    (rw c.as_slice-declarations.ensures at c.in-None.ensures.none) c.in_ok-finish-in-None.ensures

pub returns-in_ok-add-in-Some-clause-answer : goal.returns-in_ok-add-in-Some-clause-answer
returns-in_ok-add-in-Some-clause-answer g c =
    goes-opened (g.F.Files.holds c.args.files.now) c.args.root.now (g.F.Files.asked c.args.files.now) (g.F.Files.asked c.read.new.files) c.args.self.now c.put_off.new.self c.add.new.self c.args.unfinished c.as_slice-declarations.result.now c.as_str-path.result.now c.len-number.result c.in-Some.import.place c.in-Some.import.name.now c.in-Some.index c.in-Ok.module
    (record {
      sound = c.requires.sound;
      declarations = c.as_slice-declarations.ensures;
      path_is = c.as_str-path.ensures;
      number_is = search rules;
      skips = c.in-Some.ensures.none;
      behind = c.in-Some.ensures.some.0;
      within = c.in-Some.ensures.within;
      found = c.in-Some.ensures.some.1;
      nested = c.requires.nested;
    })
    c.if-number-ge-MOST_MODULES.false c.in-Ok.ensures.answer c.in-Ok.ensures.asked c.in_ok-put_off-in-Some.ensures c.in_ok-add-in-Some.ensures

pub returns-in_err-put_off-in-Some-clause-answer : goal.returns-in_err-put_off-in-Some-clause-answer
returns-in_err-put_off-in-Some-clause-answer g c =
    goes-memory (g.F.Files.holds c.args.files.now) c.args.root.now (g.F.Files.asked c.args.files.now) (g.F.Files.asked c.read.new.files) c.args.self.now (λ held. outcome_of held c.args.root.now c.put_off.new.self) c.args.unfinished c.as_slice-declarations.result.now c.as_str-path.result.now c.len-number.result c.in-Some.import.place c.in-Some.import.name.now c.in-Some.index c.from_residual-in_err-put_off-in-Some.result c.from_residual-in_err-put_off-in-Some.ensures.1
    (record {
      sound = c.requires.sound;
      declarations = c.as_slice-declarations.ensures;
      path_is = c.as_str-path.ensures;
      number_is = search rules;
      skips = c.in-Some.ensures.none;
      behind = c.in-Some.ensures.some.0;
      within = c.in-Some.ensures.within;
      found = c.in-Some.ensures.some.1;
      nested = c.requires.nested;
    })
    c.if-number-ge-MOST_MODULES.false c.in-Ok.ensures.asked

pub returns-in_err-add-in-Some-clause-answer : goal.returns-in_err-add-in-Some-clause-answer
returns-in_err-add-in-Some-clause-answer g c =
    goes-memory (g.F.Files.holds c.args.files.now) c.args.root.now (g.F.Files.asked c.args.files.now) (g.F.Files.asked c.read.new.files) c.args.self.now (λ held. outcome_of held c.args.root.now c.add.new.self) c.args.unfinished c.as_slice-declarations.result.now c.as_str-path.result.now c.len-number.result c.in-Some.import.place c.in-Some.import.name.now c.in-Some.index c.from_residual-in_err-add-in-Some.result c.from_residual-in_err-add-in-Some.ensures.1
    (record {
      sound = c.requires.sound;
      declarations = c.as_slice-declarations.ensures;
      path_is = c.as_str-path.ensures;
      number_is = search rules;
      skips = c.in-Some.ensures.none;
      behind = c.in-Some.ensures.some.0;
      within = c.in-Some.ensures.within;
      found = c.in-Some.ensures.some.1;
      nested = c.requires.nested;
    })
    c.if-number-ge-MOST_MODULES.false c.in-Ok.ensures.asked

pub returns-in_ok-finish-in-None-clause-under_way : goal.returns-in_ok-finish-in-None-clause-under_way
returns-in_ok-finish-in-None-clause-under_way g c =
    keeps-finished c.args.self.now c.finish.new.self c.args.unfinished c.requires.sound c.requires.under_way
    (rw c.as_slice-declarations.ensures at c.in-None.ensures.none) c.in_ok-finish-in-None.ensures

pub returns-in_ok-add-in-Some-clause-under_way : goal.returns-in_ok-add-in-Some-clause-under_way
returns-in_ok-add-in-Some-clause-under_way g c =
    keeps-opened c.args.self.now c.put_off.new.self c.add.new.self c.args.unfinished c.as_slice-declarations.result.now c.as_str-path.result.now c.len-number.result c.in-Some.import.place c.in-Some.import.name.now c.in-Some.index c.in-Ok.module
    (record {
      sound = c.requires.sound;
      declarations = c.as_slice-declarations.ensures;
      path_is = c.as_str-path.ensures;
      number_is = search rules;
      skips = c.in-Some.ensures.none;
      behind = c.in-Some.ensures.some.0;
      within = c.in-Some.ensures.within;
      found = c.in-Some.ensures.some.1;
      nested = c.requires.nested;
    })
    c.requires.under_way c.in-Ok.ensures.named c.in-Ok.ensures.numbered c.in_ok-put_off-in-Some.ensures c.in_ok-add-in-Some.ensures
