use Rattle.std.proofs.Common.{◌<◌, length, map, arith}
use Rattle.std.proofs.lemmas.Bool.Decides.{nat_tests}
use Rattle.rl_value.specs.Plain.{text}
use Rattle.rl_arguments.specs.Arguments.{list_of}
use Rattle.rl_strings.specs.Pieces.{all_pieces}
use Rattle.rl_strings.proofs.PiecesLemmas.{split_some, list_unbuilt}
use Rattle.rl_strings.proofs.pieces.split_by.Goals as goal

pub returns-in-Err : goal.returns-in-Err
returns-in-Err c =
    let some : 0 < length c.args.separator.now = grind (arith, nat_tests) in
    let pieces = map text (all_pieces c.args.separator.now c.args.whole.now) in
    rw (split_some c.args.separator.now c.args.whole.now some) (c.unbuilt.ensures (list_of pieces) (list_unbuilt pieces c.in-Err.end c.in-Err.ensures))
