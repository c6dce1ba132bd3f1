use Rattle.std.proofs.Common.{map, []}
use Rattle.rl_value.specs.Plain.{text}
use Rattle.rl_strings.specs.Pieces.{pieces, all_pieces}
use Rattle.rl_strings.proofs.PiecesLemmas.{cut_at, last_piece, pushed, in_front, spoils}
use Rattle.rl_strings.proofs.pieces.all_pieces.Goals as goal

pub split_once-requires-text-self : goal.split_once-requires-text-self
split_once-requires-text-self c κs = c.loop-piece.invariant.2

pub text-requires-2-text-s : goal.text-requires-2-text-s
text-requires-2-text-s c κs = c.loop-piece.invariant.2

pub loop-piece-preserved : goal.loop-piece-preserved
loop-piece-preserved c =
    let m = c.loop-piece.invariant.0 in
    let cut =
    cut_at m c.args.separator.now c.loop-piece.rest.now c.in-Some.piece.now c.in-Some.behind.now c.requires c.loop-piece.invariant.1 c.loop-piece.invariant.2 c.in-Some.ensures.cases in (
      cut.fewer,
      cut.shorter,
      cut.utf8,
      rw c.in_ok-push-in-Ok.ensures.items
          (pushed c.loop-piece.pieces.items (map text (all_pieces c.args.separator.now c.args.whole.now)) (pieces m c.args.separator.now c.loop-piece.rest.now)
          (pieces cut.fewer c.args.separator.now c.in-Some.behind.now) c.in-Some.piece.now c.in-Ok.piece cut.cut c.in-Ok.ensures.0 c.loop-piece.invariant.3),
    )

pub returns-in-Err : goal.returns-in-Err
returns-in-Err c =
    let m = c.loop-piece.invariant.0 in
    let cut =
    cut_at m c.args.separator.now c.loop-piece.rest.now c.in-Some.piece.now c.in-Some.behind.now c.requires c.loop-piece.invariant.1 c.loop-piece.invariant.2 c.in-Some.ensures.cases in
    let all = map text (all_pieces c.args.separator.now c.args.whole.now) in
    let behind = pieces cut.fewer c.args.separator.now c.in-Some.behind.now in
    spoils all c.loop-piece.pieces.items (map text behind) (text c.in-Some.piece.now) c.in-Err.end
    (in_front c.loop-piece.pieces.items all (pieces m c.args.separator.now c.loop-piece.rest.now) behind c.in-Some.piece.now cut.cut c.loop-piece.invariant.3) c.in-Err.ensures

pub returns-in-Err-text : goal.returns-in-Err-text
returns-in-Err-text c =
    let m = c.loop-piece.invariant.0 in
    let last = last_piece m c.args.separator.now c.loop-piece.rest.now c.in_default.ensures.cases in
    let all = map text (all_pieces c.args.separator.now c.args.whole.now) in
    spoils all c.loop-piece.pieces.items [] (text c.loop-piece.rest.now) c.in-Err-text.end
    (in_front c.loop-piece.pieces.items all (pieces m c.args.separator.now c.loop-piece.rest.now) [] c.loop-piece.rest.now last c.loop-piece.invariant.3) c.in-Err-text.ensures

pub returns : goal.returns
returns c =
    let m = c.loop-piece.invariant.0 in
    let last = last_piece m c.args.separator.now c.loop-piece.rest.now c.in_default.ensures.cases in
    let all = map text (all_pieces c.args.separator.now c.args.whole.now) in
    rw (c.in_ok-push-in-Ok-text.ensures.items, c.in-Ok-text.ensures.0)
    (in_front c.loop-piece.pieces.items all (pieces m c.args.separator.now c.loop-piece.rest.now) [] c.loop-piece.rest.now last c.loop-piece.invariant.3)
