use Rattle.std.proofs.Common.{◌∙◌, ◌++◌, ap, sym}
use Rattle.std.specs.String.{string_bytes}
use Rattle.rl_strings.specs.Pieces.{pieces, all_pieces, joined}
use Rattle.rl_strings.proofs.PiecesLemmas.{cut_at, last_piece, replaced_on}
use Rattle.rl_strings.proofs.pieces.with_replacement.Goals as goal

pub split_once-requires-text-self : goal.split_once-requires-text-self
split_once-requires-text-self c κs = c.loop-piece.invariant.2

pub push_str-requires-2-text-string : goal.push_str-requires-2-text-string
push_str-requires-2-text-string c κs = c.loop-piece.invariant.2

pub loop-piece-preserved : goal.loop-piece-preserved
loop-piece-preserved c =
    let m = c.loop-piece.invariant.0 in
    let cut =
    cut_at m c.args.part.now c.loop-piece.rest.now c.in-Some.piece.now c.in-Some.behind.now c.requires c.loop-piece.invariant.1 c.loop-piece.invariant.2 c.in-Some.ensures.cases in (
      cut.fewer,
      cut.shorter,
      cut.utf8,
      rw (c.in_ok-push_str-2.ensures.bytes, c.in_ok-push_str.ensures.bytes)
          (replaced_on (string_bytes c.loop-piece.out) (joined c.args.replacement.now (all_pieces c.args.part.now c.args.whole.now)) c.args.replacement.now c.in-Some.piece.now
          c.args.part.now c.in-Some.behind.now (pieces m c.args.part.now c.loop-piece.rest.now) cut.fewer cut.cut c.loop-piece.invariant.3),
    )

pub returns : goal.returns
returns c =
    let m = c.loop-piece.invariant.0 in
    let last = last_piece m c.args.part.now c.loop-piece.rest.now c.in_default.ensures.cases in
    c.in_ok-push_str-3.ensures.bytes
    ∙ ap (λ ps. string_bytes c.loop-piece.out ++ joined c.args.replacement.now ps) (sym last)
    ∙ c.loop-piece.invariant.3
