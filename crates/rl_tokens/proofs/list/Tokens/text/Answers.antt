use Rattle.std.proofs.Common.{◌≡◌, ◌∙◌, sym, ap, subst}
use Rattle.std.specs.Prelude.{Some, slice_get, slice_range}
use Rattle.std.specs.Str.{IsUtf8}
use Rattle.std.specs.String.{string_bytes}
use Rattle.rl_tokens.specs.List.{IsPiece}
use Rattle.rl_tokens.specs.Token.{texts_of}
use Rattle.rl_tokens.proofs.ListLemmas.{read_at, piece_at, start_boundary, end_boundary}
use Rattle.rl_tokens.proofs.list.Tokens.text.Goals as goal

pub range-requires-clause-start_boundary : goal.range-requires-clause-start_boundary
range-requires-clause-start_boundary c inside =
    let texts = string_bytes c.self.inside.texts in
    let entry = c.index-entry.result.now in
    let piece : IsPiece texts entry = piece_at texts c.self.inside.entries.items c.args.i entry c.self.invariant.1 (rw c.self.view_is c.requires) c.index-entry.ensures in
    rw c.deref.ensures (start_boundary texts entry (subst IsUtf8 c.deref.ensures c.deref.utf8) piece)

pub range-requires-clause-end_boundary : goal.range-requires-clause-end_boundary
range-requires-clause-end_boundary c =
    let texts = string_bytes c.self.inside.texts in
    let entry = c.index-entry.result.now in
    let piece : IsPiece texts entry = piece_at texts c.self.inside.entries.items c.args.i entry c.self.invariant.1 (rw c.self.view_is c.requires) c.index-entry.ensures in
    rw c.deref.ensures (end_boundary texts entry (subst IsUtf8 c.deref.ensures c.deref.utf8) piece)

pub returns : goal.returns
returns c =
    let texts = string_bytes c.self.inside.texts in
    let entry = c.index-entry.result.now in
    let read : slice_get (texts_of c.args.self.now) c.args.i ≡ Some (slice_range texts entry.from entry.to) =
    rw (← c.self.view_is) (read_at (λ token. token.text) texts c.self.inside.entries.items c.args.i entry (rw c.self.view_is c.requires) c.index-entry.ensures) in
    let same = c.range.ensures.value ∙ ap (λ bytes. slice_range bytes entry.from entry.to) c.deref.ensures in
    read ∙ ap Some (sym same)
