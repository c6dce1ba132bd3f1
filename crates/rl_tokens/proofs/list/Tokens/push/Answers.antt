use Rattle.std.proofs.Common.{◌≡◌, ◌++◌, ◌∙◌, length, ap, subst, arith}
use Rattle.std.proofs.lemmas.List.{length-map}
use Rattle.std.specs.Prelude.{encode_utf8_all}
use Rattle.std.specs.Str.{IsUtf8}
use Rattle.std.specs.String.{string_bytes}
use Rattle.rl_tokens.specs.List.{token_of}
use Rattle.rl_tokens.specs.declared.list.Entry.{Entry}
use Rattle.rl_tokens.proofs.ListLemmas.{pieces_grow, pieces_push, tokens_push}
use Rattle.rl_tokens.proofs.list.Tokens.push.Goals as goal

pub invariant_of-self : goal.invariant_of-self
invariant_of-self c =
    let texts = string_bytes c.self.inside.texts in
    let grown = c.append.ensures.some in
    (c.self.invariant.0, rw grown.1 (pieces_grow texts grown.0 c.self.inside.entries.items c.self.invariant.1))

pub invariant_of-self-in_err-to : goal.invariant_of-self-in_err-to
invariant_of-self-in_err-to c =
    let texts = string_bytes c.self.inside.texts in
    let grown = c.append.ensures.some in
    (c.self.invariant.0, rw grown.1 (pieces_grow texts grown.0 c.self.inside.entries.items c.self.invariant.1))

pub invariant_of-self-in_err-push : goal.invariant_of-self-in_err-push
invariant_of-self-in_err-push c =
    let texts = string_bytes c.self.inside.texts in
    let grown = c.append.ensures.some in
    rw (c.in_err-push.ensures.items, grown.1) (c.self.invariant.0, pieces_grow texts grown.0 c.self.inside.entries.items c.self.invariant.1)

pub invariant_of-self-2 : goal.invariant_of-self-2
invariant_of-self-2 c =
    let texts = string_bytes c.self.inside.texts in
    let entries = c.self.inside.entries.items in
    let added = encode_utf8_all c.args.text.now in
    let entry : Entry = record { kind = c.args.kind; offset = c.args.offset; length = length c.args.text.now; from = c.in_ok-from.from; to = c.in_ok-to.to } in
    let grown : string_bytes c.append.new.texts ≡ texts ++ added = c.in_ok-append.ensures.all in
    let from : c.in_ok-from.from ≡ length texts = c.in_ok-from.ensures ∙ ap length c.as_str.ensures.value in
    let to : c.in_ok-to.to ≡ length (texts ++ added) = c.in_ok-to.ensures ∙ ap length (c.as_str-2.ensures.value ∙ grown) in
    let before : IsUtf8 texts = subst IsUtf8 c.as_str.ensures.value c.as_str.utf8 in
    let after : IsUtf8 (texts ++ added) = subst IsUtf8 (c.as_str-2.ensures.value ∙ grown) c.as_str-2.utf8 in
    let count = length-map entries (token_of texts) in
    let few = ap length c.self.view_is in
    rw grown (omega (arith, c.in_ok-push.ensures.len, c.requires.few, few, count), rw c.in_ok-push.ensures.items (pieces_push texts added entry from to entries before after c.self.invariant.1))

pub returns : goal.returns
returns c =
    let texts = string_bytes c.self.inside.texts in
    let entries = c.self.inside.entries.items in
    let added = encode_utf8_all c.args.text.now in
    let entry : Entry = record { kind = c.args.kind; offset = c.args.offset; length = length c.args.text.now; from = c.in_ok-from.from; to = c.in_ok-to.to } in
    let grown : string_bytes c.append.new.texts ≡ texts ++ added = c.in_ok-append.ensures.all in
    let from : c.in_ok-from.from ≡ length texts = c.in_ok-from.ensures ∙ ap length c.as_str.ensures.value in
    let to : c.in_ok-to.to ≡ length (texts ++ added) = c.in_ok-to.ensures ∙ ap length (c.as_str-2.ensures.value ∙ grown) in
    rw (grown, c.in_ok-push.ensures.items, ← c.self.view_is) (tokens_push texts added entry from to entries c.self.invariant.1)
