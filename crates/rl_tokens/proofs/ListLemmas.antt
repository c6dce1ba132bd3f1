-- Tokens whose texts are pieces of one, as that text grows.
use Rattle.std.proofs.Common.{◌≡◌, ℕ, zero, suc, ◌-◌, ◌<◌, List, [], ◌∷◌, ◌++◌, map, length, take, drop, All, refl, sym, ap, subst, ◌∙◌, arith, length-append, length-drop}
use Rattle.std.proofs.lemmas.List.{take_all, take_at, drop_at, take-append-le, drop-append-le, length-map, map-append}
use Rattle.std.proofs.lemmas.List.Elements.{All-append}
use Rattle.std.proofs.lemmas.Str.{IsCharBoundary-from_take}
use Rattle.std.specs.Prelude.{Some, slice_get, slice_index_or}
use Rattle.std.specs.Str.{IsUtf8, IsCharBoundary}
use Rattle.rl_tokens.specs.List.{token_of, tokens_of, IsPiece}
use Rattle.rl_tokens.specs.Token.{Token}
use Rattle.rl_tokens.specs.declared.list.Entry.{Entry}

-- an entry that is read
pub read_at : {X : Type 0} (part : Token → X) (texts : List ℕ) (entries : List Entry) (i : ℕ) (entry : Entry) → i < length (tokens_of texts entries) → entry ≡ slice_index_or entries i entry → slice_get (map part (tokens_of texts entries)) i ≡ Some (part (token_of texts entry))
read_at part texts [] i entry h e = absurd (omega arith)
read_at part texts (x ∷ entries) zero entry h e = ap (λ e. Some (part (token_of texts e))) (sym e)
read_at part texts (x ∷ entries) (suc i) entry h e = read_at part texts entries i entry (omega arith) e

pub piece_at : (texts : List ℕ) (entries : List Entry) (i : ℕ) (entry : Entry) → All (IsPiece texts) entries → i < length (tokens_of texts entries) → entry ≡ slice_index_or entries i entry → IsPiece texts entry
piece_at texts entries i entry pieces h e =
    let count = length-map entries (token_of texts) in
    subst (IsPiece texts) (sym e) (pieces i entry (omega (arith, h, count)))

-- a piece may be cut out
pub start_boundary : (texts : List ℕ) (entry : Entry) → IsUtf8 texts → IsPiece texts entry → IsCharBoundary texts entry.from
start_boundary texts entry utf8 piece =
    IsCharBoundary-from_take texts entry.from utf8 (omega (arith, piece.ordered, piece.within)) piece.start

pub end_boundary : (texts : List ℕ) (entry : Entry) → IsUtf8 texts → IsPiece texts entry → IsCharBoundary texts entry.to
end_boundary texts entry utf8 piece = IsCharBoundary-from_take texts entry.to utf8 piece.within piece.end

-- a piece stays as it is
piece_grows : (texts added : List ℕ) (entry : Entry) → IsPiece texts entry → IsPiece (texts ++ added) entry
piece_grows texts added entry piece =
    let longer = length-append texts added in
    record {
      ordered = piece.ordered;
      within = omega (arith, piece.within, longer);
      start = rw (take-append-le entry.from texts added (omega (arith, piece.ordered, piece.within))) piece.start;
      end = rw (take-append-le entry.to texts added piece.within) piece.end;
    }

pub pieces_grow : (texts added : List ℕ) (entries : List Entry) → All (IsPiece texts) entries → All (IsPiece (texts ++ added)) entries
pieces_grow texts added entries pieces k d h = piece_grows texts added (slice_index_or entries k d) (pieces k d h)

token_grows : (texts added : List ℕ) (entry : Entry) → IsPiece texts entry → token_of (texts ++ added) entry ≡ token_of texts entry
token_grows texts added entry piece =
    let len = entry.to - entry.from in
    let left = length-drop entry.from texts in
    let front = drop-append-le entry.from texts added (omega (arith, piece.ordered, piece.within)) in
    let within = take-append-le len (drop entry.from texts) added (omega (arith, left, piece.ordered, piece.within)) in
    ap (λ bytes. let t : Token = record { kind = entry.kind; text = bytes; offset = entry.offset; length = entry.length } in t) (ap (take len) front ∙ within)

tokens_grow : (texts added : List ℕ) (entries : List Entry) → All (IsPiece texts) entries → tokens_of (texts ++ added) entries ≡ tokens_of texts entries
tokens_grow texts added [] pieces = refl
tokens_grow texts added (entry ∷ entries) pieces =
    let first = token_grows texts added entry (pieces 0 entry (omega arith)) in
    let others = tokens_grow texts added entries (λ k d h. pieces (suc k) d (omega (arith, h))) in
    ap (λ t. t ∷ tokens_of (texts ++ added) entries) first ∙ ap (λ ts. token_of texts entry ∷ ts) others

-- the piece at the end of the text
module _ (texts added : List ℕ) (entry : Entry) (from : entry.from ≡ length texts) (to : entry.to ≡ length (texts ++ added)) where
  last_piece : IsUtf8 texts → IsUtf8 (texts ++ added) → IsPiece (texts ++ added) entry
  last_piece before after =
      let longer = length-append texts added in
      record {
        ordered = omega (arith, longer, from, to);
        within = omega (arith, to);
        start = rw (take_at texts added entry.from (sym from)) before;
        end = rw (to, take_all (length (texts ++ added)) (texts ++ added) (omega arith)) after;
      }

  last_text : take (entry.to - entry.from) (drop entry.from (texts ++ added)) ≡ added
  last_text =
      let longer = length-append texts added in
      ap (take (entry.to - entry.from)) (drop_at texts added entry.from (sym from)) ∙ take_all (entry.to - entry.from) added (omega (arith, longer, from, to))

  pub pieces_push : (entries : List Entry) → IsUtf8 texts → IsUtf8 (texts ++ added) → All (IsPiece texts) entries → All (IsPiece (texts ++ added)) (entries ++ entry ∷ [])
  pieces_push entries before after pieces =
      All-append (IsPiece (texts ++ added)) entries (entry ∷ []) (pieces_grow texts added entries pieces) (only (last_piece before after))
    where
      only : IsPiece (texts ++ added) entry → All (IsPiece (texts ++ added)) (entry ∷ [])
      only piece zero d h = piece
      only piece (suc k) d h = absurd (omega arith)

  pub tokens_push : (entries : List Entry) → All (IsPiece texts) entries → tokens_of (texts ++ added) (entries ++ entry ∷ []) ≡ tokens_of texts entries ++ record { kind = entry.kind; text = added; offset = entry.offset; length = entry.length } ∷ []
  tokens_push entries pieces =
      let last = ap (λ bytes. let t : Token = record { kind = entry.kind; text = bytes; offset = entry.offset; length = entry.length } in t) last_text in
      map-append (token_of (texts ++ added)) entries (entry ∷ [])
      ∙ (ap (λ ts. ts ++ token_of (texts ++ added) entry ∷ []) (tokens_grow texts added entries pieces)
      ∙ ap (λ t. tokens_of texts entries ++ t ∷ []) last)
