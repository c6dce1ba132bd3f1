use Rattle.std.proofs.Common.{◌≡◌, true, false, List, ℕ, refl, rules}
use Rattle.std.specs.Str.{IsUtf8, is_utf8}
use Rattle.std.proofs.lemmas.Str.{IsUtf8-from_is_utf8, is_utf8-from_IsUtf8, chars_from_encodes}
use Rattle.rl_base.proofs.decode.chars.Goals as goal

is_utf8-no : (bs : List ℕ) → (IsUtf8 bs → ⊥) → is_utf8 bs ≡ false
is_utf8-no bs refused = elim (is_utf8 bs) as (λ b. (is_utf8 bs ≡ b → b ≡ false)) [ true ↦ λ e. absurd (refused (IsUtf8-from_is_utf8 bs e)) | false ↦ λ e. refl ] refl

pub returns-in_ok-new-in-Ok : goal.returns-in_ok-new-in-Ok
returns-in_ok-new-in-Ok c =
    let yes = is_utf8-from_IsUtf8 c.args.bytes.now c.in-Ok.ensures.cases.1 in
    rw yes (search (rules, chars_from_encodes))

pub returns-in-Err : goal.returns-in-Err
returns-in-Err c =
    let no = is_utf8-no c.args.bytes.now c.in-Err.ensures.cases.0 in
    rw no (search rules)
