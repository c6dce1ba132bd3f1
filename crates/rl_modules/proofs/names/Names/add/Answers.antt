use Rattle.std.proofs.Common.{[], ◌∷◌, ◌++◌, ◌∙◌, ap, map, string_bytes}
use Rattle.std.specs.List.{list_any}
use Rattle.std.specs.Str.{bytes_eq}
use Rattle.rl_modules.proofs.Keys.{insert_key-new}
use Rattle.rl_modules.proofs.names.Names.add.Goals as goal

pub returns-clause-ok : goal.returns-clause-ok
returns-clause-ok c =
    ap (map string_bytes) c.in_ok-insert.ensures.keys
    ∙ insert_key-new c.self.inside.set.keys c.in_ok-from_str.field-0 c.args.name.now c.in_ok-from_str.ensures.ok
    (ap (list_any (bytes_eq c.args.name.now)) c.self.view_is ∙ c.requires)
    ∙ ap (λ names. names ++ c.args.name.now ∷ []) c.self.view_is
