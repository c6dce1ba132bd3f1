use Rattle.std.proofs.Common.{◌∙◌, sym, ap, string_bytes}
use Rattle.std.specs.List.{list_any}
use Rattle.std.specs.Str.{bytes_eq}
use Rattle.rl_modules.proofs.Keys.{list_any-map}
use Rattle.rl_modules.proofs.names.Names.contains.Goals as goal

pub returns : goal.returns
returns c =
    c.contains.ensures ∙ sym (list_any-map (bytes_eq c.args.name.now) string_bytes c.self.inside.set.keys) ∙ ap (list_any (bytes_eq c.args.name.now)) c.self.view_is
