-- What a phrase says.
use Rattle.std.specs.Prelude.{List, [], ◌∷◌}
use Rattle.rl_phrase.specs.Tree.{Tree, Trees, Token, Node, none, more}
use Rattle.rl_reader.specs.declared.source.Source.{Source}
use Rattle.rl_forms.specs.declared.form.Form.{Form}
use Rattle.rl_reader.specs.Source.{place_at}
use Rattle.rl_reader.specs.Token.{form_of_token}
use Rattle.rl_reader.specs.Node.{form_of_node}

-- a token by its text, and a node by what its parts say
abbrev mutual
  pub form_of : Source → Tree → Form
  form_of source (Token token) = form_of_token source token
  form_of source (Node rule from to parts) = form_of_node rule (place_at source from) (forms_of source parts)

  pub forms_of : Source → Trees → List Form
  forms_of source none = []
  forms_of source (more tree trees) = form_of source tree ∷ forms_of source trees
