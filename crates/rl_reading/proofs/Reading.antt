-- What a row gives is derived by the grammar, and is read as its derivation says.
use Rattle.std.proofs.Common.{◌≡◌, ℕ, zero, suc, ◌+◌, ◌&&◌, ◌||◌, Bool, true, false, List, [], ◌∷◌, ◌++◌, Some, None, refl, sym, ap, ◌∙◌, subst, ◌⊎◌, inl, inr}
use Rattle.std.specs.Prelude.{slice_get}
use Rattle.rl_base.specs.declared.place.Place.{Place}
use Rattle.rl_tokens.specs.Token as lexed
use Rattle.rl_tokens.specs.Terminal.{number_of}
use Rattle.rl_phrase.specs.declared.table.Rule.{Rule}
use Rattle.rl_phrase.specs.declared.table.Form as table
use Rattle.rl_phrase.specs.declared.table.Form.TheVariants.{Term, Link, Named, Seq, Choice, Star, Plus, Opt, Not}
use Rattle.rl_phrase.specs.Tree.{Tree, Trees, Token, Node, ◌then◌, only}
use Rattle.rl_phrase.specs.Tree as tree
use Rattle.rl_phrase.specs.Phr.{Gives, in_turn, first_of_rows, and_then, again, optional, terminal, of_form, of_rule, phr, node_of}
use Rattle.rl_phrase_table.specs.Expression.{Expression, Word, Name, Group, Parts, none, more}
use Rattle.rl_phrase_table.specs.Rows.{count, start_in}
use Rattle.rl_forms.specs.declared.form.Form.{Form}
use Rattle.rl_tokens.proofs.KindLemmas.{is_terminal_alone}
use Rattle.rl_reader.specs.Source.{place_at}
use Rattle.rl_reader.specs.Node.{form_of_node, form_of_rule, form_or_unknown, first_unknown, unless_unknown}
use Rattle.rl_reader.specs.Phrase.{form_of, forms_of}
use Rattle.rl_reading.proofs.Roles.{role_of, role_says}
use Rattle.rl_reading.proofs.Derivations.{Item, Leaf, Phrase, form_at, forms_in, Naming, OfClass, OfRule, naming_of, NamingSaid, named_item, kind_of, TokenSaid, token_form, Derives, DerivesAll, DerivesOne, items, items_all, items_one, made, IsKnown}
use Rattle.rl_reading.proofs.Rows.{is_link, is_naming, is_group, is_inner, is_rule_row, first_of, gives_nothing, is_at, are_at}
use Rattle.rl_reading.proofs.Outcomes.{and_then_gives, or_else_gives, optional_gives, again_gives, negated_gives, named_gives, terminal_gives, term_row, link_row, group_row, rule_row, both_true}
use Rattle.rl_reading.proofs.Tokens.{token_form_at, token_said}
use Rattle.rl_reading.proofs.KnownItems.{known_all}

-- What a rule has to meet, by its name: its rows are in the table, and what is made of its parts plays its role.
pub record Fact (rules : List Rule) (starts : List (List ℕ × ℕ)) (is_rule : List ℕ → Bool) (name : List ℕ) : Type 0 where
  pub parts : Parts
  pub naming : naming_of name ≡ OfRule (role_of name)
  pub row : is_rule_row (count parts) (slice_get rules (start_in starts name)) ≡ true
  pub rows : are_at rules starts is_rule (first_of (slice_get rules (start_in starts name))) parts ≡ true
  pub is_known : IsKnown (start_in starts name) (role_of name) (Group Named parts)

module _ (module_number : ℕ) (text : List ℕ) (tokens : List lexed.Token) where
  abbrev pub place_of : ℕ → Place
  place_of token = place_at (record { number = module_number; text = text; tokens = tokens }) token

  abbrev pub tree_form : Tree → Form
  tree_form it = form_of (record { number = module_number; text = text; tokens = tokens }) it

  abbrev pub tree_forms : Trees → List Form
  tree_forms trees = forms_of (record { number = module_number; text = text; tokens = tokens }) trees

  abbrev pub item_of : Tree → Item
  item_of (Token token) = Leaf (token_form_at module_number text tokens token)
  item_of (Node rule from to parts) = Phrase (tree_form (Node rule from to parts))

  abbrev pub items_of : Trees → List Item
  items_of tree.none = []
  items_of (tree.more it trees) = item_of it ∷ items_of trees

  items_then : (front behind : Trees) → items_of (front then behind) ≡ items_of front ++ items_of behind
  items_then tree.none behind = refl
  items_then (tree.more it trees) behind = ap (λ is. item_of it ∷ is) (items_then trees behind)

  form_at_item : (it : Tree) → form_at (item_of it) ≡ tree_form it
  form_at_item (Token token) = refl
  form_at_item (Node rule from to parts) = refl

  pub forms_in_items : (trees : Trees) → forms_in (items_of trees) ≡ tree_forms trees
  forms_in_items tree.none = refl
  forms_in_items (tree.more it trees) = ap (λ form. form ∷ forms_in (items_of trees)) (form_at_item it) ∙ ap (λ forms. tree_form it ∷ forms) (forms_in_items trees)

  node_by : (rule : ℕ) (place : Place) (trees : Trees) → first_unknown (forms_in (items_of trees)) ≡ None
      → form_of_node rule place (tree_forms trees) ≡ form_or_unknown (form_of_rule rule place (forms_in (items_of trees))) place
  unfolding form_of_node
  node_by rule place trees e =
      ap (λ forms. unless_unknown (first_unknown forms) (form_or_unknown (form_of_rule rule place forms) place)) (sym (forms_in_items trees))
      ∙ ap (λ first. unless_unknown first (form_or_unknown (form_of_rule rule place (forms_in (items_of trees))) place)) e

  -- a node says what is made of its parts
  node_made : (rule from to : ℕ) (trees : Trees) → first_unknown (forms_in (items_of trees)) ≡ None → item_of (node_of rule from to trees) ≡ made rule (place_of from) (items_of trees)
  node_made rule from to tree.none e = ap Phrase (node_by rule (place_of from) tree.none e)
  node_made rule from to (tree.more (Node r a b ps) tree.none) e = refl
  node_made rule from to (tree.more (Token t) tree.none) e = ap Phrase (node_by rule (place_of from) (tree.more (Token t) tree.none) e)
  node_made rule from to (tree.more (Token t) (tree.more u us)) e = ap Phrase (node_by rule (place_of from) (tree.more (Token t) (tree.more u us)) e)
  node_made rule from to (tree.more (Node r a b ps) (tree.more u us)) e = ap Phrase (node_by rule (place_of from) (tree.more (Node r a b ps) (tree.more u us)) e)

  -- What the trees are that a row gives.
  abbrev pub Reads : Expression → Trees → Type 0
  Reads expression trees = (derived : Derives expression) × (items_of trees ≡ items expression derived)

  abbrev pub ReadsAll : Parts → Trees → Type 0
  ReadsAll parts trees = (derived : DerivesAll parts) × (items_of trees ≡ items_all parts derived)

  abbrev ReadsOne : Parts → Trees → Type 0
  ReadsOne parts trees = (derived : DerivesOne parts) × (items_of trees ≡ items_one parts derived)

  abbrev ReadsNamed : Naming → Trees → Type 0
  ReadsNamed naming trees = (said : NamingSaid naming) × (items_of trees ≡ named_item naming said ∷ [])

  module _ (real : (token : ℕ) (t : lexed.Token) → slice_get tokens token ≡ Some t → is_terminal_alone t.kind ≡ false) (rules : List Rule) (starts : List (List ℕ × ℕ)) (is_rule : List ℕ → Bool) where
    module _ (fact : (name : List ℕ) → is_rule name ≡ true → Fact rules starts is_rule name) where
      -- what rows and rules give within so many levels
      abbrev RowsRead : ℕ → Type 0
      RowsRead n =
          (expression : Expression) (row : ℕ) → is_at rules starts is_rule row expression ≡ true
          → (token : ℕ) (trees : Trees) (next far : ℕ) → phr tokens rules n row token ≡ Some (Gives trees next far) → Reads expression trees

      abbrev RulesRead : ℕ → Type 0
      RulesRead n =
          (name : List ℕ) → is_rule name ≡ true
          → (token : ℕ) (trees : Trees) (next far : ℕ) → phr tokens rules n (start_in starts name) token ≡ Some (Gives trees next far) → ReadsNamed (OfRule (role_of name)) trees

      terminal_reads : (number token : ℕ) (trees : Trees) (next far : ℕ) → Some (terminal number token (slice_get tokens token)) ≡ Some (Gives trees next far)
          → (said : TokenSaid (kind_of number)) × (items_of trees ≡ Leaf (token_form number (kind_of number) said) ∷ [])
      terminal_reads number token trees next far e =
          let found = terminal_gives number token (slice_get tokens token) trees next far e in
          let said = token_said module_number text tokens token number found.0 found.1 (real token found.0 found.1) found.2 in
          (said.0, ap items_of found.3 ∙ ap (λ form. Leaf form ∷ []) said.1)

      module _ (n : ℕ) (rows : RowsRead n) (rules_read : RulesRead n) where
        naming_reads : (name : List ℕ) (naming : Naming) → naming_of name ≡ naming → (row : ℕ) → is_naming rules starts is_rule name naming (slice_get rules row) ≡ true
            → (token : ℕ) (trees : Trees) (next far : ℕ) → of_rule tokens (phr tokens rules n) row (slice_get rules row) token ≡ Some (Gives trees next far) → ReadsNamed naming trees
        naming_reads name (OfClass number) is row at token trees next far e =
            terminal_reads number token trees next far (sym (term_row tokens (phr tokens rules n) row token number (slice_get rules row) at) ∙ e)
        naming_reads name (OfRule role) is row at token trees next far e =
            let both = both_true (is_rule name) (is_link (start_in starts name) (slice_get rules row)) at in
            let found : ReadsNamed (OfRule (role_of name)) trees =
            rules_read name both.0 token trees next far (sym (link_row tokens (phr tokens rules n) row token (start_in starts name) (slice_get rules row) both.1) ∙ e) in
            let same : OfRule (role_of name) ≡ OfRule role = sym ((fact name both.0).naming) ∙ is in
            subst (λ naming. ReadsNamed naming trees) same found

        turn_reads : (parts : Parts) (first : ℕ) → are_at rules starts is_rule first parts ≡ true
            → (token : ℕ) (trees : Trees) (next far : ℕ) → in_turn (phr tokens rules n) first (count parts) token ≡ Some (Gives trees next far) → ReadsAll parts trees
        turn_reads none first at token trees next far e =
            let is : trees ≡ tree.none = cc in
            (tt, ap items_of is)
        turn_reads (more part rest) first at token trees next far e =
            let both = both_true (is_at rules starts is_rule first part) (are_at rules starts is_rule (first + 1) rest) at in
            let found = and_then_gives (phr tokens rules n first token) (in_turn (phr tokens rules n) (first + 1) (count rest)) trees next far e in
            let front = rows part first both.0 token found.front found.between found.front_far found.first_gives in
            let behind = turn_reads rest (first + 1) both.1 found.between found.behind next found.behind_far found.go_gives in
            ((front.0, behind.0), ap items_of found.are ∙ (items_then found.front found.behind ∙ (ap (λ xs. xs ++ items_of found.behind) front.1 ∙ ap (λ ys. items part front.0 ++ ys) behind.1)))

        one_reads : (parts : Parts) (first : ℕ) → are_at rules starts is_rule first parts ≡ true
            → (token : ℕ) (trees : Trees) (next far : ℕ) → first_of_rows (phr tokens rules n) first (count parts) token ≡ Some (Gives trees next far) → ReadsOne parts trees
        one_reads none first at token trees next far e = absurd cc
        one_reads (more part rest) first at token trees next far e =
            let both = both_true (is_at rules starts is_rule first part) (are_at rules starts is_rule (first + 1) rest) at in
            by both.0 both.1 (or_else_gives (phr tokens rules n first token) (first_of_rows (phr tokens rules n) (first + 1) (count rest) token) trees next far e) (one_reads rest (first + 1) both.1 token trees next)
          where
            by : is_at rules starts is_rule first part ≡ true → are_at rules starts is_rule (first + 1) rest ≡ true
                → ((f : ℕ) × (phr tokens rules n first token ≡ Some (Gives trees next f))) ⊎ ((f : ℕ) × (first_of_rows (phr tokens rules n) (first + 1) (count rest) token ≡ Some (Gives trees next f)))
                → ((f : ℕ) → first_of_rows (phr tokens rules n) (first + 1) (count rest) token ≡ Some (Gives trees next f) → ReadsOne rest trees)
                → ReadsOne (more part rest) trees
            by a b (inl found) others =
                let read = rows part first a token trees next found.0 found.1 in
                (inl read.0, read.1)
            by a b (inr found) others =
                let read = others found.0 found.1 in
                (inr read.0, read.1)

        star_reads : (parts : Parts) (row first : ℕ) → is_at rules starts is_rule row (Group Star parts) ≡ true → are_at rules starts is_rule first parts ≡ true
            → (token : ℕ) (trees : Trees) (next far : ℕ) → optional token (and_then (in_turn (phr tokens rules n) first (count parts) token) (again (phr tokens rules n row) token)) ≡ Some (Gives trees next far)
            → Reads (Group Star parts) trees
        star_reads parts row first at ats token trees next far e = by (optional_gives token (and_then (in_turn (phr tokens rules n) first (count parts) token) (again (phr tokens rules n row) token)) trees next far e)
          where
            more_turns : (front behind : Trees) (between f : ℕ) (derived : DerivesAll parts) → items_of front ≡ items_all parts derived → trees ≡ front then behind
                → (behind ≡ tree.none) ⊎ ((g : ℕ) × (phr tokens rules n row between ≡ Some (Gives behind next g))) → Reads (Group Star parts) trees
            more_turns front behind between f derived is are (inl nothing) =
                (derived ∷ [], ap items_of are ∙ (items_then front behind ∙ (ap (λ xs. xs ++ items_of behind) is ∙ ap (λ ts. items_all parts derived ++ items_of ts) nothing)))
            more_turns front behind between f derived is are (inr found) =
                let read = rows (Group Star parts) row at between behind next found.0 found.1 in
                (derived ∷ read.0, ap items_of are ∙ (items_then front behind ∙ (ap (λ xs. xs ++ items_of behind) is ∙ ap (λ ys. items_all parts derived ++ ys) read.1)))

            turned : (f : ℕ) → and_then (in_turn (phr tokens rules n) first (count parts) token) (again (phr tokens rules n row) token) ≡ Some (Gives trees next f) → Reads (Group Star parts) trees
            turned f e' =
                let found = and_then_gives (in_turn (phr tokens rules n) first (count parts) token) (again (phr tokens rules n row) token) trees next f e' in
                let read = turn_reads parts first ats token found.front found.between found.front_far found.first_gives in
                more_turns found.front found.behind found.between found.behind_far read.0 read.1 found.are (again_gives (phr tokens rules n row) token found.between found.behind next found.behind_far found.go_gives)

            by : (trees ≡ tree.none) ⊎ ((f : ℕ) × (and_then (in_turn (phr tokens rules n) first (count parts) token) (again (phr tokens rules n row) token) ≡ Some (Gives trees next f))) → Reads (Group Star parts) trees
            by (inl nothing) = ([], ap items_of nothing)
            by (inr found) = turned found.0 found.1

        plus_reads : (parts : Parts) (row first : ℕ) → is_at rules starts is_rule row (Group Plus parts) ≡ true → are_at rules starts is_rule first parts ≡ true
            → (token : ℕ) (trees : Trees) (next far : ℕ) → and_then (in_turn (phr tokens rules n) first (count parts) token) (again (phr tokens rules n row) token) ≡ Some (Gives trees next far)
            → Reads (Group Plus parts) trees
        plus_reads parts row first at ats token trees next far e =
            let found = and_then_gives (in_turn (phr tokens rules n) first (count parts) token) (again (phr tokens rules n row) token) trees next far e in
            let read = turn_reads parts first ats token found.front found.between found.front_far found.first_gives in
            more_turns found.front found.behind found.between read.0 read.1 found.are (again_gives (phr tokens rules n row) token found.between found.behind next found.behind_far found.go_gives)
          where
            more_turns : (front behind : Trees) (between : ℕ) (derived : DerivesAll parts) → items_of front ≡ items_all parts derived → trees ≡ front then behind
                → (behind ≡ tree.none) ⊎ ((g : ℕ) × (phr tokens rules n row between ≡ Some (Gives behind next g))) → Reads (Group Plus parts) trees
            more_turns front behind between derived is are (inl nothing) =
                ((derived, []), ap items_of are ∙ (items_then front behind ∙ (ap (λ xs. xs ++ items_of behind) is ∙ ap (λ ts. items_all parts derived ++ items_of ts) nothing)))
            more_turns front behind between derived is are (inr found) =
                let read = rows (Group Plus parts) row at between behind next found.0 found.1 in
                ((derived, read.0.0 ∷ read.0.1), ap items_of are ∙ (items_then front behind ∙ (ap (λ xs. xs ++ items_of behind) is ∙ ap (λ ys. items_all parts derived ++ ys) read.1)))

        opt_reads : (parts : Parts) (first : ℕ) → are_at rules starts is_rule first parts ≡ true
            → (token : ℕ) (trees : Trees) (next far : ℕ) → optional token (in_turn (phr tokens rules n) first (count parts) token) ≡ Some (Gives trees next far) → Reads (Group Opt parts) trees
        opt_reads parts first ats token trees next far e = by (optional_gives token (in_turn (phr tokens rules n) first (count parts) token) trees next far e)
          where
            by : (trees ≡ tree.none) ⊎ ((f : ℕ) × (in_turn (phr tokens rules n) first (count parts) token ≡ Some (Gives trees next f))) → Reads (Group Opt parts) trees
            by (inl nothing) = (None, ap items_of nothing)
            by (inr found) =
                let read = turn_reads parts first ats token trees next found.0 found.1 in
                (Some read.0, read.1)

        -- the rows of the expression's parts are at hand, unless it gives nothing
        group_reads : (form : table.Form) (parts : Parts) (row : ℕ) → is_at rules starts is_rule row (Group form parts) ≡ true → is_inner form ≡ true
            → (gives_nothing form || are_at rules starts is_rule (first_of (slice_get rules row)) parts) ≡ true
            → (token : ℕ) (trees : Trees) (next far : ℕ) → of_form tokens (phr tokens rules n) row form (first_of (slice_get rules row)) (count parts) token ≡ Some (Gives trees next far)
            → Reads (Group form parts) trees
        group_reads Seq parts row at inner ats token trees next far e = turn_reads parts (first_of (slice_get rules row)) ats token trees next far e
        group_reads Choice parts row at inner ats token trees next far e = one_reads parts (first_of (slice_get rules row)) ats token trees next far e
        group_reads Star parts row at inner ats token trees next far e = star_reads parts row (first_of (slice_get rules row)) at ats token trees next far e
        group_reads Plus parts row at inner ats token trees next far e = plus_reads parts row (first_of (slice_get rules row)) at ats token trees next far e
        group_reads Opt parts row at inner ats token trees next far e = opt_reads parts (first_of (slice_get rules row)) ats token trees next far e
        group_reads Not parts row at inner ats token trees next far e =
            (tt, ap items_of (negated_gives token (in_turn (phr tokens rules n) (first_of (slice_get rules row)) (count parts) token) trees next far e))
        group_reads Named parts row at inner ats token trees next far e = absurd cc
        group_reads Link parts row at inner ats token trees next far e = absurd cc
        group_reads (Term number) parts row at inner ats token trees next far e = absurd cc

        more_rows : RowsRead (suc n)
        more_rows (Word word) row at token trees next far e =
            terminal_reads (number_of word) token trees next far (sym (term_row tokens (phr tokens rules n) row token (number_of word) (slice_get rules row) at) ∙ e)
        more_rows (Name name) row at token trees next far e = naming_reads name (naming_of name) refl row at token trees next far e
        more_rows (Group form parts) row at token trees next far e =
            let all = both_true (is_inner form && is_group form (count parts) (slice_get rules row)) (gives_nothing form || are_at rules starts is_rule (first_of (slice_get rules row)) parts) at in
            let both = both_true (is_inner form) (is_group form (count parts) (slice_get rules row)) all.0 in
            group_reads form parts row at both.0 all.1 token trees next far (sym (group_row tokens (phr tokens rules n) row token form (count parts) (slice_get rules row) both.1) ∙ e)

        -- what a rule's row gives is a node of its parts
        pub rule_reads : (row : ℕ) (parts : Parts) → is_rule_row (count parts) (slice_get rules row) ≡ true → are_at rules starts is_rule (first_of (slice_get rules row)) parts ≡ true
            → (token : ℕ) (trees : Trees) (next far : ℕ) → phr tokens rules (suc n) row token ≡ Some (Gives trees next far)
            → (inside : Trees) × (to : ℕ) × (trees ≡ only (node_of row token to inside)) × ReadsAll parts inside
        rule_reads row parts is ats token trees next far e =
            let node = named_gives row token (in_turn (phr tokens rules n) (first_of (slice_get rules row)) (count parts) token) trees next far (sym (rule_row tokens (phr tokens rules n) row token (count parts) (slice_get rules row) is) ∙ e) in
            (node.0, node.1, node.4, turn_reads parts (first_of (slice_get rules row)) ats token node.0 node.1 node.2 node.3)

        phrase_made : (rule : ℕ) (place : Place) (parts : List Item) → made rule place parts ≡ Phrase (form_at (made rule place parts))
        phrase_made rule place [] = refl
        phrase_made rule place (Phrase form ∷ []) = refl
        phrase_made rule place (Leaf form ∷ parts) = refl
        phrase_made rule place (Phrase form ∷ part ∷ parts) = refl

        more_rules : RulesRead (suc n)
        more_rules name is token trees next far e =
            let it = fact name is in
            let row : ℕ = start_in starts name in
            let found = rule_reads row it.parts it.row it.rows token trees next far e in
            let derived : DerivesAll it.parts = found.3.0 in
            let known : first_unknown (forms_in (items_of found.0)) ≡ None = ap (λ is. first_unknown (forms_in is)) found.3.1 ∙ known_all it.parts derived in
            let node : item_of (node_of row token found.1 found.0) ≡ made row (place_of token) (items_all it.parts derived) =
            node_made row token found.1 found.0 known ∙ ap (made row (place_of token)) found.3.1 in
            let said = role_says (role_of name) (form_at (made row (place_of token) (items_all it.parts derived))) (it.is_known (place_of token) derived) in
            (said.0, ap items_of found.2 ∙ ap (λ item. item ∷ []) (node ∙ (phrase_made row (place_of token) (items_all it.parts derived) ∙ ap Phrase said.1)))

      pub all_read : (n : ℕ) → RowsRead n × RulesRead n
      all_read zero = ((λ expression row at token trees next far e. absurd cc), (λ name is token trees next far e. absurd cc))
      all_read (suc n) =
          let below = all_read n in
          (more_rows n below.0 below.1, more_rules n below.0 below.1)
