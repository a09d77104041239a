-- Relational expressions and tests at other places, in a scope where what they name is alike: the typed tree is the moved one.
--     Carries      what is typed here, and names none of some, is typed there, moved
--     rel-elsewhere, test-elsewhere      the law
--     tree-elsewhere      the same where each name of a state may be named
use Rattle.std.proofs.Common.{◌≡◌, Bool, true, false, not, List, [], ◌∷◌, ◌++◌, Option, Some, None, Ok, if◌then◌else◌, refl, sym, ap, ◌∙◌, subst}
use Rattle.std.specs.Prelude.{◌||◌, IfOk}
use Rattle.std.specs.Str.{bytes_eq}
use Rattle.std.proofs.lemmas.Bool.{or_parts, or_from, not-true}
use Rattle.base_core.specs.Outcomes.{then_give}
use Rattle.point_core.specs.declared.fault.Code.TheVariants.{E10, E20}
use Rattle.point_core.specs.declared.fault.Place.{Place}
use Rattle.point_core.specs.Faults.{OrFault}
use Rattle.utd_syntax.specs.Plain as syntax
use Rattle.utd_syntax.specs.Plain.{Word, NameListP, RelP, TermsP, TermP, RelPrimaryP, OperandP, ExtendP, SummarizeP, UsingP, UsingPartP, ComparisonP, TestP}
use Rattle.value_core.specs.declared.list.OrdinalNames.{OrdinalNames}
use Rattle.value_core.specs.Values.{Name, Heading}
use Rattle.scalar_typing.specs.Typings.{value_or}
use Rattle.relation_typing.specs.Attributes.{name_typed}
use Rattle.relation_typing.specs.Literals.{literal_typed}
use Rattle.tree_core.specs.declared.tree.InfixWord.TheVariants.{NotMatching}
use Rattle.tree_core.specs.Relvars.{State, PlainRelvar, Entries, relvar_named, relvar_heading}
use Rattle.tree_core.specs.Trees.{Tree, named, Test}
use Rattle.tree_core.specs.Uses.{names_any, test_names_any}
use Rattle.node_typing.specs.Infixes.{infix_named}
use Rattle.node_typing.specs.Nodes.{infix_rule, projection_rule, renaming_rule, restriction_rule, extension_rule, summary_rule, packing_rule, relation_named, comparison_rule, using_comparison_rule, emptiness_test}
use Rattle.node_typing.specs.Positions.{check}
use Rattle.node_typing.specs.Usings.{using_infix_rule, using_projection_rule, using_restriction_rule, using_extension_rule, using_summary_rule}
use Rattle.tree_typing.specs.Scopes.{Scope, scope_of}
use Rattle.tree_typing.specs.Trees.{relvar_typed, rel_typed, terms_typed, term_typed, primary_typed, operand_typed, extend_typed, summarize_typed, using_typed, used_typed, used_extend_typed, used_summarize_typed, tree_typed, comparison_typed, used_comparison_typed, test_typed_in}
use Rattle.place_laws.specs.Moved as written
use Rattle.place_laws.specs.Moved.{moved_word, moved_scalar, moved_projection, moved_renamings, moved_names, moved_name_list, moved_aggregates, moved_literal, moved_rel, moved_terms, moved_term, moved_rel_primary, moved_operand, moved_extend, moved_summarize, moved_using, moved_using_part, moved_comparison}
use Rattle.meaning_laws.specs.Likeness.{LikeIf, Alike, has_entry, unknown}
use Rattle.meaning_laws.specs.Moved.{moved_tree, moved_test}
use Rattle.meaning_laws.proofs.LikeLemmas.{like-heading}
use Rattle.row_typing_laws.specs.Followings.{Follows}
use Rattle.row_typing_laws.proofs.ElsewhereLiterals.{literal-follows}
use Rattle.row_typing_laws.proofs.ElsewhereNames.{word-follows}
use Rattle.row_typing_laws.proofs.Parts.{parts-of, joined-of, check-holds, check-given}
use Rattle.typing_laws.proofs.SameGiven.{ok-same}
use Rattle.tree_typing.proofs.NodeNames.{given-of, infix-names, projection-names, renaming-names, packing-names, restriction-names, extension-names, summary-names, using-infix-names, using-projection-names, using-restriction-names, using-extension-names, using-summary-names, comparison-names, using-comparison-names, emptiness-names}
use Rattle.typing_laws.proofs.NodesElsewhere.{infix-follows, projection-follows, renaming-rule-follows, restriction-follows, extension-rule-follows, summary-follows, packing-follows, comparison-follows, using-comparison-follows, emptiness-moved}
use Rattle.typing_laws.proofs.UsingsElsewhere.{using-infix-follows, using-projection-follows, using-restriction-follows, using-extension-follows, using-summary-follows}

-- ---- what is carried over

abbrev pub Carries : {B : Type 0} → (B → B) → (B → Bool) → OrFault B → OrFault B → Type 0
Carries {B} move any m n = (b : B) → any b ≡ false → m ≡ Ok b → n ≡ Ok (move b)

module _ (f : Place → Place) (some : Name → Bool) where
  abbrev pub CarriesTree : OrFault Tree → OrFault Tree → Type 0
  CarriesTree m n = Carries (moved_tree f) (names_any some) m n

  -- one operand, and two
  pub unary : {B : Type 0} → (move : B → B) (any : B → Bool) (m n : OrFault Tree) (g k : Tree → OrFault B) → CarriesTree m n → ((t : Tree) → Follows move (g t) (k (moved_tree f t)))
      → ((t : Tree) → IfOk (g t) (λ b. any b ≡ names_any some t)) → Carries move any (then_give m g) (then_give n k)
  unary move any m n g k first rule names b none h =
      let part = parts-of m g b h in
      let same : any b ≡ names_any some part.0 = given-of (λ c. any c ≡ names_any some part.0) (g part.0) b (names part.0) part.2 in
      joined-of n k (moved_tree f part.0) (move b) (first part.0 (sym same ∙ none) part.1) (rule part.0 b part.2)

  pub binary : {B : Type 0} → (move : B → B) (any : B → Bool) (m n p q : OrFault Tree) (g k : Tree → Tree → OrFault B) → CarriesTree m n → CarriesTree p q
      → ((l r : Tree) → Follows move (g l r) (k (moved_tree f l) (moved_tree f r))) → ((l r : Tree) → IfOk (g l r) (λ b. any b ≡ (names_any some l || names_any some r)))
      → Carries move any (then_give m (λ l. then_give p (g l))) (then_give n (λ l. then_give q (k l)))
  binary move any m n p q g k first second rule names b none h =
      let left = parts-of m (λ l. then_give p (g l)) b h in
      let right = parts-of p (g left.0) b left.2 in
      let same : any b ≡ (names_any some left.0 || names_any some right.0) =
      given-of (λ c. any c ≡ (names_any some left.0 || names_any some right.0)) (g left.0 right.0) b (names left.0 right.0) right.2 in
      let parts = or_parts (names_any some left.0) (names_any some right.0) (sym same ∙ none) in
      joined-of n (λ l. then_give q (k l)) (moved_tree f left.0) (move b) (first left.0 parts.0 left.1)
      (joined-of q (k (moved_tree f left.0)) (moved_tree f right.0) (move b) (second right.0 parts.1 right.1) (rule left.0 right.0 b right.2))

-- ---- names

like-found : (at to : Place) (o p : Option PlainRelvar) (x : PlainRelvar) → LikeIf o p → value_or at E10 o ≡ Ok x
    → (y : PlainRelvar) × (value_or to E10 p ≡ Ok y) × (relvar_heading y ≡ relvar_heading x)
like-found at to None p x like h = absurd cc
like-found at to (Some v) None x like h = absurd like
like-found at to (Some v) (Some y) x like h = (y, refl, like-heading v y like ∙ ap relvar_heading (ok-same v x (Ok v) refl h))

-- what is found has an entry
found-has : (at : Place) (es : Entries) (name : Name) (x : PlainRelvar) → value_or at E10 (relvar_named es name) ≡ Ok x → has_entry es name ≡ true
found-has at [] name x h = absurd cc
found-has at (e ∷ es) name x h = by-test (bytes_eq e.0 name) (found-has at es name x) h
  where
    by-test : (b : Bool) → (value_or at E10 (relvar_named es name) ≡ Ok x → has_entry es name ≡ true) → value_or at E10 (if b then Some e.1 else relvar_named es name) ≡ Ok x
        → (b || has_entry es name) ≡ true
    by-test true more g = refl
    by-test false more g = more g

module _ (f : Place → Place) (some : Name → Bool) (s r : Scope) (more : List OrdinalNames) (alike : Alike some s.state.relvars r.state.relvars) (types : r.state.ordinals ≡ s.state.ordinals ++ more)
    (closed : (name : Name) → unknown some s.state.relvars name ≡ false → s.closed name ≡ r.closed name) where
  relvar-elsewhere : (w : Word) → CarriesTree f some (relvar_typed s w) (relvar_typed r (moved_word f w))
  relvar-elsewhere w t none h =
      let name = parts-of (name_typed w) _ t h in
      let found = parts-of (value_or w.place E10 (relvar_named s.state.relvars name.0)) _ t name.2 in
      let allowed = parts-of (check w.place E20 (not (s.closed name.0))) _ t found.2 in
      let same : named w.place (relvar_heading found.0) name.0 ≡ t =
      ok-same (named w.place (relvar_heading found.0) name.0) t (Ok (named w.place (relvar_heading found.0) name.0)) refl allowed.2 in
      let other : some name.0 ≡ false = ap (names_any some) same ∙ none in
      let stands : has_entry s.state.relvars name.0 ≡ true = found-has w.place s.state.relvars name.0 found.0 found.1 in
      let known : unknown some s.state.relvars name.0 ≡ false = or_from (some name.0) (not (has_entry s.state.relvars name.0)) other (ap not stands) in
      let free : s.closed name.0 ≡ false = not-true (s.closed name.0) (check-holds w.place E20 (not (s.closed name.0)) tt allowed.0 allowed.1) in
      let there = like-found w.place (f w.place) (relvar_named s.state.relvars name.0) (relvar_named r.state.relvars name.0) found.0 (alike name.0 other) found.1 in
      joined-of (name_typed (moved_word f w)) _ name.0 (moved_tree f t) (word-follows f w name.0 name.1)
      (joined-of (value_or (f w.place) E10 (relvar_named r.state.relvars name.0)) _ there.0 (moved_tree f t) there.1
      (joined-of (check (f w.place) E20 (not (r.closed name.0))) _ tt (moved_tree f t)
      (check-given (f w.place) E20 (not (r.closed name.0)) tt (ap not (sym (closed name.0 known) ∙ free)))
      (ap (λ (g : Heading). Ok (named (f w.place) g name.0)) there.2 ∙ ap (λ (u : Tree). Ok (moved_tree f u)) same)))

  -- the ordinal types there
  there : {A B : Type 0} (move : A → B) (m : OrFault A) (n : List OrdinalNames → OrFault B) → Follows move m (n (s.state.ordinals ++ more)) → Follows move m (n r.state.ordinals)
  there move m n h = subst (λ (list : List OrdinalNames). Follows move m (n list)) (sym types) h

  abbrev Here : OrFault Tree → OrFault Tree → Type 0
  Here m n = CarriesTree f some m n

  -- ---- relational expressions

  mutual
    pub rel-elsewhere : (x : RelP) → Here (rel_typed s x) (rel_typed r (moved_rel f x))
    rel-elsewhere (syntax.OfUsing u) = using-elsewhere u
    rel-elsewhere (syntax.OfTerms t) = terms-elsewhere t

    terms-elsewhere : (x : TermsP) → Here (terms_typed s x) (terms_typed r (moved_terms f x))
    terms-elsewhere (syntax.OneTerm t) = term-elsewhere t
    terms-elsewhere (syntax.Infix a at w b) =
        binary f some (moved_tree f) (names_any some) (terms_typed s a) (terms_typed r (moved_terms f a)) (term_typed s b) (term_typed r (moved_term f b))
        (infix_rule at (infix_named w)) (infix_rule (f at) (infix_named w)) (terms-elsewhere a) (term-elsewhere b) (infix-follows f at (infix_named w)) (infix-names some at (infix_named w))
    terms-elsewhere (syntax.NotMatching a at b) =
        binary f some (moved_tree f) (names_any some) (terms_typed s a) (terms_typed r (moved_terms f a)) (term_typed s b) (term_typed r (moved_term f b))
        (infix_rule at NotMatching) (infix_rule (f at) NotMatching) (terms-elsewhere a) (term-elsewhere b) (infix-follows f at NotMatching) (infix-names some at NotMatching)

    term-elsewhere : (x : TermP) → Here (term_typed s x) (term_typed r (moved_term f x))
    term-elsewhere (syntax.OneRelPrimary p) = primary-elsewhere p
    term-elsewhere (syntax.Project t p) =
        unary f some (moved_tree f) (names_any some) (term_typed s t) (term_typed r (moved_term f t)) (projection_rule p) (projection_rule (moved_projection f p)) (term-elsewhere t)
        (projection-follows f p) (λ u. projection-names some u p)
    term-elsewhere (syntax.Filter t at c) =
        unary f some (moved_tree f) (names_any some) (term_typed s t) (term_typed r (moved_term f t)) (restriction_rule s.state.ordinals at c)
        (restriction_rule r.state.ordinals (f at) (moved_scalar f c)) (term-elsewhere t)
        (λ u. there (moved_tree f) (restriction_rule s.state.ordinals at c u) (λ list. restriction_rule list (f at) (moved_scalar f c) (moved_tree f u)) (restriction-follows f s.state.ordinals more at c u))
        (λ u. restriction-names some u s.state.ordinals at c)
    term-elsewhere (syntax.Rename t at x) =
        unary f some (moved_tree f) (names_any some) (term_typed s t) (term_typed r (moved_term f t)) (renaming_rule at x) (renaming_rule (f at) (moved_renamings f x)) (term-elsewhere t)
        (renaming-rule-follows f at x) (λ u. renaming-names some u at x)

    primary-elsewhere : (x : RelPrimaryP) → Here (primary_typed s x) (primary_typed r (moved_rel_primary f x))
    primary-elsewhere (syntax.OfExtend e) = extend-elsewhere e
    primary-elsewhere (syntax.OfSummarize e) = summarize-elsewhere e
    primary-elsewhere (syntax.OfOperand o) = operand-elsewhere o

    pub operand-elsewhere : (x : OperandP) → Here (operand_typed s x) (operand_typed r (moved_operand f x))
    operand-elsewhere (syntax.Relvar w) = relvar-elsewhere w
    operand-elsewhere (syntax.OfLiteral l) = λ t _ h. there (moved_tree f) (literal_typed s.state.ordinals l) (λ list. literal_typed list (moved_literal f l)) (literal-follows f s.state.ordinals more l) t h
    operand-elsewhere (syntax.ParenRel at x) = rel-elsewhere x
    operand-elsewhere (syntax.PackOn at w x list) =
        unary f some (moved_tree f) (names_any some) (rel_typed s x) (rel_typed r (moved_rel f x)) (packing_rule at w list) (packing_rule (f at) w (moved_name_list f list)) (rel-elsewhere x)
        (packing-follows f at w list) (λ u. packing-names some u at w list)

    extend-elsewhere : (x : ExtendP) → Here (extend_typed s x) (extend_typed r (moved_extend f x))
    extend-elsewhere (syntax.Extend at x sets) =
        unary f some (moved_tree f) (names_any some) (rel_typed s x) (rel_typed r (moved_rel f x)) (extension_rule s.state.ordinals at sets)
        (extension_rule r.state.ordinals (f at) (written.moved_sets f sets)) (rel-elsewhere x)
        (λ u. there (moved_tree f) (extension_rule s.state.ordinals at sets u) (λ list. extension_rule list (f at) (written.moved_sets f sets) (moved_tree f u))
        (extension-rule-follows f s.state.ordinals more at sets u))
        (λ u. extension-names some u s.state.ordinals at sets)

    summarize-elsewhere : (x : SummarizeP) → Here (summarize_typed s x) (summarize_typed r (moved_summarize f x))
    summarize-elsewhere (syntax.Summarize at x by aggregates) =
        unary f some (moved_tree f) (names_any some) (rel_typed s x) (rel_typed r (moved_rel f x)) (summary_rule s.state.ordinals at by aggregates)
        (summary_rule r.state.ordinals (f at) (moved_names f by) (moved_aggregates f aggregates)) (rel-elsewhere x)
        (λ u. there (moved_tree f) (summary_rule s.state.ordinals at by aggregates u) (λ list. summary_rule list (f at) (moved_names f by) (moved_aggregates f aggregates) (moved_tree f u))
        (summary-follows f s.state.ordinals more at by aggregates u))
        (λ u. summary-names some u s.state.ordinals at by aggregates)

    using-elsewhere : (x : UsingP) → Here (using_typed s x) (using_typed r (moved_using f x))
    using-elsewhere (syntax.Using at list part) = used-elsewhere at list part

    used-elsewhere : (p : Place) (list : NameListP) (x : UsingPartP) → Here (used_typed s p list x) (used_typed r (f p) (moved_name_list f list) (moved_using_part f x))
    used-elsewhere p list (syntax.UsingExtend e) = used-extend-elsewhere p list e
    used-elsewhere p list (syntax.UsingSummarize e) = used-summarize-elsewhere p list e
    used-elsewhere p list (syntax.UsingInfix a at w b) =
        binary f some (moved_tree f) (names_any some) (operand_typed s a) (operand_typed r (moved_operand f a)) (operand_typed s b) (operand_typed r (moved_operand f b))
        (using_infix_rule p list at (infix_named w)) (using_infix_rule (f p) (moved_name_list f list) (f at) (infix_named w)) (operand-elsewhere a) (operand-elsewhere b)
        (using-infix-follows f p list at (infix_named w)) (λ u v. using-infix-names some u v p list at (infix_named w))
    used-elsewhere p list (syntax.UsingNotMatching a at b) =
        binary f some (moved_tree f) (names_any some) (operand_typed s a) (operand_typed r (moved_operand f a)) (operand_typed s b) (operand_typed r (moved_operand f b))
        (using_infix_rule p list at NotMatching) (using_infix_rule (f p) (moved_name_list f list) (f at) NotMatching) (operand-elsewhere a) (operand-elsewhere b)
        (using-infix-follows f p list at NotMatching) (λ u v. using-infix-names some u v p list at NotMatching)
    used-elsewhere p list (syntax.UsingProject o x) =
        unary f some (moved_tree f) (names_any some) (operand_typed s o) (operand_typed r (moved_operand f o)) (using_projection_rule p list x)
        (using_projection_rule (f p) (moved_name_list f list) (moved_projection f x)) (operand-elsewhere o) (using-projection-follows f p list x) (λ u. using-projection-names some u p list x)
    used-elsewhere p list (syntax.UsingFilter o at c) =
        unary f some (moved_tree f) (names_any some) (operand_typed s o) (operand_typed r (moved_operand f o)) (using_restriction_rule s.state.ordinals p list at c)
        (using_restriction_rule r.state.ordinals (f p) (moved_name_list f list) (f at) (moved_scalar f c)) (operand-elsewhere o)
        (λ u. there (moved_tree f) (using_restriction_rule s.state.ordinals p list at c u) (λ types. using_restriction_rule types (f p) (moved_name_list f list) (f at) (moved_scalar f c) (moved_tree f u))
        (using-restriction-follows f s.state.ordinals more p list at c u))
        (λ u. using-restriction-names some u s.state.ordinals p list at c)

    used-extend-elsewhere : (p : Place) (list : NameListP) (x : ExtendP) → Here (used_extend_typed s p list x) (used_extend_typed r (f p) (moved_name_list f list) (moved_extend f x))
    used-extend-elsewhere p list (syntax.Extend at x sets) =
        unary f some (moved_tree f) (names_any some) (rel_typed s x) (rel_typed r (moved_rel f x)) (using_extension_rule s.state.ordinals p list at sets)
        (using_extension_rule r.state.ordinals (f p) (moved_name_list f list) (f at) (written.moved_sets f sets)) (rel-elsewhere x)
        (λ u. there (moved_tree f) (using_extension_rule s.state.ordinals p list at sets u) (λ types. using_extension_rule types (f p) (moved_name_list f list) (f at) (written.moved_sets f sets)
        (moved_tree f u))
        (using-extension-follows f s.state.ordinals more p list at sets u))
        (λ u. using-extension-names some u s.state.ordinals p list at sets)

    used-summarize-elsewhere : (p : Place) (list : NameListP) (x : SummarizeP) → Here (used_summarize_typed s p list x) (used_summarize_typed r (f p) (moved_name_list f list) (moved_summarize f x))
    used-summarize-elsewhere p list (syntax.Summarize at x by aggregates) =
        unary f some (moved_tree f) (names_any some) (rel_typed s x) (rel_typed r (moved_rel f x)) (using_summary_rule s.state.ordinals p list at by aggregates)
        (using_summary_rule r.state.ordinals (f p) (moved_name_list f list) (f at) (moved_names f by) (moved_aggregates f aggregates)) (rel-elsewhere x)
        (λ u. there (moved_tree f) (using_summary_rule s.state.ordinals p list at by aggregates u)
        (λ types. using_summary_rule types (f p) (moved_name_list f list) (f at) (moved_names f by) (moved_aggregates f aggregates) (moved_tree f u))
        (using-summary-follows f s.state.ordinals more p list at by aggregates u))
        (λ u. using-summary-names some u s.state.ordinals p list at by aggregates)

  -- ---- tests

  abbrev TestHere : OrFault Test → OrFault Test → Type 0
  TestHere m n = Carries (moved_test f) (test_names_any some) m n

  comparison-elsewhere : (x : ComparisonP) → TestHere (comparison_typed s x) (comparison_typed r (moved_comparison f x))
  comparison-elsewhere (syntax.Comparison a at w b) =
      binary f some (moved_test f) (test_names_any some) (operand_typed s a) (operand_typed r (moved_operand f a)) (operand_typed s b) (operand_typed r (moved_operand f b))
      (comparison_rule at (relation_named w)) (comparison_rule (f at) (relation_named w)) (operand-elsewhere a) (operand-elsewhere b)
      (comparison-follows f at (relation_named w)) (λ u v. comparison-names some u v at (relation_named w))

  used-comparison-elsewhere : (list : NameListP) (x : ComparisonP) → TestHere (used_comparison_typed s list x) (used_comparison_typed r (moved_name_list f list) (moved_comparison f x))
  used-comparison-elsewhere list (syntax.Comparison a at w b) =
      binary f some (moved_test f) (test_names_any some) (operand_typed s a) (operand_typed r (moved_operand f a)) (operand_typed s b) (operand_typed r (moved_operand f b))
      (using_comparison_rule list at (relation_named w)) (using_comparison_rule (moved_name_list f list) (f at) (relation_named w)) (operand-elsewhere a) (operand-elsewhere b)
      (using-comparison-follows f list at (relation_named w)) (λ u v. using-comparison-names some u v list at (relation_named w))

  pub test-elsewhere : (x : TestP) (t : Test) → test_names_any some t ≡ false → test_typed_in s x ≡ Ok t → test_typed_in r (written.moved_test f x) ≡ Ok (moved_test f t)
  unfolding test_typed_in
  test-elsewhere (syntax.UsingTest at list c) t none h = used-comparison-elsewhere list c t none h
  test-elsewhere (syntax.OfComparison c) t none h = comparison-elsewhere c t none h
  test-elsewhere (syntax.Emptiness at w x) t none h =
      unary f some (moved_test f) (test_names_any some) (rel_typed s x) (rel_typed r (moved_rel f x)) (λ u. Ok (emptiness_test at w u)) (λ u. Ok (emptiness_test (f at) w u)) (rel-elsewhere x)
      (emptiness-moved f at w) (emptiness-names some at w) t none h

-- ---- where each name may be named

module _ (f : Place → Place) (some : Name → Bool) (s r : State) (more : List OrdinalNames) (alike : Alike some s.relvars r.relvars) (types : r.ordinals ≡ s.ordinals ++ more) where
  pub tree-elsewhere : (rel : RelP) (t : Tree) → names_any some t ≡ false → tree_typed s rel ≡ Ok t → tree_typed r (moved_rel f rel) ≡ Ok (moved_tree f t)
  unfolding tree_typed
  tree-elsewhere rel t none h = rel-elsewhere f some (scope_of s) (scope_of r) more alike types (λ name _. refl) rel t none h
