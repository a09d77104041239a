-- What is typed in a scope names none of the names that may not be named there.
--     rel-names-open, test-names-open      the law, of an expression and of a test
use Rattle.std.proofs.Common.{◌≡◌, Bool, true, false, not, Ok, refl, subst}
use Rattle.std.specs.Prelude.{◌||◌, IfOk}
use Rattle.base_core.specs.Outcomes.{then_give}
use Rattle.point_core.specs.declared.fault.Code.TheVariants.{E10, E20}
use Rattle.point_core.specs.declared.fault.Place.{Place}
use Rattle.point_core.specs.Faults.{OrFault}
use Rattle.utd_syntax.specs.Plain as syntax
use Rattle.utd_syntax.specs.Plain.{Word, NameListP, RelP, TermsP, TermP, RelPrimaryP, OperandP, ExtendP, SummarizeP, UsingP, UsingPartP, ComparisonP, TestP}
use Rattle.scalar_typing.specs.Typings.{value_or}
use Rattle.relation_typing.specs.Attributes.{name_typed}
use Rattle.tree_core.specs.declared.tree.InfixWord.TheVariants.{NotMatching}
use Rattle.tree_core.specs.Relvars.{relvar_named}
use Rattle.tree_core.specs.Trees.{Tree, Test}
use Rattle.tree_core.specs.Uses.{names_any, test_names_any}
use Rattle.node_typing.specs.Infixes.{infix_named}
use Rattle.node_typing.specs.Nodes.{infix_rule, projection_rule, renaming_rule, restriction_rule, extension_rule, summary_rule, packing_rule, relation_named, comparison_rule, using_comparison_rule, emptiness_test}
use Rattle.node_typing.specs.Positions.{check}
use Rattle.node_typing.specs.Usings.{using_infix_rule, using_projection_rule, using_restriction_rule, using_extension_rule, using_summary_rule}
use Rattle.tree_typing.specs.Scopes.{Scope}
use Rattle.tree_typing.specs.Trees.{relvar_typed, rel_typed, terms_typed, term_typed, primary_typed, operand_typed, extend_typed, summarize_typed, using_typed, used_typed, used_extend_typed, used_summarize_typed, comparison_typed, used_comparison_typed, test_typed_in}
use Rattle.tree_typing.proofs.NodeNames.{then-any, then-known, infix-names, projection-names, renaming-names, packing-names, restriction-names, extension-names, summary-names, using-infix-names, using-projection-names, using-restriction-names, using-extension-names, using-summary-names, comparison-names, using-comparison-names, emptiness-names, literal-names}

may-be-named : (at : Place) (b : Bool) → IfOk (check at E20 (not b)) (λ _. b ≡ false)
may-be-named at true = tt
may-be-named at false = refl

-- what names as much as its operands, which name none
named-none : {B : Type 0} → (any : B → Bool) (m : OrFault B) (b : Bool) → b ≡ false → IfOk m (λ x. any x ≡ b) → IfOk m (λ x. any x ≡ false)
named-none any m b none h = subst (λ (c : Bool). IfOk m (λ x. any x ≡ c)) none h

module _ (scope : Scope) where
  abbrev IsOpen : Tree → Type 0
  IsOpen t = names_any scope.closed t ≡ false

  abbrev IsOpenTest : Test → Type 0
  IsOpenTest t = test_names_any scope.closed t ≡ false

  relvar-open : (w : Word) → IfOk (relvar_typed scope w) IsOpen
  relvar-open w =
      then-any IsOpen (name_typed w) _ (λ name.
      then-any IsOpen (value_or w.place E10 (relvar_named scope.state.relvars name)) _ (λ found.
      then-known (λ _. scope.closed name ≡ false) IsOpen (check w.place E20 (not (scope.closed name))) _ (may-be-named w.place (scope.closed name)) (λ _ none. none)))

  -- one operand, and two
  one-open : {B : Type 0} → (any : B → Bool) (m : OrFault Tree) (g : Tree → OrFault B) → IfOk m IsOpen → ((t : Tree) → IfOk (g t) (λ b. any b ≡ names_any scope.closed t))
      → IfOk (then_give m g) (λ b. any b ≡ false)
  one-open any m g first names =
      then-known IsOpen (λ b. any b ≡ false) m g first (λ t none. named-none any (g t) (names_any scope.closed t) none (names t))

  two-open : {B : Type 0} → (any : B → Bool) (m p : OrFault Tree) (g : Tree → Tree → OrFault B) → IfOk m IsOpen → IfOk p IsOpen
      → ((l r : Tree) → IfOk (g l r) (λ b. any b ≡ (names_any scope.closed l || names_any scope.closed r)))
      → IfOk (then_give m (λ l. then_give p (g l))) (λ b. any b ≡ false)
  two-open any m p g first second names =
      then-known IsOpen (λ b. any b ≡ false) m (λ l. then_give p (g l)) first (λ l none.
      then-known IsOpen (λ b. any b ≡ false) p (g l) second (λ r no_more.
      named-none any (g l r) (names_any scope.closed l || names_any scope.closed r) (λ i. none i || no_more i) (names l r)))

  tree-open : (m : OrFault Tree) (g : Tree → OrFault Tree) → IfOk m IsOpen → ((t : Tree) → IfOk (g t) (λ u. names_any scope.closed u ≡ names_any scope.closed t)) → IfOk (then_give m g) IsOpen
  tree-open m g first names = one-open (names_any scope.closed) m g first names

  trees-open : (m p : OrFault Tree) (g : Tree → Tree → OrFault Tree) → IfOk m IsOpen → IfOk p IsOpen
      → ((l r : Tree) → IfOk (g l r) (λ u. names_any scope.closed u ≡ (names_any scope.closed l || names_any scope.closed r)))
      → IfOk (then_give m (λ l. then_give p (g l))) IsOpen
  trees-open m p g first second names = two-open (names_any scope.closed) m p g first second names

  -- ---- relational expressions

  mutual
    pub rel-names-open : (x : RelP) → IfOk (rel_typed scope x) (λ t. names_any scope.closed t ≡ false)
    rel-names-open (syntax.OfUsing u) = using-open u
    rel-names-open (syntax.OfTerms t) = terms-open t

    terms-open : (x : TermsP) → IfOk (terms_typed scope x) IsOpen
    terms-open (syntax.OneTerm t) = term-open t
    terms-open (syntax.Infix l at w r) =
        trees-open (terms_typed scope l) (term_typed scope r) (infix_rule at (infix_named w)) (terms-open l) (term-open r) (infix-names scope.closed at (infix_named w))
    terms-open (syntax.NotMatching l at r) =
        trees-open (terms_typed scope l) (term_typed scope r) (infix_rule at NotMatching) (terms-open l) (term-open r) (infix-names scope.closed at NotMatching)

    term-open : (x : TermP) → IfOk (term_typed scope x) IsOpen
    term-open (syntax.OneRelPrimary p) = primary-open p
    term-open (syntax.Project t p) = tree-open (term_typed scope t) (projection_rule p) (term-open t) (λ u. projection-names scope.closed u p)
    term-open (syntax.Filter t at c) =
        tree-open (term_typed scope t) (restriction_rule scope.state.ordinals at c) (term-open t) (λ u. restriction-names scope.closed u scope.state.ordinals at c)
    term-open (syntax.Rename t at r) = tree-open (term_typed scope t) (renaming_rule at r) (term-open t) (λ u. renaming-names scope.closed u at r)

    primary-open : (x : RelPrimaryP) → IfOk (primary_typed scope x) IsOpen
    primary-open (syntax.OfExtend e) = extend-open e
    primary-open (syntax.OfSummarize s) = summarize-open s
    primary-open (syntax.OfOperand o) = operand-open o

    operand-open : (x : OperandP) → IfOk (operand_typed scope x) IsOpen
    operand-open (syntax.Relvar w) = relvar-open w
    operand-open (syntax.OfLiteral l) = literal-names scope.closed scope.state.ordinals l
    operand-open (syntax.ParenRel at r) = rel-names-open r
    operand-open (syntax.PackOn at w r list) = tree-open (rel_typed scope r) (packing_rule at w list) (rel-names-open r) (λ u. packing-names scope.closed u at w list)

    extend-open : (x : ExtendP) → IfOk (extend_typed scope x) IsOpen
    extend-open (syntax.Extend at r sets) =
        tree-open (rel_typed scope r) (extension_rule scope.state.ordinals at sets) (rel-names-open r) (λ u. extension-names scope.closed u scope.state.ordinals at sets)

    summarize-open : (x : SummarizeP) → IfOk (summarize_typed scope x) IsOpen
    summarize-open (syntax.Summarize at r by aggregates) =
        tree-open (rel_typed scope r) (summary_rule scope.state.ordinals at by aggregates) (rel-names-open r) (λ u. summary-names scope.closed u scope.state.ordinals at by aggregates)

    using-open : (x : UsingP) → IfOk (using_typed scope x) IsOpen
    using-open (syntax.Using at list part) = used-open at list part

    used-open : (p : Place) (list : NameListP) (x : UsingPartP) → IfOk (used_typed scope p list x) IsOpen
    used-open p list (syntax.UsingExtend e) = used-extend-open p list e
    used-open p list (syntax.UsingSummarize s) = used-summarize-open p list s
    used-open p list (syntax.UsingInfix l at w r) =
        trees-open (operand_typed scope l) (operand_typed scope r) (using_infix_rule p list at (infix_named w)) (operand-open l) (operand-open r)
        (λ u v. using-infix-names scope.closed u v p list at (infix_named w))
    used-open p list (syntax.UsingNotMatching l at r) =
        trees-open (operand_typed scope l) (operand_typed scope r) (using_infix_rule p list at NotMatching) (operand-open l) (operand-open r)
        (λ u v. using-infix-names scope.closed u v p list at NotMatching)
    used-open p list (syntax.UsingProject o x) =
        tree-open (operand_typed scope o) (using_projection_rule p list x) (operand-open o) (λ u. using-projection-names scope.closed u p list x)
    used-open p list (syntax.UsingFilter o at c) =
        tree-open (operand_typed scope o) (using_restriction_rule scope.state.ordinals p list at c) (operand-open o)
        (λ u. using-restriction-names scope.closed u scope.state.ordinals p list at c)

    used-extend-open : (p : Place) (list : NameListP) (x : ExtendP) → IfOk (used_extend_typed scope p list x) IsOpen
    used-extend-open p list (syntax.Extend at r sets) =
        tree-open (rel_typed scope r) (using_extension_rule scope.state.ordinals p list at sets) (rel-names-open r)
        (λ u. using-extension-names scope.closed u scope.state.ordinals p list at sets)

    used-summarize-open : (p : Place) (list : NameListP) (x : SummarizeP) → IfOk (used_summarize_typed scope p list x) IsOpen
    used-summarize-open p list (syntax.Summarize at r by aggregates) =
        tree-open (rel_typed scope r) (using_summary_rule scope.state.ordinals p list at by aggregates) (rel-names-open r)
        (λ u. using-summary-names scope.closed u scope.state.ordinals p list at by aggregates)

  -- ---- tests

  comparison-open : (x : ComparisonP) → IfOk (comparison_typed scope x) IsOpenTest
  comparison-open (syntax.Comparison l at w r) =
      two-open (test_names_any scope.closed) (operand_typed scope l) (operand_typed scope r) (comparison_rule at (relation_named w)) (operand-open l) (operand-open r)
      (λ u v. comparison-names scope.closed u v at (relation_named w))

  used-comparison-open : (list : NameListP) (x : ComparisonP) → IfOk (used_comparison_typed scope list x) IsOpenTest
  used-comparison-open list (syntax.Comparison l at w r) =
      two-open (test_names_any scope.closed) (operand_typed scope l) (operand_typed scope r) (using_comparison_rule list at (relation_named w)) (operand-open l) (operand-open r)
      (λ u v. using-comparison-names scope.closed u v list at (relation_named w))

  pub test-names-open : (x : TestP) → IfOk (test_typed_in scope x) (λ t. test_names_any scope.closed t ≡ false)
  unfolding test_typed_in
  test-names-open (syntax.UsingTest at list c) = used-comparison-open list c
  test-names-open (syntax.OfComparison c) = comparison-open c
  test-names-open (syntax.Emptiness at w r) =
      one-open (test_names_any scope.closed) (rel_typed scope r) (λ t. Ok (emptiness_test at w t)) (rel-names-open r) (emptiness-names scope.closed at w)
