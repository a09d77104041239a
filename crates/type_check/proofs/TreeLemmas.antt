-- Typed expressions and tests are typed for evaluation.
--     rel-sound, operand-sound, test-sound-in      in a scope: what is typed is typed for its state
--     tree-sound, test-sound      where each name of a state may be named
use Rattle.std.specs.Prelude.{◌≡◌, not, Option, Some, None, option_map, Ok, IfOk, IsTrue}
use Rattle.point_core.specs.declared.fault.Place.{Place}
use Rattle.point_core.specs.declared.fault.Code.TheVariants.{E10, E20}
use Rattle.point_core.specs.Faults.{OrFault}
use Rattle.utd_syntax.specs.Plain as syntax
use Rattle.utd_syntax.specs.Plain.{Word, NameListP, RelP, TermsP, TermP, RelPrimaryP, OperandP, ExtendP, SummarizeP, UsingP, UsingPartP, ComparisonP, TestP}
use Rattle.value_core.specs.Values.{Name, is_heading}
use Rattle.relation_core.proofs.HeadingLemmas.{heading_ascends}
use Rattle.relation_typing.specs.Attributes.{name_typed}
use Rattle.scalar_typing.specs.Typings.{◌>>=◌, value_or}
use Rattle.scalar_typing.proofs.SoundLemmas.{then-sound, any-given}
use Rattle.tree_core.specs.Relvars.{PlainRelvar, State, relvar_named, relvar_heading}
use Rattle.tree_core.specs.Trees.{Tree, named, heading_of}
use Rattle.tree_core.specs.declared.tree.InfixWord.{InfixWord}
use Rattle.tree_core.specs.declared.tree.InfixWord.TheVariants.{NotMatching}
use Rattle.meaning_core.specs.Typing.{heading_named}
use Rattle.meaning_core.specs.WellMade.{sizes_of, headings_of, IsWellMade, IsTypedFor, IsTypedTestFor}
use Rattle.meaning_core.proofs.RelvarLemmas.{heading_of_named}
use Rattle.node_typing.specs.Infixes.{infix_named}
use Rattle.node_typing.specs.Nodes.{infix_rule, relation_named}
use Rattle.node_typing.specs.Positions.{check}
use Rattle.node_typing.specs.Usings.{using_infix_rule}
use Rattle.tree_typing.specs.Scopes.{Scope, scope_of}
use Rattle.tree_typing.specs.Trees.{relvar_typed, rel_typed, terms_typed, term_typed, primary_typed, operand_typed, extend_typed, summarize_typed, using_typed, used_typed, used_extend_typed, used_summarize_typed, tree_typed, comparison_typed, used_comparison_typed, test_typed, test_typed_in}
use Rattle.type_check.proofs.AggregateLemmas.{summary-sound}
use Rattle.type_check.proofs.DeclaredLemmas.{declared-heading, typed-declared}
use Rattle.type_check.proofs.ExtensionLemmas.{extension-sound}
use Rattle.type_check.proofs.InfixLemmas.{infix-sound, projection-sound, restriction-sound}
use Rattle.type_check.proofs.ListLemmas.{packing-sound, comparison-sound, using-comparison-sound, emptiness-sound}
use Rattle.type_check.proofs.LiteralLemmas.{literal-sound}
use Rattle.type_check.proofs.RenamingLemmas.{renaming-sound}
use Rattle.type_check.proofs.UsingLemmas.{using-infix-sound, using-projection-sound, using-restriction-sound, using-extension-sound, using-summary-sound}

module _ (scope : Scope) (made : IsWellMade scope.state) where
  headed : (t : Tree) → IsTypedFor scope.state t → IsTrue (is_heading (heading_of t))
  headed t typed = declared-heading (sizes_of scope.state.ordinals) (heading_of t) (typed-declared scope.state t made typed)

  -- ---- names

  relvar-sound : (w : Word) → IfOk (relvar_typed scope w) (IsTypedFor scope.state)
  relvar-sound w =
      then-sound (λ _. Unit {0}) (IsTypedFor scope.state) (name_typed w) _ (any-given (name_typed w)) (λ name _. by-name name (relvar_named scope.state.relvars name) (heading_of_named scope.state.relvars name))
    where
      by-name : (name : Name) (o : Option PlainRelvar) → heading_named (headings_of scope.state.relvars) name ≡ option_map relvar_heading o
          → IfOk (value_or w.place E10 o >>= (λ found. check w.place E20 (not (scope.closed name)) >>= (λ _. Ok (named w.place (relvar_heading found) name)))) (IsTypedFor scope.state)
      by-name name None h = tt
      by-name name (Some r) h =
          then-sound (λ _. Unit {0}) (IsTypedFor scope.state) (check w.place E20 (not (scope.closed name))) _ (any-given (check w.place E20 (not (scope.closed name)))) (λ _ _. h)

  -- ---- parts

  part-sound : (r : OrFault Tree) (f : Tree → OrFault Tree) → IfOk r (IsTypedFor scope.state) → ((t : Tree) → IsTypedFor scope.state t → IfOk (f t) (IsTypedFor scope.state)) → IfOk (r >>= f) (IsTypedFor scope.state)
  part-sound r f h more = then-sound (IsTypedFor scope.state) (IsTypedFor scope.state) r f h more

  infix-typed : (at : Place) (word : InfixWord) (l r : OrFault Tree) → IfOk l (IsTypedFor scope.state) → IfOk r (IsTypedFor scope.state) → IfOk (l >>= (λ left. r >>= (λ right. infix_rule at word left right))) (IsTypedFor scope.state)
  infix-typed at word l r h k =
      part-sound l _ h (λ left a. part-sound r _ k (λ right b. infix-sound (sizes_of scope.state.ordinals) (headings_of scope.state.relvars) at word left right a b))

  used-infix-typed : (place : Place) (commalist : NameListP) (at : Place) (word : InfixWord) (l r : OrFault Tree) → IfOk l (IsTypedFor scope.state) → IfOk r (IsTypedFor scope.state)
      → IfOk (l >>= (λ left. r >>= (λ right. using_infix_rule place commalist at word left right))) (IsTypedFor scope.state)
  used-infix-typed place commalist at word l r h k =
      part-sound l _ h (λ left a. part-sound r _ k (λ right b.
      using-infix-sound (sizes_of scope.state.ordinals) (headings_of scope.state.relvars) place commalist at word left right (headed left a) (headed right b) a b))

  -- ---- expressions

  mutual
    pub rel-sound : (r : RelP) → IfOk (rel_typed scope r) (IsTypedFor scope.state)
    rel-sound (syntax.OfUsing u) = using-sound u
    rel-sound (syntax.OfTerms t) = terms-sound t

    terms-sound : (t : TermsP) → IfOk (terms_typed scope t) (IsTypedFor scope.state)
    terms-sound (syntax.OneTerm t) = term-sound t
    terms-sound (syntax.Infix l at w r) = infix-typed at (infix_named w) (terms_typed scope l) (term_typed scope r) (terms-sound l) (term-sound r)
    terms-sound (syntax.NotMatching l at r) = infix-typed at NotMatching (terms_typed scope l) (term_typed scope r) (terms-sound l) (term-sound r)

    term-sound : (t : TermP) → IfOk (term_typed scope t) (IsTypedFor scope.state)
    term-sound (syntax.OneRelPrimary p) = primary-sound p
    term-sound (syntax.Project t p) =
        part-sound (term_typed scope t) _ (term-sound t) (λ part h. projection-sound (sizes_of scope.state.ordinals) (headings_of scope.state.relvars) p part h)
    term-sound (syntax.Filter t at c) =
        part-sound (term_typed scope t) _ (term-sound t) (λ part h. restriction-sound scope.state.ordinals made.ordinals (headings_of scope.state.relvars) at c part h)
    term-sound (syntax.Rename t at r) =
        part-sound (term_typed scope t) _ (term-sound t) (λ part h. renaming-sound (sizes_of scope.state.ordinals) (headings_of scope.state.relvars) at r part (headed part h) h)

    primary-sound : (p : RelPrimaryP) → IfOk (primary_typed scope p) (IsTypedFor scope.state)
    primary-sound (syntax.OfExtend e) = extend-sound e
    primary-sound (syntax.OfSummarize s) = summarize-sound s
    primary-sound (syntax.OfOperand o) = operand-sound o

    pub operand-sound : (o : OperandP) → IfOk (operand_typed scope o) (IsTypedFor scope.state)
    operand-sound (syntax.Relvar w) = relvar-sound w
    operand-sound (syntax.OfLiteral l) = literal-sound scope.state.ordinals made.ordinals (headings_of scope.state.relvars) l
    operand-sound (syntax.ParenRel at r) = rel-sound r
    operand-sound (syntax.PackOn at w r commalist) =
        part-sound (rel_typed scope r) _ (rel-sound r) (λ part h. packing-sound (sizes_of scope.state.ordinals) (headings_of scope.state.relvars) at w commalist part h)

    extend-sound : (e : ExtendP) → IfOk (extend_typed scope e) (IsTypedFor scope.state)
    extend-sound (syntax.Extend at r sets) =
        part-sound (rel_typed scope r) _ (rel-sound r) (λ part h.
        extension-sound scope.state.ordinals made.ordinals (headings_of scope.state.relvars) at sets part (heading_ascends (heading_of part) (headed part h)) h)

    summarize-sound : (s : SummarizeP) → IfOk (summarize_typed scope s) (IsTypedFor scope.state)
    summarize-sound (syntax.Summarize at r by aggregates) =
        part-sound (rel_typed scope r) _ (rel-sound r) (λ part h. summary-sound scope.state.ordinals made.ordinals (headings_of scope.state.relvars) at by aggregates part (headed part h) h)

    using-sound : (u : UsingP) → IfOk (using_typed scope u) (IsTypedFor scope.state)
    using-sound (syntax.Using at commalist part) = used-sound at commalist part

    used-sound : (place : Place) (commalist : NameListP) (part : UsingPartP) → IfOk (used_typed scope place commalist part) (IsTypedFor scope.state)
    used-sound place commalist (syntax.UsingExtend e) = used-extend-sound place commalist e
    used-sound place commalist (syntax.UsingSummarize s) = used-summarize-sound place commalist s
    used-sound place commalist (syntax.UsingInfix l at w r) =
        used-infix-typed place commalist at (infix_named w) (operand_typed scope l) (operand_typed scope r) (operand-sound l) (operand-sound r)
    used-sound place commalist (syntax.UsingNotMatching l at r) =
        used-infix-typed place commalist at NotMatching (operand_typed scope l) (operand_typed scope r) (operand-sound l) (operand-sound r)
    used-sound place commalist (syntax.UsingProject o p) =
        part-sound (operand_typed scope o) _ (operand-sound o) (λ part h. using-projection-sound (sizes_of scope.state.ordinals) (headings_of scope.state.relvars) place commalist p part (headed part h) h)
    used-sound place commalist (syntax.UsingFilter o at c) =
        part-sound (operand_typed scope o) _ (operand-sound o) (λ part h. using-restriction-sound scope.state.ordinals made.ordinals (headings_of scope.state.relvars) place commalist at c part h)

    used-extend-sound : (place : Place) (commalist : NameListP) (e : ExtendP) → IfOk (used_extend_typed scope place commalist e) (IsTypedFor scope.state)
    used-extend-sound place commalist (syntax.Extend at r sets) =
        part-sound (rel_typed scope r) _ (rel-sound r) (λ part h.
        using-extension-sound scope.state.ordinals made.ordinals (headings_of scope.state.relvars) place commalist at sets part (headed part h) h)

    used-summarize-sound : (place : Place) (commalist : NameListP) (s : SummarizeP) → IfOk (used_summarize_typed scope place commalist s) (IsTypedFor scope.state)
    used-summarize-sound place commalist (syntax.Summarize at r by aggregates) =
        part-sound (rel_typed scope r) _ (rel-sound r) (λ part h.
        using-summary-sound scope.state.ordinals made.ordinals (headings_of scope.state.relvars) place commalist at by aggregates part (headed part h) h)

  -- ---- tests

  compared : (c : ComparisonP) → IfOk (comparison_typed scope c) (IsTypedTestFor scope.state)
  compared (syntax.Comparison l at w r) =
      then-sound (IsTypedFor scope.state) (IsTypedTestFor scope.state) (operand_typed scope l) _ (operand-sound l) (λ left a.
      then-sound (IsTypedFor scope.state) (IsTypedTestFor scope.state) (operand_typed scope r) _ (operand-sound r) (λ right b.
      comparison-sound (sizes_of scope.state.ordinals) (headings_of scope.state.relvars) at (relation_named w) left right a b))

  used-compared : (commalist : NameListP) (c : ComparisonP) → IfOk (used_comparison_typed scope commalist c) (IsTypedTestFor scope.state)
  used-compared commalist (syntax.Comparison l at w r) =
      then-sound (IsTypedFor scope.state) (IsTypedTestFor scope.state) (operand_typed scope l) _ (operand-sound l) (λ left a.
      then-sound (IsTypedFor scope.state) (IsTypedTestFor scope.state) (operand_typed scope r) _ (operand-sound r) (λ right b.
      using-comparison-sound (sizes_of scope.state.ordinals) (headings_of scope.state.relvars) commalist at (relation_named w) left right a b))

  pub test-sound-in : (t : TestP) → IfOk (test_typed_in scope t) (IsTypedTestFor scope.state)
  unfolding test_typed_in
  test-sound-in (syntax.UsingTest at commalist c) = used-compared commalist c
  test-sound-in (syntax.OfComparison c) = compared c
  test-sound-in (syntax.Emptiness at w r) =
      then-sound (IsTypedFor scope.state) (IsTypedTestFor scope.state) (rel_typed scope r) _ (rel-sound r)
      (λ t h. emptiness-sound (sizes_of scope.state.ordinals) (headings_of scope.state.relvars) at w t h)

-- ---- where each name may be named

module _ (state : State) (made : IsWellMade state) where
  pub tree-sound : (r : RelP) → IfOk (tree_typed state r) (IsTypedFor state)
  unfolding tree_typed
  tree-sound r = rel-sound (scope_of state) made r

  pub test-sound : (t : TestP) → IfOk (test_typed state t) (IsTypedTestFor state)
  unfolding test_typed
  test-sound t = test-sound-in (scope_of state) made t
