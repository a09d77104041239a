-- The same of relational expressions and tests.
use Rattle.std.specs.Prelude.{not}
use Rattle.point_core.specs.declared.fault.Place.{Place}
use Rattle.point_core.specs.declared.fault.Code.TheVariants.{E10, E20}
use Rattle.utd_syntax.specs.Plain as syntax
use Rattle.utd_syntax.specs.Plain.{Word, NameListP, RelP, TermsP, TermP, RelPrimaryP, OperandP, ExtendP, SummarizeP, UsingP, UsingPartP, ComparisonP, TestP}
use Rattle.utd_ranges.specs.Ranges.{NameIn, RelIn, TermsIn, TermIn, RelPrimaryIn, OperandIn, ExtendIn, SummarizeIn, UsingIn, UsingPartIn, ComparisonIn, TestIn, has_no_value}
use Rattle.tree_core.specs.declared.tree.InfixWord.TheVariants.{NotMatching}
use Rattle.tree_core.specs.Relvars.{State, relvar_named}
use Rattle.relation_typing.specs.Attributes.{name_typed}
use Rattle.node_typing.specs.Infixes.{infix_named}
use Rattle.node_typing.specs.Nodes.{infix_rule, projection_rule, renaming_rule, restriction_rule, extension_rule, summary_rule, packing_rule, comparison_rule, using_comparison_rule, relation_named}
use Rattle.node_typing.specs.Usings.{using_infix_rule, using_projection_rule, using_restriction_rule, using_extension_rule, using_summary_rule}
use Rattle.tree_typing.specs.Scopes.{Scope, scope_of}
use Rattle.tree_typing.specs.Trees.{relvar_typed, rel_typed, terms_typed, term_typed, primary_typed, operand_typed, extend_typed, summarize_typed, using_typed, used_typed, used_extend_typed, used_summarize_typed, tree_typed, comparison_typed, used_comparison_typed, test_typed, test_typed_in}
use Rattle.scalar_typing.specs.Typings.{value_or}
use Rattle.type_check.specs.Refusals.{IsNotE06}
use Rattle.type_check.proofs.Refused.{then-fine, two-fine, value-fine}
use Rattle.type_check.proofs.RelationLaws.{name-fine, literal-fine}
use Rattle.type_check.proofs.NodeLaws.{checked-fine, infix-fine, projection-fine, renaming-fine, restriction-fine, extension-fine, summary-fine, packing-fine, comparison-fine, using-comparison-fine, using-infix-fine, using-projection-fine, using-restriction-fine, using-extension-fine, using-summary-fine}

relvar-fine : (scope : Scope) (w : Word) → NameIn has_no_value w → IsNotE06 (relvar_typed scope w)
relvar-fine scope w h =
    then-fine (name_typed w) _ (name-fine w h) (λ name.
    then-fine (value_or w.place E10 (relvar_named scope.state.relvars name)) _ (value-fine w.place E10 (λ e. cc) (relvar_named scope.state.relvars name)) (λ found.
    checked-fine w.place E20 (λ e. cc) (not (scope.closed name)) _ (λ allowed. tt)))

mutual
  rel-fine : (scope : Scope) (r : RelP) → RelIn has_no_value r → IsNotE06 (rel_typed scope r)
  rel-fine scope (syntax.OfUsing (syntax.Using at commalist part)) h = used-fine scope at commalist part h.1
  rel-fine scope (syntax.OfTerms t) h = terms-fine scope t h

  terms-fine : (scope : Scope) (t : TermsP) → TermsIn has_no_value t → IsNotE06 (terms_typed scope t)
  terms-fine scope (syntax.OneTerm t) h = term-fine scope t h
  terms-fine scope (syntax.Infix l at w r) h = two-fine (terms_typed scope l) (term_typed scope r) (infix_rule at (infix_named w)) (terms-fine scope l h.0) (term-fine scope r h.1) (infix-fine at (infix_named w))
  terms-fine scope (syntax.NotMatching l at r) h = two-fine (terms_typed scope l) (term_typed scope r) (infix_rule at NotMatching) (terms-fine scope l h.0) (term-fine scope r h.1) (infix-fine at NotMatching)

  term-fine : (scope : Scope) (t : TermP) → TermIn has_no_value t → IsNotE06 (term_typed scope t)
  term-fine scope (syntax.OneRelPrimary p) h = primary-fine scope p h
  term-fine scope (syntax.Project t p) h = then-fine (term_typed scope t) (projection_rule p) (term-fine scope t h.0) (projection-fine p)
  term-fine scope (syntax.Filter t at c) h = then-fine (term_typed scope t) (restriction_rule scope.state.ordinals at c) (term-fine scope t h.0) (λ part. restriction-fine scope.state.ordinals at c part h.1)
  term-fine scope (syntax.Rename t at r) h = then-fine (term_typed scope t) (renaming_rule at r) (term-fine scope t h.0) (λ part. renaming-fine at r part h.1)

  primary-fine : (scope : Scope) (p : RelPrimaryP) → RelPrimaryIn has_no_value p → IsNotE06 (primary_typed scope p)
  primary-fine scope (syntax.OfExtend (syntax.Extend at r sets)) h = then-fine (rel_typed scope r) (extension_rule scope.state.ordinals at sets) (rel-fine scope r h.0) (λ part. extension-fine scope.state.ordinals at sets part h.1)
  primary-fine scope (syntax.OfSummarize (syntax.Summarize at r by aggregates)) h = then-fine (rel_typed scope r) (summary_rule scope.state.ordinals at by aggregates) (rel-fine scope r h.0) (λ part. summary-fine scope.state.ordinals at by aggregates part h.2)
  primary-fine scope (syntax.OfOperand o) h = operand-fine scope o h

  operand-fine : (scope : Scope) (o : OperandP) → OperandIn has_no_value o → IsNotE06 (operand_typed scope o)
  operand-fine scope (syntax.Relvar w) h = relvar-fine scope w h
  operand-fine scope (syntax.OfLiteral l) h = literal-fine scope.state.ordinals l h
  operand-fine scope (syntax.ParenRel at r) h = rel-fine scope r h
  operand-fine scope (syntax.PackOn at w r commalist) h = then-fine (rel_typed scope r) (packing_rule at w commalist) (rel-fine scope r h.0) (packing-fine at w commalist)

  used-fine : (scope : Scope) (place : Place) (commalist : NameListP) (part : UsingPartP) → UsingPartIn has_no_value part → IsNotE06 (used_typed scope place commalist part)
  used-fine scope place commalist (syntax.UsingExtend (syntax.Extend at r sets)) h = then-fine (rel_typed scope r) (using_extension_rule scope.state.ordinals place commalist at sets) (rel-fine scope r h.0) (λ part. using-extension-fine scope.state.ordinals place commalist at sets part h.1)
  used-fine scope place commalist (syntax.UsingSummarize (syntax.Summarize at r by aggregates)) h = then-fine (rel_typed scope r) (using_summary_rule scope.state.ordinals place commalist at by aggregates) (rel-fine scope r h.0) (λ part. using-summary-fine scope.state.ordinals place commalist at by aggregates part h.2)
  used-fine scope place commalist (syntax.UsingInfix l at w r) h = two-fine (operand_typed scope l) (operand_typed scope r) (using_infix_rule place commalist at (infix_named w)) (operand-fine scope l h.0) (operand-fine scope r h.1) (using-infix-fine place commalist at (infix_named w))
  used-fine scope place commalist (syntax.UsingNotMatching l at r) h = two-fine (operand_typed scope l) (operand_typed scope r) (using_infix_rule place commalist at NotMatching) (operand-fine scope l h.0) (operand-fine scope r h.1) (using-infix-fine place commalist at NotMatching)
  used-fine scope place commalist (syntax.UsingProject o p) h = then-fine (operand_typed scope o) (using_projection_rule place commalist p) (operand-fine scope o h.0) (using-projection-fine place commalist p)
  used-fine scope place commalist (syntax.UsingFilter o at c) h = then-fine (operand_typed scope o) (using_restriction_rule scope.state.ordinals place commalist at c) (operand-fine scope o h.0) (λ part. using-restriction-fine scope.state.ordinals place commalist at c part h.1)

pub tree-fine : (state : State) (r : RelP) → RelIn has_no_value r → IsNotE06 (tree_typed state r)
unfolding tree_typed
tree-fine state r h = rel-fine (scope_of state) r h

pub test-fine-in : (scope : Scope) (test : TestP) → TestIn has_no_value test → IsNotE06 (test_typed_in scope test)
unfolding test_typed_in
test-fine-in scope (syntax.UsingTest at commalist (syntax.Comparison l place w r)) h = two-fine (operand_typed scope l) (operand_typed scope r) (using_comparison_rule commalist place (relation_named w)) (operand-fine scope l h.1.0) (operand-fine scope r h.1.1) (using-comparison-fine commalist place (relation_named w))
test-fine-in scope (syntax.OfComparison (syntax.Comparison l place w r)) h = two-fine (operand_typed scope l) (operand_typed scope r) (comparison_rule place (relation_named w)) (operand-fine scope l h.0) (operand-fine scope r h.1) (comparison-fine place (relation_named w))
test-fine-in scope (syntax.Emptiness at w r) h = then-fine (rel_typed scope r) _ (rel-fine scope r h) (λ t. tt)

pub test-fine : (state : State) (test : TestP) → TestIn has_no_value test → IsNotE06 (test_typed state test)
unfolding test_typed
test-fine state test h = test-fine-in (scope_of state) test h
