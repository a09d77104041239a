-- The typing of relational expressions and tests: the typed tree, or the first refusal. The parts of a node are typed before it,
-- left to right. Parentheses make no node.
--     rel_typed scope rel ..      where names are looked up in the scope
--     tree_typed state rel, test_typed state test      where these are the relvars, the views and the ordinal types
--     test_typed_in scope test      where some names may not be named beside
use Rattle.std.specs.Prelude.{not, Ok}
use Rattle.point_core.specs.declared.fault.Place.{Place}
use Rattle.point_core.specs.declared.fault.Code.TheVariants.{E10, E20}
use Rattle.point_core.specs.Faults.{OrFault}
use Rattle.utd_syntax.specs.Plain as syntax
use Rattle.utd_syntax.specs.Plain.{Word, NameListP, RelP, TermsP, TermP, RelPrimaryP, OperandP, ExtendP, SummarizeP, UsingP, UsingPartP, ComparisonP, TestP}
use Rattle.scalar_typing.specs.Typings.{◌>>=◌, value_or}
use Rattle.relation_typing.specs.Attributes.{name_typed}
use Rattle.relation_typing.specs.Literals.{literal_typed}
use Rattle.node_typing.specs.Infixes.{infix_named}
use Rattle.node_typing.specs.Nodes.{infix_rule, projection_rule, renaming_rule, restriction_rule, extension_rule, summary_rule, packing_rule, relation_named, comparison_rule, using_comparison_rule, emptiness_test}
use Rattle.node_typing.specs.Positions.{check}
use Rattle.node_typing.specs.Usings.{using_infix_rule, using_projection_rule, using_restriction_rule, using_extension_rule, using_summary_rule}
use Rattle.tree_core.specs.Relvars.{State, relvar_named, relvar_heading}
use Rattle.tree_core.specs.Trees.{Tree, named, Test}
use Rattle.tree_core.specs.declared.tree.InfixWord.TheVariants.{NotMatching}
use Rattle.tree_typing.specs.Scopes.{Scope, scope_of}

-- ---- names

-- E10 at a name that is no relvar and no view, and E20 at one that may not be named; the heading is that of the relvar's value or of the
-- view's expression
abbrev pub relvar_typed : Scope → Word → OrFault Tree
relvar_typed scope w = do
  name ← name_typed w
  found ← value_or w.place E10 (relvar_named scope.state.relvars name)
  allowed ← check w.place E20 (not (scope.closed name))
  Ok (named w.place (relvar_heading found) name)

-- ---- relational expressions

abbrev mutual
  pub rel_typed : Scope → RelP → OrFault Tree
  rel_typed scope (syntax.OfUsing u) = using_typed scope u
  rel_typed scope (syntax.OfTerms t) = terms_typed scope t

  pub terms_typed : Scope → TermsP → OrFault Tree
  terms_typed scope (syntax.OneTerm t) = term_typed scope t
  terms_typed scope (syntax.Infix l at w r) = do
    left ← terms_typed scope l
    right ← term_typed scope r
    infix_rule at (infix_named w) left right
  terms_typed scope (syntax.NotMatching l at r) = do
    left ← terms_typed scope l
    right ← term_typed scope r
    infix_rule at NotMatching left right

  pub term_typed : Scope → TermP → OrFault Tree
  term_typed scope (syntax.OneRelPrimary p) = primary_typed scope p
  term_typed scope (syntax.Project t p) = do
    part ← term_typed scope t
    projection_rule p part
  term_typed scope (syntax.Filter t at c) = do
    part ← term_typed scope t
    restriction_rule scope.state.ordinals at c part
  term_typed scope (syntax.Rename t at r) = do
    part ← term_typed scope t
    renaming_rule at r part

  pub primary_typed : Scope → RelPrimaryP → OrFault Tree
  primary_typed scope (syntax.OfExtend e) = extend_typed scope e
  primary_typed scope (syntax.OfSummarize s) = summarize_typed scope s
  primary_typed scope (syntax.OfOperand o) = operand_typed scope o

  pub operand_typed : Scope → OperandP → OrFault Tree
  operand_typed scope (syntax.Relvar w) = relvar_typed scope w
  operand_typed scope (syntax.OfLiteral l) = literal_typed scope.state.ordinals l
  operand_typed scope (syntax.ParenRel at r) = rel_typed scope r
  operand_typed scope (syntax.PackOn at w r commalist) = do
    part ← rel_typed scope r
    packing_rule at w commalist part

  pub extend_typed : Scope → ExtendP → OrFault Tree
  extend_typed scope (syntax.Extend at r sets) = do
    part ← rel_typed scope r
    extension_rule scope.state.ordinals at sets part

  pub summarize_typed : Scope → SummarizeP → OrFault Tree
  summarize_typed scope (syntax.Summarize at r by aggregates) = do
    part ← rel_typed scope r
    summary_rule scope.state.ordinals at by aggregates part

  -- under USING the operands of an operator, and then its rule with the list
  pub using_typed : Scope → UsingP → OrFault Tree
  using_typed scope (syntax.Using at commalist part) = used_typed scope at commalist part

  pub used_typed : Scope → Place → NameListP → UsingPartP → OrFault Tree
  used_typed scope place commalist (syntax.UsingExtend e) = used_extend_typed scope place commalist e
  used_typed scope place commalist (syntax.UsingSummarize s) = used_summarize_typed scope place commalist s
  used_typed scope place commalist (syntax.UsingInfix l at w r) = do
    left ← operand_typed scope l
    right ← operand_typed scope r
    using_infix_rule place commalist at (infix_named w) left right
  used_typed scope place commalist (syntax.UsingNotMatching l at r) = do
    left ← operand_typed scope l
    right ← operand_typed scope r
    using_infix_rule place commalist at NotMatching left right
  used_typed scope place commalist (syntax.UsingProject o p) = do
    part ← operand_typed scope o
    using_projection_rule place commalist p part
  used_typed scope place commalist (syntax.UsingFilter o at c) = do
    part ← operand_typed scope o
    using_restriction_rule scope.state.ordinals place commalist at c part

  pub used_extend_typed : Scope → Place → NameListP → ExtendP → OrFault Tree
  used_extend_typed scope place commalist (syntax.Extend at r sets) = do
    part ← rel_typed scope r
    using_extension_rule scope.state.ordinals place commalist at sets part

  pub used_summarize_typed : Scope → Place → NameListP → SummarizeP → OrFault Tree
  used_summarize_typed scope place commalist (syntax.Summarize at r by aggregates) = do
    part ← rel_typed scope r
    using_summary_rule scope.state.ordinals place commalist at by aggregates part

-- the typed tree of an expression, in which each name of the state may be named
unfoldable pub tree_typed : State → RelP → OrFault Tree
tree_typed state rel = rel_typed (scope_of state) rel

-- ---- tests

-- two operands, and then their comparison
abbrev pub comparison_typed : Scope → ComparisonP → OrFault Test
comparison_typed scope (syntax.Comparison l at w r) = do
  left ← operand_typed scope l
  right ← operand_typed scope r
  comparison_rule at (relation_named w) left right

abbrev pub used_comparison_typed : Scope → NameListP → ComparisonP → OrFault Test
used_comparison_typed scope commalist (syntax.Comparison l at w r) = do
  left ← operand_typed scope l
  right ← operand_typed scope r
  using_comparison_rule commalist at (relation_named w) left right

-- the typed test in a scope
unfoldable pub test_typed_in : Scope → TestP → OrFault Test
test_typed_in scope (syntax.UsingTest at commalist c) = used_comparison_typed scope commalist c
test_typed_in scope (syntax.OfComparison c) = comparison_typed scope c
test_typed_in scope (syntax.Emptiness at w r) = do
  t ← rel_typed scope r
  Ok (emptiness_test at w t)

-- the typed test, in which each name of the state may be named
unfoldable pub test_typed : State → TestP → OrFault Test
test_typed state test = test_typed_in (scope_of state) test
