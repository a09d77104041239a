-- Written by tools/grammar; change it there.
-- The plain tree of a tree: without where its parts lie in memory.
use Rattle.std.specs.Prelude.{List, [], ◌∷◌}
use Rattle.utd_syntax.specs.declared.word.Word.{Word as WordTree}
use Rattle.utd_syntax.specs.declared.scalar.PointName.{PointName as PointNameTree}
use Rattle.utd_syntax.specs.declared.scalar.PointName.TheVariants as rust_point
use Rattle.utd_syntax.specs.declared.scalar.Scalar.{Scalar as ScalarTree}
use Rattle.utd_syntax.specs.declared.scalar.Scalar.TheVariants as rust_scalar
use Rattle.utd_syntax.specs.declared.scalar.Conjunction.{Conjunction as ConjunctionTree}
use Rattle.utd_syntax.specs.declared.scalar.Conjunction.TheVariants as rust_conj
use Rattle.utd_syntax.specs.declared.scalar.Negation.{Negation as NegationTree}
use Rattle.utd_syntax.specs.declared.scalar.Negation.TheVariants as rust_neg
use Rattle.utd_syntax.specs.declared.scalar.Comparison.{Comparison as ComparisonTree}
use Rattle.utd_syntax.specs.declared.scalar.Comparison.TheVariants as rust_cmp
use Rattle.utd_syntax.specs.declared.scalar.Sum.{Sum as SumTree}
use Rattle.utd_syntax.specs.declared.scalar.Sum.TheVariants as rust_sum
use Rattle.utd_syntax.specs.declared.scalar.Product.{Product as ProductTree}
use Rattle.utd_syntax.specs.declared.scalar.Product.TheVariants as rust_prod
use Rattle.utd_syntax.specs.declared.scalar.Sign.{Sign as SignTree}
use Rattle.utd_syntax.specs.declared.scalar.Sign.TheVariants as rust_sign
use Rattle.utd_syntax.specs.declared.scalar.Primary.{Primary as PrimaryTree}
use Rattle.utd_syntax.specs.declared.scalar.Primary.TheVariants as rust_primary
use Rattle.utd_syntax.specs.declared.parts.Kind.{Kind as KindTree}
use Rattle.utd_syntax.specs.declared.parts.Kind.TheVariants as rust_kind
use Rattle.utd_syntax.specs.declared.parts.Attribute.{Attribute as AttributeTree}
use Rattle.utd_syntax.specs.declared.parts.Heading.{Heading as HeadingTree}
use Rattle.utd_syntax.specs.declared.parts.Names.{Names as NamesTree}
use Rattle.utd_syntax.specs.declared.parts.NameList.{NameList as NameListTree}
use Rattle.utd_syntax.specs.declared.parts.SomeNames.{SomeNames as SomeNamesTree}
use Rattle.utd_syntax.specs.declared.parts.Element.{Element as ElementTree}
use Rattle.utd_syntax.specs.declared.parts.Elements.{Elements as ElementsTree}
use Rattle.utd_syntax.specs.declared.parts.SomeElements.{SomeElements as SomeElementsTree}
use Rattle.utd_syntax.specs.declared.parts.Tuple.{Tuple as TupleTree}
use Rattle.utd_syntax.specs.declared.parts.Literal.{Literal as LiteralTree}
use Rattle.utd_syntax.specs.declared.parts.Literal.TheVariants as rust_literal
use Rattle.utd_syntax.specs.declared.parts.SetItem.{SetItem as SetItemTree}
use Rattle.utd_syntax.specs.declared.parts.Sets.{Sets as SetsTree}
use Rattle.utd_syntax.specs.declared.parts.AggregateForm.{AggregateForm as AggregateFormTree}
use Rattle.utd_syntax.specs.declared.parts.AggregateForm.TheVariants as rust_aggregate_form
use Rattle.utd_syntax.specs.declared.parts.Aggregate.{Aggregate as AggregateTree}
use Rattle.utd_syntax.specs.declared.parts.Aggregates.{Aggregates as AggregatesTree}
use Rattle.utd_syntax.specs.declared.parts.Renaming.{Renaming as RenamingTree}
use Rattle.utd_syntax.specs.declared.parts.Renamings.{Renamings as RenamingsTree}
use Rattle.utd_syntax.specs.declared.parts.Portion.{Portion as PortionTree}
use Rattle.utd_syntax.specs.declared.parts.MaybePortion.{MaybePortion as MaybePortionTree}
use Rattle.utd_syntax.specs.declared.parts.MaybePortion.TheVariants as rust_maybe_portion
use Rattle.utd_syntax.specs.declared.parts.Condition.{Condition as ConditionTree}
use Rattle.utd_syntax.specs.declared.parts.Condition.TheVariants as rust_condition
use Rattle.utd_syntax.specs.declared.parts.Projection.{Projection as ProjectionTree}
use Rattle.utd_syntax.specs.declared.parts.Projection.TheVariants as rust_projection
use Rattle.utd_syntax.specs.declared.relation.Rel.{Rel as RelTree}
use Rattle.utd_syntax.specs.declared.relation.Rel.TheVariants as rust_rel
use Rattle.utd_syntax.specs.declared.relation.Terms.{Terms as TermsTree}
use Rattle.utd_syntax.specs.declared.relation.Terms.TheVariants as rust_terms
use Rattle.utd_syntax.specs.declared.relation.Term.{Term as TermTree}
use Rattle.utd_syntax.specs.declared.relation.Term.TheVariants as rust_term
use Rattle.utd_syntax.specs.declared.relation.RelPrimary.{RelPrimary as RelPrimaryTree}
use Rattle.utd_syntax.specs.declared.relation.RelPrimary.TheVariants as rust_rel_primary
use Rattle.utd_syntax.specs.declared.relation.Operand.{Operand as OperandTree}
use Rattle.utd_syntax.specs.declared.relation.Operand.TheVariants as rust_operand
use Rattle.utd_syntax.specs.declared.relation.Extend.{Extend as ExtendTree}
use Rattle.utd_syntax.specs.declared.relation.Extend.TheVariants as rust_extend
use Rattle.utd_syntax.specs.declared.relation.Summarize.{Summarize as SummarizeTree}
use Rattle.utd_syntax.specs.declared.relation.Summarize.TheVariants as rust_summarize
use Rattle.utd_syntax.specs.declared.relation.Using.{Using as UsingTree}
use Rattle.utd_syntax.specs.declared.relation.Using.TheVariants as rust_using
use Rattle.utd_syntax.specs.declared.relation.UsingPart.{UsingPart as UsingPartTree}
use Rattle.utd_syntax.specs.declared.relation.UsingPart.TheVariants as rust_using_part
use Rattle.utd_syntax.specs.declared.statement.Key.{Key as KeyTree}
use Rattle.utd_syntax.specs.declared.statement.Foreign.{Foreign as ForeignTree}
use Rattle.utd_syntax.specs.declared.statement.UsedConstraint.{UsedConstraint as UsedConstraintTree}
use Rattle.utd_syntax.specs.declared.statement.UsedConstraint.TheVariants as rust_used_constraint
use Rattle.utd_syntax.specs.declared.statement.Constraint.{Constraint as ConstraintTree}
use Rattle.utd_syntax.specs.declared.statement.Constraint.TheVariants as rust_constraint
use Rattle.utd_syntax.specs.declared.statement.Kept.{Kept as KeptTree}
use Rattle.utd_syntax.specs.declared.statement.Kept.TheVariants as rust_kept
use Rattle.utd_syntax.specs.declared.statement.VarForm.{VarForm as VarFormTree}
use Rattle.utd_syntax.specs.declared.statement.VarForm.TheVariants as rust_var_form
use Rattle.utd_syntax.specs.declared.statement.Relate.{Relate as RelateTree}
use Rattle.utd_syntax.specs.declared.statement.Test.{Test as TestTree}
use Rattle.utd_syntax.specs.declared.statement.Test.TheVariants as rust_test
use Rattle.utd_syntax.specs.declared.statement.UsedDeletion.{UsedDeletion as UsedDeletionTree}
use Rattle.utd_syntax.specs.declared.statement.UsedDeletion.TheVariants as rust_used_deletion
use Rattle.utd_syntax.specs.declared.statement.UsedItem.{UsedItem as UsedItemTree}
use Rattle.utd_syntax.specs.declared.statement.UsedItem.TheVariants as rust_used_item
use Rattle.utd_syntax.specs.declared.statement.Deletion.{Deletion as DeletionTree}
use Rattle.utd_syntax.specs.declared.statement.Deletion.TheVariants as rust_deletion
use Rattle.utd_syntax.specs.declared.statement.Item.{Item as ItemTree}
use Rattle.utd_syntax.specs.declared.statement.Item.TheVariants as rust_item
use Rattle.utd_syntax.specs.declared.statement.Assignment.{Assignment as AssignmentTree}
use Rattle.utd_syntax.specs.declared.statement.Statement.{Statement as StatementTree}
use Rattle.utd_syntax.specs.declared.statement.Statement.TheVariants as rust_statement
use Rattle.utd_syntax.specs.Plain.{Word, PointP, ScalarP, ConjP, NegP, CmpP, SumP, ProdP, SignP, PrimaryP, KindP, AttributeP, HeadingP, NamesP, NameListP, SomeNamesP, ElementP, ElementsP, SomeElementsP, TupleP, LiteralP, SetItemP, SetsP, AggregateFormP, AggregateP, AggregatesP, RenamingP, RenamingsP, PortionP, MaybePortionP, ConditionP, ProjectionP, RelP, TermsP, TermP, RelPrimaryP, OperandP, ExtendP, SummarizeP, UsingP, UsingPartP, KeyP, ForeignP, UsedConstraintP, ConstraintP, KeptP, VarFormP, ComparisonP, TestP, UsedDeletionP, UsedItemP, DeletionP, ItemP, AssignP, StatementP}
use Rattle.utd_syntax.specs.Plain as plain

abbrev pub read_name : WordTree → Word
read_name n = record { place = n.place; bytes = n.bytes.list.items }

abbrev pub read_name_list : List WordTree → List Word
read_name_list [] = []
read_name_list (x ∷ xs) = read_name x ∷ read_name_list xs

abbrev pub read_point : PointNameTree → PointP
read_point (rust_point.Integer v0) = plain.IntegerType v0
read_point (rust_point.Date v0) = plain.DateType v0
read_point (rust_point.Moment v0) = plain.MomentType v0
read_point (rust_point.Named v0) = plain.NamedType (read_name v0)

abbrev mutual
  pub read_scalar : ScalarTree → ScalarP
  read_scalar (rust_scalar.One v0) = plain.OneConj (read_conj v0)
  read_scalar (rust_scalar.Or' at0 v0 v1 v2) = plain.Or (read_scalar v0) v1 (read_conj v2)

  pub read_conj : ConjunctionTree → ConjP
  read_conj (rust_conj.One v0) = plain.OneNeg (read_neg v0)
  read_conj (rust_conj.And' at0 v0 v1 v2) = plain.And (read_conj v0) v1 (read_neg v2)

  pub read_neg : NegationTree → NegP
  read_neg (rust_neg.Not' v0 at1 v1) = plain.Not v0 (read_neg v1)
  read_neg (rust_neg.One v0) = plain.OneCmp (read_cmp v0)

  pub read_cmp : ComparisonTree → CmpP
  read_cmp (rust_cmp.One v0) = plain.OneSum (read_sum v0)
  read_cmp (rust_cmp.Compare v0 v1 v2 v3) = plain.Compare (read_sum v0) v1 v2 (read_sum v3)

  pub read_sum : SumTree → SumP
  read_sum (rust_sum.One v0) = plain.OneProd (read_prod v0)
  read_sum (rust_sum.Add' at0 v0 v1 v2 v3) = plain.Add (read_sum v0) v1 v2 (read_prod v3)

  pub read_prod : ProductTree → ProdP
  read_prod (rust_prod.One v0) = plain.OneSign (read_sign v0)
  read_prod (rust_prod.Multiply' at0 v0 v1 v2 v3) = plain.Multiply (read_prod v0) v1 v2 (read_sign v3)

  pub read_sign : SignTree → SignP
  read_sign (rust_sign.NegativeInteger v0 v1 v2) = plain.NegativeInteger v0 v1 v2.list.items
  read_sign (rust_sign.Negate' v0 at1 v1) = plain.Negate v0 (read_sign v1)
  read_sign (rust_sign.One v0) = plain.OnePrimary (read_primary v0)

  pub read_primary : PrimaryTree → PrimaryP
  read_primary (rust_primary.Integer v0 v1) = plain.IntegerLiteral v0 v1.list.items
  read_primary (rust_primary.Text v0 v1) = plain.TextLiteral v0 v1.list.items
  read_primary (rust_primary.Date v0 v1 v2) = plain.DateLiteral v0 v1 v2.list.items
  read_primary (rust_primary.Moment v0 v1 v2) = plain.MomentLiteral v0 v1 v2.list.items
  read_primary (rust_primary.True v0) = plain.TrueLiteral v0
  read_primary (rust_primary.False v0) = plain.FalseLiteral v0
  read_primary (rust_primary.Attribute v0) = plain.AttributeName (read_name v0)
  read_primary (rust_primary.Dotted v0 v1) = plain.Dotted (read_name v0) (read_name v1)
  read_primary (rust_primary.Paren' v0 at1 v1) = plain.Paren v0 (read_scalar v1)
  read_primary (rust_primary.Selector' v0 v1 at2 v2 at3 v3 v4) = plain.Selector v0 v1 (read_scalar v2) (read_scalar v3) v4
  read_primary (rust_primary.Extreme v0 v1 v2) = plain.Extreme v0 v1 (read_point v2)
  read_primary (rust_primary.Function' v0 v1 at2 v2) = plain.Function v0 v1 (read_scalar v2)
  read_primary (rust_primary.PairFunction' v0 v1 at2 v2 at3 v3) = plain.PairFunction v0 v1 (read_scalar v2) (read_scalar v3)

abbrev pub read_kind : KindTree → KindP
read_kind (rust_kind.Boolean v0) = plain.BooleanKind v0
read_kind (rust_kind.Char v0) = plain.CharKind v0
read_kind (rust_kind.Point v0) = plain.PointKind (read_point v0)
read_kind (rust_kind.Interval v0 v1) = plain.IntervalKind v0 (read_point v1)

abbrev pub read_attribute : AttributeTree → AttributeP
read_attribute x = plain.Attribute (read_name x.name) (read_kind x.kind)

abbrev pub read_attribute_list : List AttributeTree → List AttributeP
read_attribute_list [] = []
read_attribute_list (x ∷ xs) = read_attribute x ∷ read_attribute_list xs

abbrev pub read_heading : HeadingTree → HeadingP
read_heading x = plain.Heading x.place (read_attribute_list x.attributes.list.items)

abbrev pub read_names : NamesTree → NamesP
read_names x = plain.Names x.place (read_name_list x.names.list.items)

abbrev pub read_list : NameListTree → NameListP
read_list x = plain.NameList x.place (read_name_list x.names.list.items)

abbrev pub read_some_names : SomeNamesTree → SomeNamesP
read_some_names x = plain.SomeNames x.place (read_name x.first) (read_name_list x.more.list.items)

abbrev pub read_element : ElementTree → ElementP
read_element x = plain.Element (read_name x.name) (read_scalar x.scalar.value)

abbrev pub read_element_list : List ElementTree → List ElementP
read_element_list [] = []
read_element_list (x ∷ xs) = read_element x ∷ read_element_list xs

abbrev pub read_elements : ElementsTree → ElementsP
read_elements x = plain.Elements x.place (read_element_list x.elements.list.items)

abbrev pub read_some_elements : SomeElementsTree → SomeElementsP
read_some_elements x = plain.SomeElements x.place (read_element x.first) (read_element_list x.more.list.items)

abbrev pub read_tuple : TupleTree → TupleP
read_tuple x = plain.Tuple x.place (read_elements x.elements)

abbrev pub read_tuple_list : List TupleTree → List TupleP
read_tuple_list [] = []
read_tuple_list (x ∷ xs) = read_tuple x ∷ read_tuple_list xs

abbrev pub read_literal : LiteralTree → LiteralP
read_literal (rust_literal.Tuples v0 v1 v2) = plain.Tuples v0 (read_tuple v1) (read_tuple_list v2.list.items)
read_literal (rust_literal.Headed v0 v1 v2) = plain.Headed v0 (read_heading v1) (read_tuple_list v2.list.items)

abbrev pub read_set_item : SetItemTree → SetItemP
read_set_item x = plain.SetItem (read_name x.name) (read_scalar x.scalar.value)

abbrev pub read_set_item_list : List SetItemTree → List SetItemP
read_set_item_list [] = []
read_set_item_list (x ∷ xs) = read_set_item x ∷ read_set_item_list xs

abbrev pub read_sets : SetsTree → SetsP
read_sets x = plain.Sets x.place (read_set_item x.first) (read_set_item_list x.more.list.items)

abbrev pub read_aggregate_form : AggregateFormTree → AggregateFormP
read_aggregate_form (rust_aggregate_form.Count v0) = plain.CountRows v0
read_aggregate_form (rust_aggregate_form.Of v0 v1 v2) = plain.AggregateOf v0 v1 (read_scalar v2.value)

abbrev pub read_aggregate : AggregateTree → AggregateP
read_aggregate x = plain.Aggregate (read_name x.name) (read_aggregate_form x.form)

abbrev pub read_aggregate_list : List AggregateTree → List AggregateP
read_aggregate_list [] = []
read_aggregate_list (x ∷ xs) = read_aggregate x ∷ read_aggregate_list xs

abbrev pub read_aggregates : AggregatesTree → AggregatesP
read_aggregates x = plain.Aggregates x.place (read_aggregate x.first) (read_aggregate_list x.more.list.items)

abbrev pub read_renaming : RenamingTree → RenamingP
read_renaming x = plain.Renaming (read_name x.old) (read_name x.new)

abbrev pub read_renaming_list : List RenamingTree → List RenamingP
read_renaming_list [] = []
read_renaming_list (x ∷ xs) = read_renaming x ∷ read_renaming_list xs

abbrev pub read_renamings : RenamingsTree → RenamingsP
read_renamings x = plain.Renamings x.place (read_renaming x.first) (read_renaming_list x.more.list.items)

abbrev pub read_portion : PortionTree → PortionP
read_portion x = plain.Portion x.place (read_some_elements x.elements)

abbrev pub read_maybe_portion : MaybePortionTree → MaybePortionP
read_maybe_portion rust_maybe_portion.None = plain.NoPortion
read_maybe_portion (rust_maybe_portion.Of v0 v1) = plain.OfPortion v0 (read_some_elements v1)

abbrev pub read_condition : ConditionTree → ConditionP
read_condition rust_condition.None = plain.NoCondition
read_condition (rust_condition.Where v0 v1) = plain.Where v0 (read_scalar v1.value)

abbrev pub read_projection : ProjectionTree → ProjectionP
read_projection (rust_projection.Onto v0 v1) = plain.Onto v0 (read_name_list v1.list.items)
read_projection (rust_projection.AllBut v0 v1 v2) = plain.AllBut v0 (read_name v1) (read_name_list v2.list.items)

abbrev mutual
  pub read_rel : RelTree → RelP
  read_rel (rust_rel.Using v0) = plain.OfUsing (read_using v0)
  read_rel (rust_rel.Terms v0) = plain.OfTerms (read_terms v0)

  pub read_terms : TermsTree → TermsP
  read_terms (rust_terms.One v0) = plain.OneTerm (read_term v0)
  read_terms (rust_terms.Infix' at0 v0 v1 v2 v3) = plain.Infix (read_terms v0) v1 v2 (read_term v3)
  read_terms (rust_terms.NotMatching' at0 v0 v1 v2) = plain.NotMatching (read_terms v0) v1 (read_term v2)

  pub read_term : TermTree → TermP
  read_term (rust_term.One v0) = plain.OneRelPrimary (read_rel_primary v0)
  read_term (rust_term.Project' at0 v0 v1) = plain.Project (read_term v0) (read_projection v1)
  read_term (rust_term.Where' at0 v0 v1 v2) = plain.Filter (read_term v0) v1 (read_scalar v2.value)
  read_term (rust_term.Rename' at0 v0 v1 v2) = plain.Rename (read_term v0) v1 (read_renamings v2)

  pub read_rel_primary : RelPrimaryTree → RelPrimaryP
  read_rel_primary (rust_rel_primary.Extend v0) = plain.OfExtend (read_extend v0)
  read_rel_primary (rust_rel_primary.Summarize v0) = plain.OfSummarize (read_summarize v0)
  read_rel_primary (rust_rel_primary.Operand v0) = plain.OfOperand (read_operand v0)

  pub read_operand : OperandTree → OperandP
  read_operand (rust_operand.Relvar v0) = plain.Relvar (read_name v0)
  read_operand (rust_operand.Literal v0) = plain.OfLiteral (read_literal v0)
  read_operand (rust_operand.Paren' v0 at1 v1) = plain.ParenRel v0 (read_rel v1)
  read_operand (rust_operand.Pack' v0 v1 at2 v2 v3) = plain.PackOn v0 v1 (read_rel v2) (read_list v3)

  pub read_extend : ExtendTree → ExtendP
  read_extend (rust_extend.Of' v0 at1 v1 v2) = plain.Extend v0 (read_rel v1) (read_sets v2)

  pub read_summarize : SummarizeTree → SummarizeP
  read_summarize (rust_summarize.Of' v0 at1 v1 v2 v3) = plain.Summarize v0 (read_rel v1) (read_names v2) (read_aggregates v3)

  pub read_using : UsingTree → UsingP
  read_using (rust_using.Of v0 v1 v2) = plain.Using v0 (read_list v1) (read_using_part v2)

  pub read_using_part : UsingPartTree → UsingPartP
  read_using_part (rust_using_part.Extend v0) = plain.UsingExtend (read_extend v0)
  read_using_part (rust_using_part.Summarize v0) = plain.UsingSummarize (read_summarize v0)
  read_using_part (rust_using_part.Infix v0 v1 v2 v3) = plain.UsingInfix (read_operand v0) v1 v2 (read_operand v3)
  read_using_part (rust_using_part.NotMatching v0 v1 v2) = plain.UsingNotMatching (read_operand v0) v1 (read_operand v2)
  read_using_part (rust_using_part.Project v0 v1) = plain.UsingProject (read_operand v0) (read_projection v1)
  read_using_part (rust_using_part.Where v0 v1 v2) = plain.UsingFilter (read_operand v0) v1 (read_scalar v2.value)

abbrev pub read_key : KeyTree → KeyP
read_key x = plain.Key x.place (read_names x.names)

abbrev pub read_foreign : ForeignTree → ForeignP
read_foreign x = plain.Foreign x.place (read_names x.names) (read_name x.relvar)

abbrev pub read_used_constraint : UsedConstraintTree → UsedConstraintP
read_used_constraint (rust_used_constraint.Key v0) = plain.UsedKey (read_key v0)
read_used_constraint (rust_used_constraint.Foreign v0) = plain.UsedForeign (read_foreign v0)

abbrev pub read_constraint : ConstraintTree → ConstraintP
read_constraint (rust_constraint.Key v0) = plain.KeyOf (read_key v0)
read_constraint (rust_constraint.Foreign v0) = plain.ForeignOf (read_foreign v0)
read_constraint (rust_constraint.PackedOn v0 v1) = plain.PackedOn v0 (read_list v1)
read_constraint (rust_constraint.WhenUnpacked v0 v1 v2) = plain.WhenUnpacked v0 (read_list v1) (read_key v2)
read_constraint (rust_constraint.Using v0 v1 v2) = plain.UsingConstraint v0 (read_list v1) (read_used_constraint v2)

abbrev pub read_constraint_list : List ConstraintTree → List ConstraintP
read_constraint_list [] = []
read_constraint_list (x ∷ xs) = read_constraint x ∷ read_constraint_list xs

abbrev pub read_kept : KeptTree → KeptP
read_kept (rust_kept.Infix v0 v1 v2 v3 v4 v5) = plain.KeptInfix v0 (read_list v1) (read_name v2) v3 v4 (read_name v5)
read_kept (rust_kept.NotMatching v0 v1 v2 v3 v4) = plain.KeptNotMatching v0 (read_list v1) (read_name v2) v3 (read_name v4)
read_kept (rust_kept.Project v0 v1 v2 v3) = plain.KeptProject v0 (read_list v1) (read_name v2) (read_projection v3)
read_kept (rust_kept.Pack v0 v1 v2) = plain.KeptPack v0 (read_name v1) (read_list v2)

abbrev pub read_var_form : VarFormTree → VarFormP
read_var_form (rust_var_form.Relation v0 v1 v2) = plain.BaseRelvar v0 (read_heading v1) (read_constraint_list v2.list.items)
read_var_form (rust_var_form.Virtual v0 v1) = plain.View v0 (read_rel v1.value)
read_var_form (rust_var_form.Kept v0 v1) = plain.Kept v0 (read_kept v1)

abbrev pub read_comparison : RelateTree → ComparisonP
read_comparison x = plain.Comparison (read_operand x.left) x.place x.word (read_operand x.right)

abbrev pub read_test : TestTree → TestP
read_test (rust_test.Using v0 v1 v2) = plain.UsingTest v0 (read_list v1) (read_comparison v2)
read_test (rust_test.Emptiness v0 v1 v2) = plain.Emptiness v0 v1 (read_rel v2.value)
read_test (rust_test.Relate v0) = plain.OfComparison (read_comparison v0)

abbrev pub read_used_deletion : UsedDeletionTree → UsedDeletionP
read_used_deletion (rust_used_deletion.Where v0 v1) = plain.UsedDeleteWhere v0 (read_scalar v1.value)
read_used_deletion (rust_used_deletion.Rows v0) = plain.UsedDeleteRows (read_rel v0.value)

abbrev pub read_used_item : UsedItemTree → UsedItemP
read_used_item (rust_used_item.Insert v0 v1 v2) = plain.UsedInsert v0 (read_name v1) (read_rel v2.value)
read_used_item (rust_used_item.Delete v0 v1 v2) = plain.UsedDelete v0 (read_name v1) (read_used_deletion v2)
read_used_item (rust_used_item.Update v0 v1 v2 v3) = plain.UsedUpdate v0 (read_name v1) (read_condition v2) (read_sets v3)

abbrev pub read_deletion : DeletionTree → DeletionP
read_deletion (rust_deletion.Where v0 v1) = plain.DeleteWhere v0 (read_scalar v1.value)
read_deletion (rust_deletion.Portion v0 v1) = plain.DeletePortion (read_portion v0) (read_condition v1)
read_deletion (rust_deletion.Rows v0) = plain.DeleteRows (read_rel v0.value)

abbrev pub read_item : ItemTree → ItemP
read_item (rust_item.Set v0 v1) = plain.SetRelvar (read_name v0) (read_rel v1.value)
read_item (rust_item.Insert v0 v1 v2) = plain.Insert v0 (read_name v1) (read_rel v2.value)
read_item (rust_item.Delete v0 v1 v2) = plain.Delete v0 (read_name v1) (read_deletion v2)
read_item (rust_item.Update v0 v1 v2 v3 v4) = plain.Update v0 (read_name v1) (read_maybe_portion v2) (read_condition v3) (read_sets v4)
read_item (rust_item.Terminate v0 v1 v2 v3 v4) = plain.Terminate v0 (read_name v1) v2 (read_scalar v3.value) (read_condition v4)
read_item (rust_item.Using v0 v1 v2) = plain.UsingItem v0 (read_list v1) (read_used_item v2)

abbrev pub read_item_list : List ItemTree → List ItemP
read_item_list [] = []
read_item_list (x ∷ xs) = read_item x ∷ read_item_list xs

abbrev pub read_assign : AssignmentTree → AssignP
read_assign x = plain.Assign (read_item x.first) (read_item_list x.more.list.items)

abbrev pub read_statement : StatementTree → StatementP
read_statement rust_statement.Nothing = plain.Nothing
read_statement (rust_statement.Ordinal v0 v1 v2) = plain.DeclareOrdinal v0 (read_name v1) (read_some_names v2)
read_statement (rust_statement.Var v0 v1 v2) = plain.DeclareRelvar v0 (read_name v1) (read_var_form v2)
read_statement (rust_statement.History h) = plain.DeclareHistory h.place (read_name h.view) (read_heading h.heading) (read_key h.key) (read_name h.since) (read_name h.since_attribute) (read_name h.during) (read_name h.during_attribute) (read_point h.point)
read_statement (rust_statement.DeclareLog v0 v1 v2 v3) = plain.DeclareLog v0 (read_name v1) (read_name v2) (read_name v3)
read_statement (rust_statement.DeclareRule v0 v1 v2) = plain.DeclareRule v0 (read_name v1) (read_test v2)
read_statement (rust_statement.Drop v0 v1) = plain.Drop v0 (read_name v1)
read_statement (rust_statement.DropRule v0 v1 v2) = plain.DropRule v0 v1 (read_name v2)
read_statement (rust_statement.Print v0 v1) = plain.Print v0 (read_rel v1.value)
read_statement (rust_statement.Ask v0 v1) = plain.Ask v0 (read_test v1)
read_statement (rust_statement.Assign v0) = plain.Assignment (read_assign v0)
