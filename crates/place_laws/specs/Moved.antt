-- Written by tools/grammar; change it there.
-- A syntax tree whose places are moved: it has all else that the tree has.
-- moved_word, moved_point, .., moved_statement: a function for each type of trees.
use Rattle.std.specs.Prelude.{map}
use Rattle.point_core.specs.declared.fault.Place.{Place}
use Rattle.utd_syntax.specs.Plain.{Word, word, PointP, ScalarP, ConjP, NegP, CmpP, SumP, ProdP, SignP, PrimaryP, KindP, AttributeP, HeadingP, NamesP, NameListP, SomeNamesP, ElementP, ElementsP, SomeElementsP, TupleP, LiteralP, SetItemP, SetsP, AggregateFormP, AggregateP, AggregatesP, RenamingP, RenamingsP, PortionP, MaybePortionP, ConditionP, ProjectionP, RelP, TermsP, TermP, RelPrimaryP, OperandP, ExtendP, SummarizeP, UsingP, UsingPartP, KeyP, ForeignP, UsedConstraintP, ConstraintP, KeptP, VarFormP, ComparisonP, TestP, UsedDeletionP, UsedItemP, DeletionP, ItemP, AssignP, StatementP, IntegerType, DateType, MomentType, NamedType, OneConj, Or, OneNeg, And, Not, OneCmp, OneSum, Compare, OneProd, Add, OneSign, Multiply, NegativeInteger, Negate, OnePrimary, IntegerLiteral, TextLiteral, DateLiteral, MomentLiteral, TrueLiteral, FalseLiteral, AttributeName, Dotted, Paren, Selector, Extreme, Function, PairFunction, BooleanKind, CharKind, PointKind, IntervalKind, Attribute, Heading, Names, NameList, SomeNames, Element, Elements, SomeElements, Tuple, Tuples, Headed, SetItem, Sets, CountRows, AggregateOf, Aggregate, Aggregates, Renaming, Renamings, Portion, NoPortion, OfPortion, NoCondition, Where, Onto, AllBut, OfUsing, OfTerms, OneTerm, Infix, NotMatching, OneRelPrimary, Project, Filter, Rename, OfExtend, OfSummarize, OfOperand, Relvar, OfLiteral, ParenRel, PackOn, Extend, Summarize, Using, UsingExtend, UsingSummarize, UsingInfix, UsingNotMatching, UsingProject, UsingFilter, Key, Foreign, UsedKey, UsedForeign, KeyOf, ForeignOf, PackedOn, WhenUnpacked, UsingConstraint, KeptInfix, KeptNotMatching, KeptProject, KeptPack, BaseRelvar, View, Kept, Comparison, UsingTest, Emptiness, OfComparison, UsedDeleteWhere, UsedDeleteRows, UsedInsert, UsedDelete, UsedUpdate, DeleteWhere, DeletePortion, DeleteRows, SetRelvar, Insert, Delete, Update, Terminate, UsingItem, Assign, Nothing, DeclareOrdinal, DeclareRelvar, DeclareHistory, DeclareLog, DeclareRule, Drop, DropRule, Print, Ask, Assignment}

abbrev pub moved_word : (Place → Place) → Word → Word
moved_word g n = word (g n.place) n.bytes

abbrev pub moved_point : (Place → Place) → PointP → PointP
moved_point g (IntegerType p) = IntegerType (g p)
moved_point g (DateType p) = DateType (g p)
moved_point g (MomentType p) = MomentType (g p)
moved_point g (NamedType n) = NamedType (moved_word g n)

abbrev mutual
  pub moved_scalar : (Place → Place) → ScalarP → ScalarP
  moved_scalar g (OneConj c) = OneConj (moved_conj g c)
  moved_scalar g (Or s p c) = Or (moved_scalar g s) (g p) (moved_conj g c)

  pub moved_conj : (Place → Place) → ConjP → ConjP
  moved_conj g (OneNeg c) = OneNeg (moved_neg g c)
  moved_conj g (And s p c) = And (moved_conj g s) (g p) (moved_neg g c)

  pub moved_neg : (Place → Place) → NegP → NegP
  moved_neg g (Not p n) = Not (g p) (moved_neg g n)
  moved_neg g (OneCmp c) = OneCmp (moved_cmp g c)

  pub moved_cmp : (Place → Place) → CmpP → CmpP
  moved_cmp g (OneSum s) = OneSum (moved_sum g s)
  moved_cmp g (Compare s p o r) = Compare (moved_sum g s) (g p) o (moved_sum g r)

  pub moved_sum : (Place → Place) → SumP → SumP
  moved_sum g (OneProd f) = OneProd (moved_prod g f)
  moved_sum g (Add s p o f) = Add (moved_sum g s) (g p) o (moved_prod g f)

  pub moved_prod : (Place → Place) → ProdP → ProdP
  moved_prod g (OneSign f) = OneSign (moved_sign g f)
  moved_prod g (Multiply s p o f) = Multiply (moved_prod g s) (g p) o (moved_sign g f)

  pub moved_sign : (Place → Place) → SignP → SignP
  moved_sign g (NegativeInteger p q c) = NegativeInteger (g p) (g q) c
  moved_sign g (Negate p s) = Negate (g p) (moved_sign g s)
  moved_sign g (OnePrimary a) = OnePrimary (moved_primary g a)

  pub moved_primary : (Place → Place) → PrimaryP → PrimaryP
  moved_primary g (IntegerLiteral p c) = IntegerLiteral (g p) c
  moved_primary g (TextLiteral p c) = TextLiteral (g p) c
  moved_primary g (DateLiteral p q c) = DateLiteral (g p) (g q) c
  moved_primary g (MomentLiteral p q c) = MomentLiteral (g p) (g q) c
  moved_primary g (TrueLiteral p) = TrueLiteral (g p)
  moved_primary g (FalseLiteral p) = FalseLiteral (g p)
  moved_primary g (AttributeName n) = AttributeName (moved_word g n)
  moved_primary g (Dotted n v) = Dotted (moved_word g n) (moved_word g v)
  moved_primary g (Paren p s) = Paren (g p) (moved_scalar g s)
  moved_primary g (Selector p b s r e) = Selector (g p) b (moved_scalar g s) (moved_scalar g r) e
  moved_primary g (Extreme p o y) = Extreme (g p) o (moved_point g y)
  moved_primary g (Function p o s) = Function (g p) o (moved_scalar g s)
  moved_primary g (PairFunction p o s r) = PairFunction (g p) o (moved_scalar g s) (moved_scalar g r)

abbrev pub moved_kind : (Place → Place) → KindP → KindP
moved_kind g (BooleanKind p) = BooleanKind (g p)
moved_kind g (CharKind p) = CharKind (g p)
moved_kind g (PointKind y) = PointKind (moved_point g y)
moved_kind g (IntervalKind p y) = IntervalKind (g p) (moved_point g y)

abbrev pub moved_attribute : (Place → Place) → AttributeP → AttributeP
moved_attribute g (Attribute n k) = Attribute (moved_word g n) (moved_kind g k)

abbrev pub moved_heading : (Place → Place) → HeadingP → HeadingP
moved_heading g (Heading p xs) = Heading (g p) (map (moved_attribute g) xs)

abbrev pub moved_names : (Place → Place) → NamesP → NamesP
moved_names g (Names p ns) = Names (g p) (map (moved_word g) ns)

abbrev pub moved_name_list : (Place → Place) → NameListP → NameListP
moved_name_list g (NameList p ns) = NameList (g p) (map (moved_word g) ns)

abbrev pub moved_some_names : (Place → Place) → SomeNamesP → SomeNamesP
moved_some_names g (SomeNames p n ns) = SomeNames (g p) (moved_word g n) (map (moved_word g) ns)

abbrev pub moved_element : (Place → Place) → ElementP → ElementP
moved_element g (Element n s) = Element (moved_word g n) (moved_scalar g s)

abbrev pub moved_elements : (Place → Place) → ElementsP → ElementsP
moved_elements g (Elements p xs) = Elements (g p) (map (moved_element g) xs)

abbrev pub moved_some_elements : (Place → Place) → SomeElementsP → SomeElementsP
moved_some_elements g (SomeElements p x xs) = SomeElements (g p) (moved_element g x) (map (moved_element g) xs)

abbrev pub moved_tuple : (Place → Place) → TupleP → TupleP
moved_tuple g (Tuple p e) = Tuple (g p) (moved_elements g e)

abbrev pub moved_literal : (Place → Place) → LiteralP → LiteralP
moved_literal g (Tuples p x xs) = Tuples (g p) (moved_tuple g x) (map (moved_tuple g) xs)
moved_literal g (Headed p h us) = Headed (g p) (moved_heading g h) (map (moved_tuple g) us)

abbrev pub moved_set_item : (Place → Place) → SetItemP → SetItemP
moved_set_item g (SetItem n s) = SetItem (moved_word g n) (moved_scalar g s)

abbrev pub moved_sets : (Place → Place) → SetsP → SetsP
moved_sets g (Sets p x xs) = Sets (g p) (moved_set_item g x) (map (moved_set_item g) xs)

abbrev pub moved_aggregate_form : (Place → Place) → AggregateFormP → AggregateFormP
moved_aggregate_form g (CountRows p) = CountRows (g p)
moved_aggregate_form g (AggregateOf p o s) = AggregateOf (g p) o (moved_scalar g s)

abbrev pub moved_aggregate : (Place → Place) → AggregateP → AggregateP
moved_aggregate g (Aggregate n a) = Aggregate (moved_word g n) (moved_aggregate_form g a)

abbrev pub moved_aggregates : (Place → Place) → AggregatesP → AggregatesP
moved_aggregates g (Aggregates p x xs) = Aggregates (g p) (moved_aggregate g x) (map (moved_aggregate g) xs)

abbrev pub moved_renaming : (Place → Place) → RenamingP → RenamingP
moved_renaming g (Renaming n m) = Renaming (moved_word g n) (moved_word g m)

abbrev pub moved_renamings : (Place → Place) → RenamingsP → RenamingsP
moved_renamings g (Renamings p x xs) = Renamings (g p) (moved_renaming g x) (map (moved_renaming g) xs)

abbrev pub moved_portion : (Place → Place) → PortionP → PortionP
moved_portion g (Portion p e) = Portion (g p) (moved_some_elements g e)

abbrev pub moved_maybe_portion : (Place → Place) → MaybePortionP → MaybePortionP
moved_maybe_portion g NoPortion = NoPortion
moved_maybe_portion g (OfPortion p e) = OfPortion (g p) (moved_some_elements g e)

abbrev pub moved_condition : (Place → Place) → ConditionP → ConditionP
moved_condition g NoCondition = NoCondition
moved_condition g (Where p s) = Where (g p) (moved_scalar g s)

abbrev pub moved_projection : (Place → Place) → ProjectionP → ProjectionP
moved_projection g (Onto p ns) = Onto (g p) (map (moved_word g) ns)
moved_projection g (AllBut p n ns) = AllBut (g p) (moved_word g n) (map (moved_word g) ns)

abbrev mutual
  pub moved_rel : (Place → Place) → RelP → RelP
  moved_rel g (OfUsing u) = OfUsing (moved_using g u)
  moved_rel g (OfTerms y) = OfTerms (moved_terms g y)

  pub moved_terms : (Place → Place) → TermsP → TermsP
  moved_terms g (OneTerm y) = OneTerm (moved_term g y)
  moved_terms g (Infix s p o y) = Infix (moved_terms g s) (g p) o (moved_term g y)
  moved_terms g (NotMatching s p y) = NotMatching (moved_terms g s) (g p) (moved_term g y)

  pub moved_term : (Place → Place) → TermP → TermP
  moved_term g (OneRelPrimary x) = OneRelPrimary (moved_rel_primary g x)
  moved_term g (Project s q) = Project (moved_term g s) (moved_projection g q)
  moved_term g (Filter s p c) = Filter (moved_term g s) (g p) (moved_scalar g c)
  moved_term g (Rename s p q) = Rename (moved_term g s) (g p) (moved_renamings g q)

  pub moved_rel_primary : (Place → Place) → RelPrimaryP → RelPrimaryP
  moved_rel_primary g (OfExtend e) = OfExtend (moved_extend g e)
  moved_rel_primary g (OfSummarize e) = OfSummarize (moved_summarize g e)
  moved_rel_primary g (OfOperand o) = OfOperand (moved_operand g o)

  pub moved_operand : (Place → Place) → OperandP → OperandP
  moved_operand g (Relvar n) = Relvar (moved_word g n)
  moved_operand g (OfLiteral l) = OfLiteral (moved_literal g l)
  moved_operand g (ParenRel p r) = ParenRel (g p) (moved_rel g r)
  moved_operand g (PackOn p o r a) = PackOn (g p) o (moved_rel g r) (moved_name_list g a)

  pub moved_extend : (Place → Place) → ExtendP → ExtendP
  moved_extend g (Extend p r s) = Extend (g p) (moved_rel g r) (moved_sets g s)

  pub moved_summarize : (Place → Place) → SummarizeP → SummarizeP
  moved_summarize g (Summarize p r b a) = Summarize (g p) (moved_rel g r) (moved_names g b) (moved_aggregates g a)

  pub moved_using : (Place → Place) → UsingP → UsingP
  moved_using g (Using p a u) = Using (g p) (moved_name_list g a) (moved_using_part g u)

  pub moved_using_part : (Place → Place) → UsingPartP → UsingPartP
  moved_using_part g (UsingExtend e) = UsingExtend (moved_extend g e)
  moved_using_part g (UsingSummarize e) = UsingSummarize (moved_summarize g e)
  moved_using_part g (UsingInfix l p o r) = UsingInfix (moved_operand g l) (g p) o (moved_operand g r)
  moved_using_part g (UsingNotMatching l p r) = UsingNotMatching (moved_operand g l) (g p) (moved_operand g r)
  moved_using_part g (UsingProject l q) = UsingProject (moved_operand g l) (moved_projection g q)
  moved_using_part g (UsingFilter l p c) = UsingFilter (moved_operand g l) (g p) (moved_scalar g c)

abbrev pub moved_key : (Place → Place) → KeyP → KeyP
moved_key g (Key p n) = Key (g p) (moved_names g n)

abbrev pub moved_foreign : (Place → Place) → ForeignP → ForeignP
moved_foreign g (Foreign p n r) = Foreign (g p) (moved_names g n) (moved_word g r)

abbrev pub moved_used_constraint : (Place → Place) → UsedConstraintP → UsedConstraintP
moved_used_constraint g (UsedKey k) = UsedKey (moved_key g k)
moved_used_constraint g (UsedForeign f) = UsedForeign (moved_foreign g f)

abbrev pub moved_constraint : (Place → Place) → ConstraintP → ConstraintP
moved_constraint g (KeyOf k) = KeyOf (moved_key g k)
moved_constraint g (ForeignOf f) = ForeignOf (moved_foreign g f)
moved_constraint g (PackedOn p a) = PackedOn (g p) (moved_name_list g a)
moved_constraint g (WhenUnpacked p a k) = WhenUnpacked (g p) (moved_name_list g a) (moved_key g k)
moved_constraint g (UsingConstraint p a u) = UsingConstraint (g p) (moved_name_list g a) (moved_used_constraint g u)

abbrev pub moved_kept : (Place → Place) → KeptP → KeptP
moved_kept g (KeptInfix p a l q o r) = KeptInfix (g p) (moved_name_list g a) (moved_word g l) (g q) o (moved_word g r)
moved_kept g (KeptNotMatching p a l q r) = KeptNotMatching (g p) (moved_name_list g a) (moved_word g l) (g q) (moved_word g r)
moved_kept g (KeptProject p a l q) = KeptProject (g p) (moved_name_list g a) (moved_word g l) (moved_projection g q)
moved_kept g (KeptPack p n a) = KeptPack (g p) (moved_word g n) (moved_name_list g a)

abbrev pub moved_var_form : (Place → Place) → VarFormP → VarFormP
moved_var_form g (BaseRelvar p h cs) = BaseRelvar (g p) (moved_heading g h) (map (moved_constraint g) cs)
moved_var_form g (View p r) = View (g p) (moved_rel g r)
moved_var_form g (Kept p k) = Kept (g p) (moved_kept g k)

abbrev pub moved_comparison : (Place → Place) → ComparisonP → ComparisonP
moved_comparison g (Comparison l p o r) = Comparison (moved_operand g l) (g p) o (moved_operand g r)

abbrev pub moved_test : (Place → Place) → TestP → TestP
moved_test g (UsingTest p a c) = UsingTest (g p) (moved_name_list g a) (moved_comparison g c)
moved_test g (Emptiness p o r) = Emptiness (g p) o (moved_rel g r)
moved_test g (OfComparison c) = OfComparison (moved_comparison g c)

abbrev pub moved_used_deletion : (Place → Place) → UsedDeletionP → UsedDeletionP
moved_used_deletion g (UsedDeleteWhere p s) = UsedDeleteWhere (g p) (moved_scalar g s)
moved_used_deletion g (UsedDeleteRows r) = UsedDeleteRows (moved_rel g r)

abbrev pub moved_used_item : (Place → Place) → UsedItemP → UsedItemP
moved_used_item g (UsedInsert p n r) = UsedInsert (g p) (moved_word g n) (moved_rel g r)
moved_used_item g (UsedDelete p n d) = UsedDelete (g p) (moved_word g n) (moved_used_deletion g d)
moved_used_item g (UsedUpdate p n c s) = UsedUpdate (g p) (moved_word g n) (moved_condition g c) (moved_sets g s)

abbrev pub moved_deletion : (Place → Place) → DeletionP → DeletionP
moved_deletion g (DeleteWhere p s) = DeleteWhere (g p) (moved_scalar g s)
moved_deletion g (DeletePortion q c) = DeletePortion (moved_portion g q) (moved_condition g c)
moved_deletion g (DeleteRows r) = DeleteRows (moved_rel g r)

abbrev pub moved_item : (Place → Place) → ItemP → ItemP
moved_item g (SetRelvar n r) = SetRelvar (moved_word g n) (moved_rel g r)
moved_item g (Insert p n r) = Insert (g p) (moved_word g n) (moved_rel g r)
moved_item g (Delete p n d) = Delete (g p) (moved_word g n) (moved_deletion g d)
moved_item g (Update p n q c s) = Update (g p) (moved_word g n) (moved_maybe_portion g q) (moved_condition g c) (moved_sets g s)
moved_item g (Terminate p n q e c) = Terminate (g p) (moved_word g n) (g q) (moved_scalar g e) (moved_condition g c)
moved_item g (UsingItem p a u) = UsingItem (g p) (moved_name_list g a) (moved_used_item g u)

abbrev pub moved_assign : (Place → Place) → AssignP → AssignP
moved_assign g (Assign x xs) = Assign (moved_item g x) (map (moved_item g) xs)

abbrev pub moved_statement : (Place → Place) → StatementP → StatementP
moved_statement g Nothing = Nothing
moved_statement g (DeclareOrdinal p n v) = DeclareOrdinal (g p) (moved_word g n) (moved_some_names g v)
moved_statement g (DeclareRelvar p n f) = DeclareRelvar (g p) (moved_word g n) (moved_var_form g f)
moved_statement g (DeclareHistory p n h k s b d i y) = DeclareHistory (g p) (moved_word g n) (moved_heading g h) (moved_key g k) (moved_word g s) (moved_word g b) (moved_word g d) (moved_word g i) (moved_point g y)
moved_statement g (DeclareLog p l s b) = DeclareLog (g p) (moved_word g l) (moved_word g s) (moved_word g b)
moved_statement g (DeclareRule p n y) = DeclareRule (g p) (moved_word g n) (moved_test g y)
moved_statement g (Drop p n) = Drop (g p) (moved_word g n)
moved_statement g (DropRule p q n) = DropRule (g p) (g q) (moved_word g n)
moved_statement g (Print p r) = Print (g p) (moved_rel g r)
moved_statement g (Ask p y) = Ask (g p) (moved_test g y)
moved_statement g (Assignment a) = Assignment (moved_assign g a)
