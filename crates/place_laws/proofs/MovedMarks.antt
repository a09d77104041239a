-- Written by tools/grammar; change it there.
-- A moved tree is written as the tree is, with the places moved.
-- AreMoved: marks and the same marks, moved. point-marks, scalar-marks, .., statement-marks: those of each form.
use Rattle.std.proofs.Common.{◌≡◌, List, [], ◌∷◌, ◌++◌, map, refl, sym, ◌∙◌}
use Rattle.std.proofs.lemmas.List.{map-append}
use Rattle.point_core.specs.declared.fault.Place.{Place}
use Rattle.utd_syntax.specs.declared.terminal.Terminal.TheVariants as t
use Rattle.utd_syntax.specs.Plain.{Word, PointP, ScalarP, ConjP, NegP, CmpP, SumP, ProdP, SignP, PrimaryP, KindP, AttributeP, HeadingP, NamesP, NameListP, SomeNamesP, ElementP, ElementsP, SomeElementsP, TupleP, LiteralP, SetItemP, SetsP, AggregateFormP, AggregateP, AggregatesP, RenamingP, RenamingsP, PortionP, MaybePortionP, ConditionP, ProjectionP, RelP, TermsP, TermP, RelPrimaryP, OperandP, ExtendP, SummarizeP, UsingP, UsingPartP, KeyP, ForeignP, UsedConstraintP, ConstraintP, KeptP, VarFormP, ComparisonP, TestP, UsedDeletionP, UsedItemP, DeletionP, ItemP, AssignP, StatementP, IntegerType, DateType, MomentType, NamedType, OneConj, Or, OneNeg, And, Not, OneCmp, OneSum, Compare, OneProd, Add, OneSign, Multiply, NegativeInteger, Negate, OnePrimary, IntegerLiteral, TextLiteral, DateLiteral, MomentLiteral, TrueLiteral, FalseLiteral, AttributeName, Dotted, Paren, Selector, Extreme, Function, PairFunction, BooleanKind, CharKind, PointKind, IntervalKind, Attribute, Heading, Names, NameList, SomeNames, Element, Elements, SomeElements, Tuple, Tuples, Headed, SetItem, Sets, CountRows, AggregateOf, Aggregate, Aggregates, Renaming, Renamings, Portion, NoPortion, OfPortion, NoCondition, Where, Onto, AllBut, OfUsing, OfTerms, OneTerm, Infix, NotMatching, OneRelPrimary, Project, Filter, Rename, OfExtend, OfSummarize, OfOperand, Relvar, OfLiteral, ParenRel, PackOn, Extend, Summarize, Using, UsingExtend, UsingSummarize, UsingInfix, UsingNotMatching, UsingProject, UsingFilter, Key, Foreign, UsedKey, UsedForeign, KeyOf, ForeignOf, PackedOn, WhenUnpacked, UsingConstraint, KeptInfix, KeptNotMatching, KeptProject, KeptPack, BaseRelvar, View, Kept, Comparison, UsingTest, Emptiness, OfComparison, UsedDeleteWhere, UsedDeleteRows, UsedInsert, UsedDelete, UsedUpdate, DeleteWhere, DeletePortion, DeleteRows, SetRelvar, Insert, Delete, Update, Terminate, UsingItem, Assign, Nothing, DeclareOrdinal, DeclareRelvar, DeclareHistory, DeclareLog, DeclareRule, Drop, DropRule, Print, Ask, Assignment}
use Rattle.utd_syntax.specs.Written.{Mark, fixed, at, spelled, worded, apart, ordinal_word, since_word, during_word, over_word, at_word, log_word, of_word, kept_word, comparison, sum_word, product_word, begin_bracket, end_bracket, extreme, function, pair_function, infix_word, pack_word, aggregate_word, relation_comparison, emptiness, of_point, of_scalar, of_conj, of_neg, of_cmp, of_sum, of_prod, of_sign, of_primary, of_kind, of_attribute, of_more_attributes, of_heading, of_more_words, of_names, of_list, of_some_names, of_paren_name, of_element, of_more_elements, of_elements, of_some_elements, of_tuple, of_more_tuples, of_tuples, of_literal, of_set_item, of_more_set_items, of_sets, of_aggregate_form, of_aggregate, of_more_aggregates, of_aggregates, of_renaming, of_more_renamings, of_renamings, of_portion, of_maybe_portion, of_condition, of_projection, of_rel, of_terms, of_term, of_rel_primary, of_operand, of_extend, of_summarize, of_using, of_using_part, of_key, of_foreign, of_used_constraint, of_constraint, of_constraints, of_kept, of_var_form, of_comparison, of_test, of_used_deletion, of_used_item, of_deletion, of_item, of_more_items, of_assign, of_statement, of_attributes, of_words, of_element_list, of_tuple_list}
use Rattle.place_laws.specs.Moved.{moved_word, moved_point, moved_scalar, moved_conj, moved_neg, moved_cmp, moved_sum, moved_prod, moved_sign, moved_primary, moved_kind, moved_attribute, moved_heading, moved_names, moved_name_list, moved_some_names, moved_element, moved_elements, moved_some_elements, moved_tuple, moved_literal, moved_set_item, moved_sets, moved_aggregate_form, moved_aggregate, moved_aggregates, moved_renaming, moved_renamings, moved_portion, moved_maybe_portion, moved_condition, moved_projection, moved_rel, moved_terms, moved_term, moved_rel_primary, moved_operand, moved_extend, moved_summarize, moved_using, moved_using_part, moved_key, moved_foreign, moved_used_constraint, moved_constraint, moved_kept, moved_var_form, moved_comparison, moved_test, moved_used_deletion, moved_used_item, moved_deletion, moved_item, moved_assign, moved_statement}
use Rattle.place_laws.specs.MovedPieces.{moved_mark}

module _ (g : Place → Place) where
  -- the first are the second, moved
  pub record AreMoved (a b : List Mark) : Type 0 where
    pub same : a ≡ map (moved_mark g) b

  none : AreMoved [] []
  none = record { same = refl }

  one : (m : Mark) → AreMoved (moved_mark g m ∷ []) (m ∷ [])
  one m = record { same = refl }

  -- and then
  infixl 4 ◌▸◌
  ◌▸◌ : {a b c d : List Mark} → AreMoved a b → AreMoved c d → AreMoved (a ++ c) (b ++ d)
  ◌▸◌ {a} {b} {c} {d} e h = record { same = (λ j. e.same j ++ h.same j) ∙ sym (map-append (moved_mark g) b d) }

  pub point-marks : (x : PointP) → AreMoved (of_point (moved_point g x)) (of_point x)
  point-marks (IntegerType p) = one (at t.Integer p)
  point-marks (DateType p) = one (at t.Date p)
  point-marks (MomentType p) = one (at t.Moment p)
  point-marks (NamedType n) = one (spelled t.Name n.place n.bytes)

  mutual
    pub scalar-marks : (x : ScalarP) → AreMoved (of_scalar (moved_scalar g x)) (of_scalar x)
    scalar-marks (OneConj c) = conj-marks c
    scalar-marks (Or s p c) = scalar-marks s ▸ one (at t.Or p) ▸ conj-marks c

    pub conj-marks : (x : ConjP) → AreMoved (of_conj (moved_conj g x)) (of_conj x)
    conj-marks (OneNeg c) = neg-marks c
    conj-marks (And s p c) = conj-marks s ▸ one (at t.And p) ▸ neg-marks c

    pub neg-marks : (x : NegP) → AreMoved (of_neg (moved_neg g x)) (of_neg x)
    neg-marks (Not p n) = one (at t.Not p) ▸ neg-marks n
    neg-marks (OneCmp c) = cmp-marks c

    pub cmp-marks : (x : CmpP) → AreMoved (of_cmp (moved_cmp g x)) (of_cmp x)
    cmp-marks (OneSum s) = sum-marks s
    cmp-marks (Compare s p o r) = sum-marks s ▸ one (at (comparison o) p) ▸ sum-marks r

    pub sum-marks : (x : SumP) → AreMoved (of_sum (moved_sum g x)) (of_sum x)
    sum-marks (OneProd f) = prod-marks f
    sum-marks (Add s p o f) = sum-marks s ▸ one (at (sum_word o) p) ▸ prod-marks f

    pub prod-marks : (x : ProdP) → AreMoved (of_prod (moved_prod g x)) (of_prod x)
    prod-marks (OneSign f) = sign-marks f
    prod-marks (Multiply s p o f) = prod-marks s ▸ one (at (product_word o) p) ▸ sign-marks f

    pub sign-marks : (x : SignP) → AreMoved (of_sign (moved_sign g x)) (of_sign x)
    sign-marks (NegativeInteger p q c) = one (at t.Dash p) ▸ one (spelled t.Digits q c)
    sign-marks (Negate p s) = one (apart t.Dash p t.Digits) ▸ sign-marks s
    sign-marks (OnePrimary a) = primary-marks a

    pub primary-marks : (x : PrimaryP) → AreMoved (of_primary (moved_primary g x)) (of_primary x)
    primary-marks (IntegerLiteral p c) = one (spelled t.Digits p c)
    primary-marks (TextLiteral p c) = one (spelled t.Quoted p c)
    primary-marks (DateLiteral p q c) = one (at t.Date p) ▸ one (spelled t.Quoted q c)
    primary-marks (MomentLiteral p q c) = one (at t.Moment p) ▸ one (spelled t.Quoted q c)
    primary-marks (TrueLiteral p) = one (at t.True p)
    primary-marks (FalseLiteral p) = one (at t.False p)
    primary-marks (AttributeName n) = one (spelled t.Name n.place n.bytes)
    primary-marks (Dotted n v) = one (spelled t.Name n.place n.bytes) ▸ one (fixed t.Dot) ▸ one (spelled t.Name v.place v.bytes)
    primary-marks (Paren p s) = one (at t.Open p) ▸ scalar-marks s ▸ one (fixed t.Close)
    primary-marks (Selector p b s r e) = one (at (begin_bracket b) p) ▸ scalar-marks s ▸ one (fixed t.Colon) ▸ scalar-marks r ▸ one (fixed (end_bracket e))
    primary-marks (Extreme p o y) = one (at (extreme o) p) ▸ one (fixed t.Open) ▸ point-marks y ▸ one (fixed t.Close)
    primary-marks (Function p o s) = one (at (function o) p) ▸ one (fixed t.Open) ▸ scalar-marks s ▸ one (fixed t.Close)
    primary-marks (PairFunction p o s r) = one (at (pair_function o) p) ▸ one (fixed t.Open) ▸ scalar-marks s ▸ one (fixed t.Comma) ▸ scalar-marks r ▸ one (fixed t.Close)

  pub kind-marks : (x : KindP) → AreMoved (of_kind (moved_kind g x)) (of_kind x)
  kind-marks (BooleanKind p) = one (at t.Boolean p)
  kind-marks (CharKind p) = one (at t.Char p)
  kind-marks (PointKind y) = point-marks y
  kind-marks (IntervalKind p y) = one (at t.Interval p) ▸ one (fixed t.Open) ▸ point-marks y ▸ one (fixed t.Close)

  pub attribute-marks : (x : AttributeP) → AreMoved (of_attribute (moved_attribute g x)) (of_attribute x)
  attribute-marks (Attribute n k) = one (spelled t.Name n.place n.bytes) ▸ kind-marks k

  pub more_attributes-marks : (x : List AttributeP) → AreMoved (of_more_attributes (map (moved_attribute g) x)) (of_more_attributes x)
  more_attributes-marks [] = none
  more_attributes-marks (x ∷ xs) = one (fixed t.Comma) ▸ attribute-marks x ▸ more_attributes-marks xs

  pub attributes-marks : (x : List AttributeP) → AreMoved (of_attributes (map (moved_attribute g) x)) (of_attributes x)
  attributes-marks [] = none
  attributes-marks (x ∷ xs) = attribute-marks x ▸ more_attributes-marks xs

  pub heading-marks : (x : HeadingP) → AreMoved (of_heading (moved_heading g x)) (of_heading x)
  heading-marks (Heading p xs) = one (at t.OpenBrace p) ▸ attributes-marks xs ▸ one (fixed t.CloseBrace)

  pub more_words-marks : (x : List Word) → AreMoved (of_more_words (map (moved_word g) x)) (of_more_words x)
  more_words-marks [] = none
  more_words-marks (x ∷ xs) = one (fixed t.Comma) ▸ one (spelled t.Name x.place x.bytes) ▸ more_words-marks xs

  pub words-marks : (x : List Word) → AreMoved (of_words (map (moved_word g) x)) (of_words x)
  words-marks [] = none
  words-marks (x ∷ xs) = one (spelled t.Name x.place x.bytes) ▸ more_words-marks xs

  pub names-marks : (x : NamesP) → AreMoved (of_names (moved_names g x)) (of_names x)
  names-marks (Names p ns) = one (at t.OpenBrace p) ▸ words-marks ns ▸ one (fixed t.CloseBrace)

  pub list-marks : (x : NameListP) → AreMoved (of_list (moved_name_list g x)) (of_list x)
  list-marks (NameList p ns) = one (at t.Open p) ▸ words-marks ns ▸ one (fixed t.Close)

  pub some_names-marks : (x : SomeNamesP) → AreMoved (of_some_names (moved_some_names g x)) (of_some_names x)
  some_names-marks (SomeNames p n ns) = one (at t.OpenBrace p) ▸ one (spelled t.Name n.place n.bytes) ▸ more_words-marks ns ▸ one (fixed t.CloseBrace)

  pub paren_name-marks : (x : Word) → AreMoved (of_paren_name (moved_word g x)) (of_paren_name x)
  paren_name-marks n = one (fixed t.Open) ▸ one (spelled t.Name n.place n.bytes) ▸ one (fixed t.Close)

  pub element-marks : (x : ElementP) → AreMoved (of_element (moved_element g x)) (of_element x)
  element-marks (Element n s) = one (spelled t.Name n.place n.bytes) ▸ scalar-marks s

  pub more_elements-marks : (x : List ElementP) → AreMoved (of_more_elements (map (moved_element g) x)) (of_more_elements x)
  more_elements-marks [] = none
  more_elements-marks (x ∷ xs) = one (fixed t.Comma) ▸ element-marks x ▸ more_elements-marks xs

  pub element_list-marks : (x : List ElementP) → AreMoved (of_element_list (map (moved_element g) x)) (of_element_list x)
  element_list-marks [] = none
  element_list-marks (x ∷ xs) = element-marks x ▸ more_elements-marks xs

  pub elements-marks : (x : ElementsP) → AreMoved (of_elements (moved_elements g x)) (of_elements x)
  elements-marks (Elements p xs) = one (at t.OpenBrace p) ▸ element_list-marks xs ▸ one (fixed t.CloseBrace)

  pub some_elements-marks : (x : SomeElementsP) → AreMoved (of_some_elements (moved_some_elements g x)) (of_some_elements x)
  some_elements-marks (SomeElements p x xs) = one (at t.OpenBrace p) ▸ element-marks x ▸ more_elements-marks xs ▸ one (fixed t.CloseBrace)

  pub tuple-marks : (x : TupleP) → AreMoved (of_tuple (moved_tuple g x)) (of_tuple x)
  tuple-marks (Tuple p e) = one (at t.Tuple p) ▸ elements-marks e

  pub more_tuples-marks : (x : List TupleP) → AreMoved (of_more_tuples (map (moved_tuple g) x)) (of_more_tuples x)
  more_tuples-marks [] = none
  more_tuples-marks (x ∷ xs) = one (fixed t.Comma) ▸ tuple-marks x ▸ more_tuples-marks xs

  pub tuple_list-marks : (x : List TupleP) → AreMoved (of_tuple_list (map (moved_tuple g) x)) (of_tuple_list x)
  tuple_list-marks [] = none
  tuple_list-marks (x ∷ xs) = tuple-marks x ▸ more_tuples-marks xs

  pub tuples-marks : (x : List TupleP) → AreMoved (of_tuples (map (moved_tuple g) x)) (of_tuples x)
  tuples-marks xs = one (fixed t.OpenBrace) ▸ tuple_list-marks xs ▸ one (fixed t.CloseBrace)

  pub literal-marks : (x : LiteralP) → AreMoved (of_literal (moved_literal g x)) (of_literal x)
  literal-marks (Tuples p x xs) = one (at t.Relation p) ▸ one (fixed t.OpenBrace) ▸ tuple-marks x ▸ more_tuples-marks xs ▸ one (fixed t.CloseBrace)
  literal-marks (Headed p h us) = one (at t.Relation p) ▸ heading-marks h ▸ tuples-marks us

  pub set_item-marks : (x : SetItemP) → AreMoved (of_set_item (moved_set_item g x)) (of_set_item x)
  set_item-marks (SetItem n s) = one (spelled t.Name n.place n.bytes) ▸ one (fixed t.Assign) ▸ scalar-marks s

  pub more_set_items-marks : (x : List SetItemP) → AreMoved (of_more_set_items (map (moved_set_item g) x)) (of_more_set_items x)
  more_set_items-marks [] = none
  more_set_items-marks (x ∷ xs) = one (fixed t.Comma) ▸ set_item-marks x ▸ more_set_items-marks xs

  pub sets-marks : (x : SetsP) → AreMoved (of_sets (moved_sets g x)) (of_sets x)
  sets-marks (Sets p x xs) = one (at t.OpenBrace p) ▸ set_item-marks x ▸ more_set_items-marks xs ▸ one (fixed t.CloseBrace)

  pub aggregate_form-marks : (x : AggregateFormP) → AreMoved (of_aggregate_form (moved_aggregate_form g x)) (of_aggregate_form x)
  aggregate_form-marks (CountRows p) = one (at t.Count p) ▸ one (fixed t.Open) ▸ one (fixed t.Close)
  aggregate_form-marks (AggregateOf p o s) = one (at (aggregate_word o) p) ▸ one (fixed t.Open) ▸ scalar-marks s ▸ one (fixed t.Close)

  pub aggregate-marks : (x : AggregateP) → AreMoved (of_aggregate (moved_aggregate g x)) (of_aggregate x)
  aggregate-marks (Aggregate n a) = one (spelled t.Name n.place n.bytes) ▸ one (fixed t.Assign) ▸ aggregate_form-marks a

  pub more_aggregates-marks : (x : List AggregateP) → AreMoved (of_more_aggregates (map (moved_aggregate g) x)) (of_more_aggregates x)
  more_aggregates-marks [] = none
  more_aggregates-marks (x ∷ xs) = one (fixed t.Comma) ▸ aggregate-marks x ▸ more_aggregates-marks xs

  pub aggregates-marks : (x : AggregatesP) → AreMoved (of_aggregates (moved_aggregates g x)) (of_aggregates x)
  aggregates-marks (Aggregates p x xs) = one (at t.OpenBrace p) ▸ aggregate-marks x ▸ more_aggregates-marks xs ▸ one (fixed t.CloseBrace)

  pub renaming-marks : (x : RenamingP) → AreMoved (of_renaming (moved_renaming g x)) (of_renaming x)
  renaming-marks (Renaming n m) = one (spelled t.Name n.place n.bytes) ▸ one (fixed t.As) ▸ one (spelled t.Name m.place m.bytes)

  pub more_renamings-marks : (x : List RenamingP) → AreMoved (of_more_renamings (map (moved_renaming g) x)) (of_more_renamings x)
  more_renamings-marks [] = none
  more_renamings-marks (x ∷ xs) = one (fixed t.Comma) ▸ renaming-marks x ▸ more_renamings-marks xs

  pub renamings-marks : (x : RenamingsP) → AreMoved (of_renamings (moved_renamings g x)) (of_renamings x)
  renamings-marks (Renamings p x xs) = one (at t.OpenBrace p) ▸ renaming-marks x ▸ more_renamings-marks xs ▸ one (fixed t.CloseBrace)

  pub portion-marks : (x : PortionP) → AreMoved (of_portion (moved_portion g x)) (of_portion x)
  portion-marks (Portion p e) = one (at t.Portion p) ▸ some_elements-marks e

  pub maybe_portion-marks : (x : MaybePortionP) → AreMoved (of_maybe_portion (moved_maybe_portion g x)) (of_maybe_portion x)
  maybe_portion-marks NoPortion = none
  maybe_portion-marks (OfPortion p e) = one (at t.Portion p) ▸ some_elements-marks e

  pub condition-marks : (x : ConditionP) → AreMoved (of_condition (moved_condition g x)) (of_condition x)
  condition-marks NoCondition = none
  condition-marks (Where p s) = one (at t.Where p) ▸ scalar-marks s

  pub projection-marks : (x : ProjectionP) → AreMoved (of_projection (moved_projection g x)) (of_projection x)
  projection-marks (Onto p ns) = one (at t.OpenBrace p) ▸ words-marks ns ▸ one (fixed t.CloseBrace)
  projection-marks (AllBut p n ns) = one (at t.OpenBrace p) ▸ one (fixed t.All) ▸ one (fixed t.But) ▸ one (spelled t.Name n.place n.bytes) ▸ more_words-marks ns ▸ one (fixed t.CloseBrace)

  mutual
    pub rel-marks : (x : RelP) → AreMoved (of_rel (moved_rel g x)) (of_rel x)
    rel-marks (OfUsing u) = using-marks u
    rel-marks (OfTerms y) = terms-marks y

    pub terms-marks : (x : TermsP) → AreMoved (of_terms (moved_terms g x)) (of_terms x)
    terms-marks (OneTerm y) = term-marks y
    terms-marks (Infix s p o y) = terms-marks s ▸ one (at (infix_word o) p) ▸ term-marks y
    terms-marks (NotMatching s p y) = terms-marks s ▸ one (at t.Not p) ▸ one (fixed t.Matching) ▸ term-marks y

    pub term-marks : (x : TermP) → AreMoved (of_term (moved_term g x)) (of_term x)
    term-marks (OneRelPrimary x) = rel_primary-marks x
    term-marks (Project s q) = term-marks s ▸ projection-marks q
    term-marks (Filter s p c) = term-marks s ▸ one (at t.Where p) ▸ scalar-marks c
    term-marks (Rename s p q) = term-marks s ▸ one (at t.Rename p) ▸ renamings-marks q

    pub rel_primary-marks : (x : RelPrimaryP) → AreMoved (of_rel_primary (moved_rel_primary g x)) (of_rel_primary x)
    rel_primary-marks (OfExtend e) = extend-marks e
    rel_primary-marks (OfSummarize e) = summarize-marks e
    rel_primary-marks (OfOperand o) = operand-marks o

    pub operand-marks : (x : OperandP) → AreMoved (of_operand (moved_operand g x)) (of_operand x)
    operand-marks (Relvar n) = one (spelled t.Name n.place n.bytes)
    operand-marks (OfLiteral l) = literal-marks l
    operand-marks (ParenRel p r) = one (at t.Open p) ▸ rel-marks r ▸ one (fixed t.Close)
    operand-marks (PackOn p o r a) = one (at (pack_word o) p) ▸ rel-marks r ▸ one (fixed t.On) ▸ list-marks a

    pub extend-marks : (x : ExtendP) → AreMoved (of_extend (moved_extend g x)) (of_extend x)
    extend-marks (Extend p r s) = one (at t.Extend p) ▸ rel-marks r ▸ one (fixed t.Colon) ▸ sets-marks s

    pub summarize-marks : (x : SummarizeP) → AreMoved (of_summarize (moved_summarize g x)) (of_summarize x)
    summarize-marks (Summarize p r b a) = one (at t.Summarize p) ▸ rel-marks r ▸ one (fixed t.By) ▸ names-marks b ▸ one (fixed t.Colon) ▸ aggregates-marks a

    pub using-marks : (x : UsingP) → AreMoved (of_using (moved_using g x)) (of_using x)
    using-marks (Using p a u) = one (at t.Using p) ▸ list-marks a ▸ one (fixed t.Colon) ▸ using_part-marks u

    pub using_part-marks : (x : UsingPartP) → AreMoved (of_using_part (moved_using_part g x)) (of_using_part x)
    using_part-marks (UsingExtend e) = extend-marks e
    using_part-marks (UsingSummarize e) = summarize-marks e
    using_part-marks (UsingInfix l p o r) = operand-marks l ▸ one (at (infix_word o) p) ▸ operand-marks r
    using_part-marks (UsingNotMatching l p r) = operand-marks l ▸ one (at t.Not p) ▸ one (fixed t.Matching) ▸ operand-marks r
    using_part-marks (UsingProject l q) = operand-marks l ▸ projection-marks q
    using_part-marks (UsingFilter l p c) = operand-marks l ▸ one (at t.Where p) ▸ scalar-marks c

  pub key-marks : (x : KeyP) → AreMoved (of_key (moved_key g x)) (of_key x)
  key-marks (Key p n) = one (at t.Key p) ▸ names-marks n

  pub foreign-marks : (x : ForeignP) → AreMoved (of_foreign (moved_foreign g x)) (of_foreign x)
  foreign-marks (Foreign p n r) = one (at t.Foreign p) ▸ one (fixed t.Key) ▸ names-marks n ▸ one (fixed t.References) ▸ one (spelled t.Name r.place r.bytes)

  pub used_constraint-marks : (x : UsedConstraintP) → AreMoved (of_used_constraint (moved_used_constraint g x)) (of_used_constraint x)
  used_constraint-marks (UsedKey k) = key-marks k
  used_constraint-marks (UsedForeign f) = foreign-marks f

  pub constraint-marks : (x : ConstraintP) → AreMoved (of_constraint (moved_constraint g x)) (of_constraint x)
  constraint-marks (KeyOf k) = key-marks k
  constraint-marks (ForeignOf f) = foreign-marks f
  constraint-marks (PackedOn p a) = one (at t.Packed p) ▸ one (fixed t.On) ▸ list-marks a
  constraint-marks (WhenUnpacked p a k) = one (at t.When p) ▸ one (fixed t.Unpacked) ▸ one (fixed t.On) ▸ list-marks a ▸ one (fixed t.Then) ▸ key-marks k
  constraint-marks (UsingConstraint p a u) = one (at t.Using p) ▸ list-marks a ▸ one (fixed t.Colon) ▸ used_constraint-marks u

  pub constraints-marks : (x : List ConstraintP) → AreMoved (of_constraints (map (moved_constraint g) x)) (of_constraints x)
  constraints-marks [] = none
  constraints-marks (x ∷ xs) = constraint-marks x ▸ constraints-marks xs

  pub kept-marks : (x : KeptP) → AreMoved (of_kept (moved_kept g x)) (of_kept x)
  kept-marks (KeptInfix p a l q o r) = one (at t.Using p) ▸ list-marks a ▸ one (fixed t.Colon) ▸ one (spelled t.Name l.place l.bytes) ▸ one (at (infix_word o) q) ▸ one (spelled t.Name r.place r.bytes)
  kept-marks (KeptNotMatching p a l q r) = one (at t.Using p) ▸ list-marks a ▸ one (fixed t.Colon) ▸ one (spelled t.Name l.place l.bytes) ▸ one (at t.Not q) ▸ one (fixed t.Matching) ▸ one (spelled t.Name r.place r.bytes)
  kept-marks (KeptProject p a l q) = one (at t.Using p) ▸ list-marks a ▸ one (fixed t.Colon) ▸ one (spelled t.Name l.place l.bytes) ▸ projection-marks q
  kept-marks (KeptPack p n a) = one (at t.Pack p) ▸ one (spelled t.Name n.place n.bytes) ▸ one (fixed t.On) ▸ list-marks a

  pub var_form-marks : (x : VarFormP) → AreMoved (of_var_form (moved_var_form g x)) (of_var_form x)
  var_form-marks (BaseRelvar p h cs) = one (at t.Relation p) ▸ heading-marks h ▸ constraints-marks cs
  var_form-marks (View p r) = one (at t.Virtual p) ▸ one (fixed t.Open) ▸ rel-marks r ▸ one (fixed t.Close)
  var_form-marks (Kept p k) = one (spelled t.Name p kept_word) ▸ one (fixed t.Open) ▸ kept-marks k ▸ one (fixed t.Close)

  pub comparison-marks : (x : ComparisonP) → AreMoved (of_comparison (moved_comparison g x)) (of_comparison x)
  comparison-marks (Comparison l p o r) = operand-marks l ▸ one (at (relation_comparison o) p) ▸ operand-marks r

  pub test-marks : (x : TestP) → AreMoved (of_test (moved_test g x)) (of_test x)
  test-marks (UsingTest p a c) = one (at t.Using p) ▸ list-marks a ▸ one (fixed t.Colon) ▸ comparison-marks c
  test-marks (Emptiness p o r) = one (at (emptiness o) p) ▸ one (fixed t.Open) ▸ rel-marks r ▸ one (fixed t.Close)
  test-marks (OfComparison c) = comparison-marks c

  pub used_deletion-marks : (x : UsedDeletionP) → AreMoved (of_used_deletion (moved_used_deletion g x)) (of_used_deletion x)
  used_deletion-marks (UsedDeleteWhere p s) = one (at t.Where p) ▸ scalar-marks s
  used_deletion-marks (UsedDeleteRows r) = rel-marks r

  pub used_item-marks : (x : UsedItemP) → AreMoved (of_used_item (moved_used_item g x)) (of_used_item x)
  used_item-marks (UsedInsert p n r) = one (at t.Insert p) ▸ one (spelled t.Name n.place n.bytes) ▸ rel-marks r
  used_item-marks (UsedDelete p n d) = one (at t.Delete p) ▸ one (spelled t.Name n.place n.bytes) ▸ used_deletion-marks d
  used_item-marks (UsedUpdate p n c s) = one (at t.Update p) ▸ one (spelled t.Name n.place n.bytes) ▸ condition-marks c ▸ one (fixed t.Colon) ▸ sets-marks s

  pub deletion-marks : (x : DeletionP) → AreMoved (of_deletion (moved_deletion g x)) (of_deletion x)
  deletion-marks (DeleteWhere p s) = one (at t.Where p) ▸ scalar-marks s
  deletion-marks (DeletePortion q c) = portion-marks q ▸ condition-marks c
  deletion-marks (DeleteRows r) = rel-marks r

  pub item-marks : (x : ItemP) → AreMoved (of_item (moved_item g x)) (of_item x)
  item-marks (SetRelvar n r) = one (spelled t.Name n.place n.bytes) ▸ one (fixed t.Assign) ▸ rel-marks r
  item-marks (Insert p n r) = one (at t.Insert p) ▸ one (spelled t.Name n.place n.bytes) ▸ rel-marks r
  item-marks (Delete p n d) = one (at t.Delete p) ▸ one (spelled t.Name n.place n.bytes) ▸ deletion-marks d
  item-marks (Update p n q c s) = one (at t.Update p) ▸ one (spelled t.Name n.place n.bytes) ▸ maybe_portion-marks q ▸ condition-marks c ▸ one (fixed t.Colon) ▸ sets-marks s
  item-marks (Terminate p n q e c) = one (at t.Terminate p) ▸ one (spelled t.Name n.place n.bytes) ▸ one (spelled t.Name q at_word) ▸ scalar-marks e ▸ condition-marks c
  item-marks (UsingItem p a u) = one (at t.Using p) ▸ list-marks a ▸ one (fixed t.Colon) ▸ used_item-marks u

  pub more_items-marks : (x : List ItemP) → AreMoved (of_more_items (map (moved_item g) x)) (of_more_items x)
  more_items-marks [] = none
  more_items-marks (x ∷ xs) = one (fixed t.Comma) ▸ item-marks x ▸ more_items-marks xs

  pub assign-marks : (x : AssignP) → AreMoved (of_assign (moved_assign g x)) (of_assign x)
  assign-marks (Assign x xs) = item-marks x ▸ more_items-marks xs

  pub statement-marks : (x : StatementP) → AreMoved (of_statement (moved_statement g x)) (of_statement x)
  statement-marks Nothing = one (fixed t.Semicolon)
  statement-marks (DeclareOrdinal p n v) = one (at t.TypeWord p) ▸ one (spelled t.Name n.place n.bytes) ▸ one (worded ordinal_word) ▸ some_names-marks v ▸ one (fixed t.Semicolon)
  statement-marks (DeclareRelvar p n f) = one (at t.Var p) ▸ one (spelled t.Name n.place n.bytes) ▸ var_form-marks f ▸ one (fixed t.Semicolon)
  statement-marks (DeclareHistory p n h k s b d i y) = one (at t.History p) ▸ one (spelled t.Name n.place n.bytes) ▸ heading-marks h ▸ key-marks k ▸ one (worded since_word) ▸ one (spelled t.Name s.place s.bytes) ▸ paren_name-marks b ▸ one (worded during_word) ▸ one (spelled t.Name d.place d.bytes) ▸ paren_name-marks i ▸ one (worded over_word) ▸ point-marks y ▸ one (fixed t.Semicolon)
  statement-marks (DeclareLog p l s b) = one (spelled t.Name p log_word) ▸ one (spelled t.Name l.place l.bytes) ▸ one (worded of_word) ▸ one (spelled t.Name s.place s.bytes) ▸ paren_name-marks b ▸ one (fixed t.Semicolon)
  statement-marks (DeclareRule p n y) = one (at t.Constraint p) ▸ one (spelled t.Name n.place n.bytes) ▸ test-marks y ▸ one (fixed t.Semicolon)
  statement-marks (Drop p n) = one (at t.Drop p) ▸ one (fixed t.Var) ▸ one (spelled t.Name n.place n.bytes) ▸ one (fixed t.Semicolon)
  statement-marks (DropRule p q n) = one (at t.Drop p) ▸ one (at t.Constraint q) ▸ one (spelled t.Name n.place n.bytes) ▸ one (fixed t.Semicolon)
  statement-marks (Print p r) = one (at t.Print p) ▸ rel-marks r ▸ one (fixed t.Semicolon)
  statement-marks (Ask p y) = one (at t.Ask p) ▸ test-marks y ▸ one (fixed t.Semicolon)
  statement-marks (Assignment a) = assign-marks a ▸ one (fixed t.Semicolon)
