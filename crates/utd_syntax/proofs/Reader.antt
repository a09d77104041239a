-- Written by tools/grammar; change it there.
-- What the table reads: a value for each form.
use Rattle.std.proofs.Common.{ℕ, List, [], ◌∷◌, ◌++◌, Bool, true, false, Option, Some, None, if◌then◌else◌}
use Rattle.utd_syntax.specs.declared.terminal.Terminal.{Terminal}
use Rattle.utd_syntax.specs.declared.terminal.Terminal.TheVariants as t
use Rattle.point_core.specs.declared.fault.Place.{Place}
use Rattle.utd_syntax.specs.declared.words.InfixWord.TheVariants as infixes
use Rattle.utd_syntax.specs.declared.words.PackWord.TheVariants as pack_words
use Rattle.utd_syntax.specs.declared.words.AggregateWord.TheVariants as aggregate_words
use Rattle.utd_syntax.specs.declared.words.RelationComparison.TheVariants as relation_comparisons
use Rattle.utd_syntax.specs.declared.words.EmptinessWord.TheVariants as emptinesses
use Rattle.utd_syntax.specs.Pieces.{Piece, first, place_of}
use Rattle.utd_syntax.specs.Plain.{word, StatementP, OneSum, AttributeName, Heading, Names, NameList, SomeNames, Element, Elements, SomeElements, Tuple, Tuples, Headed, SetItem, Sets, CountRows, AggregateOf, Aggregate, Aggregates, Renaming, Renamings, Portion, NoPortion, OfPortion, NoCondition, Where, Onto, AllBut, OfUsing, OfTerms, OneTerm, Infix, NotMatching, OneRelPrimary, Project, Filter, Rename, OfExtend, OfSummarize, OfOperand, Relvar, OfLiteral, ParenRel, PackOn, Extend, Summarize, Using, UsingExtend, UsingSummarize, UsingInfix, UsingNotMatching, UsingProject, UsingFilter, Key, Foreign, UsedKey, UsedForeign, KeyOf, ForeignOf, PackedOn, WhenUnpacked, UsingConstraint, KeptInfix, KeptNotMatching, KeptProject, KeptPack, BaseRelvar, View, Kept, Comparison, UsingTest, Emptiness, OfComparison, UsedDeleteWhere, UsedDeleteRows, UsedInsert, UsedDelete, UsedUpdate, DeleteWhere, DeletePortion, DeleteRows, SetRelvar, Insert, Delete, Update, Terminate, UsingItem, Assign, Nothing, DeclareOrdinal, DeclareRelvar, DeclareHistory, DeclareLog, DeclareRule, Drop, DropRule, Print, Ask, Assignment}
use Rattle.utd_syntax.specs.Table.{Symbol, TheName, Comma, DateText, MomentText, NegativeDigits, ThePrimary, AfterName, AfterScalar, EndOfSelector, InParens, InPair, InPoint, TheSign, TheProd, MoreProd, TheSum, MoreSum, TheCmp, MoreCmp, TheNeg, TheConj, MoreAnd, TheScalar, MoreOr, ThePoint, TheKind, TheAttribute, MoreAttributes, InHeading, TheHeading, MoreNames, InNames, InList, TheNames, TheList, TheSomeNames, TheParenName, TheElement, MoreElements, InElements, TheElements, TheSomeElements, TheTuple, MoreTuples, InTuples, TheTuples, TheLiteral, AfterRelation, TheSetItem, MoreSetItems, TheSets, EmptyParens, TheAggregateForm, TheAggregate, MoreAggregates, TheAggregates, TheRenaming, MoreRenamings, TheRenamings, ThePortion, MaybePortion, MaybeWhere, InProjection, TheOperand, TheExtend, TheSummarize, TheRelPrimary, TheTerm, MorePostfix, TheTerms, MoreInfix, TheUsing, TheRel, TheUsingPart, AfterOperand, TheKey, TheForeign, TheUsedConstraint, TheConstraint, MoreConstraints, InRel, TheKept, AfterKept, InKept, TheVarForm, TheComparison, AfterLeft, TheTest, TheUsedDeletion, TheUsedItem, TheDeletion, TheItem, MoreItems, TheAssign, TheStatement, AfterDrop, AfterLog, Just, Worded, Shut, Taking, Plain, Opens, Turn, Never, Ends, Takes, Row, on, spelt, before, ◌▹◌, rows, may_end, same, fits, chosen, find, turn, names_rows, list_rows, some_names_rows, paren_name_rows, element_rows, more_elements_rows, in_elements_rows, elements_rows, some_elements_rows, tuple_rows, more_tuples_rows, in_tuples_rows, tuples_rows, literal_rows, after_relation_rows, set_item_rows, more_set_items_rows, sets_rows, empty_parens_rows, aggregate_form_rows, aggregate_rows, more_aggregates_rows, aggregates_rows, renaming_rows, more_renamings_rows, renamings_rows, portion_rows, maybe_portion_rows, maybe_where_rows, in_projection_rows, operand_rows, extend_rows, summarize_rows, rel_primary_rows, term_rows, more_postfix_rows, terms_rows, more_infix_rows, using_rows, rel_rows, using_part_rows, after_operand_rows, key_rows, foreign_rows, used_constraint_rows, constraint_rows, more_constraints_rows, in_rel_rows, kept_rows, after_kept_rows, in_kept_rows, var_form_rows, comparison_rows, after_left_rows, test_rows, used_deletion_rows, used_item_rows, deletion_rows, item_rows, more_items_rows, assign_rows, statement_rows, after_drop_rows, after_log_rows}
use Rattle.utd_syntax.specs.Written.{ordinal_word, since_word, during_word, over_word, log_word}
use Rattle.utd_syntax.proofs.FormValues.{Val, Vals, inner, Case, Make, Makes, over_makes, then_makes, append_makes, make_name, make_comma, make_date_text, make_moment_text, make_negative_digits, make_primary, make_after_name, make_after_scalar, make_end_of_selector, make_in_parens, make_in_pair, make_in_point, make_sign, make_prod, make_more_prod, make_sum, make_more_sum, make_cmp, make_more_cmp, make_neg, make_conj, make_more_and, make_scalar, make_more_or, make_point, make_kind, make_attribute, make_more_attributes, make_in_heading, make_heading, make_more_names, make_in_names, make_in_list}

abbrev pub make_names : Makes TheNames names_rows
make_names = ((λ p b v. Names p v.0), tt)

abbrev pub make_list : Makes TheList list_rows
make_list = ((λ p b v. NameList p v.0), tt)

abbrev pub make_some_names : Makes TheSomeNames some_names_rows
make_some_names = ((λ p b v. SomeNames p v.0 v.1.0), tt)

abbrev pub make_paren_name : Makes TheParenName paren_name_rows
make_paren_name = ((λ p b v. v.0), tt)

abbrev pub make_element : Makes TheElement element_rows
make_element = ((λ p b v. Element (word p b) v.0), tt)

abbrev pub make_more_elements : Makes MoreElements more_elements_rows
make_more_elements = ((λ p b v. v.0 ∷ v.1.0), tt)

abbrev pub make_in_elements : Makes InElements in_elements_rows
make_in_elements = (
  (λ p b v. []),
  (
    (λ p b v. Element (word p b) v.0 ∷ v.1.0),
    tt,
  ),
)

abbrev pub make_elements : Makes TheElements elements_rows
make_elements = ((λ p b v. Elements p v.0), tt)

abbrev pub make_some_elements : Makes TheSomeElements some_elements_rows
make_some_elements = ((λ p b v. SomeElements p v.0 v.1.0), tt)

abbrev pub make_tuple : Makes TheTuple tuple_rows
make_tuple = ((λ p b v. Tuple p v.0), tt)

abbrev pub make_more_tuples : Makes MoreTuples more_tuples_rows
make_more_tuples = ((λ p b v. v.0 ∷ v.1.0), tt)

abbrev pub make_in_tuples : Makes InTuples in_tuples_rows
make_in_tuples = (
  (λ p b v. []),
  (
    (λ p b v. Tuple p v.0 ∷ v.1.0),
    tt,
  ),
)

abbrev pub make_tuples : Makes TheTuples tuples_rows
make_tuples = ((λ p b v. v.0), tt)

abbrev pub make_literal : Makes TheLiteral literal_rows
make_literal = ((λ p b v. v.0 p), tt)

abbrev pub make_after_relation : Makes AfterRelation after_relation_rows
make_after_relation = (((λ p b v q. Tuples q v.0 v.1.0), (λ p b v q. Headed q (Heading p v.0) v.1.0)), tt)

abbrev pub make_set_item : Makes TheSetItem set_item_rows
make_set_item = ((λ p b v. SetItem (word p b) v.1.0), tt)

abbrev pub make_more_set_items : Makes MoreSetItems more_set_items_rows
make_more_set_items = ((λ p b v. v.0 ∷ v.1.0), tt)

abbrev pub make_sets : Makes TheSets sets_rows
make_sets = ((λ p b v. Sets p v.0 v.1.0), tt)

abbrev pub make_empty_parens : Makes EmptyParens empty_parens_rows
make_empty_parens = ((λ p b v. tt), tt)

abbrev pub make_aggregate_form : Makes TheAggregateForm aggregate_form_rows
make_aggregate_form = (
  (λ p b v. CountRows p),
  (
    (λ p b v. AggregateOf p aggregate_words.Sum v.0),
    (
      (λ p b v. AggregateOf p aggregate_words.Min v.0),
      (
        (λ p b v. AggregateOf p aggregate_words.Max v.0),
        tt,
      ),
    ),
  ),
)

abbrev pub make_aggregate : Makes TheAggregate aggregate_rows
make_aggregate = ((λ p b v. Aggregate (word p b) v.1.0), tt)

abbrev pub make_more_aggregates : Makes MoreAggregates more_aggregates_rows
make_more_aggregates = ((λ p b v. v.0 ∷ v.1.0), tt)

abbrev pub make_aggregates : Makes TheAggregates aggregates_rows
make_aggregates = ((λ p b v. Aggregates p v.0 v.1.0), tt)

abbrev pub make_renaming : Makes TheRenaming renaming_rows
make_renaming = ((λ p b v. Renaming (word p b) v.1.0), tt)

abbrev pub make_more_renamings : Makes MoreRenamings more_renamings_rows
make_more_renamings = ((λ p b v. v.0 ∷ v.1.0), tt)

abbrev pub make_renamings : Makes TheRenamings renamings_rows
make_renamings = ((λ p b v. Renamings p v.0 v.1.0), tt)

abbrev pub make_portion : Makes ThePortion portion_rows
make_portion = ((λ p b v. Portion p v.0), tt)

abbrev pub make_maybe_portion : Makes MaybePortion maybe_portion_rows
make_maybe_portion = ((λ p b v. OfPortion p v.0), tt)

abbrev pub make_maybe_where : Makes MaybeWhere maybe_where_rows
make_maybe_where = ((λ p b v. Where p v.0), tt)

abbrev pub make_in_projection : Makes InProjection in_projection_rows
make_in_projection = (
  (λ p b v q. Onto q []),
  (
    (λ p b v q. Onto q (word p b ∷ v.0)),
    (
      (λ p b v q. AllBut q v.1.0 v.1.1.0),
      tt,
    ),
  ),
)

abbrev pub make_operand : Makes TheOperand operand_rows
make_operand = (append_makes TheOperand (on t.Name Plain [] ∷ []) (literal_rows ++ (on t.Open (Opens (TheRel ∷ Just t.Close ∷ [])) [] ∷ on t.Pack (Opens (TheRel ∷ Just t.On ∷ TheList ∷ [])) [] ∷ on t.Unpack (Opens (TheRel ∷ Just t.On ∷ TheList ∷ [])) [] ∷ [])) ((λ p b v. Relvar (word p b)), tt) (append_makes TheOperand literal_rows (on t.Open (Opens (TheRel ∷ Just t.Close ∷ [])) [] ∷ on t.Pack (Opens (TheRel ∷ Just t.On ∷ TheList ∷ [])) [] ∷ on t.Unpack (Opens (TheRel ∷ Just t.On ∷ TheList ∷ [])) [] ∷ []) (over_makes TheLiteral TheOperand (λ u. OfLiteral u) literal_rows make_literal) ((λ p b v. ParenRel p v.0), ((λ p b v. PackOn p pack_words.Pack v.0 v.1.1.0), ((λ p b v. PackOn p pack_words.Unpack v.0 v.1.1.0), tt)))))

abbrev pub make_extend : Makes TheExtend extend_rows
make_extend = ((λ p b v. Extend p v.0 v.1.1.0), tt)

abbrev pub make_summarize : Makes TheSummarize summarize_rows
make_summarize = ((λ p b v. Summarize p v.0 v.1.1.0 v.1.1.1.1.0), tt)

abbrev pub make_rel_primary : Makes TheRelPrimary rel_primary_rows
make_rel_primary = (append_makes TheRelPrimary extend_rows (summarize_rows ++ operand_rows) (over_makes TheExtend TheRelPrimary (λ u. OfExtend u) extend_rows make_extend) (append_makes TheRelPrimary summarize_rows operand_rows (over_makes TheSummarize TheRelPrimary (λ u. OfSummarize u) summarize_rows make_summarize) (over_makes TheOperand TheRelPrimary (λ u. OfOperand u) operand_rows make_operand)))

abbrev pub make_term : Makes TheTerm term_rows
make_term = then_makes TheRelPrimary TheTerm MorePostfix (λ u w. w (OneRelPrimary u)) rel_primary_rows make_rel_primary

abbrev pub make_more_postfix : Makes MorePostfix more_postfix_rows
make_more_postfix = (
  (λ p b v x. v.1.0 (Project x (v.0 p))),
  (
    (λ p b v x. v.1.0 (Filter x p v.0)),
    (
      (λ p b v x. v.1.0 (Rename x p v.0)),
      tt,
    ),
  ),
)

abbrev pub make_terms : Makes TheTerms terms_rows
make_terms = then_makes TheTerm TheTerms MoreInfix (λ u w. w (OneTerm u)) term_rows make_term

abbrev pub make_more_infix : Makes MoreInfix more_infix_rows
make_more_infix = (
  (λ p b v x. v.1.0 (Infix x p infixes.Union v.0)),
  (
    (λ p b v x. v.1.0 (Infix x p infixes.Intersect v.0)),
    (
      (λ p b v x. v.1.0 (Infix x p infixes.Minus v.0)),
      (
        (λ p b v x. v.1.0 (Infix x p infixes.Join v.0)),
        (
          (λ p b v x. v.1.0 (Infix x p infixes.Matching v.0)),
          (
            (λ p b v x. v.1.1.0 (NotMatching x p v.1.0)),
            tt,
          ),
        ),
      ),
    ),
  ),
)

abbrev pub make_using : Makes TheUsing using_rows
make_using = ((λ p b v. Using p v.0 v.1.1.0), tt)

abbrev pub make_rel : Makes TheRel rel_rows
make_rel = (append_makes TheRel using_rows terms_rows (over_makes TheUsing TheRel (λ u. OfUsing u) using_rows make_using) (over_makes TheTerms TheRel (λ u. OfTerms u) terms_rows make_terms))

abbrev pub make_using_part : Makes TheUsingPart using_part_rows
make_using_part = (append_makes TheUsingPart extend_rows (summarize_rows ++ (operand_rows ▹ (AfterOperand ∷ []))) (over_makes TheExtend TheUsingPart (λ u. UsingExtend u) extend_rows make_extend) (append_makes TheUsingPart summarize_rows (operand_rows ▹ (AfterOperand ∷ [])) (over_makes TheSummarize TheUsingPart (λ u. UsingSummarize u) summarize_rows make_summarize) (then_makes TheOperand TheUsingPart AfterOperand (λ u w. w u) operand_rows make_operand)))

abbrev pub make_after_operand : Makes AfterOperand after_operand_rows
make_after_operand = (
  (λ p b v x. UsingInfix x p infixes.Union v.0),
  (
    (λ p b v x. UsingInfix x p infixes.Intersect v.0),
    (
      (λ p b v x. UsingInfix x p infixes.Minus v.0),
      (
        (λ p b v x. UsingInfix x p infixes.Join v.0),
        (
          (λ p b v x. UsingInfix x p infixes.Matching v.0),
          (
            (λ p b v x. UsingNotMatching x p v.1.0),
            (
              (λ p b v x. UsingProject x (v.0 p)),
              (
                (λ p b v x. UsingFilter x p v.0),
                tt,
              ),
            ),
          ),
        ),
      ),
    ),
  ),
)

abbrev pub make_key : Makes TheKey key_rows
make_key = ((λ p b v. Key p v.0), tt)

abbrev pub make_foreign : Makes TheForeign foreign_rows
make_foreign = ((λ p b v. Foreign p v.1.0 v.1.1.1.0), tt)

abbrev pub make_used_constraint : Makes TheUsedConstraint used_constraint_rows
make_used_constraint = (append_makes TheUsedConstraint key_rows foreign_rows (over_makes TheKey TheUsedConstraint (λ u. UsedKey u) key_rows make_key) (over_makes TheForeign TheUsedConstraint (λ u. UsedForeign u) foreign_rows make_foreign))

abbrev pub make_constraint : Makes TheConstraint constraint_rows
make_constraint = (append_makes TheConstraint key_rows (foreign_rows ++ (on t.Packed Plain (Just t.On ∷ TheList ∷ []) ∷ on t.When Plain (Just t.Unpacked ∷ Just t.On ∷ TheList ∷ Just t.Then ∷ TheKey ∷ []) ∷ on t.Using (Opens (TheList ∷ Just t.Colon ∷ TheUsedConstraint ∷ [])) [] ∷ [])) (over_makes TheKey TheConstraint (λ u. KeyOf u) key_rows make_key) (append_makes TheConstraint foreign_rows (on t.Packed Plain (Just t.On ∷ TheList ∷ []) ∷ on t.When Plain (Just t.Unpacked ∷ Just t.On ∷ TheList ∷ Just t.Then ∷ TheKey ∷ []) ∷ on t.Using (Opens (TheList ∷ Just t.Colon ∷ TheUsedConstraint ∷ [])) [] ∷ []) (over_makes TheForeign TheConstraint (λ u. ForeignOf u) foreign_rows make_foreign) ((λ p b v. PackedOn p v.1.0), ((λ p b v. WhenUnpacked p v.1.1.0 v.1.1.1.1.0), ((λ p b v. UsingConstraint p v.0 v.1.1.0), tt)))))

abbrev pub make_more_constraints : Makes MoreConstraints more_constraints_rows
make_more_constraints = then_makes TheConstraint MoreConstraints MoreConstraints (λ u w. u ∷ w) constraint_rows make_constraint

abbrev pub make_in_rel : Makes InRel in_rel_rows
make_in_rel = ((λ p b v. v.0), tt)

abbrev pub make_kept : Makes TheKept kept_rows
make_kept = (
  (λ p b v. v.1.1.1.0 p v.0 v.1.1.0),
  (
    (λ p b v. KeptPack p v.0 v.1.1.0),
    tt,
  ),
)

abbrev pub make_after_kept : Makes AfterKept after_kept_rows
make_after_kept = (
  (λ p b v p0 a l. KeptInfix p0 a l p infixes.Union v.0),
  (
    (λ p b v p0 a l. KeptInfix p0 a l p infixes.Intersect v.0),
    (
      (λ p b v p0 a l. KeptInfix p0 a l p infixes.Minus v.0),
      (
        (λ p b v p0 a l. KeptInfix p0 a l p infixes.Join v.0),
        (
          (λ p b v p0 a l. KeptInfix p0 a l p infixes.Matching v.0),
          (
            (λ p b v p0 a l. KeptNotMatching p0 a l p v.1.0),
            (
              (λ p b v p0 a l. KeptProject p0 a l (v.0 p)),
              tt,
            ),
          ),
        ),
      ),
    ),
  ),
)

abbrev pub make_in_kept : Makes InKept in_kept_rows
make_in_kept = ((λ p b v. v.0), tt)

abbrev pub make_var_form : Makes TheVarForm var_form_rows
make_var_form = (
  (λ p b v. BaseRelvar p v.0 v.1.0),
  (
    (λ p b v. View p v.0),
    (
      (λ p b v. Kept p v.0),
      tt,
    ),
  ),
)

abbrev pub make_comparison : Makes TheComparison comparison_rows
make_comparison = then_makes TheOperand TheComparison AfterLeft (λ u w. w u) operand_rows make_operand

abbrev pub make_after_left : Makes AfterLeft after_left_rows
make_after_left = (
  (λ p b v x. Comparison x p relation_comparisons.Equal v.0),
  (
    (λ p b v x. Comparison x p relation_comparisons.NotEqual v.0),
    (
      (λ p b v x. Comparison x p relation_comparisons.Less v.0),
      (
        (λ p b v x. Comparison x p relation_comparisons.LessEqual v.0),
        (
          (λ p b v x. Comparison x p relation_comparisons.Greater v.0),
          (
            (λ p b v x. Comparison x p relation_comparisons.GreaterEqual v.0),
            tt,
          ),
        ),
      ),
    ),
  ),
)

abbrev pub make_test : Makes TheTest test_rows
make_test = (append_makes TheTest (on t.Using (Opens (TheList ∷ Just t.Colon ∷ TheComparison ∷ [])) [] ∷ on t.IsEmpty Plain (InRel ∷ []) ∷ on t.IsNotEmpty Plain (InRel ∷ []) ∷ []) comparison_rows ((λ p b v. UsingTest p v.0 v.1.1.0), ((λ p b v. Emptiness p emptinesses.IsEmpty v.0), ((λ p b v. Emptiness p emptinesses.IsNotEmpty v.0), tt))) (over_makes TheComparison TheTest (λ u. OfComparison u) comparison_rows make_comparison))

abbrev pub make_used_deletion : Makes TheUsedDeletion used_deletion_rows
make_used_deletion = (append_makes TheUsedDeletion (on t.Where Plain (TheScalar ∷ []) ∷ []) rel_rows ((λ p b v. UsedDeleteWhere p v.0), tt) (over_makes TheRel TheUsedDeletion (λ u. UsedDeleteRows u) rel_rows make_rel))

abbrev pub make_used_item : Makes TheUsedItem used_item_rows
make_used_item = (
  (λ p b v. UsedInsert p v.0 v.1.0),
  (
    (λ p b v. UsedDelete p v.0 v.1.0),
    (
      (λ p b v. UsedUpdate p v.0 v.1.0 v.1.1.1.0),
      tt,
    ),
  ),
)

abbrev pub make_deletion : Makes TheDeletion deletion_rows
make_deletion = (append_makes TheDeletion (on t.Where Plain (TheScalar ∷ []) ∷ []) ((portion_rows ▹ (MaybeWhere ∷ [])) ++ rel_rows) ((λ p b v. DeleteWhere p v.0), tt) (append_makes TheDeletion (portion_rows ▹ (MaybeWhere ∷ [])) rel_rows (then_makes ThePortion TheDeletion MaybeWhere (λ u w. DeletePortion u w) portion_rows make_portion) (over_makes TheRel TheDeletion (λ u. DeleteRows u) rel_rows make_rel)))

abbrev pub make_item : Makes TheItem item_rows
make_item = (
  (λ p b v. SetRelvar (word p b) v.1.0),
  (
    (λ p b v. Insert p v.0 v.1.0),
    (
      (λ p b v. Delete p v.0 v.1.0),
      (
        (λ p b v. Update p v.0 v.1.0 v.1.1.0 v.1.1.1.1.0),
        (
          (λ p b v. Terminate p v.0 v.1.0 v.1.1.0 v.1.1.1.0),
          (
            (λ p b v. UsingItem p v.0 v.1.1.0),
            tt,
          ),
        ),
      ),
    ),
  ),
)

abbrev pub make_more_items : Makes MoreItems more_items_rows
make_more_items = ((λ p b v. v.0 ∷ v.1.0), tt)

abbrev pub make_assign : Makes TheAssign assign_rows
make_assign = then_makes TheItem TheAssign MoreItems (λ u w. Assign u w) item_rows make_item

abbrev pub make_statement : Makes TheStatement statement_rows
make_statement = (append_makes TheStatement (on t.Semicolon Plain [] ∷ on t.TypeWord Plain (TheName ∷ Worded ordinal_word ∷ TheSomeNames ∷ Just t.Semicolon ∷ []) ∷ on t.Var Plain (TheName ∷ TheVarForm ∷ Just t.Semicolon ∷ []) ∷ on t.History Plain (TheName ∷ TheHeading ∷ TheKey ∷ Worded since_word ∷ TheName ∷ TheParenName ∷ Worded during_word ∷ TheName ∷ TheParenName ∷ Worded over_word ∷ ThePoint ∷ Just t.Semicolon ∷ []) ∷ on t.Constraint Plain (TheName ∷ TheTest ∷ Just t.Semicolon ∷ []) ∷ on t.Drop Plain (AfterDrop ∷ []) ∷ on t.Print Plain (TheRel ∷ Just t.Semicolon ∷ []) ∷ on t.Ask Plain (TheTest ∷ Just t.Semicolon ∷ []) ∷ spelt log_word (AfterLog ∷ []) ∷ []) (assign_rows ▹ (Just t.Semicolon ∷ [])) ((λ p b v. Nothing), ((λ p b v. DeclareOrdinal p v.0 v.1.1.0), ((λ p b v. DeclareRelvar p v.0 v.1.0), ((λ p b v. DeclareHistory p v.0 v.1.0 v.1.1.0 v.1.1.1.1.0 v.1.1.1.1.1.0 v.1.1.1.1.1.1.1.0 v.1.1.1.1.1.1.1.1.0 v.1.1.1.1.1.1.1.1.1.1.0), ((λ p b v. DeclareRule p v.0 v.1.0), ((λ p b v. v.0 p), ((λ p b v. Print p v.0), ((λ p b v. Ask p v.0), ((λ p b v. v.0 p), tt))))))))) (then_makes TheAssign TheStatement (Just t.Semicolon) (λ u w. Assignment u) assign_rows make_assign))

abbrev pub make_after_drop : Makes AfterDrop after_drop_rows
make_after_drop = (
  (λ p b v q. Drop q v.0),
  (
    (λ p b v q. DropRule q p v.0),
    tt,
  ),
)

abbrev pub make_after_log : Makes AfterLog after_log_rows
make_after_log = (
  (λ p b v q. DeclareLog q (word p b) v.1.0 v.1.1.0),
  (
    (λ p b v q. Assignment (Assign (SetRelvar (word q log_word) v.0) v.1.0)),
    tt,
  ),
)

abbrev pub makes : (s : Symbol) → Makes s (rows s)
makes TheName = make_name
makes Comma = make_comma
makes DateText = make_date_text
makes MomentText = make_moment_text
makes NegativeDigits = make_negative_digits
makes ThePrimary = make_primary
makes AfterName = make_after_name
makes AfterScalar = make_after_scalar
makes EndOfSelector = make_end_of_selector
makes InParens = make_in_parens
makes InPair = make_in_pair
makes InPoint = make_in_point
makes TheSign = make_sign
makes TheProd = make_prod
makes MoreProd = make_more_prod
makes TheSum = make_sum
makes MoreSum = make_more_sum
makes TheCmp = make_cmp
makes MoreCmp = make_more_cmp
makes TheNeg = make_neg
makes TheConj = make_conj
makes MoreAnd = make_more_and
makes TheScalar = make_scalar
makes MoreOr = make_more_or
makes ThePoint = make_point
makes TheKind = make_kind
makes TheAttribute = make_attribute
makes MoreAttributes = make_more_attributes
makes InHeading = make_in_heading
makes TheHeading = make_heading
makes MoreNames = make_more_names
makes InNames = make_in_names
makes InList = make_in_list
makes TheNames = make_names
makes TheList = make_list
makes TheSomeNames = make_some_names
makes TheParenName = make_paren_name
makes TheElement = make_element
makes MoreElements = make_more_elements
makes InElements = make_in_elements
makes TheElements = make_elements
makes TheSomeElements = make_some_elements
makes TheTuple = make_tuple
makes MoreTuples = make_more_tuples
makes InTuples = make_in_tuples
makes TheTuples = make_tuples
makes TheLiteral = make_literal
makes AfterRelation = make_after_relation
makes TheSetItem = make_set_item
makes MoreSetItems = make_more_set_items
makes TheSets = make_sets
makes EmptyParens = make_empty_parens
makes TheAggregateForm = make_aggregate_form
makes TheAggregate = make_aggregate
makes MoreAggregates = make_more_aggregates
makes TheAggregates = make_aggregates
makes TheRenaming = make_renaming
makes MoreRenamings = make_more_renamings
makes TheRenamings = make_renamings
makes ThePortion = make_portion
makes MaybePortion = make_maybe_portion
makes MaybeWhere = make_maybe_where
makes InProjection = make_in_projection
makes TheOperand = make_operand
makes TheExtend = make_extend
makes TheSummarize = make_summarize
makes TheRelPrimary = make_rel_primary
makes TheTerm = make_term
makes MorePostfix = make_more_postfix
makes TheTerms = make_terms
makes MoreInfix = make_more_infix
makes TheUsing = make_using
makes TheRel = make_rel
makes TheUsingPart = make_using_part
makes AfterOperand = make_after_operand
makes TheKey = make_key
makes TheForeign = make_foreign
makes TheUsedConstraint = make_used_constraint
makes TheConstraint = make_constraint
makes MoreConstraints = make_more_constraints
makes InRel = make_in_rel
makes TheKept = make_kept
makes AfterKept = make_after_kept
makes InKept = make_in_kept
makes TheVarForm = make_var_form
makes TheComparison = make_comparison
makes AfterLeft = make_after_left
makes TheTest = make_test
makes TheUsedDeletion = make_used_deletion
makes TheUsedItem = make_used_item
makes TheDeletion = make_deletion
makes TheItem = make_item
makes MoreItems = make_more_items
makes TheAssign = make_assign
makes TheStatement = make_statement
makes AfterDrop = make_after_drop
makes AfterLog = make_after_log
makes (Just x) = ((λ p b v. tt), tt)
makes (Worded w) = ((λ p b v. p), tt)
makes (Shut outer) = tt

-- what a form gives that ends before its first token
abbrev pub Ended : Symbol → Bool → Type 0
Ended s true = Val s
Ended s false = Unit {0}

abbrev pub end_value : (s : Symbol) → Ended s (may_end s)
end_value AfterName = (λ w. AttributeName w)
end_value MoreProd = (λ x. x)
end_value MoreSum = (λ x. x)
end_value MoreCmp = (λ x. OneSum x)
end_value MoreAnd = (λ x. x)
end_value MoreOr = (λ x. x)
end_value MoreAttributes = []
end_value MoreNames = []
end_value MoreElements = []
end_value MoreTuples = []
end_value MoreSetItems = []
end_value MoreAggregates = []
end_value MoreRenamings = []
end_value MaybePortion = NoPortion
end_value MaybeWhere = NoCondition
end_value MorePostfix = (λ x. x)
end_value MoreInfix = (λ x. x)
end_value MoreConstraints = []
end_value MoreItems = []
end_value (Shut outer) = tt
end_value _ = tt

-- what a turn of the table makes
abbrev pub Built : Symbol → Turn → Type 0
Built s Never = Unit {0}
Built s Ends = Val s
Built s (Takes how more) = Vals (inner how ++ more) → Val s

abbrev pub by_case : (s : Symbol) (how : Taking) (more : List Symbol) (how' : Taking) (more' : List Symbol) (c : Bool) → Case s how more → Case s how' more' → Place → List ℕ → Built s (if c then Takes how more else Takes how' more')
by_case s how more how' more' true f g p b = f p b
by_case s how more how' more' false f g p b = g p b

abbrev pub made : (s : Symbol) (r : Row) → Make s r → (n : Terminal) → Place → List ℕ → Built s (chosen r n)
made s (on x how more) f n p b = f p b
made s (spelt c more) f n p b = f p b
made s (before x y how more how' more') f n p b = by_case s how more how' more' (same y n) f.0 f.1 p b

abbrev pub pick : (s : Symbol) (c : Bool) (r r' : Turn) → Built s r → Built s r' → Built s (if c then r else r')
pick s true r r' v w = v
pick s false r r' v w = w

abbrev pub found_end : (s : Symbol) (e : Bool) → Ended s e → Built s (if e then Ends else Never)
found_end s true v = v
found_end s false v = tt

abbrev pub found : (s : Symbol) (rs : List Row) → Makes s rs → (e : Bool) → Ended s e → (x : Terminal) (b : List ℕ) (n : Terminal) → Place → Built s (find rs e x b n)
found s [] ms e v x b n p = found_end s e v
found s (r ∷ rs) ms e v x b n p = pick s (fits r x b) (chosen r n) (find rs e x b n) (made s r ms.0 n p b) (found s rs ms.1 e v x b n p)

abbrev pub build : (s : Symbol) (x : Terminal) (b : List ℕ) (n : Terminal) → Place → Built s (turn s x b n)
build s x b n p = found s (rows s) (makes s) (may_end s) (end_value s) x b n p

abbrev pub split : (xs ys : List Symbol) → Vals (xs ++ ys) → Vals xs × Vals ys
split [] ys vs = (tt, vs)
split (x ∷ xs) ys vs = let r : Vals xs × Vals ys = split xs ys vs.1 in ((vs.0, r.0), r.1)

-- what is done with the values of the forms to come
abbrev pub Go : List Symbol → Type 0
Go stack = Vals stack → StatementP

abbrev pub on_turn : (s : Symbol) (r : Turn) → Built s r → (stack : List Symbol) → ((st : List Symbol) → Go st → Option StatementP) → (Go stack → Option StatementP) → Go (s ∷ stack) → Option StatementP
on_turn s Never v stack next beyond k = None
on_turn s Ends v stack next beyond k = beyond (λ vs. k (v, vs))
on_turn s (Takes how more) v stack next beyond k = next ((inner how ++ more) ++ stack) (λ vs. let r : Vals (inner how ++ more) × Vals stack = split (inner how ++ more) stack vs in k (v r.0, r.1))

abbrev pub read_at : (x n : Terminal) → Place → List ℕ → ((st : List Symbol) → Go st → Option StatementP) → (stack : List Symbol) → Go stack → Option StatementP
read_at x n p b next [] k = None
read_at x n p b next (s ∷ stack) k = on_turn s (turn s x b n) (build s x b n p) stack next (read_at x n p b next stack) k

abbrev pub on_end : (s : Symbol) (r : Turn) → Built s r → (stack : List Symbol) → (Go stack → Option StatementP) → Go (s ∷ stack) → Option StatementP
on_end s Never v stack beyond k = None
on_end s Ends v stack beyond k = beyond (λ vs. k (v, vs))
on_end s (Takes how more) v stack beyond k = None

abbrev pub read_end : (stack : List Symbol) → Go stack → Option StatementP
read_end [] k = Some (k tt)
read_end (s ∷ stack) k = on_end s (turn s t.Finish [] t.Finish) (build s t.Finish [] t.Finish (place_of [])) stack (read_end stack) k

-- the forms of the stack in turn
abbrev pub read : List Piece → (stack : List Symbol) → Go stack → Option StatementP
read [] stack k = read_end stack k
read (x ∷ ts) stack k = read_at x.terminal (first ts) x.place x.bytes (read ts) stack k
