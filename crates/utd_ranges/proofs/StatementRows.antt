-- The rows of relational expressions and of statements keep a range.
use Rattle.std.proofs.Common.{[], ◌∷◌, ◌++◌}
use Rattle.utd_syntax.specs.declared.terminal.Terminal.TheVariants as t
use Rattle.utd_syntax.specs.declared.words.InfixWord.TheVariants as infixes
use Rattle.utd_syntax.specs.declared.words.PackWord.TheVariants as pack_words
use Rattle.utd_syntax.specs.declared.words.EmptinessWord.TheVariants as emptinesses
use Rattle.utd_syntax.specs.Plain.{word, OfUsing, OfTerms, OneTerm, Infix, NotMatching, OneRelPrimary, Project, Filter, Rename, OfExtend, OfSummarize, OfOperand, Relvar, OfLiteral, ParenRel, PackOn, UsingExtend, UsingSummarize, UsedKey, UsedForeign, KeyOf, ForeignOf, PackedOn, WhenUnpacked, UsingConstraint, UsingTest, Emptiness, OfComparison, UsedDeleteWhere, UsedDeleteRows, DeleteWhere, DeletePortion, DeleteRows, Assign, Nothing, DeclareOrdinal, DeclareRelvar, DeclareHistory, DeclareRule, Print, Ask, Assignment}
use Rattle.utd_syntax.specs.Table.{TheName, Comma, DateText, MomentText, NegativeDigits, ThePrimary, AfterName, AfterScalar, EndOfSelector, InParens, InPair, InPoint, TheSign, TheProd, MoreProd, TheSum, MoreSum, TheCmp, MoreCmp, TheNeg, TheConj, MoreAnd, TheScalar, MoreOr, ThePoint, TheKind, TheAttribute, MoreAttributes, InHeading, TheHeading, MoreNames, InNames, InList, TheNames, TheList, TheSomeNames, TheParenName, TheElement, MoreElements, InElements, TheElements, TheSomeElements, TheTuple, MoreTuples, InTuples, TheTuples, TheLiteral, AfterRelation, TheSetItem, MoreSetItems, TheSets, EmptyParens, TheAggregateForm, TheAggregate, MoreAggregates, TheAggregates, TheRenaming, MoreRenamings, TheRenamings, ThePortion, MaybePortion, MaybeWhere, InProjection, TheOperand, TheExtend, TheSummarize, TheRelPrimary, TheTerm, MorePostfix, TheTerms, MoreInfix, TheUsing, TheRel, TheUsingPart, AfterOperand, TheKey, TheForeign, TheUsedConstraint, TheConstraint, MoreConstraints, InRel, TheKept, AfterKept, InKept, TheVarForm, TheComparison, AfterLeft, TheTest, TheUsedDeletion, TheUsedItem, TheDeletion, TheItem, MoreItems, TheAssign, TheStatement, AfterDrop, AfterLog, Just, Worded, Shut, Symbol, Plain, Opens, on, spelt, rows, names_rows, list_rows, some_names_rows, paren_name_rows, element_rows, more_elements_rows, in_elements_rows, elements_rows, some_elements_rows, tuple_rows, more_tuples_rows, in_tuples_rows, tuples_rows, literal_rows, after_relation_rows, set_item_rows, more_set_items_rows, sets_rows, empty_parens_rows, aggregate_form_rows, aggregate_rows, more_aggregates_rows, aggregates_rows, renaming_rows, more_renamings_rows, renamings_rows, portion_rows, maybe_portion_rows, maybe_where_rows, in_projection_rows, operand_rows, extend_rows, summarize_rows, rel_primary_rows, term_rows, more_postfix_rows, terms_rows, more_infix_rows, using_rows, rel_rows, using_part_rows, after_operand_rows, key_rows, foreign_rows, used_constraint_rows, constraint_rows, more_constraints_rows, in_rel_rows, kept_rows, after_kept_rows, in_kept_rows, var_form_rows, comparison_rows, after_left_rows, test_rows, used_deletion_rows, used_item_rows, deletion_rows, item_rows, more_items_rows, assign_rows, statement_rows, after_drop_rows, after_log_rows, ◌▹◌}
use Rattle.utd_syntax.specs.Written.{ordinal_word, since_word, during_word, over_word, log_word}
use Rattle.utd_syntax.proofs.FormValues.{over_makes, then_makes, append_makes}
use Rattle.utd_syntax.proofs.Reader.{make_names, make_list, make_some_names, make_paren_name, make_element, make_more_elements, make_in_elements, make_elements, make_some_elements, make_tuple, make_more_tuples, make_in_tuples, make_tuples, make_literal, make_after_relation, make_set_item, make_more_set_items, make_sets, make_empty_parens, make_aggregate_form, make_aggregate, make_more_aggregates, make_aggregates, make_renaming, make_more_renamings, make_renamings, make_portion, make_maybe_portion, make_maybe_where, make_in_projection, make_operand, make_extend, make_summarize, make_rel_primary, make_term, make_more_postfix, make_terms, make_more_infix, make_using, make_rel, make_using_part, make_after_operand, make_key, make_foreign, make_used_constraint, make_constraint, make_more_constraints, make_in_rel, make_kept, make_after_kept, make_in_kept, make_var_form, make_comparison, make_after_left, make_test, make_used_deletion, make_used_item, make_deletion, make_item, make_more_items, make_assign, make_statement, make_after_drop, make_after_log, makes}
use Rattle.utd_ranges.specs.Ranges.{Range}
use Rattle.utd_ranges.proofs.RangeForms.{RowsIn, over-in, then-in, append-in}
use Rattle.utd_ranges.proofs.ScalarRows.{name-in, comma-in, date_text-in, moment_text-in, negative_digits-in, primary-in, after_name-in, after_scalar-in, end_of_selector-in, in_parens-in, in_pair-in, in_point-in, sign-in, prod-in, more_prod-in, sum-in, more_sum-in, cmp-in, more_cmp-in, neg-in, conj-in, more_and-in, scalar-in, more_or-in, point-in, kind-in, attribute-in, more_attributes-in, in_heading-in, heading-in, more_names-in, in_names-in, in_list-in}

pub names-in : (out : Range) → RowsIn out TheNames names_rows make_names
names-in out = ((λ p b o v h. h.0), tt)

pub list-in : (out : Range) → RowsIn out TheList list_rows make_list
list-in out = ((λ p b o v h. h.0), tt)

pub some_names-in : (out : Range) → RowsIn out TheSomeNames some_names_rows make_some_names
some_names-in out = ((λ p b o v h. (h.0, h.1.0)), tt)

pub paren_name-in : (out : Range) → RowsIn out TheParenName paren_name_rows make_paren_name
paren_name-in out = ((λ p b o v h. h.0), tt)

pub element-in : (out : Range) → RowsIn out TheElement element_rows make_element
element-in out = ((λ p b o v h. (o, h.0)), tt)

pub more_elements-in : (out : Range) → RowsIn out MoreElements more_elements_rows make_more_elements
more_elements-in out = ((λ p b o v h. (h.0, h.1.0)), tt)

pub in_elements-in : (out : Range) → RowsIn out InElements in_elements_rows make_in_elements
in_elements-in out = ((λ p b o v h. tt), ((λ p b o v h. ((o, h.0), h.1.0)), tt))

pub elements-in : (out : Range) → RowsIn out TheElements elements_rows make_elements
elements-in out = ((λ p b o v h. h.0), tt)

pub some_elements-in : (out : Range) → RowsIn out TheSomeElements some_elements_rows make_some_elements
some_elements-in out = ((λ p b o v h. (h.0, h.1.0)), tt)

pub tuple-in : (out : Range) → RowsIn out TheTuple tuple_rows make_tuple
tuple-in out = ((λ p b o v h. h.0), tt)

pub more_tuples-in : (out : Range) → RowsIn out MoreTuples more_tuples_rows make_more_tuples
more_tuples-in out = ((λ p b o v h. (h.0, h.1.0)), tt)

pub in_tuples-in : (out : Range) → RowsIn out InTuples in_tuples_rows make_in_tuples
in_tuples-in out = ((λ p b o v h. tt), ((λ p b o v h. (h.0, h.1.0)), tt))

pub tuples-in : (out : Range) → RowsIn out TheTuples tuples_rows make_tuples
tuples-in out = ((λ p b o v h. h.0), tt)

pub literal-in : (out : Range) → RowsIn out TheLiteral literal_rows make_literal
literal-in out = ((λ p b o v h. (h.0 p)), tt)

pub after_relation-in : (out : Range) → RowsIn out AfterRelation after_relation_rows make_after_relation
after_relation-in out = (((λ p b o v h q. (h.0, h.1.0)), (λ p b o v h q. (h.0, h.1.0))), tt)

pub set_item-in : (out : Range) → RowsIn out TheSetItem set_item_rows make_set_item
set_item-in out = ((λ p b o v h. (o, h.1.0)), tt)

pub more_set_items-in : (out : Range) → RowsIn out MoreSetItems more_set_items_rows make_more_set_items
more_set_items-in out = ((λ p b o v h. (h.0, h.1.0)), tt)

pub sets-in : (out : Range) → RowsIn out TheSets sets_rows make_sets
sets-in out = ((λ p b o v h. (h.0, h.1.0)), tt)

pub empty_parens-in : (out : Range) → RowsIn out EmptyParens empty_parens_rows make_empty_parens
empty_parens-in out = ((λ p b o v h. tt), tt)

pub aggregate_form-in : (out : Range) → RowsIn out TheAggregateForm aggregate_form_rows make_aggregate_form
aggregate_form-in out = ((λ p b o v h. tt), ((λ p b o v h. h.0), ((λ p b o v h. h.0), ((λ p b o v h. h.0), tt))))

pub aggregate-in : (out : Range) → RowsIn out TheAggregate aggregate_rows make_aggregate
aggregate-in out = ((λ p b o v h. (o, h.1.0)), tt)

pub more_aggregates-in : (out : Range) → RowsIn out MoreAggregates more_aggregates_rows make_more_aggregates
more_aggregates-in out = ((λ p b o v h. (h.0, h.1.0)), tt)

pub aggregates-in : (out : Range) → RowsIn out TheAggregates aggregates_rows make_aggregates
aggregates-in out = ((λ p b o v h. (h.0, h.1.0)), tt)

pub renaming-in : (out : Range) → RowsIn out TheRenaming renaming_rows make_renaming
renaming-in out = ((λ p b o v h. (o, h.1.0)), tt)

pub more_renamings-in : (out : Range) → RowsIn out MoreRenamings more_renamings_rows make_more_renamings
more_renamings-in out = ((λ p b o v h. (h.0, h.1.0)), tt)

pub renamings-in : (out : Range) → RowsIn out TheRenamings renamings_rows make_renamings
renamings-in out = ((λ p b o v h. (h.0, h.1.0)), tt)

pub portion-in : (out : Range) → RowsIn out ThePortion portion_rows make_portion
portion-in out = ((λ p b o v h. h.0), tt)

pub maybe_portion-in : (out : Range) → RowsIn out MaybePortion maybe_portion_rows make_maybe_portion
maybe_portion-in out = ((λ p b o v h. h.0), tt)

pub maybe_where-in : (out : Range) → RowsIn out MaybeWhere maybe_where_rows make_maybe_where
maybe_where-in out = ((λ p b o v h. h.0), tt)

pub in_projection-in : (out : Range) → RowsIn out InProjection in_projection_rows make_in_projection
in_projection-in out = ((λ p b o v h q. tt), ((λ p b o v h q. (o, h.0)), ((λ p b o v h q. (h.1.0, h.1.1.0)), tt)))

pub operand-in : (out : Range) → RowsIn out TheOperand operand_rows make_operand
operand-in out = append-in out TheOperand (on t.Name Plain [] ∷ []) (literal_rows ++ (on t.Open (Opens (TheRel ∷ Just t.Close ∷ [])) [] ∷ on t.Pack (Opens (TheRel ∷ Just t.On ∷ TheList ∷ [])) [] ∷ on t.Unpack (Opens (TheRel ∷ Just t.On ∷ TheList ∷ [])) [] ∷ [])) ((λ p b v. Relvar (word p b)), tt) (append_makes TheOperand literal_rows (on t.Open (Opens (TheRel ∷ Just t.Close ∷ [])) [] ∷ on t.Pack (Opens (TheRel ∷ Just t.On ∷ TheList ∷ [])) [] ∷ on t.Unpack (Opens (TheRel ∷ Just t.On ∷ TheList ∷ [])) [] ∷ []) (over_makes TheLiteral TheOperand (λ u. OfLiteral u) literal_rows make_literal) ((λ p b v. ParenRel p v.0), ((λ p b v. PackOn p pack_words.Pack v.0 v.1.1.0), ((λ p b v. PackOn p pack_words.Unpack v.0 v.1.1.0), tt)))) ((λ p b o v h. o), tt) (append-in out TheOperand literal_rows (on t.Open (Opens (TheRel ∷ Just t.Close ∷ [])) [] ∷ on t.Pack (Opens (TheRel ∷ Just t.On ∷ TheList ∷ [])) [] ∷ on t.Unpack (Opens (TheRel ∷ Just t.On ∷ TheList ∷ [])) [] ∷ []) (over_makes TheLiteral TheOperand (λ u. OfLiteral u) literal_rows make_literal) ((λ p b v. ParenRel p v.0), ((λ p b v. PackOn p pack_words.Pack v.0 v.1.1.0), ((λ p b v. PackOn p pack_words.Unpack v.0 v.1.1.0), tt))) (over-in out TheLiteral TheOperand (λ u. OfLiteral u) (λ u hu. hu) literal_rows make_literal (literal-in out)) ((λ p b o v h. h.0), ((λ p b o v h. (h.0, h.1.1.0)), ((λ p b o v h. (h.0, h.1.1.0)), tt))))

pub extend-in : (out : Range) → RowsIn out TheExtend extend_rows make_extend
extend-in out = ((λ p b o v h. (h.0, h.1.1.0)), tt)

pub summarize-in : (out : Range) → RowsIn out TheSummarize summarize_rows make_summarize
summarize-in out = ((λ p b o v h. (h.0, h.1.1.0, h.1.1.1.1.0)), tt)

pub rel_primary-in : (out : Range) → RowsIn out TheRelPrimary rel_primary_rows make_rel_primary
rel_primary-in out = append-in out TheRelPrimary extend_rows (summarize_rows ++ operand_rows) (over_makes TheExtend TheRelPrimary (λ u. OfExtend u) extend_rows make_extend) (append_makes TheRelPrimary summarize_rows operand_rows (over_makes TheSummarize TheRelPrimary (λ u. OfSummarize u) summarize_rows make_summarize) (over_makes TheOperand TheRelPrimary (λ u. OfOperand u) operand_rows make_operand)) (over-in out TheExtend TheRelPrimary (λ u. OfExtend u) (λ u hu. hu) extend_rows make_extend (extend-in out)) (append-in out TheRelPrimary summarize_rows operand_rows (over_makes TheSummarize TheRelPrimary (λ u. OfSummarize u) summarize_rows make_summarize) (over_makes TheOperand TheRelPrimary (λ u. OfOperand u) operand_rows make_operand) (over-in out TheSummarize TheRelPrimary (λ u. OfSummarize u) (λ u hu. hu) summarize_rows make_summarize (summarize-in out)) (over-in out TheOperand TheRelPrimary (λ u. OfOperand u) (λ u hu. hu) operand_rows make_operand (operand-in out)))

pub term-in : (out : Range) → RowsIn out TheTerm term_rows make_term
term-in out = then-in out TheRelPrimary TheTerm MorePostfix (λ u w. w (OneRelPrimary u)) (λ u w hu hw. (hw (OneRelPrimary u) hu)) rel_primary_rows make_rel_primary (rel_primary-in out)

pub more_postfix-in : (out : Range) → RowsIn out MorePostfix more_postfix_rows make_more_postfix
more_postfix-in out = ((λ p b o v h x hx. (h.1.0 (Project x (v.0 p)) (hx, (h.0 p)))), ((λ p b o v h x hx. (h.1.0 (Filter x p v.0) (hx, h.0))), ((λ p b o v h x hx. (h.1.0 (Rename x p v.0) (hx, h.0))), tt)))

pub terms-in : (out : Range) → RowsIn out TheTerms terms_rows make_terms
terms-in out = then-in out TheTerm TheTerms MoreInfix (λ u w. w (OneTerm u)) (λ u w hu hw. (hw (OneTerm u) hu)) term_rows make_term (term-in out)

pub more_infix-in : (out : Range) → RowsIn out MoreInfix more_infix_rows make_more_infix
more_infix-in out = ((λ p b o v h x hx. (h.1.0 (Infix x p infixes.Union v.0) (hx, h.0))), ((λ p b o v h x hx. (h.1.0 (Infix x p infixes.Intersect v.0) (hx, h.0))), ((λ p b o v h x hx. (h.1.0 (Infix x p infixes.Minus v.0) (hx, h.0))), ((λ p b o v h x hx. (h.1.0 (Infix x p infixes.Join v.0) (hx, h.0))), ((λ p b o v h x hx. (h.1.0 (Infix x p infixes.Matching v.0) (hx, h.0))), ((λ p b o v h x hx. (h.1.1.0 (NotMatching x p v.1.0) (hx, h.1.0))), tt))))))

pub using-in : (out : Range) → RowsIn out TheUsing using_rows make_using
using-in out = ((λ p b o v h. (h.0, h.1.1.0)), tt)

pub rel-in : (out : Range) → RowsIn out TheRel rel_rows make_rel
rel-in out = append-in out TheRel using_rows terms_rows (over_makes TheUsing TheRel (λ u. OfUsing u) using_rows make_using) (over_makes TheTerms TheRel (λ u. OfTerms u) terms_rows make_terms) (over-in out TheUsing TheRel (λ u. OfUsing u) (λ u hu. hu) using_rows make_using (using-in out)) (over-in out TheTerms TheRel (λ u. OfTerms u) (λ u hu. hu) terms_rows make_terms (terms-in out))

pub using_part-in : (out : Range) → RowsIn out TheUsingPart using_part_rows make_using_part
using_part-in out = append-in out TheUsingPart extend_rows (summarize_rows ++ (operand_rows ▹ (AfterOperand ∷ []))) (over_makes TheExtend TheUsingPart (λ u. UsingExtend u) extend_rows make_extend) (append_makes TheUsingPart summarize_rows (operand_rows ▹ (AfterOperand ∷ [])) (over_makes TheSummarize TheUsingPart (λ u. UsingSummarize u) summarize_rows make_summarize) (then_makes TheOperand TheUsingPart AfterOperand (λ u w. w u) operand_rows make_operand)) (over-in out TheExtend TheUsingPart (λ u. UsingExtend u) (λ u hu. hu) extend_rows make_extend (extend-in out)) (append-in out TheUsingPart summarize_rows (operand_rows ▹ (AfterOperand ∷ [])) (over_makes TheSummarize TheUsingPart (λ u. UsingSummarize u) summarize_rows make_summarize) (then_makes TheOperand TheUsingPart AfterOperand (λ u w. w u) operand_rows make_operand) (over-in out TheSummarize TheUsingPart (λ u. UsingSummarize u) (λ u hu. hu) summarize_rows make_summarize (summarize-in out)) (then-in out TheOperand TheUsingPart AfterOperand (λ u w. w u) (λ u w hu hw. (hw u hu)) operand_rows make_operand (operand-in out)))

pub after_operand-in : (out : Range) → RowsIn out AfterOperand after_operand_rows make_after_operand
after_operand-in out = ((λ p b o v h x hx. (hx, h.0)), ((λ p b o v h x hx. (hx, h.0)), ((λ p b o v h x hx. (hx, h.0)), ((λ p b o v h x hx. (hx, h.0)), ((λ p b o v h x hx. (hx, h.0)), ((λ p b o v h x hx. (hx, h.1.0)), ((λ p b o v h x hx. (hx, (h.0 p))), ((λ p b o v h x hx. (hx, h.0)), tt))))))))

pub key-in : (out : Range) → RowsIn out TheKey key_rows make_key
key-in out = ((λ p b o v h. h.0), tt)

pub foreign-in : (out : Range) → RowsIn out TheForeign foreign_rows make_foreign
foreign-in out = ((λ p b o v h. (h.1.0, h.1.1.1.0)), tt)

pub used_constraint-in : (out : Range) → RowsIn out TheUsedConstraint used_constraint_rows make_used_constraint
used_constraint-in out = append-in out TheUsedConstraint key_rows foreign_rows (over_makes TheKey TheUsedConstraint (λ u. UsedKey u) key_rows make_key) (over_makes TheForeign TheUsedConstraint (λ u. UsedForeign u) foreign_rows make_foreign) (over-in out TheKey TheUsedConstraint (λ u. UsedKey u) (λ u hu. hu) key_rows make_key (key-in out)) (over-in out TheForeign TheUsedConstraint (λ u. UsedForeign u) (λ u hu. hu) foreign_rows make_foreign (foreign-in out))

pub constraint-in : (out : Range) → RowsIn out TheConstraint constraint_rows make_constraint
constraint-in out = append-in out TheConstraint key_rows (foreign_rows ++ (on t.Packed Plain (Just t.On ∷ TheList ∷ []) ∷ on t.When Plain (Just t.Unpacked ∷ Just t.On ∷ TheList ∷ Just t.Then ∷ TheKey ∷ []) ∷ on t.Using (Opens (TheList ∷ Just t.Colon ∷ TheUsedConstraint ∷ [])) [] ∷ [])) (over_makes TheKey TheConstraint (λ u. KeyOf u) key_rows make_key) (append_makes TheConstraint foreign_rows (on t.Packed Plain (Just t.On ∷ TheList ∷ []) ∷ on t.When Plain (Just t.Unpacked ∷ Just t.On ∷ TheList ∷ Just t.Then ∷ TheKey ∷ []) ∷ on t.Using (Opens (TheList ∷ Just t.Colon ∷ TheUsedConstraint ∷ [])) [] ∷ []) (over_makes TheForeign TheConstraint (λ u. ForeignOf u) foreign_rows make_foreign) ((λ p b v. PackedOn p v.1.0), ((λ p b v. WhenUnpacked p v.1.1.0 v.1.1.1.1.0), ((λ p b v. UsingConstraint p v.0 v.1.1.0), tt)))) (over-in out TheKey TheConstraint (λ u. KeyOf u) (λ u hu. hu) key_rows make_key (key-in out)) (append-in out TheConstraint foreign_rows (on t.Packed Plain (Just t.On ∷ TheList ∷ []) ∷ on t.When Plain (Just t.Unpacked ∷ Just t.On ∷ TheList ∷ Just t.Then ∷ TheKey ∷ []) ∷ on t.Using (Opens (TheList ∷ Just t.Colon ∷ TheUsedConstraint ∷ [])) [] ∷ []) (over_makes TheForeign TheConstraint (λ u. ForeignOf u) foreign_rows make_foreign) ((λ p b v. PackedOn p v.1.0), ((λ p b v. WhenUnpacked p v.1.1.0 v.1.1.1.1.0), ((λ p b v. UsingConstraint p v.0 v.1.1.0), tt))) (over-in out TheForeign TheConstraint (λ u. ForeignOf u) (λ u hu. hu) foreign_rows make_foreign (foreign-in out)) ((λ p b o v h. h.1.0), ((λ p b o v h. (h.1.1.0, h.1.1.1.1.0)), ((λ p b o v h. (h.0, h.1.1.0)), tt))))

pub more_constraints-in : (out : Range) → RowsIn out MoreConstraints more_constraints_rows make_more_constraints
more_constraints-in out = then-in out TheConstraint MoreConstraints MoreConstraints (λ u w. u ∷ w) (λ u w hu hw. (hu, hw)) constraint_rows make_constraint (constraint-in out)

pub in_rel-in : (out : Range) → RowsIn out InRel in_rel_rows make_in_rel
in_rel-in out = ((λ p b o v h. h.0), tt)

pub kept-in : (out : Range) → RowsIn out TheKept kept_rows make_kept
kept-in out = ((λ p b o v h. (h.1.1.1.0 p v.0 v.1.1.0 h.0 h.1.1.0)), ((λ p b o v h. (h.0, h.1.1.0)), tt))

pub after_kept-in : (out : Range) → RowsIn out AfterKept after_kept_rows make_after_kept
after_kept-in out = ((λ p b o v h x y z hy hz. (hy, hz, h.0)), ((λ p b o v h x y z hy hz. (hy, hz, h.0)), ((λ p b o v h x y z hy hz. (hy, hz, h.0)), ((λ p b o v h x y z hy hz. (hy, hz, h.0)), ((λ p b o v h x y z hy hz. (hy, hz, h.0)), ((λ p b o v h x y z hy hz. (hy, hz, h.1.0)), ((λ p b o v h x y z hy hz. (hy, hz, h.0 p)), tt)))))))

pub in_kept-in : (out : Range) → RowsIn out InKept in_kept_rows make_in_kept
in_kept-in out = ((λ p b o v h. h.0), tt)

pub var_form-in : (out : Range) → RowsIn out TheVarForm var_form_rows make_var_form
var_form-in out = ((λ p b o v h. (h.0, h.1.0)), ((λ p b o v h. h.0), ((λ p b o v h. h.0), tt)))

pub comparison-in : (out : Range) → RowsIn out TheComparison comparison_rows make_comparison
comparison-in out = then-in out TheOperand TheComparison AfterLeft (λ u w. w u) (λ u w hu hw. (hw u hu)) operand_rows make_operand (operand-in out)

pub after_left-in : (out : Range) → RowsIn out AfterLeft after_left_rows make_after_left
after_left-in out = ((λ p b o v h x hx. (hx, h.0)), ((λ p b o v h x hx. (hx, h.0)), ((λ p b o v h x hx. (hx, h.0)), ((λ p b o v h x hx. (hx, h.0)), ((λ p b o v h x hx. (hx, h.0)), ((λ p b o v h x hx. (hx, h.0)), tt))))))

pub test-in : (out : Range) → RowsIn out TheTest test_rows make_test
test-in out = append-in out TheTest (on t.Using (Opens (TheList ∷ Just t.Colon ∷ TheComparison ∷ [])) [] ∷ on t.IsEmpty Plain (InRel ∷ []) ∷ on t.IsNotEmpty Plain (InRel ∷ []) ∷ []) comparison_rows ((λ p b v. UsingTest p v.0 v.1.1.0), ((λ p b v. Emptiness p emptinesses.IsEmpty v.0), ((λ p b v. Emptiness p emptinesses.IsNotEmpty v.0), tt))) (over_makes TheComparison TheTest (λ u. OfComparison u) comparison_rows make_comparison) ((λ p b o v h. (h.0, h.1.1.0)), ((λ p b o v h. h.0), ((λ p b o v h. h.0), tt))) (over-in out TheComparison TheTest (λ u. OfComparison u) (λ u hu. hu) comparison_rows make_comparison (comparison-in out))

pub used_deletion-in : (out : Range) → RowsIn out TheUsedDeletion used_deletion_rows make_used_deletion
used_deletion-in out = append-in out TheUsedDeletion (on t.Where Plain (TheScalar ∷ []) ∷ []) rel_rows ((λ p b v. UsedDeleteWhere p v.0), tt) (over_makes TheRel TheUsedDeletion (λ u. UsedDeleteRows u) rel_rows make_rel) ((λ p b o v h. h.0), tt) (over-in out TheRel TheUsedDeletion (λ u. UsedDeleteRows u) (λ u hu. hu) rel_rows make_rel (rel-in out))

pub used_item-in : (out : Range) → RowsIn out TheUsedItem used_item_rows make_used_item
used_item-in out = ((λ p b o v h. (h.0, h.1.0)), ((λ p b o v h. (h.0, h.1.0)), ((λ p b o v h. (h.0, h.1.0, h.1.1.1.0)), tt)))

pub deletion-in : (out : Range) → RowsIn out TheDeletion deletion_rows make_deletion
deletion-in out = append-in out TheDeletion (on t.Where Plain (TheScalar ∷ []) ∷ []) ((portion_rows ▹ (MaybeWhere ∷ [])) ++ rel_rows) ((λ p b v. DeleteWhere p v.0), tt) (append_makes TheDeletion (portion_rows ▹ (MaybeWhere ∷ [])) rel_rows (then_makes ThePortion TheDeletion MaybeWhere (λ u w. DeletePortion u w) portion_rows make_portion) (over_makes TheRel TheDeletion (λ u. DeleteRows u) rel_rows make_rel)) ((λ p b o v h. h.0), tt) (append-in out TheDeletion (portion_rows ▹ (MaybeWhere ∷ [])) rel_rows (then_makes ThePortion TheDeletion MaybeWhere (λ u w. DeletePortion u w) portion_rows make_portion) (over_makes TheRel TheDeletion (λ u. DeleteRows u) rel_rows make_rel) (then-in out ThePortion TheDeletion MaybeWhere (λ u w. DeletePortion u w) (λ u w hu hw. (hu, hw)) portion_rows make_portion (portion-in out)) (over-in out TheRel TheDeletion (λ u. DeleteRows u) (λ u hu. hu) rel_rows make_rel (rel-in out)))

pub item-in : (out : Range) → RowsIn out TheItem item_rows make_item
item-in out = ((λ p b o v h. (o, h.1.0)), ((λ p b o v h. (h.0, h.1.0)), ((λ p b o v h. (h.0, h.1.0)), ((λ p b o v h. (h.0, h.1.0, h.1.1.0, h.1.1.1.1.0)), ((λ p b o v h. (h.0, h.1.1.0, h.1.1.1.0)), ((λ p b o v h. (h.0, h.1.1.0)), tt))))))

pub more_items-in : (out : Range) → RowsIn out MoreItems more_items_rows make_more_items
more_items-in out = ((λ p b o v h. (h.0, h.1.0)), tt)

pub assign-in : (out : Range) → RowsIn out TheAssign assign_rows make_assign
assign-in out = then-in out TheItem TheAssign MoreItems (λ u w. Assign u w) (λ u w hu hw. (hu, hw)) item_rows make_item (item-in out)

pub statement-in : (out : Range) → RowsIn out TheStatement statement_rows make_statement
statement-in out = append-in out TheStatement (on t.Semicolon Plain [] ∷ on t.TypeWord Plain (TheName ∷ Worded ordinal_word ∷ TheSomeNames ∷ Just t.Semicolon ∷ []) ∷ on t.Var Plain (TheName ∷ TheVarForm ∷ Just t.Semicolon ∷ []) ∷ on t.History Plain (TheName ∷ TheHeading ∷ TheKey ∷ Worded since_word ∷ TheName ∷ TheParenName ∷ Worded during_word ∷ TheName ∷ TheParenName ∷ Worded over_word ∷ ThePoint ∷ Just t.Semicolon ∷ []) ∷ on t.Constraint Plain (TheName ∷ TheTest ∷ Just t.Semicolon ∷ []) ∷ on t.Drop Plain (AfterDrop ∷ []) ∷ on t.Print Plain (TheRel ∷ Just t.Semicolon ∷ []) ∷ on t.Ask Plain (TheTest ∷ Just t.Semicolon ∷ []) ∷ spelt log_word (AfterLog ∷ []) ∷ []) (assign_rows ▹ (Just t.Semicolon ∷ [])) ((λ p b v. Nothing), ((λ p b v. DeclareOrdinal p v.0 v.1.1.0), ((λ p b v. DeclareRelvar p v.0 v.1.0), ((λ p b v. DeclareHistory p v.0 v.1.0 v.1.1.0 v.1.1.1.1.0 v.1.1.1.1.1.0 v.1.1.1.1.1.1.1.0 v.1.1.1.1.1.1.1.1.0 v.1.1.1.1.1.1.1.1.1.1.0), ((λ p b v. DeclareRule p v.0 v.1.0), ((λ p b v. v.0 p), ((λ p b v. Print p v.0), ((λ p b v. Ask p v.0), ((λ p b v. v.0 p), tt))))))))) (then_makes TheAssign TheStatement (Just t.Semicolon) (λ u w. Assignment u) assign_rows make_assign) ((λ p b o v h. tt), ((λ p b o v h. (h.0, h.1.1.0)), ((λ p b o v h. (h.0, h.1.0)), ((λ p b o v h. (h.0, h.1.0, h.1.1.0, h.1.1.1.1.0, h.1.1.1.1.1.0, h.1.1.1.1.1.1.1.0, h.1.1.1.1.1.1.1.1.0, h.1.1.1.1.1.1.1.1.1.1.0)), ((λ p b o v h. (h.0, h.1.0)), ((λ p b o v h. h.0 p), ((λ p b o v h. h.0), ((λ p b o v h. h.0), ((λ p b o v h. h.0 p o), tt))))))))) (then-in out TheAssign TheStatement (Just t.Semicolon) (λ u w. Assignment u) (λ u w hu hw. hu) assign_rows make_assign (assign-in out))

pub after_drop-in : (out : Range) → RowsIn out AfterDrop after_drop_rows make_after_drop
after_drop-in out = ((λ p b o v h q. h.0), ((λ p b o v h q. h.0), tt))

pub after_log-in : (out : Range) → RowsIn out AfterLog after_log_rows make_after_log
after_log-in out = ((λ p b o v h q g. (o, h.1.0, h.1.1.0)), ((λ p b o v h q g. ((g, h.0), h.1.0)), tt))

pub rows-in : (out : Range) (s : Symbol) → RowsIn out s (rows s) (makes s)
rows-in out TheName = name-in out
rows-in out Comma = comma-in out
rows-in out DateText = date_text-in out
rows-in out MomentText = moment_text-in out
rows-in out NegativeDigits = negative_digits-in out
rows-in out ThePrimary = primary-in out
rows-in out AfterName = after_name-in out
rows-in out AfterScalar = after_scalar-in out
rows-in out EndOfSelector = end_of_selector-in out
rows-in out InParens = in_parens-in out
rows-in out InPair = in_pair-in out
rows-in out InPoint = in_point-in out
rows-in out TheSign = sign-in out
rows-in out TheProd = prod-in out
rows-in out MoreProd = more_prod-in out
rows-in out TheSum = sum-in out
rows-in out MoreSum = more_sum-in out
rows-in out TheCmp = cmp-in out
rows-in out MoreCmp = more_cmp-in out
rows-in out TheNeg = neg-in out
rows-in out TheConj = conj-in out
rows-in out MoreAnd = more_and-in out
rows-in out TheScalar = scalar-in out
rows-in out MoreOr = more_or-in out
rows-in out ThePoint = point-in out
rows-in out TheKind = kind-in out
rows-in out TheAttribute = attribute-in out
rows-in out MoreAttributes = more_attributes-in out
rows-in out InHeading = in_heading-in out
rows-in out TheHeading = heading-in out
rows-in out MoreNames = more_names-in out
rows-in out InNames = in_names-in out
rows-in out InList = in_list-in out
rows-in out TheNames = names-in out
rows-in out TheList = list-in out
rows-in out TheSomeNames = some_names-in out
rows-in out TheParenName = paren_name-in out
rows-in out TheElement = element-in out
rows-in out MoreElements = more_elements-in out
rows-in out InElements = in_elements-in out
rows-in out TheElements = elements-in out
rows-in out TheSomeElements = some_elements-in out
rows-in out TheTuple = tuple-in out
rows-in out MoreTuples = more_tuples-in out
rows-in out InTuples = in_tuples-in out
rows-in out TheTuples = tuples-in out
rows-in out TheLiteral = literal-in out
rows-in out AfterRelation = after_relation-in out
rows-in out TheSetItem = set_item-in out
rows-in out MoreSetItems = more_set_items-in out
rows-in out TheSets = sets-in out
rows-in out EmptyParens = empty_parens-in out
rows-in out TheAggregateForm = aggregate_form-in out
rows-in out TheAggregate = aggregate-in out
rows-in out MoreAggregates = more_aggregates-in out
rows-in out TheAggregates = aggregates-in out
rows-in out TheRenaming = renaming-in out
rows-in out MoreRenamings = more_renamings-in out
rows-in out TheRenamings = renamings-in out
rows-in out ThePortion = portion-in out
rows-in out MaybePortion = maybe_portion-in out
rows-in out MaybeWhere = maybe_where-in out
rows-in out InProjection = in_projection-in out
rows-in out TheOperand = operand-in out
rows-in out TheExtend = extend-in out
rows-in out TheSummarize = summarize-in out
rows-in out TheRelPrimary = rel_primary-in out
rows-in out TheTerm = term-in out
rows-in out MorePostfix = more_postfix-in out
rows-in out TheTerms = terms-in out
rows-in out MoreInfix = more_infix-in out
rows-in out TheUsing = using-in out
rows-in out TheRel = rel-in out
rows-in out TheUsingPart = using_part-in out
rows-in out AfterOperand = after_operand-in out
rows-in out TheKey = key-in out
rows-in out TheForeign = foreign-in out
rows-in out TheUsedConstraint = used_constraint-in out
rows-in out TheConstraint = constraint-in out
rows-in out MoreConstraints = more_constraints-in out
rows-in out InRel = in_rel-in out
rows-in out TheKept = kept-in out
rows-in out AfterKept = after_kept-in out
rows-in out InKept = in_kept-in out
rows-in out TheVarForm = var_form-in out
rows-in out TheComparison = comparison-in out
rows-in out AfterLeft = after_left-in out
rows-in out TheTest = test-in out
rows-in out TheUsedDeletion = used_deletion-in out
rows-in out TheUsedItem = used_item-in out
rows-in out TheDeletion = deletion-in out
rows-in out TheItem = item-in out
rows-in out MoreItems = more_items-in out
rows-in out TheAssign = assign-in out
rows-in out TheStatement = statement-in out
rows-in out AfterDrop = after_drop-in out
rows-in out AfterLog = after_log-in out
rows-in out (Just x) = ((λ p b o v h. tt), tt)
rows-in out (Worded w) = ((λ p b o v h. tt), tt)
rows-in out (Shut outer) = tt
