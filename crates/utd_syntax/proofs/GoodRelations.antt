-- Written by tools/grammar; change it there.
-- The rows of lists and of relations keep stacks good.
use Rattle.std.proofs.Common.{refl}
use Rattle.utd_syntax.specs.Table.{TheList, TheSomeNames, TheParenName, TheElement, MoreElements, InElements, TheElements, TheSomeElements, TheTuple, MoreTuples, InTuples, TheTuples, TheLiteral, AfterRelation, TheSetItem, MoreSetItems, TheSets, EmptyParens, TheAggregateForm, TheAggregate, MoreAggregates, TheAggregates, TheRenaming, MoreRenamings, TheRenamings, ThePortion, MaybePortion, MaybeWhere, InProjection, TheOperand, TheExtend, TheSummarize, TheRelPrimary, TheTerm, MorePostfix, TheTerms, MoreInfix, TheUsing, TheRel, TheUsingPart, AfterOperand, list_rows, some_names_rows, paren_name_rows, element_rows, more_elements_rows, in_elements_rows, elements_rows, some_elements_rows, tuple_rows, more_tuples_rows, in_tuples_rows, tuples_rows, literal_rows, after_relation_rows, set_item_rows, more_set_items_rows, sets_rows, empty_parens_rows, aggregate_form_rows, aggregate_rows, more_aggregates_rows, aggregates_rows, renaming_rows, more_renamings_rows, renamings_rows, portion_rows, maybe_portion_rows, maybe_where_rows, in_projection_rows, operand_rows, extend_rows, summarize_rows, rel_primary_rows, term_rows, more_postfix_rows, terms_rows, more_infix_rows, using_rows, rel_rows, using_part_rows, after_operand_rows}
use Rattle.utd_syntax.proofs.GoodScalars.{GoodRows}

pub good-the_list : GoodRows TheList list_rows
good-the_list = ((λ st g. (tt, g.1)), tt)

pub good-the_some_names : GoodRows TheSomeNames some_names_rows
good-the_some_names = ((λ st g. (tt, (refl, (refl, g.1)))), tt)

pub good-the_paren_name : GoodRows TheParenName paren_name_rows
good-the_paren_name = ((λ st g. (tt, (refl, g.1))), tt)

pub good-the_element : GoodRows TheElement element_rows
good-the_element = ((λ st g. (g.0, g.1)), tt)

pub good-more_elements : GoodRows MoreElements more_elements_rows
good-more_elements = ((λ st g. (g.0.1, (g.0, g.1))), tt)

pub good-in_elements : GoodRows InElements in_elements_rows
good-in_elements = (
  (λ st g. g.1),
  (
    (λ st g. ((refl, (refl, (refl, (refl, (refl, refl))))), ((refl, (refl, (refl, (refl, (refl, (refl, refl)))))), (refl, g.1)))),
    tt,
  ),
)

pub good-the_elements : GoodRows TheElements elements_rows
good-the_elements = ((λ st g. (tt, g.1)), tt)

pub good-the_some_elements : GoodRows TheSomeElements some_elements_rows
good-the_some_elements = ((λ st g. ((refl, (refl, (refl, (refl, (refl, refl))))), ((refl, (refl, (refl, (refl, (refl, (refl, refl)))))), (refl, g.1)))), tt)

pub good-the_tuple : GoodRows TheTuple tuple_rows
good-the_tuple = ((λ st g. (tt, g.1)), tt)

pub good-more_tuples : GoodRows MoreTuples more_tuples_rows
good-more_tuples = ((λ st g. (tt, (g.0, g.1))), tt)

pub good-in_tuples : GoodRows InTuples in_tuples_rows
good-in_tuples = (
  (λ st g. g.1),
  (
    (λ st g. (tt, (refl, (refl, g.1)))),
    tt,
  ),
)

pub good-the_tuples : GoodRows TheTuples tuples_rows
good-the_tuples = ((λ st g. (tt, g.1)), tt)

pub good-the_literal : GoodRows TheLiteral literal_rows
good-the_literal = ((λ st g. (tt, g.1)), tt)

pub good-after_relation : GoodRows AfterRelation after_relation_rows
good-after_relation = (((λ st g. (tt, (refl, (refl, g.1)))), (λ st g. (tt, (tt, g.1)))), tt)

pub good-the_set_item : GoodRows TheSetItem set_item_rows
good-the_set_item = ((λ st g. (refl, (g.0, g.1))), tt)

pub good-more_set_items : GoodRows MoreSetItems more_set_items_rows
good-more_set_items = ((λ st g. (g.0.1, (g.0, g.1))), tt)

pub good-the_sets : GoodRows TheSets sets_rows
good-the_sets = ((λ st g. ((refl, (refl, (refl, (refl, (refl, refl))))), ((refl, (refl, (refl, (refl, (refl, (refl, refl)))))), (refl, g.1)))), tt)

pub good-empty_parens : GoodRows EmptyParens empty_parens_rows
good-empty_parens = ((λ st g. (refl, g.1)), tt)

pub good-the_aggregate_form : GoodRows TheAggregateForm aggregate_form_rows
good-the_aggregate_form = (
  (λ st g. (tt, g.1)),
  (
    (λ st g. (tt, g.1)),
    (
      (λ st g. (tt, g.1)),
      (
        (λ st g. (tt, g.1)),
        tt,
      ),
    ),
  ),
)

pub good-the_aggregate : GoodRows TheAggregate aggregate_rows
good-the_aggregate = ((λ st g. (refl, (tt, g.1))), tt)

pub good-more_aggregates : GoodRows MoreAggregates more_aggregates_rows
good-more_aggregates = ((λ st g. (tt, (g.0, g.1))), tt)

pub good-the_aggregates : GoodRows TheAggregates aggregates_rows
good-the_aggregates = ((λ st g. (tt, (refl, (refl, g.1)))), tt)

pub good-the_renaming : GoodRows TheRenaming renaming_rows
good-the_renaming = ((λ st g. (refl, (tt, g.1))), tt)

pub good-more_renamings : GoodRows MoreRenamings more_renamings_rows
good-more_renamings = ((λ st g. (tt, (g.0, g.1))), tt)

pub good-the_renamings : GoodRows TheRenamings renamings_rows
good-the_renamings = ((λ st g. (tt, (refl, (refl, g.1)))), tt)

pub good-the_portion : GoodRows ThePortion portion_rows
good-the_portion = ((λ st g. (tt, g.1)), tt)

pub good-maybe_portion : GoodRows MaybePortion maybe_portion_rows
good-maybe_portion = ((λ st g. (tt, g.1)), tt)

pub good-maybe_where : GoodRows MaybeWhere maybe_where_rows
good-maybe_where = ((λ st g. (g.0.1, g.1)), tt)

pub good-in_projection : GoodRows InProjection in_projection_rows
good-in_projection = (
  (λ st g. g.1),
  (
    (λ st g. (refl, (refl, g.1))),
    (
      (λ st g. (refl, (tt, (refl, (refl, g.1))))),
      tt,
    ),
  ),
)

pub good-the_operand : GoodRows TheOperand operand_rows
good-the_operand = (
  (λ st g. g.1),
  (
    (λ st g. (tt, g.1)),
    (
      (λ st g. ((refl, (refl, (refl, (refl, (refl, (refl, (refl, refl))))))), (refl, g.1))),
      (
        (λ st g. ((refl, (refl, (refl, (refl, (refl, (refl, (refl, refl))))))), (refl, (tt, g.1)))),
        (
          (λ st g. ((refl, (refl, (refl, (refl, (refl, (refl, (refl, refl))))))), (refl, (tt, g.1)))),
          tt,
        ),
      ),
    ),
  ),
)

pub good-the_extend : GoodRows TheExtend extend_rows
good-the_extend = ((λ st g. ((refl, (refl, (refl, (refl, (refl, (refl, (refl, refl))))))), (refl, (tt, g.1)))), tt)

pub good-the_summarize : GoodRows TheSummarize summarize_rows
good-the_summarize = ((λ st g. ((refl, (refl, (refl, (refl, (refl, (refl, (refl, refl))))))), (refl, (tt, (refl, (tt, g.1)))))), tt)

pub good-the_rel_primary : GoodRows TheRelPrimary rel_primary_rows
good-the_rel_primary = (
  (λ st g. ((refl, (refl, (refl, (refl, (refl, (refl, (refl, refl))))))), (refl, (tt, g.1)))),
  (
    (λ st g. ((refl, (refl, (refl, (refl, (refl, (refl, (refl, refl))))))), (refl, (tt, (refl, (tt, g.1)))))),
    (
      (λ st g. g.1),
      (
        (λ st g. (tt, g.1)),
        (
          (λ st g. ((refl, (refl, (refl, (refl, (refl, (refl, (refl, refl))))))), (refl, g.1))),
          (
            (λ st g. ((refl, (refl, (refl, (refl, (refl, (refl, (refl, refl))))))), (refl, (tt, g.1)))),
            (
              (λ st g. ((refl, (refl, (refl, (refl, (refl, (refl, (refl, refl))))))), (refl, (tt, g.1)))),
              tt,
            ),
          ),
        ),
      ),
    ),
  ),
)

pub good-the_term : GoodRows TheTerm term_rows
good-the_term = (
  (λ st g. ((refl, (refl, (refl, (refl, (refl, (refl, (refl, refl))))))), (refl, (tt, (g.0, g.1))))),
  (
    (λ st g. ((refl, (refl, (refl, (refl, (refl, (refl, (refl, refl))))))), (refl, (tt, (refl, (tt, (g.0, g.1))))))),
    (
      (λ st g. (g.0, g.1)),
      (
        (λ st g. (tt, (g.0, g.1))),
        (
          (λ st g. ((refl, (refl, (refl, (refl, (refl, (refl, (refl, refl))))))), (refl, (g.0, g.1)))),
          (
            (λ st g. ((refl, (refl, (refl, (refl, (refl, (refl, (refl, refl))))))), (refl, (tt, (g.0, g.1))))),
            (
              (λ st g. ((refl, (refl, (refl, (refl, (refl, (refl, (refl, refl))))))), (refl, (tt, (g.0, g.1))))),
              tt,
            ),
          ),
        ),
      ),
    ),
  ),
)

pub good-more_postfix : GoodRows MorePostfix more_postfix_rows
good-more_postfix = (
  (λ st g. (tt, (g.0, g.1))),
  (
    (λ st g. (g.0.1, (g.0, g.1))),
    (
      (λ st g. (tt, (g.0, g.1))),
      tt,
    ),
  ),
)

pub good-the_terms : GoodRows TheTerms terms_rows
good-the_terms = (
  (λ st g. ((refl, (refl, (refl, (refl, (refl, (refl, (refl, refl))))))), (refl, (tt, (g.0.1, (g.0, g.1)))))),
  (
    (λ st g. ((refl, (refl, (refl, (refl, (refl, (refl, (refl, refl))))))), (refl, (tt, (refl, (tt, (g.0.1, (g.0, g.1)))))))),
    (
      (λ st g. (g.0.1, (g.0, g.1))),
      (
        (λ st g. (tt, (g.0.1, (g.0, g.1)))),
        (
          (λ st g. ((refl, (refl, (refl, (refl, (refl, (refl, (refl, refl))))))), (refl, (g.0.1, (g.0, g.1))))),
          (
            (λ st g. ((refl, (refl, (refl, (refl, (refl, (refl, (refl, refl))))))), (refl, (tt, (g.0.1, (g.0, g.1)))))),
            (
              (λ st g. ((refl, (refl, (refl, (refl, (refl, (refl, (refl, refl))))))), (refl, (tt, (g.0.1, (g.0, g.1)))))),
              tt,
            ),
          ),
        ),
      ),
    ),
  ),
)

pub good-more_infix : GoodRows MoreInfix more_infix_rows
good-more_infix = (
  (λ st g. (g.0.1, (g.0, g.1))),
  (
    (λ st g. (g.0.1, (g.0, g.1))),
    (
      (λ st g. (g.0.1, (g.0, g.1))),
      (
        (λ st g. (g.0.1, (g.0, g.1))),
        (
          (λ st g. (g.0.1, (g.0, g.1))),
          (
            (λ st g. (refl, (g.0.1, (g.0, g.1)))),
            tt,
          ),
        ),
      ),
    ),
  ),
)

pub good-the_using : GoodRows TheUsing using_rows
good-the_using = ((λ st g. (tt, (refl, (g.0, g.1)))), tt)

pub good-the_rel : GoodRows TheRel rel_rows
good-the_rel = (
  (λ st g. (tt, (refl, (g.0.1.1, g.1)))),
  (
    (λ st g. ((refl, (refl, (refl, (refl, (refl, (refl, (refl, refl))))))), (refl, (tt, (g.0.1, (g.0, g.1)))))),
    (
      (λ st g. ((refl, (refl, (refl, (refl, (refl, (refl, (refl, refl))))))), (refl, (tt, (refl, (tt, (g.0.1, (g.0, g.1)))))))),
      (
        (λ st g. (g.0.1, (g.0, g.1))),
        (
          (λ st g. (tt, (g.0.1, (g.0, g.1)))),
          (
            (λ st g. ((refl, (refl, (refl, (refl, (refl, (refl, (refl, refl))))))), (refl, (g.0.1, (g.0, g.1))))),
            (
              (λ st g. ((refl, (refl, (refl, (refl, (refl, (refl, (refl, refl))))))), (refl, (tt, (g.0.1, (g.0, g.1)))))),
              (
                (λ st g. ((refl, (refl, (refl, (refl, (refl, (refl, (refl, refl))))))), (refl, (tt, (g.0.1, (g.0, g.1)))))),
                tt,
              ),
            ),
          ),
        ),
      ),
    ),
  ),
)

pub good-the_using_part : GoodRows TheUsingPart using_part_rows
good-the_using_part = (
  (λ st g. ((refl, (refl, (refl, (refl, (refl, (refl, (refl, refl))))))), (refl, (tt, g.1)))),
  (
    (λ st g. ((refl, (refl, (refl, (refl, (refl, (refl, (refl, refl))))))), (refl, (tt, (refl, (tt, g.1)))))),
    (
      (λ st g. (g.0, g.1)),
      (
        (λ st g. (tt, (g.0, g.1))),
        (
          (λ st g. ((refl, (refl, (refl, (refl, (refl, (refl, (refl, refl))))))), (refl, (g.0, g.1)))),
          (
            (λ st g. ((refl, (refl, (refl, (refl, (refl, (refl, (refl, refl))))))), (refl, (tt, (g.0, g.1))))),
            (
              (λ st g. ((refl, (refl, (refl, (refl, (refl, (refl, (refl, refl))))))), (refl, (tt, (g.0, g.1))))),
              tt,
            ),
          ),
        ),
      ),
    ),
  ),
)

pub good-after_operand : GoodRows AfterOperand after_operand_rows
good-after_operand = (
  (λ st g. (tt, g.1)),
  (
    (λ st g. (tt, g.1)),
    (
      (λ st g. (tt, g.1)),
      (
        (λ st g. (tt, g.1)),
        (
          (λ st g. (tt, g.1)),
          (
            (λ st g. (refl, (tt, g.1))),
            (
              (λ st g. (tt, g.1)),
              (
                (λ st g. (g.0, g.1)),
                tt,
              ),
            ),
          ),
        ),
      ),
    ),
  ),
)
