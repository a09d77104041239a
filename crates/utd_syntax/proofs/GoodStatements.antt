-- Written by tools/grammar; change it there.
-- The rows of declarations and of statements keep stacks good.
use Rattle.std.proofs.Common.{ℕ, List, [], ◌∷◌, ◌++◌, Bool, true, false, cond, refl}
use Rattle.utd_syntax.specs.declared.terminal.Terminal.{Terminal}
use Rattle.utd_syntax.specs.Table.{Symbol, TheName, Comma, DateText, MomentText, NegativeDigits, ThePrimary, AfterName, AfterScalar, EndOfSelector, InParens, InPair, InPoint, TheSign, TheProd, MoreProd, TheSum, MoreSum, TheCmp, MoreCmp, TheNeg, TheConj, MoreAnd, TheScalar, MoreOr, ThePoint, TheKind, TheAttribute, MoreAttributes, InHeading, TheHeading, MoreNames, InNames, InList, TheNames, TheList, TheSomeNames, TheParenName, TheElement, MoreElements, InElements, TheElements, TheSomeElements, TheTuple, MoreTuples, InTuples, TheTuples, TheLiteral, AfterRelation, TheSetItem, MoreSetItems, TheSets, EmptyParens, TheAggregateForm, TheAggregate, MoreAggregates, TheAggregates, TheRenaming, MoreRenamings, TheRenamings, ThePortion, MaybePortion, MaybeWhere, InProjection, TheOperand, TheExtend, TheSummarize, TheRelPrimary, TheTerm, MorePostfix, TheTerms, MoreInfix, TheUsing, TheRel, TheUsingPart, AfterOperand, TheKey, TheForeign, TheUsedConstraint, TheConstraint, MoreConstraints, InRel, TheKept, AfterKept, InKept, TheVarForm, TheComparison, AfterLeft, TheTest, TheUsedDeletion, TheUsedItem, TheDeletion, TheItem, MoreItems, TheAssign, TheStatement, AfterDrop, AfterLog, Just, Worded, Shut, Taking, Turn, Takes, Row, on, spelt, before, rows, may_end, same, fits, chosen, find, turn, key_rows, foreign_rows, used_constraint_rows, constraint_rows, more_constraints_rows, in_rel_rows, kept_rows, after_kept_rows, in_kept_rows, var_form_rows, comparison_rows, after_left_rows, test_rows, used_deletion_rows, used_item_rows, deletion_rows, item_rows, more_items_rows, assign_rows, statement_rows, after_drop_rows, after_log_rows}
use Rattle.utd_syntax.proofs.FormValues.{inner}
use Rattle.utd_syntax.proofs.Accepted.{row}
use Rattle.utd_syntax.proofs.Completions.{Good}
use Rattle.utd_syntax.proofs.GoodScalars.{GoodForms, GoodRow, GoodRows, good-the_name, good-comma, good-date_text, good-moment_text, good-negative_digits, good-the_primary, good-after_name, good-after_scalar, good-end_of_selector, good-in_parens, good-in_pair, good-in_point, good-the_sign, good-the_prod, good-more_prod, good-the_sum, good-more_sum, good-the_cmp, good-more_cmp, good-the_neg, good-the_conj, good-more_and, good-the_scalar, good-more_or, good-the_point, good-the_kind, good-the_attribute, good-more_attributes, good-in_heading, good-the_heading, good-more_names, good-in_names, good-in_list, good-the_names}
use Rattle.utd_syntax.proofs.GoodRelations.{good-the_list, good-the_some_names, good-the_paren_name, good-the_element, good-more_elements, good-in_elements, good-the_elements, good-the_some_elements, good-the_tuple, good-more_tuples, good-in_tuples, good-the_tuples, good-the_literal, good-after_relation, good-the_set_item, good-more_set_items, good-the_sets, good-empty_parens, good-the_aggregate_form, good-the_aggregate, good-more_aggregates, good-the_aggregates, good-the_renaming, good-more_renamings, good-the_renamings, good-the_portion, good-maybe_portion, good-maybe_where, good-in_projection, good-the_operand, good-the_extend, good-the_summarize, good-the_rel_primary, good-the_term, good-more_postfix, good-the_terms, good-more_infix, good-the_using, good-the_rel, good-the_using_part, good-after_operand}

pub good-the_key : GoodRows TheKey key_rows
good-the_key = ((λ st g. (tt, g.1)), tt)

pub good-the_foreign : GoodRows TheForeign foreign_rows
good-the_foreign = ((λ st g. (refl, (tt, (refl, (tt, g.1))))), tt)

pub good-the_used_constraint : GoodRows TheUsedConstraint used_constraint_rows
good-the_used_constraint = (
  (λ st g. (tt, g.1)),
  (
    (λ st g. (refl, (tt, (refl, (tt, g.1))))),
    tt,
  ),
)

pub good-the_constraint : GoodRows TheConstraint constraint_rows
good-the_constraint = (
  (λ st g. (tt, g.1)),
  (
    (λ st g. (refl, (tt, (refl, (tt, g.1))))),
    (
      (λ st g. (refl, (tt, g.1))),
      (
        (λ st g. (refl, (refl, (tt, (refl, (tt, g.1)))))),
        (
          (λ st g. (tt, (refl, (tt, g.1)))),
          tt,
        ),
      ),
    ),
  ),
)

pub good-more_constraints : GoodRows MoreConstraints more_constraints_rows
good-more_constraints = (
  (λ st g. (tt, (g.0, g.1))),
  (
    (λ st g. (refl, (tt, (refl, (tt, (g.0, g.1)))))),
    (
      (λ st g. (refl, (tt, (g.0, g.1)))),
      (
        (λ st g. (refl, (refl, (tt, (refl, (tt, (g.0, g.1))))))),
        (
          (λ st g. (tt, (refl, (tt, (g.0, g.1))))),
          tt,
        ),
      ),
    ),
  ),
)

pub good-in_rel : GoodRows InRel in_rel_rows
good-in_rel = ((λ st g. ((refl, (refl, (refl, (refl, (refl, (refl, (refl, refl))))))), (refl, g.1))), tt)

pub good-the_kept : GoodRows TheKept kept_rows
good-the_kept = (
  (λ st g. (tt, (refl, (tt, (tt, g.1))))),
  (
    (λ st g. (tt, (refl, (tt, g.1)))),
    tt,
  ),
)

pub good-after_kept : GoodRows AfterKept after_kept_rows
good-after_kept = (
  (λ st g. (tt, g.1)),
  (
    (λ st g. (tt, g.1)),
    (
      (λ st g. (tt, g.1)),
      (
        (λ st g. (tt, g.1)),
        (
          (λ st g. (tt, g.1)),
          (
            (λ st g. (refl, (tt, g.1))),
            (
              (λ st g. (tt, g.1)),
              tt,
            ),
          ),
        ),
      ),
    ),
  ),
)

pub good-in_kept : GoodRows InKept in_kept_rows
good-in_kept = ((λ st g. (tt, (refl, g.1))), tt)

pub good-the_var_form : GoodRows TheVarForm var_form_rows
good-the_var_form = (
  (λ st g. (tt, (g.0, g.1))),
  (
    (λ st g. (tt, g.1)),
    (
      (λ st g. (tt, g.1)),
      tt,
    ),
  ),
)

pub good-the_comparison : GoodRows TheComparison comparison_rows
good-the_comparison = (
  (λ st g. (tt, g.1)),
  (
    (λ st g. (tt, (tt, g.1))),
    (
      (λ st g. ((refl, (refl, (refl, (refl, (refl, (refl, (refl, refl))))))), (refl, (tt, g.1)))),
      (
        (λ st g. ((refl, (refl, (refl, (refl, (refl, (refl, (refl, refl))))))), (refl, (tt, (tt, g.1))))),
        (
          (λ st g. ((refl, (refl, (refl, (refl, (refl, (refl, (refl, refl))))))), (refl, (tt, (tt, g.1))))),
          tt,
        ),
      ),
    ),
  ),
)

pub good-after_left : GoodRows AfterLeft after_left_rows
good-after_left = (
  (λ st g. (tt, g.1)),
  (
    (λ st g. (tt, g.1)),
    (
      (λ st g. (tt, g.1)),
      (
        (λ st g. (tt, g.1)),
        (
          (λ st g. (tt, g.1)),
          (
            (λ st g. (tt, g.1)),
            tt,
          ),
        ),
      ),
    ),
  ),
)

pub good-the_test : GoodRows TheTest test_rows
good-the_test = (
  (λ st g. (tt, (refl, (tt, g.1)))),
  (
    (λ st g. (tt, g.1)),
    (
      (λ st g. (tt, g.1)),
      (
        (λ st g. (tt, g.1)),
        (
          (λ st g. (tt, (tt, g.1))),
          (
            (λ st g. ((refl, (refl, (refl, (refl, (refl, (refl, (refl, refl))))))), (refl, (tt, g.1)))),
            (
              (λ st g. ((refl, (refl, (refl, (refl, (refl, (refl, (refl, refl))))))), (refl, (tt, (tt, g.1))))),
              (
                (λ st g. ((refl, (refl, (refl, (refl, (refl, (refl, (refl, refl))))))), (refl, (tt, (tt, g.1))))),
                tt,
              ),
            ),
          ),
        ),
      ),
    ),
  ),
)

pub good-the_used_deletion : GoodRows TheUsedDeletion used_deletion_rows
good-the_used_deletion = (
  (λ st g. (g.0.1.1, g.1)),
  (
    (λ st g. (tt, (refl, (g.0.1.1, g.1)))),
    (
      (λ st g. ((refl, (refl, (refl, (refl, (refl, (refl, (refl, refl))))))), (refl, (tt, (g.0.1, (g.0, g.1)))))),
      (
        (λ st g. ((refl, (refl, (refl, (refl, (refl, (refl, (refl, refl))))))), (refl, (tt, (refl, (tt, (g.0.1, (g.0, g.1)))))))),
        (
          (λ st g. (g.0.1, (g.0, g.1))),
          (
            (λ st g. (tt, (g.0.1, (g.0, g.1)))),
            (
              (λ st g. ((refl, (refl, (refl, (refl, (refl, (refl, (refl, refl))))))), (refl, (g.0.1, (g.0, g.1))))),
              (
                (λ st g. ((refl, (refl, (refl, (refl, (refl, (refl, (refl, refl))))))), (refl, (tt, (g.0.1, (g.0, g.1)))))),
                (
                  (λ st g. ((refl, (refl, (refl, (refl, (refl, (refl, (refl, refl))))))), (refl, (tt, (g.0.1, (g.0, g.1)))))),
                  tt,
                ),
              ),
            ),
          ),
        ),
      ),
    ),
  ),
)

pub good-the_used_item : GoodRows TheUsedItem used_item_rows
good-the_used_item = (
  (λ st g. (tt, (g.0, g.1))),
  (
    (λ st g. (tt, (g.0, g.1))),
    (
      (λ st g. (tt, ((refl, (refl, (refl, (refl, (refl, (refl, refl)))))), (refl, (tt, g.1))))),
      tt,
    ),
  ),
)

pub good-the_deletion : GoodRows TheDeletion deletion_rows
good-the_deletion = (
  (λ st g. (g.0.1.1.1, g.1)),
  (
    (λ st g. (tt, ((g.0.0, g.0.1.1.1), g.1))),
    (
      (λ st g. (tt, (refl, (g.0.1.1.1, g.1)))),
      (
        (λ st g. ((refl, (refl, (refl, (refl, (refl, (refl, (refl, refl))))))), (refl, (tt, (g.0.1.1, (g.0.1, g.1)))))),
        (
          (λ st g. ((refl, (refl, (refl, (refl, (refl, (refl, (refl, refl))))))), (refl, (tt, (refl, (tt, (g.0.1.1, (g.0.1, g.1)))))))),
          (
            (λ st g. (g.0.1.1, (g.0.1, g.1))),
            (
              (λ st g. (tt, (g.0.1.1, (g.0.1, g.1)))),
              (
                (λ st g. ((refl, (refl, (refl, (refl, (refl, (refl, (refl, refl))))))), (refl, (g.0.1.1, (g.0.1, g.1))))),
                (
                  (λ st g. ((refl, (refl, (refl, (refl, (refl, (refl, (refl, refl))))))), (refl, (tt, (g.0.1.1, (g.0.1, g.1)))))),
                  (
                    (λ st g. ((refl, (refl, (refl, (refl, (refl, (refl, (refl, refl))))))), (refl, (tt, (g.0.1.1, (g.0.1, g.1)))))),
                    tt,
                  ),
                ),
              ),
            ),
          ),
        ),
      ),
    ),
  ),
)

pub good-the_item : GoodRows TheItem item_rows
good-the_item = (
  (λ st g. (refl, (g.0.1, g.1))),
  (
    (λ st g. (tt, (g.0.1, g.1))),
    (
      (λ st g. (tt, (g.0, g.1))),
      (
        (λ st g. (tt, (refl, ((refl, (refl, (refl, (refl, (refl, (refl, refl)))))), (refl, (tt, g.1)))))),
        (
          (λ st g. (tt, (refl, (g.0.1.1.1, ((g.0.0, g.0.1.1.1), g.1))))),
          (
            (λ st g. (tt, (refl, (g.0.1, g.1)))),
            tt,
          ),
        ),
      ),
    ),
  ),
)

pub good-more_items : GoodRows MoreItems more_items_rows
good-more_items = ((λ st g. (g.0.1, (g.0, g.1))), tt)

pub good-the_assign : GoodRows TheAssign assign_rows
good-the_assign = (
  (λ st g. (refl, (g.0.1.1, (g.0, g.1)))),
  (
    (λ st g. (tt, (g.0.1.1, (g.0, g.1)))),
    (
      (λ st g. (tt, (g.0.1, (g.0, g.1)))),
      (
        (λ st g. (tt, (refl, ((refl, (refl, (refl, (refl, (refl, (refl, refl)))))), (refl, (tt, (g.0, g.1))))))),
        (
          (λ st g. (tt, (refl, (g.0.1.1.1.1, ((g.0.1.0, g.0.1.1.1.1), (g.0, g.1)))))),
          (
            (λ st g. (tt, (refl, (g.0.1.1, (g.0, g.1))))),
            tt,
          ),
        ),
      ),
    ),
  ),
)

pub good-the_statement : GoodRows TheStatement statement_rows
good-the_statement = (
  (λ st g. g.1),
  (
    (λ st g. (tt, (refl, (tt, (refl, g.1))))),
    (
      (λ st g. (tt, (refl, (refl, g.1)))),
      (
        (λ st g. (tt, (tt, (tt, (refl, (tt, (tt, (refl, (tt, (tt, (refl, (tt, (refl, g.1))))))))))))),
        (
          (λ st g. (tt, (tt, (refl, g.1)))),
          (
            (λ st g. (tt, g.1)),
            (
              (λ st g. ((refl, (refl, (refl, (refl, (refl, (refl, (refl, refl))))))), (refl, g.1))),
              (
                (λ st g. (tt, (refl, g.1))),
                (
                  (λ st g. (tt, g.1)),
                  (
                    (λ st g. (refl, ((refl, (refl, (refl, (refl, (refl, (refl, (refl, refl))))))), ((refl, (refl, (refl, (refl, (refl, (refl, (refl, (refl, (refl, refl))))))))), (refl, g.1))))),
                    (
                      (λ st g. (tt, ((refl, (refl, (refl, (refl, (refl, (refl, (refl, refl))))))), ((refl, (refl, (refl, (refl, (refl, (refl, (refl, (refl, (refl, refl))))))))), (refl, g.1))))),
                      (
                        (λ st g. (tt, ((refl, (refl, (refl, (refl, (refl, (refl, (refl, (refl, refl)))))))), ((refl, (refl, (refl, (refl, (refl, (refl, (refl, (refl, (refl, refl))))))))), (refl, g.1))))),
                        (
                          (λ st g. (tt, (refl, ((refl, (refl, (refl, (refl, (refl, (refl, refl)))))), (refl, (tt, ((refl, (refl, (refl, (refl, (refl, (refl, (refl, (refl, (refl, refl))))))))), (refl, g.1)))))))),
                          (
                            (λ st g. (tt, (refl, ((refl, (refl, (refl, (refl, (refl, refl))))), ((refl, (refl, (refl, (refl, (refl, (refl, refl)))))), ((refl, (refl, (refl, (refl, (refl, (refl, (refl, (refl, (refl, refl))))))))), (refl, g.1))))))),
                            (
                              (λ st g. (tt, (refl, ((refl, (refl, (refl, (refl, (refl, (refl, (refl, refl))))))), ((refl, (refl, (refl, (refl, (refl, (refl, (refl, (refl, (refl, refl))))))))), (refl, g.1)))))),
                              tt,
                            ),
                          ),
                        ),
                      ),
                    ),
                  ),
                ),
              ),
            ),
          ),
        ),
      ),
    ),
  ),
)

pub good-after_drop : GoodRows AfterDrop after_drop_rows
good-after_drop = (
  (λ st g. (tt, (refl, g.1))),
  (
    (λ st g. (tt, (refl, g.1))),
    tt,
  ),
)

pub good-after_log : GoodRows AfterLog after_log_rows
good-after_log = (
  (λ st g. (refl, (tt, (tt, (refl, g.1))))),
  (
    (λ st g. ((refl, (refl, (refl, (refl, (refl, (refl, (refl, refl))))))), ((refl, (refl, (refl, (refl, (refl, (refl, (refl, (refl, (refl, refl))))))))), (refl, g.1)))),
    tt,
  ),
)

pub good-rows : (s : Symbol) → GoodRows s (rows s)
good-rows TheName = good-the_name
good-rows Comma = good-comma
good-rows DateText = good-date_text
good-rows MomentText = good-moment_text
good-rows NegativeDigits = good-negative_digits
good-rows ThePrimary = good-the_primary
good-rows AfterName = good-after_name
good-rows AfterScalar = good-after_scalar
good-rows EndOfSelector = good-end_of_selector
good-rows InParens = good-in_parens
good-rows InPair = good-in_pair
good-rows InPoint = good-in_point
good-rows TheSign = good-the_sign
good-rows TheProd = good-the_prod
good-rows MoreProd = good-more_prod
good-rows TheSum = good-the_sum
good-rows MoreSum = good-more_sum
good-rows TheCmp = good-the_cmp
good-rows MoreCmp = good-more_cmp
good-rows TheNeg = good-the_neg
good-rows TheConj = good-the_conj
good-rows MoreAnd = good-more_and
good-rows TheScalar = good-the_scalar
good-rows MoreOr = good-more_or
good-rows ThePoint = good-the_point
good-rows TheKind = good-the_kind
good-rows TheAttribute = good-the_attribute
good-rows MoreAttributes = good-more_attributes
good-rows InHeading = good-in_heading
good-rows TheHeading = good-the_heading
good-rows MoreNames = good-more_names
good-rows InNames = good-in_names
good-rows InList = good-in_list
good-rows TheNames = good-the_names
good-rows TheList = good-the_list
good-rows TheSomeNames = good-the_some_names
good-rows TheParenName = good-the_paren_name
good-rows TheElement = good-the_element
good-rows MoreElements = good-more_elements
good-rows InElements = good-in_elements
good-rows TheElements = good-the_elements
good-rows TheSomeElements = good-the_some_elements
good-rows TheTuple = good-the_tuple
good-rows MoreTuples = good-more_tuples
good-rows InTuples = good-in_tuples
good-rows TheTuples = good-the_tuples
good-rows TheLiteral = good-the_literal
good-rows AfterRelation = good-after_relation
good-rows TheSetItem = good-the_set_item
good-rows MoreSetItems = good-more_set_items
good-rows TheSets = good-the_sets
good-rows EmptyParens = good-empty_parens
good-rows TheAggregateForm = good-the_aggregate_form
good-rows TheAggregate = good-the_aggregate
good-rows MoreAggregates = good-more_aggregates
good-rows TheAggregates = good-the_aggregates
good-rows TheRenaming = good-the_renaming
good-rows MoreRenamings = good-more_renamings
good-rows TheRenamings = good-the_renamings
good-rows ThePortion = good-the_portion
good-rows MaybePortion = good-maybe_portion
good-rows MaybeWhere = good-maybe_where
good-rows InProjection = good-in_projection
good-rows TheOperand = good-the_operand
good-rows TheExtend = good-the_extend
good-rows TheSummarize = good-the_summarize
good-rows TheRelPrimary = good-the_rel_primary
good-rows TheTerm = good-the_term
good-rows MorePostfix = good-more_postfix
good-rows TheTerms = good-the_terms
good-rows MoreInfix = good-more_infix
good-rows TheUsing = good-the_using
good-rows TheRel = good-the_rel
good-rows TheUsingPart = good-the_using_part
good-rows AfterOperand = good-after_operand
good-rows TheKey = good-the_key
good-rows TheForeign = good-the_foreign
good-rows TheUsedConstraint = good-the_used_constraint
good-rows TheConstraint = good-the_constraint
good-rows MoreConstraints = good-more_constraints
good-rows InRel = good-in_rel
good-rows TheKept = good-the_kept
good-rows AfterKept = good-after_kept
good-rows InKept = good-in_kept
good-rows TheVarForm = good-the_var_form
good-rows TheComparison = good-the_comparison
good-rows AfterLeft = good-after_left
good-rows TheTest = good-the_test
good-rows TheUsedDeletion = good-the_used_deletion
good-rows TheUsedItem = good-the_used_item
good-rows TheDeletion = good-the_deletion
good-rows TheItem = good-the_item
good-rows MoreItems = good-more_items
good-rows TheAssign = good-the_assign
good-rows TheStatement = good-the_statement
good-rows AfterDrop = good-after_drop
good-rows AfterLog = good-after_log
good-rows (Just x) = ((λ st g. g.1), tt)
good-rows (Worded w) = ((λ st g. g.1), tt)
good-rows (Shut outer) = tt

pub good-case : (s : Symbol) (c : Bool) (how how' : Taking) (more more' : List Symbol) → GoodForms s (inner how ++ more) → GoodForms s (inner how' ++ more') → GoodForms s (row (cond c (Takes how more) (Takes how' more')))
good-case s true how how' more more' h g = h
good-case s false how how' more more' h g = g

pub good-chosen : (s : Symbol) (r : Row) (n : Terminal) → GoodRow s r → GoodForms s (row (chosen r n))
good-chosen s (on x how more) n h = h
good-chosen s (spelt c more) n h = h
good-chosen s (before x y how more how' more') n h = good-case s (same y n) how how' more more' h.0 h.1

pub good-pick : (s : Symbol) (c : Bool) (r r' : Turn) → GoodForms s (row r) → GoodForms s (row r') → GoodForms s (row (cond c r r'))
good-pick s true r r' h g = h
good-pick s false r r' h g = g

pub good-find : (s : Symbol) (rs : List Row) (e : Bool) (x : Terminal) (b : List ℕ) (n : Terminal) → GoodRows s rs → GoodForms s (row (find rs e x b n))
good-find s [] true x b n h = λ st g. g.1
good-find s [] false x b n h = λ st g. g.1
good-find s (r ∷ rs) e x b n h = good-pick s (fits r x b) (chosen r n) (find rs e x b n) (good-chosen s r n h.0) (good-find s rs e x b n h.1)

pub good-row : (s : Symbol) (x : Terminal) (b : List ℕ) (n : Terminal) (st : List Symbol) → Good (s ∷ st) → Good (row (turn s x b n) ++ st)
good-row s x b n = good-find s (rows s) (may_end s) x b n (good-rows s)
