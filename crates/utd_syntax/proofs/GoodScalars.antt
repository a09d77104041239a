-- Written by tools/grammar; change it there.
-- The rows of row expressions and of parts of statements keep stacks good.
use Rattle.std.proofs.Common.{List, [], ◌∷◌, ◌++◌, refl}
use Rattle.utd_syntax.specs.Table.{Symbol, TheName, Comma, DateText, MomentText, NegativeDigits, ThePrimary, AfterName, AfterScalar, EndOfSelector, InParens, InPair, InPoint, TheSign, TheProd, MoreProd, TheSum, MoreSum, TheCmp, MoreCmp, TheNeg, TheConj, MoreAnd, TheScalar, MoreOr, ThePoint, TheKind, TheAttribute, MoreAttributes, InHeading, TheHeading, MoreNames, InNames, InList, TheNames, Row, on, spelt, before, name_rows, comma_rows, date_text_rows, moment_text_rows, negative_digits_rows, primary_rows, after_name_rows, after_scalar_rows, end_of_selector_rows, in_parens_rows, in_pair_rows, in_point_rows, sign_rows, prod_rows, more_prod_rows, sum_rows, more_sum_rows, cmp_rows, more_cmp_rows, neg_rows, conj_rows, more_and_rows, scalar_rows, more_or_rows, point_rows, kind_rows, attribute_rows, more_attributes_rows, in_heading_rows, heading_rows, more_names_rows, in_names_rows, in_list_rows, names_rows}
use Rattle.utd_syntax.proofs.FormValues.{inner}
use Rattle.utd_syntax.proofs.Completions.{Good}

-- the rows keep stacks good
abbrev pub GoodForms : Symbol → List Symbol → Type 0
GoodForms s forms = (st : List Symbol) → Good (s ∷ st) → Good (forms ++ st)

abbrev pub GoodRow : Symbol → Row → Type 0
GoodRow s (on x how more) = GoodForms s (inner how ++ more)
GoodRow s (spelt c more) = GoodForms s more
GoodRow s (before x y how more how' more') = GoodForms s (inner how ++ more) × GoodForms s (inner how' ++ more')

abbrev pub GoodRows : Symbol → List Row → Type 0
GoodRows s [] = Unit {0}
GoodRows s (r ∷ rs) = GoodRow s r × GoodRows s rs

pub good-the_name : GoodRows TheName name_rows
good-the_name = ((λ st g. g.1), tt)

pub good-comma : GoodRows Comma comma_rows
good-comma = ((λ st g. g.1), tt)

pub good-date_text : GoodRows DateText date_text_rows
good-date_text = ((λ st g. g.1), tt)

pub good-moment_text : GoodRows MomentText moment_text_rows
good-moment_text = ((λ st g. g.1), tt)

pub good-negative_digits : GoodRows NegativeDigits negative_digits_rows
good-negative_digits = ((λ st g. g.1), tt)

pub good-the_primary : GoodRows ThePrimary primary_rows
good-the_primary = (
  (λ st g. g.1),
  (
    (λ st g. g.1),
    (
      (λ st g. (tt, g.1)),
      (
        (λ st g. (tt, g.1)),
        (
          (λ st g. g.1),
          (
            (λ st g. g.1),
            (
              (λ st g. (g.0, g.1)),
              (
                (λ st g. ((refl, (refl, (refl, (refl, (refl, refl))))), (tt, g.1))),
                (
                  (λ st g. ((refl, (refl, (refl, (refl, (refl, refl))))), (refl, ((refl, (refl, (refl, (refl, (refl, refl))))), (tt, g.1))))),
                  (
                    (λ st g. (tt, g.1)),
                    (
                      (λ st g. (tt, g.1)),
                      (
                        (λ st g. (tt, g.1)),
                        (
                          (λ st g. (tt, g.1)),
                          (
                            (λ st g. (tt, g.1)),
                            (
                              (λ st g. (tt, g.1)),
                              (
                                (λ st g. (tt, g.1)),
                                (
                                  (λ st g. (tt, g.1)),
                                  (
                                    (λ st g. (tt, g.1)),
                                    (
                                      (λ st g. (tt, g.1)),
                                      (
                                        (λ st g. (tt, g.1)),
                                        (
                                          (λ st g. (tt, g.1)),
                                          tt,
                                        ),
                                      ),
                                    ),
                                  ),
                                ),
                              ),
                            ),
                          ),
                        ),
                      ),
                    ),
                  ),
                ),
              ),
            ),
          ),
        ),
      ),
    ),
  ),
)

pub good-after_name : GoodRows AfterName after_name_rows
good-after_name = ((λ st g. (tt, g.1)), tt)

pub good-after_scalar : GoodRows AfterScalar after_scalar_rows
good-after_scalar = (
  (λ st g. g.1),
  (
    (λ st g. ((refl, (refl, (refl, (refl, (refl, refl))))), (tt, g.1))),
    tt,
  ),
)

pub good-end_of_selector : GoodRows EndOfSelector end_of_selector_rows
good-end_of_selector = (
  (λ st g. g.1),
  (
    (λ st g. g.1),
    tt,
  ),
)

pub good-in_parens : GoodRows InParens in_parens_rows
good-in_parens = ((λ st g. ((refl, (refl, (refl, (refl, (refl, refl))))), (refl, g.1))), tt)

pub good-in_pair : GoodRows InPair in_pair_rows
good-in_pair = ((λ st g. ((refl, (refl, (refl, (refl, (refl, refl))))), (tt, ((refl, (refl, (refl, (refl, (refl, refl))))), (refl, g.1))))), tt)

pub good-in_point : GoodRows InPoint in_point_rows
good-in_point = ((λ st g. (tt, (refl, g.1))), tt)

pub good-the_sign : GoodRows TheSign sign_rows
good-the_sign = (
  ((λ st g. (tt, g.1)), (λ st g. (g.0, g.1))),
  (
    (λ st g. g.1),
    (
      (λ st g. g.1),
      (
        (λ st g. (tt, g.1)),
        (
          (λ st g. (tt, g.1)),
          (
            (λ st g. g.1),
            (
              (λ st g. g.1),
              (
                (λ st g. (g.0, g.1)),
                (
                  (λ st g. ((refl, (refl, (refl, (refl, (refl, refl))))), (tt, g.1))),
                  (
                    (λ st g. ((refl, (refl, (refl, (refl, (refl, refl))))), (refl, ((refl, (refl, (refl, (refl, (refl, refl))))), (tt, g.1))))),
                    (
                      (λ st g. (tt, g.1)),
                      (
                        (λ st g. (tt, g.1)),
                        (
                          (λ st g. (tt, g.1)),
                          (
                            (λ st g. (tt, g.1)),
                            (
                              (λ st g. (tt, g.1)),
                              (
                                (λ st g. (tt, g.1)),
                                (
                                  (λ st g. (tt, g.1)),
                                  (
                                    (λ st g. (tt, g.1)),
                                    (
                                      (λ st g. (tt, g.1)),
                                      (
                                        (λ st g. (tt, g.1)),
                                        (
                                          (λ st g. (tt, g.1)),
                                          (
                                            (λ st g. (tt, g.1)),
                                            tt,
                                          ),
                                        ),
                                      ),
                                    ),
                                  ),
                                ),
                              ),
                            ),
                          ),
                        ),
                      ),
                    ),
                  ),
                ),
              ),
            ),
          ),
        ),
      ),
    ),
  ),
)

pub good-the_prod : GoodRows TheProd prod_rows
good-the_prod = (
  ((λ st g. (tt, (g.0, g.1))), (λ st g. (g.0.1, (g.0, g.1)))),
  (
    (λ st g. (g.0, g.1)),
    (
      (λ st g. (g.0, g.1)),
      (
        (λ st g. (tt, (g.0, g.1))),
        (
          (λ st g. (tt, (g.0, g.1))),
          (
            (λ st g. (g.0, g.1)),
            (
              (λ st g. (g.0, g.1)),
              (
                (λ st g. (g.0.1, (g.0, g.1))),
                (
                  (λ st g. ((refl, (refl, (refl, (refl, (refl, refl))))), (tt, (g.0, g.1)))),
                  (
                    (λ st g. ((refl, (refl, (refl, (refl, (refl, refl))))), (refl, ((refl, (refl, (refl, (refl, (refl, refl))))), (tt, (g.0, g.1)))))),
                    (
                      (λ st g. (tt, (g.0, g.1))),
                      (
                        (λ st g. (tt, (g.0, g.1))),
                        (
                          (λ st g. (tt, (g.0, g.1))),
                          (
                            (λ st g. (tt, (g.0, g.1))),
                            (
                              (λ st g. (tt, (g.0, g.1))),
                              (
                                (λ st g. (tt, (g.0, g.1))),
                                (
                                  (λ st g. (tt, (g.0, g.1))),
                                  (
                                    (λ st g. (tt, (g.0, g.1))),
                                    (
                                      (λ st g. (tt, (g.0, g.1))),
                                      (
                                        (λ st g. (tt, (g.0, g.1))),
                                        (
                                          (λ st g. (tt, (g.0, g.1))),
                                          (
                                            (λ st g. (tt, (g.0, g.1))),
                                            tt,
                                          ),
                                        ),
                                      ),
                                    ),
                                  ),
                                ),
                              ),
                            ),
                          ),
                        ),
                      ),
                    ),
                  ),
                ),
              ),
            ),
          ),
        ),
      ),
    ),
  ),
)

pub good-more_prod : GoodRows MoreProd more_prod_rows
good-more_prod = (
  (λ st g. (g.0.1, (g.0, g.1))),
  (
    (λ st g. (g.0.1, (g.0, g.1))),
    tt,
  ),
)

pub good-the_sum : GoodRows TheSum sum_rows
good-the_sum = (
  ((λ st g. (tt, (g.0.1, (g.0, g.1)))), (λ st g. (g.0.1.1, (g.0.1, (g.0, g.1))))),
  (
    (λ st g. (g.0.1, (g.0, g.1))),
    (
      (λ st g. (g.0.1, (g.0, g.1))),
      (
        (λ st g. (tt, (g.0.1, (g.0, g.1)))),
        (
          (λ st g. (tt, (g.0.1, (g.0, g.1)))),
          (
            (λ st g. (g.0.1, (g.0, g.1))),
            (
              (λ st g. (g.0.1, (g.0, g.1))),
              (
                (λ st g. (g.0.1.1, (g.0.1, (g.0, g.1)))),
                (
                  (λ st g. ((refl, (refl, (refl, (refl, (refl, refl))))), (tt, (g.0.1, (g.0, g.1))))),
                  (
                    (λ st g. ((refl, (refl, (refl, (refl, (refl, refl))))), (refl, ((refl, (refl, (refl, (refl, (refl, refl))))), (tt, (g.0.1, (g.0, g.1))))))),
                    (
                      (λ st g. (tt, (g.0.1, (g.0, g.1)))),
                      (
                        (λ st g. (tt, (g.0.1, (g.0, g.1)))),
                        (
                          (λ st g. (tt, (g.0.1, (g.0, g.1)))),
                          (
                            (λ st g. (tt, (g.0.1, (g.0, g.1)))),
                            (
                              (λ st g. (tt, (g.0.1, (g.0, g.1)))),
                              (
                                (λ st g. (tt, (g.0.1, (g.0, g.1)))),
                                (
                                  (λ st g. (tt, (g.0.1, (g.0, g.1)))),
                                  (
                                    (λ st g. (tt, (g.0.1, (g.0, g.1)))),
                                    (
                                      (λ st g. (tt, (g.0.1, (g.0, g.1)))),
                                      (
                                        (λ st g. (tt, (g.0.1, (g.0, g.1)))),
                                        (
                                          (λ st g. (tt, (g.0.1, (g.0, g.1)))),
                                          (
                                            (λ st g. (tt, (g.0.1, (g.0, g.1)))),
                                            tt,
                                          ),
                                        ),
                                      ),
                                    ),
                                  ),
                                ),
                              ),
                            ),
                          ),
                        ),
                      ),
                    ),
                  ),
                ),
              ),
            ),
          ),
        ),
      ),
    ),
  ),
)

pub good-more_sum : GoodRows MoreSum more_sum_rows
good-more_sum = (
  (λ st g. (g.0.1, (g.0, g.1))),
  (
    (λ st g. (g.0.1, (g.0, g.1))),
    (
      (λ st g. (g.0.1, (g.0, g.1))),
      tt,
    ),
  ),
)

pub good-the_cmp : GoodRows TheCmp cmp_rows
good-the_cmp = (
  ((λ st g. (tt, (g.0.1.1, (g.0.1, (g.0, g.1))))), (λ st g. (g.0.1.1.1, (g.0.1.1, (g.0.1, (g.0, g.1)))))),
  (
    (λ st g. (g.0.1.1, (g.0.1, (g.0, g.1)))),
    (
      (λ st g. (g.0.1.1, (g.0.1, (g.0, g.1)))),
      (
        (λ st g. (tt, (g.0.1.1, (g.0.1, (g.0, g.1))))),
        (
          (λ st g. (tt, (g.0.1.1, (g.0.1, (g.0, g.1))))),
          (
            (λ st g. (g.0.1.1, (g.0.1, (g.0, g.1)))),
            (
              (λ st g. (g.0.1.1, (g.0.1, (g.0, g.1)))),
              (
                (λ st g. (g.0.1.1.1, (g.0.1.1, (g.0.1, (g.0, g.1))))),
                (
                  (λ st g. ((refl, (refl, (refl, (refl, (refl, refl))))), (tt, (g.0.1.1, (g.0.1, (g.0, g.1)))))),
                  (
                    (λ st g. ((refl, (refl, (refl, (refl, (refl, refl))))), (refl, ((refl, (refl, (refl, (refl, (refl, refl))))), (tt, (g.0.1.1, (g.0.1, (g.0, g.1)))))))),
                    (
                      (λ st g. (tt, (g.0.1.1, (g.0.1, (g.0, g.1))))),
                      (
                        (λ st g. (tt, (g.0.1.1, (g.0.1, (g.0, g.1))))),
                        (
                          (λ st g. (tt, (g.0.1.1, (g.0.1, (g.0, g.1))))),
                          (
                            (λ st g. (tt, (g.0.1.1, (g.0.1, (g.0, g.1))))),
                            (
                              (λ st g. (tt, (g.0.1.1, (g.0.1, (g.0, g.1))))),
                              (
                                (λ st g. (tt, (g.0.1.1, (g.0.1, (g.0, g.1))))),
                                (
                                  (λ st g. (tt, (g.0.1.1, (g.0.1, (g.0, g.1))))),
                                  (
                                    (λ st g. (tt, (g.0.1.1, (g.0.1, (g.0, g.1))))),
                                    (
                                      (λ st g. (tt, (g.0.1.1, (g.0.1, (g.0, g.1))))),
                                      (
                                        (λ st g. (tt, (g.0.1.1, (g.0.1, (g.0, g.1))))),
                                        (
                                          (λ st g. (tt, (g.0.1.1, (g.0.1, (g.0, g.1))))),
                                          (
                                            (λ st g. (tt, (g.0.1.1, (g.0.1, (g.0, g.1))))),
                                            tt,
                                          ),
                                        ),
                                      ),
                                    ),
                                  ),
                                ),
                              ),
                            ),
                          ),
                        ),
                      ),
                    ),
                  ),
                ),
              ),
            ),
          ),
        ),
      ),
    ),
  ),
)

pub good-more_cmp : GoodRows MoreCmp more_cmp_rows
good-more_cmp = (
  (λ st g. (g.0.1, g.1)),
  (
    (λ st g. (g.0.1, g.1)),
    (
      (λ st g. (g.0.1, g.1)),
      (
        (λ st g. (g.0.1, g.1)),
        (
          (λ st g. (g.0.1, g.1)),
          (
            (λ st g. (g.0.1, g.1)),
            (
              (λ st g. (g.0.1, g.1)),
              (
                (λ st g. (g.0.1, g.1)),
                (
                  (λ st g. (g.0.1, g.1)),
                  (
                    (λ st g. (g.0.1, g.1)),
                    (
                      (λ st g. (g.0.1, g.1)),
                      (
                        (λ st g. (g.0.1, g.1)),
                        (
                          (λ st g. (g.0.1, g.1)),
                          (
                            (λ st g. (g.0.1, g.1)),
                            (
                              (λ st g. (g.0.1, g.1)),
                              (
                                (λ st g. (g.0.1, g.1)),
                                tt,
                              ),
                            ),
                          ),
                        ),
                      ),
                    ),
                  ),
                ),
              ),
            ),
          ),
        ),
      ),
    ),
  ),
)

pub good-the_neg : GoodRows TheNeg neg_rows
good-the_neg = (
  (λ st g. (g.0, g.1)),
  (
    ((λ st g. (tt, (g.0.1.1, (g.0.1, (g.0, g.1))))), (λ st g. (g.0.1.1.1, (g.0.1.1, (g.0.1, (g.0, g.1)))))),
    (
      (λ st g. (g.0.1.1, (g.0.1, (g.0, g.1)))),
      (
        (λ st g. (g.0.1.1, (g.0.1, (g.0, g.1)))),
        (
          (λ st g. (tt, (g.0.1.1, (g.0.1, (g.0, g.1))))),
          (
            (λ st g. (tt, (g.0.1.1, (g.0.1, (g.0, g.1))))),
            (
              (λ st g. (g.0.1.1, (g.0.1, (g.0, g.1)))),
              (
                (λ st g. (g.0.1.1, (g.0.1, (g.0, g.1)))),
                (
                  (λ st g. (g.0.1.1.1, (g.0.1.1, (g.0.1, (g.0, g.1))))),
                  (
                    (λ st g. ((refl, (refl, (refl, (refl, (refl, refl))))), (tt, (g.0.1.1, (g.0.1, (g.0, g.1)))))),
                    (
                      (λ st g. ((refl, (refl, (refl, (refl, (refl, refl))))), (refl, ((refl, (refl, (refl, (refl, (refl, refl))))), (tt, (g.0.1.1, (g.0.1, (g.0, g.1)))))))),
                      (
                        (λ st g. (tt, (g.0.1.1, (g.0.1, (g.0, g.1))))),
                        (
                          (λ st g. (tt, (g.0.1.1, (g.0.1, (g.0, g.1))))),
                          (
                            (λ st g. (tt, (g.0.1.1, (g.0.1, (g.0, g.1))))),
                            (
                              (λ st g. (tt, (g.0.1.1, (g.0.1, (g.0, g.1))))),
                              (
                                (λ st g. (tt, (g.0.1.1, (g.0.1, (g.0, g.1))))),
                                (
                                  (λ st g. (tt, (g.0.1.1, (g.0.1, (g.0, g.1))))),
                                  (
                                    (λ st g. (tt, (g.0.1.1, (g.0.1, (g.0, g.1))))),
                                    (
                                      (λ st g. (tt, (g.0.1.1, (g.0.1, (g.0, g.1))))),
                                      (
                                        (λ st g. (tt, (g.0.1.1, (g.0.1, (g.0, g.1))))),
                                        (
                                          (λ st g. (tt, (g.0.1.1, (g.0.1, (g.0, g.1))))),
                                          (
                                            (λ st g. (tt, (g.0.1.1, (g.0.1, (g.0, g.1))))),
                                            (
                                              (λ st g. (tt, (g.0.1.1, (g.0.1, (g.0, g.1))))),
                                              tt,
                                            ),
                                          ),
                                        ),
                                      ),
                                    ),
                                  ),
                                ),
                              ),
                            ),
                          ),
                        ),
                      ),
                    ),
                  ),
                ),
              ),
            ),
          ),
        ),
      ),
    ),
  ),
)

pub good-the_conj : GoodRows TheConj conj_rows
good-the_conj = (
  (λ st g. (g.0.1, (g.0, g.1))),
  (
    ((λ st g. (tt, (g.0.1.1.1, (g.0.1.1, (g.0.1, (g.0, g.1)))))), (λ st g. (g.0.1.1.1.1, (g.0.1.1.1, (g.0.1.1, (g.0.1, (g.0, g.1))))))),
    (
      (λ st g. (g.0.1.1.1, (g.0.1.1, (g.0.1, (g.0, g.1))))),
      (
        (λ st g. (g.0.1.1.1, (g.0.1.1, (g.0.1, (g.0, g.1))))),
        (
          (λ st g. (tt, (g.0.1.1.1, (g.0.1.1, (g.0.1, (g.0, g.1)))))),
          (
            (λ st g. (tt, (g.0.1.1.1, (g.0.1.1, (g.0.1, (g.0, g.1)))))),
            (
              (λ st g. (g.0.1.1.1, (g.0.1.1, (g.0.1, (g.0, g.1))))),
              (
                (λ st g. (g.0.1.1.1, (g.0.1.1, (g.0.1, (g.0, g.1))))),
                (
                  (λ st g. (g.0.1.1.1.1, (g.0.1.1.1, (g.0.1.1, (g.0.1, (g.0, g.1)))))),
                  (
                    (λ st g. ((refl, (refl, (refl, (refl, (refl, refl))))), (tt, (g.0.1.1.1, (g.0.1.1, (g.0.1, (g.0, g.1))))))),
                    (
                      (λ st g. ((refl, (refl, (refl, (refl, (refl, refl))))), (refl, ((refl, (refl, (refl, (refl, (refl, refl))))), (tt, (g.0.1.1.1, (g.0.1.1, (g.0.1, (g.0, g.1))))))))),
                      (
                        (λ st g. (tt, (g.0.1.1.1, (g.0.1.1, (g.0.1, (g.0, g.1)))))),
                        (
                          (λ st g. (tt, (g.0.1.1.1, (g.0.1.1, (g.0.1, (g.0, g.1)))))),
                          (
                            (λ st g. (tt, (g.0.1.1.1, (g.0.1.1, (g.0.1, (g.0, g.1)))))),
                            (
                              (λ st g. (tt, (g.0.1.1.1, (g.0.1.1, (g.0.1, (g.0, g.1)))))),
                              (
                                (λ st g. (tt, (g.0.1.1.1, (g.0.1.1, (g.0.1, (g.0, g.1)))))),
                                (
                                  (λ st g. (tt, (g.0.1.1.1, (g.0.1.1, (g.0.1, (g.0, g.1)))))),
                                  (
                                    (λ st g. (tt, (g.0.1.1.1, (g.0.1.1, (g.0.1, (g.0, g.1)))))),
                                    (
                                      (λ st g. (tt, (g.0.1.1.1, (g.0.1.1, (g.0.1, (g.0, g.1)))))),
                                      (
                                        (λ st g. (tt, (g.0.1.1.1, (g.0.1.1, (g.0.1, (g.0, g.1)))))),
                                        (
                                          (λ st g. (tt, (g.0.1.1.1, (g.0.1.1, (g.0.1, (g.0, g.1)))))),
                                          (
                                            (λ st g. (tt, (g.0.1.1.1, (g.0.1.1, (g.0.1, (g.0, g.1)))))),
                                            (
                                              (λ st g. (tt, (g.0.1.1.1, (g.0.1.1, (g.0.1, (g.0, g.1)))))),
                                              tt,
                                            ),
                                          ),
                                        ),
                                      ),
                                    ),
                                  ),
                                ),
                              ),
                            ),
                          ),
                        ),
                      ),
                    ),
                  ),
                ),
              ),
            ),
          ),
        ),
      ),
    ),
  ),
)

pub good-more_and : GoodRows MoreAnd more_and_rows
good-more_and = ((λ st g. (g.0.1, (g.0, g.1))), tt)

pub good-the_scalar : GoodRows TheScalar scalar_rows
good-the_scalar = (
  (λ st g. (g.0.1.1, (g.0.1, (g.0, g.1)))),
  (
    ((λ st g. (tt, (g.0.1.1.1.1, (g.0.1.1.1, (g.0.1.1, (g.0.1, (g.0, g.1))))))), (λ st g. (g.0.1.1.1.1.1, (g.0.1.1.1.1, (g.0.1.1.1, (g.0.1.1, (g.0.1, (g.0, g.1)))))))),
    (
      (λ st g. (g.0.1.1.1.1, (g.0.1.1.1, (g.0.1.1, (g.0.1, (g.0, g.1)))))),
      (
        (λ st g. (g.0.1.1.1.1, (g.0.1.1.1, (g.0.1.1, (g.0.1, (g.0, g.1)))))),
        (
          (λ st g. (tt, (g.0.1.1.1.1, (g.0.1.1.1, (g.0.1.1, (g.0.1, (g.0, g.1))))))),
          (
            (λ st g. (tt, (g.0.1.1.1.1, (g.0.1.1.1, (g.0.1.1, (g.0.1, (g.0, g.1))))))),
            (
              (λ st g. (g.0.1.1.1.1, (g.0.1.1.1, (g.0.1.1, (g.0.1, (g.0, g.1)))))),
              (
                (λ st g. (g.0.1.1.1.1, (g.0.1.1.1, (g.0.1.1, (g.0.1, (g.0, g.1)))))),
                (
                  (λ st g. (g.0.1.1.1.1.1, (g.0.1.1.1.1, (g.0.1.1.1, (g.0.1.1, (g.0.1, (g.0, g.1))))))),
                  (
                    (λ st g. ((refl, (refl, (refl, (refl, (refl, refl))))), (tt, (g.0.1.1.1.1, (g.0.1.1.1, (g.0.1.1, (g.0.1, (g.0, g.1)))))))),
                    (
                      (λ st g. ((refl, (refl, (refl, (refl, (refl, refl))))), (refl, ((refl, (refl, (refl, (refl, (refl, refl))))), (tt, (g.0.1.1.1.1, (g.0.1.1.1, (g.0.1.1, (g.0.1, (g.0, g.1)))))))))),
                      (
                        (λ st g. (tt, (g.0.1.1.1.1, (g.0.1.1.1, (g.0.1.1, (g.0.1, (g.0, g.1))))))),
                        (
                          (λ st g. (tt, (g.0.1.1.1.1, (g.0.1.1.1, (g.0.1.1, (g.0.1, (g.0, g.1))))))),
                          (
                            (λ st g. (tt, (g.0.1.1.1.1, (g.0.1.1.1, (g.0.1.1, (g.0.1, (g.0, g.1))))))),
                            (
                              (λ st g. (tt, (g.0.1.1.1.1, (g.0.1.1.1, (g.0.1.1, (g.0.1, (g.0, g.1))))))),
                              (
                                (λ st g. (tt, (g.0.1.1.1.1, (g.0.1.1.1, (g.0.1.1, (g.0.1, (g.0, g.1))))))),
                                (
                                  (λ st g. (tt, (g.0.1.1.1.1, (g.0.1.1.1, (g.0.1.1, (g.0.1, (g.0, g.1))))))),
                                  (
                                    (λ st g. (tt, (g.0.1.1.1.1, (g.0.1.1.1, (g.0.1.1, (g.0.1, (g.0, g.1))))))),
                                    (
                                      (λ st g. (tt, (g.0.1.1.1.1, (g.0.1.1.1, (g.0.1.1, (g.0.1, (g.0, g.1))))))),
                                      (
                                        (λ st g. (tt, (g.0.1.1.1.1, (g.0.1.1.1, (g.0.1.1, (g.0.1, (g.0, g.1))))))),
                                        (
                                          (λ st g. (tt, (g.0.1.1.1.1, (g.0.1.1.1, (g.0.1.1, (g.0.1, (g.0, g.1))))))),
                                          (
                                            (λ st g. (tt, (g.0.1.1.1.1, (g.0.1.1.1, (g.0.1.1, (g.0.1, (g.0, g.1))))))),
                                            (
                                              (λ st g. (tt, (g.0.1.1.1.1, (g.0.1.1.1, (g.0.1.1, (g.0.1, (g.0, g.1))))))),
                                              tt,
                                            ),
                                          ),
                                        ),
                                      ),
                                    ),
                                  ),
                                ),
                              ),
                            ),
                          ),
                        ),
                      ),
                    ),
                  ),
                ),
              ),
            ),
          ),
        ),
      ),
    ),
  ),
)

pub good-more_or : GoodRows MoreOr more_or_rows
good-more_or = ((λ st g. (g.0.1, (g.0, g.1))), tt)

pub good-the_point : GoodRows ThePoint point_rows
good-the_point = (
  (λ st g. g.1),
  (
    (λ st g. g.1),
    (
      (λ st g. g.1),
      (
        (λ st g. g.1),
        tt,
      ),
    ),
  ),
)

pub good-the_kind : GoodRows TheKind kind_rows
good-the_kind = (
  (λ st g. g.1),
  (
    (λ st g. g.1),
    (
      (λ st g. (tt, g.1)),
      (
        (λ st g. g.1),
        (
          (λ st g. g.1),
          (
            (λ st g. g.1),
            (
              (λ st g. g.1),
              tt,
            ),
          ),
        ),
      ),
    ),
  ),
)

pub good-the_attribute : GoodRows TheAttribute attribute_rows
good-the_attribute = ((λ st g. (tt, g.1)), tt)

pub good-more_attributes : GoodRows MoreAttributes more_attributes_rows
good-more_attributes = ((λ st g. (tt, (g.0, g.1))), tt)

pub good-in_heading : GoodRows InHeading in_heading_rows
good-in_heading = (
  (λ st g. g.1),
  (
    (λ st g. (tt, (refl, (refl, g.1)))),
    tt,
  ),
)

pub good-the_heading : GoodRows TheHeading heading_rows
good-the_heading = ((λ st g. (tt, g.1)), tt)

pub good-more_names : GoodRows MoreNames more_names_rows
good-more_names = ((λ st g. (tt, (g.0, g.1))), tt)

pub good-in_names : GoodRows InNames in_names_rows
good-in_names = (
  (λ st g. g.1),
  (
    (λ st g. (refl, (refl, g.1))),
    tt,
  ),
)

pub good-in_list : GoodRows InList in_list_rows
good-in_list = (
  (λ st g. g.1),
  (
    (λ st g. (refl, (refl, g.1))),
    tt,
  ),
)

pub good-the_names : GoodRows TheNames names_rows
good-the_names = ((λ st g. (tt, g.1)), tt)
