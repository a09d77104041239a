-- Written by tools/grammar; change it there.
-- What forms and rows make of their tokens and of what stands behind them.
use Rattle.std.proofs.Common.{ℕ, List, [], ◌∷◌, ◌++◌}
use Rattle.utd_syntax.specs.declared.terminal.Terminal.TheVariants as t
use Rattle.point_core.specs.declared.fault.Place.{Place}
use Rattle.utd_syntax.specs.declared.words.ComparisonWord.TheVariants as comparisons
use Rattle.utd_syntax.specs.declared.words.SumWord.TheVariants as sum_words
use Rattle.utd_syntax.specs.declared.words.ProductWord.TheVariants as product_words
use Rattle.utd_syntax.specs.declared.words.BeginBracket.TheVariants as begin_brackets
use Rattle.utd_syntax.specs.declared.words.EndBracket.{EndBracket}
use Rattle.utd_syntax.specs.declared.words.EndBracket.TheVariants as end_brackets
use Rattle.utd_syntax.specs.declared.words.ExtremeWord.TheVariants as extremes
use Rattle.utd_syntax.specs.declared.words.FunctionWord.TheVariants as functions
use Rattle.utd_syntax.specs.declared.words.PairWord.TheVariants as pair_functions
use Rattle.utd_syntax.specs.Plain.{Word, word, PointP, ScalarP, ConjP, NegP, CmpP, SumP, ProdP, SignP, PrimaryP, KindP, AttributeP, HeadingP, NamesP, NameListP, SomeNamesP, ElementP, ElementsP, SomeElementsP, TupleP, LiteralP, SetItemP, SetsP, AggregateFormP, AggregateP, AggregatesP, RenamingP, RenamingsP, PortionP, MaybePortionP, ConditionP, ProjectionP, RelP, TermsP, TermP, RelPrimaryP, OperandP, ExtendP, SummarizeP, UsingP, UsingPartP, KeyP, ForeignP, UsedConstraintP, ConstraintP, KeptP, VarFormP, ComparisonP, TestP, UsedDeletionP, UsedItemP, DeletionP, ItemP, AssignP, StatementP, IntegerType, DateType, MomentType, NamedType, OneConj, Or, OneNeg, And, Not, OneCmp, Compare, OneProd, Add, OneSign, Multiply, NegativeInteger, Negate, OnePrimary, IntegerLiteral, TextLiteral, DateLiteral, MomentLiteral, TrueLiteral, FalseLiteral, Dotted, Paren, Selector, Extreme, Function, PairFunction, BooleanKind, CharKind, PointKind, IntervalKind, Attribute, Heading}
use Rattle.utd_syntax.specs.Table.{Symbol, TheName, Comma, DateText, MomentText, NegativeDigits, ThePrimary, AfterName, AfterScalar, EndOfSelector, InParens, InPair, InPoint, TheSign, TheProd, MoreProd, TheSum, MoreSum, TheCmp, MoreCmp, TheNeg, TheConj, MoreAnd, TheScalar, MoreOr, ThePoint, TheKind, TheAttribute, MoreAttributes, InHeading, TheHeading, MoreNames, InNames, InList, TheNames, TheList, TheSomeNames, TheParenName, TheElement, MoreElements, InElements, TheElements, TheSomeElements, TheTuple, MoreTuples, InTuples, TheTuples, TheLiteral, AfterRelation, TheSetItem, MoreSetItems, TheSets, EmptyParens, TheAggregateForm, TheAggregate, MoreAggregates, TheAggregates, TheRenaming, MoreRenamings, TheRenamings, ThePortion, MaybePortion, MaybeWhere, InProjection, TheOperand, TheExtend, TheSummarize, TheRelPrimary, TheTerm, MorePostfix, TheTerms, MoreInfix, TheUsing, TheRel, TheUsingPart, AfterOperand, TheKey, TheForeign, TheUsedConstraint, TheConstraint, MoreConstraints, InRel, TheKept, AfterKept, InKept, TheVarForm, TheComparison, AfterLeft, TheTest, TheUsedDeletion, TheUsedItem, TheDeletion, TheItem, MoreItems, TheAssign, TheStatement, AfterDrop, AfterLog, Just, Worded, Shut, Taking, Plain, Opens, OperatorOpens, Row, on, spelt, before, then_row, ◌▹◌, name_rows, comma_rows, date_text_rows, moment_text_rows, negative_digits_rows, primary_rows, after_name_rows, after_scalar_rows, end_of_selector_rows, in_parens_rows, in_pair_rows, in_point_rows, sign_rows, prod_rows, more_prod_rows, sum_rows, more_sum_rows, cmp_rows, more_cmp_rows, neg_rows, conj_rows, more_and_rows, scalar_rows, more_or_rows, point_rows, kind_rows, attribute_rows, more_attributes_rows, in_heading_rows, heading_rows, more_names_rows, in_names_rows, in_list_rows}

-- what a form gives; the rest of one gives what it makes of the part before it
abbrev pub Val : Symbol → Type 0
Val TheName = Word
Val Comma = Unit {0}
Val DateText = Word
Val MomentText = Word
Val NegativeDigits = Word
Val ThePrimary = PrimaryP
Val AfterName = Word → PrimaryP
Val AfterScalar = Place → ScalarP → PrimaryP
Val EndOfSelector = EndBracket
Val InParens = ScalarP
Val InPair = ScalarP × ScalarP
Val InPoint = PointP
Val TheSign = SignP
Val TheProd = ProdP
Val MoreProd = ProdP → ProdP
Val TheSum = SumP
Val MoreSum = SumP → SumP
Val TheCmp = CmpP
Val MoreCmp = SumP → CmpP
Val TheNeg = NegP
Val TheConj = ConjP
Val MoreAnd = ConjP → ConjP
Val TheScalar = ScalarP
Val MoreOr = ScalarP → ScalarP
Val ThePoint = PointP
Val TheKind = KindP
Val TheAttribute = AttributeP
Val MoreAttributes = List AttributeP
Val InHeading = List AttributeP
Val TheHeading = HeadingP
Val MoreNames = List Word
Val InNames = List Word
Val InList = List Word
Val TheNames = NamesP
Val TheList = NameListP
Val TheSomeNames = SomeNamesP
Val TheParenName = Word
Val TheElement = ElementP
Val MoreElements = List ElementP
Val InElements = List ElementP
Val TheElements = ElementsP
Val TheSomeElements = SomeElementsP
Val TheTuple = TupleP
Val MoreTuples = List TupleP
Val InTuples = List TupleP
Val TheTuples = List TupleP
Val TheLiteral = LiteralP
Val AfterRelation = Place → LiteralP
Val TheSetItem = SetItemP
Val MoreSetItems = List SetItemP
Val TheSets = SetsP
Val EmptyParens = Unit {0}
Val TheAggregateForm = AggregateFormP
Val TheAggregate = AggregateP
Val MoreAggregates = List AggregateP
Val TheAggregates = AggregatesP
Val TheRenaming = RenamingP
Val MoreRenamings = List RenamingP
Val TheRenamings = RenamingsP
Val ThePortion = PortionP
Val MaybePortion = MaybePortionP
Val MaybeWhere = ConditionP
Val InProjection = Place → ProjectionP
Val TheOperand = OperandP
Val TheExtend = ExtendP
Val TheSummarize = SummarizeP
Val TheRelPrimary = RelPrimaryP
Val TheTerm = TermP
Val MorePostfix = TermP → TermP
Val TheTerms = TermsP
Val MoreInfix = TermsP → TermsP
Val TheUsing = UsingP
Val TheRel = RelP
Val TheUsingPart = UsingPartP
Val AfterOperand = OperandP → UsingPartP
Val TheKey = KeyP
Val TheForeign = ForeignP
Val TheUsedConstraint = UsedConstraintP
Val TheConstraint = ConstraintP
Val MoreConstraints = List ConstraintP
Val InRel = RelP
Val TheKept = KeptP
Val AfterKept = Place → NameListP → Word → KeptP
Val InKept = KeptP
Val TheVarForm = VarFormP
Val TheComparison = ComparisonP
Val AfterLeft = OperandP → ComparisonP
Val TheTest = TestP
Val TheUsedDeletion = UsedDeletionP
Val TheUsedItem = UsedItemP
Val TheDeletion = DeletionP
Val TheItem = ItemP
Val MoreItems = List ItemP
Val TheAssign = AssignP
Val TheStatement = StatementP
Val AfterDrop = Place → StatementP
Val AfterLog = Place → StatementP
Val (Just x) = Unit {0}
Val (Worded b) = Place
Val (Shut outer) = Unit {0}

abbrev pub Vals : List Symbol → Type 0
Vals [] = Unit {0}
Vals (s ∷ stack) = Val s × Vals stack

abbrev pub inner : Taking → List Symbol
inner (Opens forms) = forms
inner (OperatorOpens forms) = forms
inner _ = []

-- what a row makes of its token and of what its forms give
abbrev pub Case : Symbol → Taking → List Symbol → Type 0
Case s how more = Place → List ℕ → Vals (inner how ++ more) → Val s

abbrev pub Make : Symbol → Row → Type 0
Make s (on x how more) = Case s how more
Make s (spelt c more) = Case s Plain more
Make s (before x y how more how' more') = Case s how more × Case s how' more'

abbrev pub Makes : Symbol → List Row → Type 0
Makes s [] = Unit {0}
Makes s (r ∷ rs) = Make s r × Makes s rs

-- of a form that is another, and of one that is another and then more
abbrev pub over_make : (a b : Symbol) → (Val a → Val b) → (r : Row) → Make a r → Make b r
over_make a b f (on x how more) g = λ p c vs. f (g p c vs)
over_make a b f (spelt w more) g = λ p c vs. f (g p c vs)
over_make a b f (before x y how more how' more') g = ((λ p c vs. f (g.0 p c vs)), (λ p c vs. f (g.1 p c vs)))

abbrev pub over_makes : (a b : Symbol) → (Val a → Val b) → (rs : List Row) → Makes a rs → Makes b rs
over_makes a b f [] ms = tt
over_makes a b f (r ∷ rs) ms = (over_make a b f r ms.0, over_makes a b f rs ms.1)

abbrev pub last_of : (xs : List Symbol) (c : Symbol) → Vals (xs ++ c ∷ []) → Vals xs × Val c
last_of [] c vs = (tt, vs.0)
last_of (x ∷ xs) c vs = let r : Vals xs × Val c = last_of xs c vs.1 in ((vs.0, r.0), r.1)

abbrev pub last_behind : (xs ys : List Symbol) (c : Symbol) → Vals (xs ++ (ys ++ c ∷ [])) → Vals (xs ++ ys) × Val c
last_behind [] ys c vs = last_of ys c vs
last_behind (x ∷ xs) ys c vs = let r : Vals (xs ++ ys) × Val c = last_behind xs ys c vs.1 in ((vs.0, r.0), r.1)

abbrev pub then_case : (a b c : Symbol) → (Val a → Val c → Val b) → (how : Taking) (more : List Symbol) → Case a how more → Case b how (more ++ c ∷ [])
then_case a b c f how more g = λ p w vs. let r : Vals (inner how ++ more) × Val c = last_behind (inner how) more c vs in f (g p w r.0) r.1

abbrev pub then_make : (a b c : Symbol) → (Val a → Val c → Val b) → (r : Row) → Make a r → Make b (then_row r (c ∷ []))
then_make a b c f (on x how more) g = then_case a b c f how more g
then_make a b c f (spelt w more) g = then_case a b c f Plain more g
then_make a b c f (before x y how more how' more') g = (then_case a b c f how more g.0, then_case a b c f how' more' g.1)

abbrev pub then_makes : (a b c : Symbol) → (Val a → Val c → Val b) → (rs : List Row) → Makes a rs → Makes b (rs ▹ (c ∷ []))
then_makes a b c f [] ms = tt
then_makes a b c f (r ∷ rs) ms = (then_make a b c f r ms.0, then_makes a b c f rs ms.1)

abbrev pub append_makes : (s : Symbol) (xs ys : List Row) → Makes s xs → Makes s ys → Makes s (xs ++ ys)
append_makes s [] ys ms ns = ns
append_makes s (r ∷ xs) ys ms ns = (ms.0, append_makes s xs ys ms.1 ns)

abbrev pub make_name : Makes TheName name_rows
make_name = ((λ p b v. word p b), tt)

abbrev pub make_comma : Makes Comma comma_rows
make_comma = ((λ p b v. tt), tt)

abbrev pub make_date_text : Makes DateText date_text_rows
make_date_text = ((λ p b v. word p b), tt)

abbrev pub make_moment_text : Makes MomentText moment_text_rows
make_moment_text = ((λ p b v. word p b), tt)

abbrev pub make_negative_digits : Makes NegativeDigits negative_digits_rows
make_negative_digits = ((λ p b v. word p b), tt)

abbrev pub make_primary : Makes ThePrimary primary_rows
make_primary = (
  (λ p b v. IntegerLiteral p b),
  (
    (λ p b v. TextLiteral p b),
    (
      (λ p b v. DateLiteral p v.0.place v.0.bytes),
      (
        (λ p b v. MomentLiteral p v.0.place v.0.bytes),
        (
          (λ p b v. TrueLiteral p),
          (
            (λ p b v. FalseLiteral p),
            (
              (λ p b v. v.0 (word p b)),
              (
                (λ p b v. v.1.0 p v.0),
                (
                  (λ p b v. Selector p begin_brackets.Closed v.0 v.1.1.0 v.1.1.1.0),
                  (
                    (λ p b v. Extreme p extremes.First v.0),
                    (
                      (λ p b v. Extreme p extremes.Last v.0),
                      (
                        (λ p b v. Function p functions.Begin v.0),
                        (
                          (λ p b v. Function p functions.End v.0),
                          (
                            (λ p b v. Function p functions.Pre v.0),
                            (
                              (λ p b v. Function p functions.Post v.0),
                              (
                                (λ p b v. Function p functions.Count v.0),
                                (
                                  (λ p b v. Function p functions.Next v.0),
                                  (
                                    (λ p b v. Function p functions.Prior v.0),
                                    (
                                      (λ p b v. PairFunction p pair_functions.Union v.0.0 v.0.1),
                                      (
                                        (λ p b v. PairFunction p pair_functions.Intersect v.0.0 v.0.1),
                                        (
                                          (λ p b v. PairFunction p pair_functions.Minus v.0.0 v.0.1),
                                          tt,
                                        ),
                                      ),
                                    ),
                                  ),
                                ),
                              ),
                            ),
                          ),
                        ),
                      ),
                    ),
                  ),
                ),
              ),
            ),
          ),
        ),
      ),
    ),
  ),
)

abbrev pub make_after_name : Makes AfterName after_name_rows
make_after_name = ((λ p b v w. Dotted w v.0), tt)

abbrev pub make_after_scalar : Makes AfterScalar after_scalar_rows
make_after_scalar = (
  (λ p b v q s. Paren q s),
  (
    (λ p b v q s. Selector q begin_brackets.Open s v.0 v.1.0),
    tt,
  ),
)

abbrev pub make_end_of_selector : Makes EndOfSelector end_of_selector_rows
make_end_of_selector = (
  (λ p b v. end_brackets.Closed),
  (
    (λ p b v. end_brackets.Open),
    tt,
  ),
)

abbrev pub make_in_parens : Makes InParens in_parens_rows
make_in_parens = ((λ p b v. v.0), tt)

abbrev pub make_in_pair : Makes InPair in_pair_rows
make_in_pair = ((λ p b v. (v.0, v.1.1.0)), tt)

abbrev pub make_in_point : Makes InPoint in_point_rows
make_in_point = ((λ p b v. v.0), tt)

abbrev pub make_sign : Makes TheSign sign_rows
make_sign = (append_makes TheSign (before t.Dash t.Digits Plain (NegativeDigits ∷ []) (Opens (TheSign ∷ [])) [] ∷ []) primary_rows (((λ p b v. NegativeInteger p v.0.place v.0.bytes), (λ p b v. Negate p v.0)), tt) (over_makes ThePrimary TheSign (λ u. OnePrimary u) primary_rows make_primary))

abbrev pub make_prod : Makes TheProd prod_rows
make_prod = then_makes TheSign TheProd MoreProd (λ u w. w (OneSign u)) sign_rows make_sign

abbrev pub make_more_prod : Makes MoreProd more_prod_rows
make_more_prod = (
  (λ p b v x. v.1.0 (Multiply x p product_words.Times v.0)),
  (
    (λ p b v x. v.1.0 (Multiply x p product_words.Divide v.0)),
    tt,
  ),
)

abbrev pub make_sum : Makes TheSum sum_rows
make_sum = then_makes TheProd TheSum MoreSum (λ u w. w (OneProd u)) prod_rows make_prod

abbrev pub make_more_sum : Makes MoreSum more_sum_rows
make_more_sum = (
  (λ p b v x. v.1.0 (Add x p sum_words.Plus v.0)),
  (
    (λ p b v x. v.1.0 (Add x p sum_words.Minus v.0)),
    (
      (λ p b v x. v.1.0 (Add x p sum_words.Concat v.0)),
      tt,
    ),
  ),
)

abbrev pub make_cmp : Makes TheCmp cmp_rows
make_cmp = then_makes TheSum TheCmp MoreCmp (λ u w. w u) sum_rows make_sum

abbrev pub make_more_cmp : Makes MoreCmp more_cmp_rows
make_more_cmp = (
  (λ p b v x. Compare x p comparisons.Equal v.0),
  (
    (λ p b v x. Compare x p comparisons.NotEqual v.0),
    (
      (λ p b v x. Compare x p comparisons.Less v.0),
      (
        (λ p b v x. Compare x p comparisons.LessEqual v.0),
        (
          (λ p b v x. Compare x p comparisons.Greater v.0),
          (
            (λ p b v x. Compare x p comparisons.GreaterEqual v.0),
            (
              (λ p b v x. Compare x p comparisons.In v.0),
              (
                (λ p b v x. Compare x p comparisons.Includes v.0),
                (
                  (λ p b v x. Compare x p comparisons.IncludedIn v.0),
                  (
                    (λ p b v x. Compare x p comparisons.Before v.0),
                    (
                      (λ p b v x. Compare x p comparisons.After v.0),
                      (
                        (λ p b v x. Compare x p comparisons.Meets v.0),
                        (
                          (λ p b v x. Compare x p comparisons.Overlaps v.0),
                          (
                            (λ p b v x. Compare x p comparisons.Merges v.0),
                            (
                              (λ p b v x. Compare x p comparisons.Begins v.0),
                              (
                                (λ p b v x. Compare x p comparisons.Ends v.0),
                                tt,
                              ),
                            ),
                          ),
                        ),
                      ),
                    ),
                  ),
                ),
              ),
            ),
          ),
        ),
      ),
    ),
  ),
)

abbrev pub make_neg : Makes TheNeg neg_rows
make_neg = (append_makes TheNeg (on t.Not (Opens (TheNeg ∷ [])) [] ∷ []) cmp_rows ((λ p b v. Not p v.0), tt) (over_makes TheCmp TheNeg (λ u. OneCmp u) cmp_rows make_cmp))

abbrev pub make_conj : Makes TheConj conj_rows
make_conj = then_makes TheNeg TheConj MoreAnd (λ u w. w (OneNeg u)) neg_rows make_neg

abbrev pub make_more_and : Makes MoreAnd more_and_rows
make_more_and = ((λ p b v x. v.1.0 (And x p v.0)), tt)

abbrev pub make_scalar : Makes TheScalar scalar_rows
make_scalar = then_makes TheConj TheScalar MoreOr (λ u w. w (OneConj u)) conj_rows make_conj

abbrev pub make_more_or : Makes MoreOr more_or_rows
make_more_or = ((λ p b v x. v.1.0 (Or x p v.0)), tt)

abbrev pub make_point : Makes ThePoint point_rows
make_point = (
  (λ p b v. IntegerType p),
  (
    (λ p b v. DateType p),
    (
      (λ p b v. MomentType p),
      (
        (λ p b v. NamedType (word p b)),
        tt,
      ),
    ),
  ),
)

abbrev pub make_kind : Makes TheKind kind_rows
make_kind = (append_makes TheKind (on t.Boolean Plain [] ∷ on t.Char Plain [] ∷ on t.Interval Plain (InPoint ∷ []) ∷ []) point_rows ((λ p b v. BooleanKind p), ((λ p b v. CharKind p), ((λ p b v. IntervalKind p v.0), tt))) (over_makes ThePoint TheKind (λ u. PointKind u) point_rows make_point))

abbrev pub make_attribute : Makes TheAttribute attribute_rows
make_attribute = ((λ p b v. Attribute (word p b) v.0), tt)

abbrev pub make_more_attributes : Makes MoreAttributes more_attributes_rows
make_more_attributes = ((λ p b v. v.0 ∷ v.1.0), tt)

abbrev pub make_in_heading : Makes InHeading in_heading_rows
make_in_heading = (
  (λ p b v. []),
  (
    (λ p b v. Attribute (word p b) v.0 ∷ v.1.0),
    tt,
  ),
)

abbrev pub make_heading : Makes TheHeading heading_rows
make_heading = ((λ p b v. Heading p v.0), tt)

abbrev pub make_more_names : Makes MoreNames more_names_rows
make_more_names = ((λ p b v. v.0 ∷ v.1.0), tt)

abbrev pub make_in_names : Makes InNames in_names_rows
make_in_names = (
  (λ p b v. []),
  (
    (λ p b v. word p b ∷ v.0),
    tt,
  ),
)

abbrev pub make_in_list : Makes InList in_list_rows
make_in_list = (
  (λ p b v. []),
  (
    (λ p b v. word p b ∷ v.0),
    tt,
  ),
)
