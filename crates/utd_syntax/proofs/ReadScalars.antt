-- Written by tools/grammar; change it there.
-- The table reads what a row expression writes as that expression.
use Rattle.std.proofs.Common.{◌≡◌, ℕ, List, [], ◌∷◌, ◌++◌, Option, refl, ◌∙◌, ap}
use Rattle.utd_syntax.specs.declared.terminal.Terminal.{Terminal}
use Rattle.utd_syntax.specs.declared.terminal.Terminal.TheVariants as t
use Rattle.point_core.specs.declared.fault.Place.{Place}
use Rattle.utd_syntax.specs.declared.words.ComparisonWord.TheVariants as comparisons
use Rattle.utd_syntax.specs.declared.words.SumWord.TheVariants as sum_words
use Rattle.utd_syntax.specs.declared.words.ProductWord.TheVariants as product_words
use Rattle.utd_syntax.specs.declared.words.BeginBracket.TheVariants as begin_brackets
use Rattle.utd_syntax.specs.declared.words.EndBracket.TheVariants as end_brackets
use Rattle.utd_syntax.specs.declared.words.ExtremeWord.TheVariants as extremes
use Rattle.utd_syntax.specs.declared.words.FunctionWord.TheVariants as functions
use Rattle.utd_syntax.specs.declared.words.PairWord.TheVariants as pair_functions
use Rattle.utd_syntax.specs.declared.words.AggregateWord.TheVariants as aggregate_words
use Rattle.utd_syntax.specs.Pieces.{Piece, first}
use Rattle.utd_syntax.specs.Plain.{Word, PointP, ScalarP, ConjP, NegP, CmpP, SumP, ProdP, SignP, PrimaryP, KindP, AttributeP, HeadingP, NamesP, NameListP, SomeNamesP, ElementP, ElementsP, SomeElementsP, TupleP, LiteralP, SetItemP, SetsP, AggregateFormP, AggregateP, AggregatesP, RenamingP, RenamingsP, PortionP, MaybePortionP, ConditionP, ItemP, StatementP, IntegerType, DateType, MomentType, NamedType, OneConj, Or, OneNeg, And, Not, OneCmp, OneSum, Compare, OneProd, Add, OneSign, Multiply, NegativeInteger, Negate, OnePrimary, IntegerLiteral, TextLiteral, DateLiteral, MomentLiteral, TrueLiteral, FalseLiteral, AttributeName, Dotted, Paren, Selector, Extreme, Function, PairFunction, BooleanKind, CharKind, PointKind, IntervalKind, Attribute, Heading, Names, NameList, SomeNames, Element, Elements, SomeElements, Tuple, Tuples, Headed, SetItem, Sets, CountRows, AggregateOf, Aggregate, Aggregates, Renaming, Renamings, Portion, NoPortion, OfPortion, NoCondition, Where}
use Rattle.utd_syntax.specs.Written.{fixed, at, spelled, apart, Spells, token, placed, lexeme, word_of, of_name, of_point, of_scalar, of_conj, of_neg, of_cmp, of_sum, of_prod, of_sign, of_primary, of_kind, of_attribute, of_more_attributes, of_heading, of_more_words, of_names, of_list, of_some_names, of_paren_name, of_element, of_more_elements, of_elements, of_some_elements, of_tuple, of_more_tuples, of_tuples, of_literal, of_set_item, of_more_set_items, of_sets, of_aggregate_form, of_aggregate, of_more_aggregates, of_aggregates, of_renaming, of_more_renamings, of_renamings, of_portion, of_maybe_portion, of_condition, of_more_items}
use Rattle.utd_syntax.specs.Table.{Symbol, TheName, ThePrimary, TheSign, TheProd, MoreProd, TheSum, MoreSum, TheCmp, MoreCmp, TheNeg, TheConj, MoreAnd, TheScalar, MoreOr, ThePoint, TheKind, TheAttribute, MoreAttributes, TheHeading, MoreNames, TheNames, TheList, TheSomeNames, TheParenName, TheElement, MoreElements, TheElements, TheSomeElements, TheTuple, MoreTuples, TheTuples, TheLiteral, TheSetItem, MoreSetItems, TheSets, TheAggregateForm, TheAggregate, MoreAggregates, TheAggregates, TheRenaming, MoreRenamings, TheRenamings, ThePortion, MaybePortion, MaybeWhere}
use Rattle.utd_syntax.proofs.Reader.{Go, read_at, read}
use Rattle.utd_syntax.proofs.Marks.{one, last, two, done, seen, begins, none}
use Rattle.utd_syntax.proofs.FormEnds.{along, Halts, Calm1, Calm7, Calm8, Calm10, Calm12, Calm13, Calm14, Calm2, Calm4, Calm5, Calm6, Calm9, Calm11, Calm15, AfterName-end, MoreProd-end, MoreSum-end, MoreCmp-end, MoreAnd-end, MoreOr-end, MoreAttributes-end, MoreNames-end, MoreElements-end, MoreTuples-end, MoreSetItems-end, MoreAggregates-end, MoreRenamings-end, MaybePortion-end, MaybeWhere-end, point-first}
use Rattle.utd_syntax.proofs.FirstTokens.{conj-first, neg-first, cmp-first, sum-first, prod-first, sign-first, primary-first, scalar-as-conj, conj-as-neg, neg-as-cmp, cmp-as-sum, sum-as-prod, prod-as-sign, sign-as-primary, kind-as-point}

-- a "-" that no integer follows
pub dash-takes : (n : Terminal) (p : Place) (b : List ℕ) (next : (st : List Symbol) → Go st → Option StatementP) (stack : List Symbol) (k : Go (TheSign ∷ stack)) → (n ≡ t.Digits → ⊥) → read_at t.Dash n p b next (TheSign ∷ stack) k ≡ next (TheSign ∷ stack) (λ v. k (Negate p v.0, v.1))
dash-takes t.Digits p b next stack k h = absurd (h refl)
dash-takes _ p b next stack k h = refl

pub more_elements-start : (P : Terminal → Type 0) (x : List ElementP) (ts rest : List Piece) → Spells (of_more_elements x) ts rest → P t.Comma → P (first rest) → P (first ts)
more_elements-start P [] ts rest h h0 e = none P ts rest h e
more_elements-start P (x ∷ xs) ts rest h h0 e = begins P _ ts rest h0 h

pub more_set_items-start : (P : Terminal → Type 0) (x : List SetItemP) (ts rest : List Piece) → Spells (of_more_set_items x) ts rest → P t.Comma → P (first rest) → P (first ts)
more_set_items-start P [] ts rest h h0 e = none P ts rest h e
more_set_items-start P (x ∷ xs) ts rest h h0 e = begins P _ ts rest h0 h

pub condition-start : (P : Terminal → Type 0) (x : ConditionP) (ts rest : List Piece) → Spells (of_condition x) ts rest → P t.Where → P (first rest) → P (first ts)
condition-start P NoCondition ts rest h h0 e = none P ts rest h e
condition-start P (Where p s) ts rest h h0 e = begins P _ ts rest h0 h

pub more_items-start : (P : Terminal → Type 0) (x : List ItemP) (ts rest : List Piece) → Spells (of_more_items x) ts rest → P t.Comma → P (first rest) → P (first ts)
more_items-start P [] ts rest h h0 e = none P ts rest h e
more_items-start P (x ∷ xs) ts rest h h0 e = begins P _ ts rest h0 h

pub name-reads : (x : Word) (ts rest : List Piece) → Spells (of_name x) ts rest → (stack : List Symbol) (k : Go (TheName ∷ stack)) → read ts (TheName ∷ stack) k ≡ read rest stack (λ v. k (x, v))
name-reads n ts rest sp stack go =
    let x0 = one (spelled t.Name n.place n.bytes) ([]) ts rest sp in
    along ts _ _ _ (x0.is ∙ ap (λ z. seen (spelled t.Name n.place n.bytes) x0.place x0.bytes ∷ z) (done x0.left rest x0.spells))

pub point-reads : (x : PointP) (ts rest : List Piece) → Spells (of_point x) ts rest → (stack : List Symbol) (k : Go (ThePoint ∷ stack)) → read ts (ThePoint ∷ stack) k ≡ read rest stack (λ v. k (x, v))
point-reads (IntegerType p) ts rest sp stack go =
    let x0 = one (at t.Integer p) ([]) ts rest sp in
    along ts _ _ _ (x0.is ∙ ap (λ z. seen (at t.Integer p) x0.place x0.bytes ∷ z) (done x0.left rest x0.spells))
point-reads (DateType p) ts rest sp stack go =
    let x0 = one (at t.Date p) ([]) ts rest sp in
    along ts _ _ _ (x0.is ∙ ap (λ z. seen (at t.Date p) x0.place x0.bytes ∷ z) (done x0.left rest x0.spells))
point-reads (MomentType p) ts rest sp stack go =
    let x0 = one (at t.Moment p) ([]) ts rest sp in
    along ts _ _ _ (x0.is ∙ ap (λ z. seen (at t.Moment p) x0.place x0.bytes ∷ z) (done x0.left rest x0.spells))
point-reads (NamedType n) ts rest sp stack go =
    let x0 = one (spelled t.Name n.place n.bytes) ([]) ts rest sp in
    along ts _ _ _ (x0.is ∙ ap (λ z. seen (spelled t.Name n.place n.bytes) x0.place x0.bytes ∷ z) (done x0.left rest x0.spells))

mutual
  pub scalar-reads : (x : ScalarP) (ts rest : List Piece) → Spells (of_scalar x) ts rest → Calm5 (first rest) → (stack : List Symbol) (k : Go (TheScalar ∷ stack)) → read ts (TheScalar ∷ stack) k ≡ read rest (MoreOr ∷ stack) (λ v. k (v.0 x, v.1))
  scalar-reads (OneConj c) ts rest sp calm stack go = scalar-as-conj ts stack go (conj-first c ts rest sp) ∙ conj-reads c ts rest sp calm.1 (MoreOr ∷ stack) _ ∙ MoreAnd-end rest _ _ calm.0
  scalar-reads (Or s p c) ts rest sp calm stack go =
      let x0 = two (of_scalar s ++ placed t.Or p) (of_conj c) ts rest sp in
      let x1 = last (of_scalar s) (at t.Or p) ts x0.mid x0.before in
      scalar-reads s ts _ x1.spells (refl, (refl, (refl, (refl, refl)))) stack go ∙ conj-reads c x0.mid rest x0.after calm.1 (MoreOr ∷ stack) _ ∙ MoreAnd-end rest _ _ calm.0

  pub conj-reads : (x : ConjP) (ts rest : List Piece) → Spells (of_conj x) ts rest → Calm4 (first rest) → (stack : List Symbol) (k : Go (TheConj ∷ stack)) → read ts (TheConj ∷ stack) k ≡ read rest (MoreAnd ∷ stack) (λ v. k (v.0 x, v.1))
  conj-reads (OneNeg c) ts rest sp calm stack go = conj-as-neg ts stack go (neg-first c ts rest sp) ∙ neg-reads c ts rest sp calm (MoreAnd ∷ stack) _
  conj-reads (And s p c) ts rest sp calm stack go =
      let x0 = two (of_conj s ++ placed t.And p) (of_neg c) ts rest sp in
      let x1 = last (of_conj s) (at t.And p) ts x0.mid x0.before in
      conj-reads s ts _ x1.spells (refl, (refl, (refl, refl))) stack go ∙ neg-reads c x0.mid rest x0.after calm (MoreAnd ∷ stack) _

  pub neg-reads : (x : NegP) (ts rest : List Piece) → Spells (of_neg x) ts rest → Calm4 (first rest) → (stack : List Symbol) (k : Go (TheNeg ∷ stack)) → read ts (TheNeg ∷ stack) k ≡ read rest stack (λ v. k (x, v))
  neg-reads (Not p n) ts rest sp calm stack go =
      let x0 = one (at t.Not p) (of_neg n) ts rest sp in
      along ts _ _ _ (x0.is) ∙ neg-reads n x0.left rest x0.spells calm stack _
  neg-reads (OneCmp c) ts rest sp calm stack go = neg-as-cmp ts stack go (cmp-first c ts rest sp) ∙ cmp-reads c ts rest sp calm stack _

  pub cmp-reads : (x : CmpP) (ts rest : List Piece) → Spells (of_cmp x) ts rest → Calm4 (first rest) → (stack : List Symbol) (k : Go (TheCmp ∷ stack)) → read ts (TheCmp ∷ stack) k ≡ read rest stack (λ v. k (x, v))
  cmp-reads (OneSum s) ts rest sp calm stack go = cmp-as-sum ts stack go (sum-first s ts rest sp) ∙ sum-reads s ts rest sp calm.1.1 (MoreCmp ∷ stack) _ ∙ MoreSum-end rest _ _ calm.1.0 ∙ MoreCmp-end rest stack _ calm.0
  cmp-reads (Compare s p comparisons.Equal r) ts rest sp calm stack go =
      let x0 = two (of_sum s ++ placed t.Equal p) (of_sum r) ts rest sp in
      let x1 = last (of_sum s) (at t.Equal p) ts x0.mid x0.before in
      cmp-as-sum ts stack go (sum-first s ts _ x1.spells) ∙ sum-reads s ts _ x1.spells (refl, refl) _ _ ∙ sum-reads r x0.mid rest x0.after calm.1.1 stack _ ∙ MoreSum-end rest _ _ calm.1.0
  cmp-reads (Compare s p comparisons.NotEqual r) ts rest sp calm stack go =
      let x0 = two (of_sum s ++ placed t.NotEqual p) (of_sum r) ts rest sp in
      let x1 = last (of_sum s) (at t.NotEqual p) ts x0.mid x0.before in
      cmp-as-sum ts stack go (sum-first s ts _ x1.spells) ∙ sum-reads s ts _ x1.spells (refl, refl) _ _ ∙ sum-reads r x0.mid rest x0.after calm.1.1 stack _ ∙ MoreSum-end rest _ _ calm.1.0
  cmp-reads (Compare s p comparisons.Less r) ts rest sp calm stack go =
      let x0 = two (of_sum s ++ placed t.Less p) (of_sum r) ts rest sp in
      let x1 = last (of_sum s) (at t.Less p) ts x0.mid x0.before in
      cmp-as-sum ts stack go (sum-first s ts _ x1.spells) ∙ sum-reads s ts _ x1.spells (refl, refl) _ _ ∙ sum-reads r x0.mid rest x0.after calm.1.1 stack _ ∙ MoreSum-end rest _ _ calm.1.0
  cmp-reads (Compare s p comparisons.LessEqual r) ts rest sp calm stack go =
      let x0 = two (of_sum s ++ placed t.LessEqual p) (of_sum r) ts rest sp in
      let x1 = last (of_sum s) (at t.LessEqual p) ts x0.mid x0.before in
      cmp-as-sum ts stack go (sum-first s ts _ x1.spells) ∙ sum-reads s ts _ x1.spells (refl, refl) _ _ ∙ sum-reads r x0.mid rest x0.after calm.1.1 stack _ ∙ MoreSum-end rest _ _ calm.1.0
  cmp-reads (Compare s p comparisons.Greater r) ts rest sp calm stack go =
      let x0 = two (of_sum s ++ placed t.Greater p) (of_sum r) ts rest sp in
      let x1 = last (of_sum s) (at t.Greater p) ts x0.mid x0.before in
      cmp-as-sum ts stack go (sum-first s ts _ x1.spells) ∙ sum-reads s ts _ x1.spells (refl, refl) _ _ ∙ sum-reads r x0.mid rest x0.after calm.1.1 stack _ ∙ MoreSum-end rest _ _ calm.1.0
  cmp-reads (Compare s p comparisons.GreaterEqual r) ts rest sp calm stack go =
      let x0 = two (of_sum s ++ placed t.GreaterEqual p) (of_sum r) ts rest sp in
      let x1 = last (of_sum s) (at t.GreaterEqual p) ts x0.mid x0.before in
      cmp-as-sum ts stack go (sum-first s ts _ x1.spells) ∙ sum-reads s ts _ x1.spells (refl, refl) _ _ ∙ sum-reads r x0.mid rest x0.after calm.1.1 stack _ ∙ MoreSum-end rest _ _ calm.1.0
  cmp-reads (Compare s p comparisons.In r) ts rest sp calm stack go =
      let x0 = two (of_sum s ++ placed t.In p) (of_sum r) ts rest sp in
      let x1 = last (of_sum s) (at t.In p) ts x0.mid x0.before in
      cmp-as-sum ts stack go (sum-first s ts _ x1.spells) ∙ sum-reads s ts _ x1.spells (refl, refl) _ _ ∙ sum-reads r x0.mid rest x0.after calm.1.1 stack _ ∙ MoreSum-end rest _ _ calm.1.0
  cmp-reads (Compare s p comparisons.Includes r) ts rest sp calm stack go =
      let x0 = two (of_sum s ++ placed t.Includes p) (of_sum r) ts rest sp in
      let x1 = last (of_sum s) (at t.Includes p) ts x0.mid x0.before in
      cmp-as-sum ts stack go (sum-first s ts _ x1.spells) ∙ sum-reads s ts _ x1.spells (refl, refl) _ _ ∙ sum-reads r x0.mid rest x0.after calm.1.1 stack _ ∙ MoreSum-end rest _ _ calm.1.0
  cmp-reads (Compare s p comparisons.IncludedIn r) ts rest sp calm stack go =
      let x0 = two (of_sum s ++ placed t.IncludedIn p) (of_sum r) ts rest sp in
      let x1 = last (of_sum s) (at t.IncludedIn p) ts x0.mid x0.before in
      cmp-as-sum ts stack go (sum-first s ts _ x1.spells) ∙ sum-reads s ts _ x1.spells (refl, refl) _ _ ∙ sum-reads r x0.mid rest x0.after calm.1.1 stack _ ∙ MoreSum-end rest _ _ calm.1.0
  cmp-reads (Compare s p comparisons.Before r) ts rest sp calm stack go =
      let x0 = two (of_sum s ++ placed t.Before p) (of_sum r) ts rest sp in
      let x1 = last (of_sum s) (at t.Before p) ts x0.mid x0.before in
      cmp-as-sum ts stack go (sum-first s ts _ x1.spells) ∙ sum-reads s ts _ x1.spells (refl, refl) _ _ ∙ sum-reads r x0.mid rest x0.after calm.1.1 stack _ ∙ MoreSum-end rest _ _ calm.1.0
  cmp-reads (Compare s p comparisons.After r) ts rest sp calm stack go =
      let x0 = two (of_sum s ++ placed t.After p) (of_sum r) ts rest sp in
      let x1 = last (of_sum s) (at t.After p) ts x0.mid x0.before in
      cmp-as-sum ts stack go (sum-first s ts _ x1.spells) ∙ sum-reads s ts _ x1.spells (refl, refl) _ _ ∙ sum-reads r x0.mid rest x0.after calm.1.1 stack _ ∙ MoreSum-end rest _ _ calm.1.0
  cmp-reads (Compare s p comparisons.Meets r) ts rest sp calm stack go =
      let x0 = two (of_sum s ++ placed t.Meets p) (of_sum r) ts rest sp in
      let x1 = last (of_sum s) (at t.Meets p) ts x0.mid x0.before in
      cmp-as-sum ts stack go (sum-first s ts _ x1.spells) ∙ sum-reads s ts _ x1.spells (refl, refl) _ _ ∙ sum-reads r x0.mid rest x0.after calm.1.1 stack _ ∙ MoreSum-end rest _ _ calm.1.0
  cmp-reads (Compare s p comparisons.Overlaps r) ts rest sp calm stack go =
      let x0 = two (of_sum s ++ placed t.Overlaps p) (of_sum r) ts rest sp in
      let x1 = last (of_sum s) (at t.Overlaps p) ts x0.mid x0.before in
      cmp-as-sum ts stack go (sum-first s ts _ x1.spells) ∙ sum-reads s ts _ x1.spells (refl, refl) _ _ ∙ sum-reads r x0.mid rest x0.after calm.1.1 stack _ ∙ MoreSum-end rest _ _ calm.1.0
  cmp-reads (Compare s p comparisons.Merges r) ts rest sp calm stack go =
      let x0 = two (of_sum s ++ placed t.Merges p) (of_sum r) ts rest sp in
      let x1 = last (of_sum s) (at t.Merges p) ts x0.mid x0.before in
      cmp-as-sum ts stack go (sum-first s ts _ x1.spells) ∙ sum-reads s ts _ x1.spells (refl, refl) _ _ ∙ sum-reads r x0.mid rest x0.after calm.1.1 stack _ ∙ MoreSum-end rest _ _ calm.1.0
  cmp-reads (Compare s p comparisons.Begins r) ts rest sp calm stack go =
      let x0 = two (of_sum s ++ placed t.Begins p) (of_sum r) ts rest sp in
      let x1 = last (of_sum s) (at t.Begins p) ts x0.mid x0.before in
      cmp-as-sum ts stack go (sum-first s ts _ x1.spells) ∙ sum-reads s ts _ x1.spells (refl, refl) _ _ ∙ sum-reads r x0.mid rest x0.after calm.1.1 stack _ ∙ MoreSum-end rest _ _ calm.1.0
  cmp-reads (Compare s p comparisons.Ends r) ts rest sp calm stack go =
      let x0 = two (of_sum s ++ placed t.Ends p) (of_sum r) ts rest sp in
      let x1 = last (of_sum s) (at t.Ends p) ts x0.mid x0.before in
      cmp-as-sum ts stack go (sum-first s ts _ x1.spells) ∙ sum-reads s ts _ x1.spells (refl, refl) _ _ ∙ sum-reads r x0.mid rest x0.after calm.1.1 stack _ ∙ MoreSum-end rest _ _ calm.1.0

  pub sum-reads : (x : SumP) (ts rest : List Piece) → Spells (of_sum x) ts rest → Calm2 (first rest) → (stack : List Symbol) (k : Go (TheSum ∷ stack)) → read ts (TheSum ∷ stack) k ≡ read rest (MoreSum ∷ stack) (λ v. k (v.0 x, v.1))
  sum-reads (OneProd f) ts rest sp calm stack go = sum-as-prod ts stack go (prod-first f ts rest sp) ∙ prod-reads f ts rest sp calm.1 (MoreSum ∷ stack) _ ∙ MoreProd-end rest _ _ calm.0
  sum-reads (Add s p sum_words.Plus f) ts rest sp calm stack go =
      let x0 = two (of_sum s ++ placed t.Plus p) (of_prod f) ts rest sp in
      let x1 = last (of_sum s) (at t.Plus p) ts x0.mid x0.before in
      sum-reads s ts _ x1.spells (refl, refl) stack go ∙ prod-reads f x0.mid rest x0.after calm.1 (MoreSum ∷ stack) _ ∙ MoreProd-end rest _ _ calm.0
  sum-reads (Add s p sum_words.Minus f) ts rest sp calm stack go =
      let x0 = two (of_sum s ++ placed t.Dash p) (of_prod f) ts rest sp in
      let x1 = last (of_sum s) (at t.Dash p) ts x0.mid x0.before in
      sum-reads s ts _ x1.spells (refl, refl) stack go ∙ prod-reads f x0.mid rest x0.after calm.1 (MoreSum ∷ stack) _ ∙ MoreProd-end rest _ _ calm.0
  sum-reads (Add s p sum_words.Concat f) ts rest sp calm stack go =
      let x0 = two (of_sum s ++ placed t.Bars p) (of_prod f) ts rest sp in
      let x1 = last (of_sum s) (at t.Bars p) ts x0.mid x0.before in
      sum-reads s ts _ x1.spells (refl, refl) stack go ∙ prod-reads f x0.mid rest x0.after calm.1 (MoreSum ∷ stack) _ ∙ MoreProd-end rest _ _ calm.0

  pub prod-reads : (x : ProdP) (ts rest : List Piece) → Spells (of_prod x) ts rest → Calm1 (first rest) → (stack : List Symbol) (k : Go (TheProd ∷ stack)) → read ts (TheProd ∷ stack) k ≡ read rest (MoreProd ∷ stack) (λ v. k (v.0 x, v.1))
  prod-reads (OneSign f) ts rest sp calm stack go = prod-as-sign ts stack go (sign-first f ts rest sp) ∙ sign-reads f ts rest sp calm (MoreProd ∷ stack) _
  prod-reads (Multiply s p product_words.Times f) ts rest sp calm stack go =
      let x0 = two (of_prod s ++ placed t.Star p) (of_sign f) ts rest sp in
      let x1 = last (of_prod s) (at t.Star p) ts x0.mid x0.before in
      prod-reads s ts _ x1.spells refl stack go ∙ sign-reads f x0.mid rest x0.after calm (MoreProd ∷ stack) _
  prod-reads (Multiply s p product_words.Divide f) ts rest sp calm stack go =
      let x0 = two (of_prod s ++ placed t.Slash p) (of_sign f) ts rest sp in
      let x1 = last (of_prod s) (at t.Slash p) ts x0.mid x0.before in
      prod-reads s ts _ x1.spells refl stack go ∙ sign-reads f x0.mid rest x0.after calm (MoreProd ∷ stack) _

  pub sign-reads : (x : SignP) (ts rest : List Piece) → Spells (of_sign x) ts rest → Calm1 (first rest) → (stack : List Symbol) (k : Go (TheSign ∷ stack)) → read ts (TheSign ∷ stack) k ≡ read rest stack (λ v. k (x, v))
  sign-reads (NegativeInteger p q c) ts rest sp calm stack go =
      let x0 = one (at t.Dash p) (lexeme t.Digits q c) ts rest sp in
      let x1 = one (spelled t.Digits q c) ([]) x0.left rest x0.spells in
      along ts _ _ _ (x0.is ∙ ap (λ z. seen (at t.Dash p) x0.place x0.bytes ∷ z) (x1.is ∙ ap (λ z. seen (spelled t.Digits q c) x1.place x1.bytes ∷ z) (done x1.left rest x1.spells)))
  sign-reads (Negate p s) ts rest sp calm stack go =
      let x0 = one (apart t.Dash p t.Digits) (of_sign s) ts rest sp in
      along ts _ _ _ (x0.is) ∙ dash-takes (first x0.left) p x0.bytes (read x0.left) stack go x0.aside ∙ sign-reads s x0.left rest x0.spells calm stack _
  sign-reads (OnePrimary a) ts rest sp calm stack go = sign-as-primary ts stack go (primary-first a ts rest sp) ∙ primary-reads a ts rest sp calm stack _

  pub primary-reads : (x : PrimaryP) (ts rest : List Piece) → Spells (of_primary x) ts rest → Calm1 (first rest) → (stack : List Symbol) (k : Go (ThePrimary ∷ stack)) → read ts (ThePrimary ∷ stack) k ≡ read rest stack (λ v. k (x, v))
  primary-reads (IntegerLiteral p c) ts rest sp calm stack go =
      let x0 = one (spelled t.Digits p c) ([]) ts rest sp in
      along ts _ _ _ (x0.is ∙ ap (λ z. seen (spelled t.Digits p c) x0.place x0.bytes ∷ z) (done x0.left rest x0.spells))
  primary-reads (TextLiteral p c) ts rest sp calm stack go =
      let x0 = one (spelled t.Quoted p c) ([]) ts rest sp in
      along ts _ _ _ (x0.is ∙ ap (λ z. seen (spelled t.Quoted p c) x0.place x0.bytes ∷ z) (done x0.left rest x0.spells))
  primary-reads (DateLiteral p q c) ts rest sp calm stack go =
      let x0 = one (at t.Date p) (lexeme t.Quoted q c) ts rest sp in
      let x1 = one (spelled t.Quoted q c) ([]) x0.left rest x0.spells in
      along ts _ _ _ (x0.is ∙ ap (λ z. seen (at t.Date p) x0.place x0.bytes ∷ z) (x1.is ∙ ap (λ z. seen (spelled t.Quoted q c) x1.place x1.bytes ∷ z) (done x1.left rest x1.spells)))
  primary-reads (MomentLiteral p q c) ts rest sp calm stack go =
      let x0 = one (at t.Moment p) (lexeme t.Quoted q c) ts rest sp in
      let x1 = one (spelled t.Quoted q c) ([]) x0.left rest x0.spells in
      along ts _ _ _ (x0.is ∙ ap (λ z. seen (at t.Moment p) x0.place x0.bytes ∷ z) (x1.is ∙ ap (λ z. seen (spelled t.Quoted q c) x1.place x1.bytes ∷ z) (done x1.left rest x1.spells)))
  primary-reads (TrueLiteral p) ts rest sp calm stack go =
      let x0 = one (at t.True p) ([]) ts rest sp in
      along ts _ _ _ (x0.is ∙ ap (λ z. seen (at t.True p) x0.place x0.bytes ∷ z) (done x0.left rest x0.spells))
  primary-reads (FalseLiteral p) ts rest sp calm stack go =
      let x0 = one (at t.False p) ([]) ts rest sp in
      along ts _ _ _ (x0.is ∙ ap (λ z. seen (at t.False p) x0.place x0.bytes ∷ z) (done x0.left rest x0.spells))
  primary-reads (AttributeName n) ts rest sp calm stack go =
      let x0 = one (spelled t.Name n.place n.bytes) ([]) ts rest sp in
      along ts _ _ _ (x0.is ∙ ap (λ z. seen (spelled t.Name n.place n.bytes) x0.place x0.bytes ∷ z) (done x0.left rest x0.spells)) ∙ AfterName-end rest stack _ calm
  primary-reads (Dotted n v) ts rest sp calm stack go =
      let x0 = one (spelled t.Name n.place n.bytes) (token t.Dot ++ word_of v) ts rest sp in
      let x1 = one (fixed t.Dot) (word_of v) x0.left rest x0.spells in
      let x2 = one (spelled t.Name v.place v.bytes) ([]) x1.left rest x1.spells in
      along ts _ _ _ (x0.is ∙ ap (λ z. seen (spelled t.Name n.place n.bytes) x0.place x0.bytes ∷ z) (x1.is ∙ ap (λ z. seen (fixed t.Dot) x1.place x1.bytes ∷ z) (x2.is ∙ ap (λ z. seen (spelled t.Name v.place v.bytes) x2.place x2.bytes ∷ z) (done x2.left rest x2.spells))))
  primary-reads (Paren p s) ts rest sp calm stack go =
      let x0 = one (at t.Open p) (of_scalar s ++ token t.Close) ts rest sp in
      let x1 = last (of_scalar s) (fixed t.Close) x0.left rest x0.spells in
      along ts _ _ _ (x0.is) ∙ scalar-reads s x0.left _ x1.spells (refl, (refl, (refl, (refl, refl)))) _ _
  primary-reads (Selector p begin_brackets.Closed s r end_brackets.Closed) ts rest sp calm stack go =
      let x0 = one (at t.OpenBracket p) (of_scalar s ++ token t.Colon ++ of_scalar r ++ token t.CloseBracket) ts rest sp in
      let x1 = last (of_scalar s ++ token t.Colon ++ of_scalar r) (fixed t.CloseBracket) x0.left rest x0.spells in
      let x2 = two (of_scalar s ++ token t.Colon) (of_scalar r) x0.left _ x1.spells in
      let x3 = last (of_scalar s) (fixed t.Colon) x0.left x2.mid x2.before in
      along ts _ _ _ (x0.is) ∙ scalar-reads s x0.left _ x3.spells (refl, (refl, (refl, (refl, refl)))) _ _ ∙ scalar-reads r x2.mid _ x2.after (refl, (refl, (refl, (refl, refl)))) _ _
  primary-reads (Selector p begin_brackets.Closed s r end_brackets.Open) ts rest sp calm stack go =
      let x0 = one (at t.OpenBracket p) (of_scalar s ++ token t.Colon ++ of_scalar r ++ token t.Close) ts rest sp in
      let x1 = last (of_scalar s ++ token t.Colon ++ of_scalar r) (fixed t.Close) x0.left rest x0.spells in
      let x2 = two (of_scalar s ++ token t.Colon) (of_scalar r) x0.left _ x1.spells in
      let x3 = last (of_scalar s) (fixed t.Colon) x0.left x2.mid x2.before in
      along ts _ _ _ (x0.is) ∙ scalar-reads s x0.left _ x3.spells (refl, (refl, (refl, (refl, refl)))) _ _ ∙ scalar-reads r x2.mid _ x2.after (refl, (refl, (refl, (refl, refl)))) _ _
  primary-reads (Selector p begin_brackets.Open s r end_brackets.Closed) ts rest sp calm stack go =
      let x0 = one (at t.Open p) (of_scalar s ++ token t.Colon ++ of_scalar r ++ token t.CloseBracket) ts rest sp in
      let x1 = last (of_scalar s ++ token t.Colon ++ of_scalar r) (fixed t.CloseBracket) x0.left rest x0.spells in
      let x2 = two (of_scalar s ++ token t.Colon) (of_scalar r) x0.left _ x1.spells in
      let x3 = last (of_scalar s) (fixed t.Colon) x0.left x2.mid x2.before in
      along ts _ _ _ (x0.is) ∙ scalar-reads s x0.left _ x3.spells (refl, (refl, (refl, (refl, refl)))) _ _ ∙ scalar-reads r x2.mid _ x2.after (refl, (refl, (refl, (refl, refl)))) _ _
  primary-reads (Selector p begin_brackets.Open s r end_brackets.Open) ts rest sp calm stack go =
      let x0 = one (at t.Open p) (of_scalar s ++ token t.Colon ++ of_scalar r ++ token t.Close) ts rest sp in
      let x1 = last (of_scalar s ++ token t.Colon ++ of_scalar r) (fixed t.Close) x0.left rest x0.spells in
      let x2 = two (of_scalar s ++ token t.Colon) (of_scalar r) x0.left _ x1.spells in
      let x3 = last (of_scalar s) (fixed t.Colon) x0.left x2.mid x2.before in
      along ts _ _ _ (x0.is) ∙ scalar-reads s x0.left _ x3.spells (refl, (refl, (refl, (refl, refl)))) _ _ ∙ scalar-reads r x2.mid _ x2.after (refl, (refl, (refl, (refl, refl)))) _ _
  primary-reads (Extreme p extremes.First y) ts rest sp calm stack go =
      let x0 = one (at t.First p) (token t.Open ++ of_point y ++ token t.Close) ts rest sp in
      let x1 = one (fixed t.Open) (of_point y ++ token t.Close) x0.left rest x0.spells in
      let x2 = last (of_point y) (fixed t.Close) x1.left rest x1.spells in
      along ts _ _ _ (x0.is ∙ ap (λ z. seen (at t.First p) x0.place x0.bytes ∷ z) (x1.is)) ∙ point-reads y x1.left _ x2.spells _ _
  primary-reads (Extreme p extremes.Last y) ts rest sp calm stack go =
      let x0 = one (at t.Last p) (token t.Open ++ of_point y ++ token t.Close) ts rest sp in
      let x1 = one (fixed t.Open) (of_point y ++ token t.Close) x0.left rest x0.spells in
      let x2 = last (of_point y) (fixed t.Close) x1.left rest x1.spells in
      along ts _ _ _ (x0.is ∙ ap (λ z. seen (at t.Last p) x0.place x0.bytes ∷ z) (x1.is)) ∙ point-reads y x1.left _ x2.spells _ _
  primary-reads (Function p functions.Begin s) ts rest sp calm stack go =
      let x0 = one (at t.Begin p) (token t.Open ++ of_scalar s ++ token t.Close) ts rest sp in
      let x1 = one (fixed t.Open) (of_scalar s ++ token t.Close) x0.left rest x0.spells in
      let x2 = last (of_scalar s) (fixed t.Close) x1.left rest x1.spells in
      along ts _ _ _ (x0.is ∙ ap (λ z. seen (at t.Begin p) x0.place x0.bytes ∷ z) (x1.is)) ∙ scalar-reads s x1.left _ x2.spells (refl, (refl, (refl, (refl, refl)))) _ _
  primary-reads (Function p functions.End s) ts rest sp calm stack go =
      let x0 = one (at t.End p) (token t.Open ++ of_scalar s ++ token t.Close) ts rest sp in
      let x1 = one (fixed t.Open) (of_scalar s ++ token t.Close) x0.left rest x0.spells in
      let x2 = last (of_scalar s) (fixed t.Close) x1.left rest x1.spells in
      along ts _ _ _ (x0.is ∙ ap (λ z. seen (at t.End p) x0.place x0.bytes ∷ z) (x1.is)) ∙ scalar-reads s x1.left _ x2.spells (refl, (refl, (refl, (refl, refl)))) _ _
  primary-reads (Function p functions.Pre s) ts rest sp calm stack go =
      let x0 = one (at t.Pre p) (token t.Open ++ of_scalar s ++ token t.Close) ts rest sp in
      let x1 = one (fixed t.Open) (of_scalar s ++ token t.Close) x0.left rest x0.spells in
      let x2 = last (of_scalar s) (fixed t.Close) x1.left rest x1.spells in
      along ts _ _ _ (x0.is ∙ ap (λ z. seen (at t.Pre p) x0.place x0.bytes ∷ z) (x1.is)) ∙ scalar-reads s x1.left _ x2.spells (refl, (refl, (refl, (refl, refl)))) _ _
  primary-reads (Function p functions.Post s) ts rest sp calm stack go =
      let x0 = one (at t.Post p) (token t.Open ++ of_scalar s ++ token t.Close) ts rest sp in
      let x1 = one (fixed t.Open) (of_scalar s ++ token t.Close) x0.left rest x0.spells in
      let x2 = last (of_scalar s) (fixed t.Close) x1.left rest x1.spells in
      along ts _ _ _ (x0.is ∙ ap (λ z. seen (at t.Post p) x0.place x0.bytes ∷ z) (x1.is)) ∙ scalar-reads s x1.left _ x2.spells (refl, (refl, (refl, (refl, refl)))) _ _
  primary-reads (Function p functions.Count s) ts rest sp calm stack go =
      let x0 = one (at t.Count p) (token t.Open ++ of_scalar s ++ token t.Close) ts rest sp in
      let x1 = one (fixed t.Open) (of_scalar s ++ token t.Close) x0.left rest x0.spells in
      let x2 = last (of_scalar s) (fixed t.Close) x1.left rest x1.spells in
      along ts _ _ _ (x0.is ∙ ap (λ z. seen (at t.Count p) x0.place x0.bytes ∷ z) (x1.is)) ∙ scalar-reads s x1.left _ x2.spells (refl, (refl, (refl, (refl, refl)))) _ _
  primary-reads (Function p functions.Next s) ts rest sp calm stack go =
      let x0 = one (at t.Next p) (token t.Open ++ of_scalar s ++ token t.Close) ts rest sp in
      let x1 = one (fixed t.Open) (of_scalar s ++ token t.Close) x0.left rest x0.spells in
      let x2 = last (of_scalar s) (fixed t.Close) x1.left rest x1.spells in
      along ts _ _ _ (x0.is ∙ ap (λ z. seen (at t.Next p) x0.place x0.bytes ∷ z) (x1.is)) ∙ scalar-reads s x1.left _ x2.spells (refl, (refl, (refl, (refl, refl)))) _ _
  primary-reads (Function p functions.Prior s) ts rest sp calm stack go =
      let x0 = one (at t.Prior p) (token t.Open ++ of_scalar s ++ token t.Close) ts rest sp in
      let x1 = one (fixed t.Open) (of_scalar s ++ token t.Close) x0.left rest x0.spells in
      let x2 = last (of_scalar s) (fixed t.Close) x1.left rest x1.spells in
      along ts _ _ _ (x0.is ∙ ap (λ z. seen (at t.Prior p) x0.place x0.bytes ∷ z) (x1.is)) ∙ scalar-reads s x1.left _ x2.spells (refl, (refl, (refl, (refl, refl)))) _ _
  primary-reads (PairFunction p pair_functions.Union s r) ts rest sp calm stack go =
      let x0 = one (at t.Union p) (token t.Open ++ of_scalar s ++ token t.Comma ++ of_scalar r ++ token t.Close) ts rest sp in
      let x1 = one (fixed t.Open) (of_scalar s ++ token t.Comma ++ of_scalar r ++ token t.Close) x0.left rest x0.spells in
      let x2 = last (of_scalar s ++ token t.Comma ++ of_scalar r) (fixed t.Close) x1.left rest x1.spells in
      let x3 = two (of_scalar s ++ token t.Comma) (of_scalar r) x1.left _ x2.spells in
      let x4 = last (of_scalar s) (fixed t.Comma) x1.left x3.mid x3.before in
      along ts _ _ _ (x0.is ∙ ap (λ z. seen (at t.Union p) x0.place x0.bytes ∷ z) (x1.is)) ∙ scalar-reads s x1.left _ x4.spells (refl, (refl, (refl, (refl, refl)))) _ _ ∙ scalar-reads r x3.mid _ x3.after (refl, (refl, (refl, (refl, refl)))) _ _
  primary-reads (PairFunction p pair_functions.Intersect s r) ts rest sp calm stack go =
      let x0 = one (at t.Intersect p) (token t.Open ++ of_scalar s ++ token t.Comma ++ of_scalar r ++ token t.Close) ts rest sp in
      let x1 = one (fixed t.Open) (of_scalar s ++ token t.Comma ++ of_scalar r ++ token t.Close) x0.left rest x0.spells in
      let x2 = last (of_scalar s ++ token t.Comma ++ of_scalar r) (fixed t.Close) x1.left rest x1.spells in
      let x3 = two (of_scalar s ++ token t.Comma) (of_scalar r) x1.left _ x2.spells in
      let x4 = last (of_scalar s) (fixed t.Comma) x1.left x3.mid x3.before in
      along ts _ _ _ (x0.is ∙ ap (λ z. seen (at t.Intersect p) x0.place x0.bytes ∷ z) (x1.is)) ∙ scalar-reads s x1.left _ x4.spells (refl, (refl, (refl, (refl, refl)))) _ _ ∙ scalar-reads r x3.mid _ x3.after (refl, (refl, (refl, (refl, refl)))) _ _
  primary-reads (PairFunction p pair_functions.Minus s r) ts rest sp calm stack go =
      let x0 = one (at t.Minus p) (token t.Open ++ of_scalar s ++ token t.Comma ++ of_scalar r ++ token t.Close) ts rest sp in
      let x1 = one (fixed t.Open) (of_scalar s ++ token t.Comma ++ of_scalar r ++ token t.Close) x0.left rest x0.spells in
      let x2 = last (of_scalar s ++ token t.Comma ++ of_scalar r) (fixed t.Close) x1.left rest x1.spells in
      let x3 = two (of_scalar s ++ token t.Comma) (of_scalar r) x1.left _ x2.spells in
      let x4 = last (of_scalar s) (fixed t.Comma) x1.left x3.mid x3.before in
      along ts _ _ _ (x0.is ∙ ap (λ z. seen (at t.Minus p) x0.place x0.bytes ∷ z) (x1.is)) ∙ scalar-reads s x1.left _ x4.spells (refl, (refl, (refl, (refl, refl)))) _ _ ∙ scalar-reads r x3.mid _ x3.after (refl, (refl, (refl, (refl, refl)))) _ _

pub kind-reads : (x : KindP) (ts rest : List Piece) → Spells (of_kind x) ts rest → (stack : List Symbol) (k : Go (TheKind ∷ stack)) → read ts (TheKind ∷ stack) k ≡ read rest stack (λ v. k (x, v))
kind-reads (BooleanKind p) ts rest sp stack go =
    let x0 = one (at t.Boolean p) ([]) ts rest sp in
    along ts _ _ _ (x0.is ∙ ap (λ z. seen (at t.Boolean p) x0.place x0.bytes ∷ z) (done x0.left rest x0.spells))
kind-reads (CharKind p) ts rest sp stack go =
    let x0 = one (at t.Char p) ([]) ts rest sp in
    along ts _ _ _ (x0.is ∙ ap (λ z. seen (at t.Char p) x0.place x0.bytes ∷ z) (done x0.left rest x0.spells))
kind-reads (PointKind y) ts rest sp stack go = kind-as-point ts stack go (point-first y ts rest sp) ∙ point-reads y ts rest sp stack _
kind-reads (IntervalKind p y) ts rest sp stack go =
    let x0 = one (at t.Interval p) (token t.Open ++ of_point y ++ token t.Close) ts rest sp in
    let x1 = one (fixed t.Open) (of_point y ++ token t.Close) x0.left rest x0.spells in
    let x2 = last (of_point y) (fixed t.Close) x1.left rest x1.spells in
    along ts _ _ _ (x0.is ∙ ap (λ z. seen (at t.Interval p) x0.place x0.bytes ∷ z) (x1.is)) ∙ point-reads y x1.left _ x2.spells _ _

pub attribute-reads : (x : AttributeP) (ts rest : List Piece) → Spells (of_attribute x) ts rest → (stack : List Symbol) (k : Go (TheAttribute ∷ stack)) → read ts (TheAttribute ∷ stack) k ≡ read rest stack (λ v. k (x, v))
attribute-reads (Attribute n k) ts rest sp stack go =
    let x0 = one (spelled t.Name n.place n.bytes) (of_kind k) ts rest sp in
    along ts _ _ _ (x0.is) ∙ kind-reads k x0.left rest x0.spells stack _

pub more_attributes-reads : (x : List AttributeP) (ts rest : List Piece) → Spells (of_more_attributes x) ts rest → Calm7 (first rest) → (stack : List Symbol) (k : Go (MoreAttributes ∷ stack)) → read ts (MoreAttributes ∷ stack) k ≡ read rest stack (λ v. k (x, v))
more_attributes-reads [] ts rest sp calm stack go = along ts rest (MoreAttributes ∷ stack) go (done ts rest sp) ∙ MoreAttributes-end rest stack go calm
more_attributes-reads (x ∷ xs) ts rest sp calm stack go =
    let x0 = one (fixed t.Comma) (of_attribute x ++ of_more_attributes xs) ts rest sp in
    let x1 = two (of_attribute x) (of_more_attributes xs) x0.left rest x0.spells in
    along ts _ _ _ (x0.is) ∙ attribute-reads x x0.left x1.mid x1.before _ _ ∙ more_attributes-reads xs x1.mid rest x1.after calm stack _

pub heading-reads : (x : HeadingP) (ts rest : List Piece) → Spells (of_heading x) ts rest → (stack : List Symbol) (k : Go (TheHeading ∷ stack)) → read ts (TheHeading ∷ stack) k ≡ read rest stack (λ v. k (x, v))
heading-reads (Heading p []) ts rest sp stack go =
    let x0 = one (at t.OpenBrace p) (token t.CloseBrace) ts rest sp in
    let x1 = one (fixed t.CloseBrace) ([]) x0.left rest x0.spells in
    along ts _ _ _ (x0.is ∙ ap (λ z. seen (at t.OpenBrace p) x0.place x0.bytes ∷ z) (x1.is ∙ ap (λ z. seen (fixed t.CloseBrace) x1.place x1.bytes ∷ z) (done x1.left rest x1.spells)))
heading-reads (Heading p ((Attribute n1 k2) ∷ xs3)) ts rest sp stack go =
    let x0 = one (at t.OpenBrace p) (word_of n1 ++ of_kind k2 ++ of_more_attributes xs3 ++ token t.CloseBrace) ts rest sp in
    let x1 = one (spelled t.Name n1.place n1.bytes) (of_kind k2 ++ of_more_attributes xs3 ++ token t.CloseBrace) x0.left rest x0.spells in
    let x2 = last (of_kind k2 ++ of_more_attributes xs3) (fixed t.CloseBrace) x1.left rest x1.spells in
    let x3 = two (of_kind k2) (of_more_attributes xs3) x1.left _ x2.spells in
    along ts _ _ _ (x0.is ∙ ap (λ z. seen (at t.OpenBrace p) x0.place x0.bytes ∷ z) (x1.is)) ∙ kind-reads k2 x1.left x3.mid x3.before _ _ ∙ more_attributes-reads xs3 x3.mid _ x3.after refl _ _

pub more_words-reads : (x : List Word) (ts rest : List Piece) → Spells (of_more_words x) ts rest → Calm8 (first rest) → (stack : List Symbol) (k : Go (MoreNames ∷ stack)) → read ts (MoreNames ∷ stack) k ≡ read rest stack (λ v. k (x, v))
more_words-reads [] ts rest sp calm stack go = along ts rest (MoreNames ∷ stack) go (done ts rest sp) ∙ MoreNames-end rest stack go calm
more_words-reads (x ∷ xs) ts rest sp calm stack go =
    let x0 = one (fixed t.Comma) (word_of x ++ of_more_words xs) ts rest sp in
    let x1 = one (spelled t.Name x.place x.bytes) (of_more_words xs) x0.left rest x0.spells in
    along ts _ _ _ (x0.is ∙ ap (λ z. seen (fixed t.Comma) x0.place x0.bytes ∷ z) (x1.is)) ∙ more_words-reads xs x1.left rest x1.spells calm stack _

pub names-reads : (x : NamesP) (ts rest : List Piece) → Spells (of_names x) ts rest → (stack : List Symbol) (k : Go (TheNames ∷ stack)) → read ts (TheNames ∷ stack) k ≡ read rest stack (λ v. k (x, v))
names-reads (Names p []) ts rest sp stack go =
    let x0 = one (at t.OpenBrace p) (token t.CloseBrace) ts rest sp in
    let x1 = one (fixed t.CloseBrace) ([]) x0.left rest x0.spells in
    along ts _ _ _ (x0.is ∙ ap (λ z. seen (at t.OpenBrace p) x0.place x0.bytes ∷ z) (x1.is ∙ ap (λ z. seen (fixed t.CloseBrace) x1.place x1.bytes ∷ z) (done x1.left rest x1.spells)))
names-reads (Names p (n1 ∷ xs2)) ts rest sp stack go =
    let x0 = one (at t.OpenBrace p) (word_of n1 ++ of_more_words xs2 ++ token t.CloseBrace) ts rest sp in
    let x1 = one (spelled t.Name n1.place n1.bytes) (of_more_words xs2 ++ token t.CloseBrace) x0.left rest x0.spells in
    let x2 = last (of_more_words xs2) (fixed t.CloseBrace) x1.left rest x1.spells in
    along ts _ _ _ (x0.is ∙ ap (λ z. seen (at t.OpenBrace p) x0.place x0.bytes ∷ z) (x1.is)) ∙ more_words-reads xs2 x1.left _ x2.spells refl _ _

pub list-reads : (x : NameListP) (ts rest : List Piece) → Spells (of_list x) ts rest → (stack : List Symbol) (k : Go (TheList ∷ stack)) → read ts (TheList ∷ stack) k ≡ read rest stack (λ v. k (x, v))
list-reads (NameList p []) ts rest sp stack go =
    let x0 = one (at t.Open p) (token t.Close) ts rest sp in
    let x1 = one (fixed t.Close) ([]) x0.left rest x0.spells in
    along ts _ _ _ (x0.is ∙ ap (λ z. seen (at t.Open p) x0.place x0.bytes ∷ z) (x1.is ∙ ap (λ z. seen (fixed t.Close) x1.place x1.bytes ∷ z) (done x1.left rest x1.spells)))
list-reads (NameList p (n1 ∷ xs2)) ts rest sp stack go =
    let x0 = one (at t.Open p) (word_of n1 ++ of_more_words xs2 ++ token t.Close) ts rest sp in
    let x1 = one (spelled t.Name n1.place n1.bytes) (of_more_words xs2 ++ token t.Close) x0.left rest x0.spells in
    let x2 = last (of_more_words xs2) (fixed t.Close) x1.left rest x1.spells in
    along ts _ _ _ (x0.is ∙ ap (λ z. seen (at t.Open p) x0.place x0.bytes ∷ z) (x1.is)) ∙ more_words-reads xs2 x1.left _ x2.spells refl _ _

pub some_names-reads : (x : SomeNamesP) (ts rest : List Piece) → Spells (of_some_names x) ts rest → (stack : List Symbol) (k : Go (TheSomeNames ∷ stack)) → read ts (TheSomeNames ∷ stack) k ≡ read rest stack (λ v. k (x, v))
some_names-reads (SomeNames p n ns) ts rest sp stack go =
    let x0 = one (at t.OpenBrace p) (word_of n ++ of_more_words ns ++ token t.CloseBrace) ts rest sp in
    let x1 = one (spelled t.Name n.place n.bytes) (of_more_words ns ++ token t.CloseBrace) x0.left rest x0.spells in
    let x2 = last (of_more_words ns) (fixed t.CloseBrace) x1.left rest x1.spells in
    along ts _ _ _ (x0.is ∙ ap (λ z. seen (at t.OpenBrace p) x0.place x0.bytes ∷ z) (x1.is)) ∙ more_words-reads ns x1.left _ x2.spells refl _ _

pub paren_name-reads : (x : Word) (ts rest : List Piece) → Spells (of_paren_name x) ts rest → (stack : List Symbol) (k : Go (TheParenName ∷ stack)) → read ts (TheParenName ∷ stack) k ≡ read rest stack (λ v. k (x, v))
paren_name-reads n ts rest sp stack go =
    let x0 = one (fixed t.Open) (word_of n ++ token t.Close) ts rest sp in
    let x1 = one (spelled t.Name n.place n.bytes) (token t.Close) x0.left rest x0.spells in
    let x2 = one (fixed t.Close) ([]) x1.left rest x1.spells in
    along ts _ _ _ (x0.is ∙ ap (λ z. seen (fixed t.Open) x0.place x0.bytes ∷ z) (x1.is ∙ ap (λ z. seen (spelled t.Name n.place n.bytes) x1.place x1.bytes ∷ z) (x2.is ∙ ap (λ z. seen (fixed t.Close) x2.place x2.bytes ∷ z) (done x2.left rest x2.spells))))

pub element-reads : (x : ElementP) (ts rest : List Piece) → Spells (of_element x) ts rest → Calm6 (first rest) → (stack : List Symbol) (k : Go (TheElement ∷ stack)) → read ts (TheElement ∷ stack) k ≡ read rest stack (λ v. k (x, v))
element-reads (Element n s) ts rest sp calm stack go =
    let x0 = one (spelled t.Name n.place n.bytes) (of_scalar s) ts rest sp in
    along ts _ _ _ (x0.is) ∙ scalar-reads s x0.left rest x0.spells calm.1 stack _ ∙ MoreOr-end rest _ _ calm.0

pub more_elements-reads : (x : List ElementP) (ts rest : List Piece) → Spells (of_more_elements x) ts rest → Calm9 (first rest) → (stack : List Symbol) (k : Go (MoreElements ∷ stack)) → read ts (MoreElements ∷ stack) k ≡ read rest stack (λ v. k (x, v))
more_elements-reads [] ts rest sp calm stack go = along ts rest (MoreElements ∷ stack) go (done ts rest sp) ∙ MoreElements-end rest stack go calm.0
more_elements-reads (x ∷ xs) ts rest sp calm stack go =
    let x0 = one (fixed t.Comma) (of_element x ++ of_more_elements xs) ts rest sp in
    let x1 = two (of_element x) (of_more_elements xs) x0.left rest x0.spells in
    along ts _ _ _ (x0.is) ∙ element-reads x x0.left x1.mid x1.before (more_elements-start Calm6 xs x1.mid rest x1.after (refl, (refl, (refl, (refl, (refl, refl))))) calm.1) _ _ ∙ more_elements-reads xs x1.mid rest x1.after calm stack _

pub elements-reads : (x : ElementsP) (ts rest : List Piece) → Spells (of_elements x) ts rest → (stack : List Symbol) (k : Go (TheElements ∷ stack)) → read ts (TheElements ∷ stack) k ≡ read rest stack (λ v. k (x, v))
elements-reads (Elements p []) ts rest sp stack go =
    let x0 = one (at t.OpenBrace p) (token t.CloseBrace) ts rest sp in
    let x1 = one (fixed t.CloseBrace) ([]) x0.left rest x0.spells in
    along ts _ _ _ (x0.is ∙ ap (λ z. seen (at t.OpenBrace p) x0.place x0.bytes ∷ z) (x1.is ∙ ap (λ z. seen (fixed t.CloseBrace) x1.place x1.bytes ∷ z) (done x1.left rest x1.spells)))
elements-reads (Elements p ((Element n1 s2) ∷ xs3)) ts rest sp stack go =
    let x0 = one (at t.OpenBrace p) (word_of n1 ++ of_scalar s2 ++ of_more_elements xs3 ++ token t.CloseBrace) ts rest sp in
    let x1 = one (spelled t.Name n1.place n1.bytes) (of_scalar s2 ++ of_more_elements xs3 ++ token t.CloseBrace) x0.left rest x0.spells in
    let x2 = last (of_scalar s2 ++ of_more_elements xs3) (fixed t.CloseBrace) x1.left rest x1.spells in
    let x3 = two (of_scalar s2) (of_more_elements xs3) x1.left _ x2.spells in
    along ts _ _ _ (x0.is ∙ ap (λ z. seen (at t.OpenBrace p) x0.place x0.bytes ∷ z) (x1.is)) ∙ scalar-reads s2 x1.left x3.mid x3.before (more_elements-start Calm5 xs3 x3.mid _ x3.after (refl, (refl, (refl, (refl, refl)))) (refl, (refl, (refl, (refl, refl))))) _ _ ∙ MoreOr-end x3.mid _ _ (more_elements-start (Halts MoreOr) xs3 x3.mid _ x3.after refl refl) ∙ more_elements-reads xs3 x3.mid _ x3.after (refl, (refl, (refl, (refl, (refl, (refl, refl)))))) _ _

pub some_elements-reads : (x : SomeElementsP) (ts rest : List Piece) → Spells (of_some_elements x) ts rest → (stack : List Symbol) (k : Go (TheSomeElements ∷ stack)) → read ts (TheSomeElements ∷ stack) k ≡ read rest stack (λ v. k (x, v))
some_elements-reads (SomeElements p x xs) ts rest sp stack go =
    let x0 = one (at t.OpenBrace p) (of_element x ++ of_more_elements xs ++ token t.CloseBrace) ts rest sp in
    let x1 = last (of_element x ++ of_more_elements xs) (fixed t.CloseBrace) x0.left rest x0.spells in
    let x2 = two (of_element x) (of_more_elements xs) x0.left _ x1.spells in
    along ts _ _ _ (x0.is) ∙ element-reads x x0.left x2.mid x2.before (more_elements-start Calm6 xs x2.mid _ x2.after (refl, (refl, (refl, (refl, (refl, refl))))) (refl, (refl, (refl, (refl, (refl, refl)))))) _ _ ∙ more_elements-reads xs x2.mid _ x2.after (refl, (refl, (refl, (refl, (refl, (refl, refl)))))) _ _

pub tuple-reads : (x : TupleP) (ts rest : List Piece) → Spells (of_tuple x) ts rest → (stack : List Symbol) (k : Go (TheTuple ∷ stack)) → read ts (TheTuple ∷ stack) k ≡ read rest stack (λ v. k (x, v))
tuple-reads (Tuple p e) ts rest sp stack go =
    let x0 = one (at t.Tuple p) (of_elements e) ts rest sp in
    along ts _ _ _ (x0.is) ∙ elements-reads e x0.left rest x0.spells stack _

pub more_tuples-reads : (x : List TupleP) (ts rest : List Piece) → Spells (of_more_tuples x) ts rest → Calm10 (first rest) → (stack : List Symbol) (k : Go (MoreTuples ∷ stack)) → read ts (MoreTuples ∷ stack) k ≡ read rest stack (λ v. k (x, v))
more_tuples-reads [] ts rest sp calm stack go = along ts rest (MoreTuples ∷ stack) go (done ts rest sp) ∙ MoreTuples-end rest stack go calm
more_tuples-reads (x ∷ xs) ts rest sp calm stack go =
    let x0 = one (fixed t.Comma) (of_tuple x ++ of_more_tuples xs) ts rest sp in
    let x1 = two (of_tuple x) (of_more_tuples xs) x0.left rest x0.spells in
    along ts _ _ _ (x0.is) ∙ tuple-reads x x0.left x1.mid x1.before _ _ ∙ more_tuples-reads xs x1.mid rest x1.after calm stack _

pub tuples-reads : (x : List TupleP) (ts rest : List Piece) → Spells (of_tuples x) ts rest → (stack : List Symbol) (k : Go (TheTuples ∷ stack)) → read ts (TheTuples ∷ stack) k ≡ read rest stack (λ v. k (x, v))
tuples-reads [] ts rest sp stack go =
    let x0 = one (fixed t.OpenBrace) (token t.CloseBrace) ts rest sp in
    let x1 = one (fixed t.CloseBrace) ([]) x0.left rest x0.spells in
    along ts _ _ _ (x0.is ∙ ap (λ z. seen (fixed t.OpenBrace) x0.place x0.bytes ∷ z) (x1.is ∙ ap (λ z. seen (fixed t.CloseBrace) x1.place x1.bytes ∷ z) (done x1.left rest x1.spells)))
tuples-reads ((Tuple p1 e2) ∷ xs3) ts rest sp stack go =
    let x0 = one (fixed t.OpenBrace) (placed t.Tuple p1 ++ of_elements e2 ++ of_more_tuples xs3 ++ token t.CloseBrace) ts rest sp in
    let x1 = one (at t.Tuple p1) (of_elements e2 ++ of_more_tuples xs3 ++ token t.CloseBrace) x0.left rest x0.spells in
    let x2 = last (of_elements e2 ++ of_more_tuples xs3) (fixed t.CloseBrace) x1.left rest x1.spells in
    let x3 = two (of_elements e2) (of_more_tuples xs3) x1.left _ x2.spells in
    along ts _ _ _ (x0.is ∙ ap (λ z. seen (fixed t.OpenBrace) x0.place x0.bytes ∷ z) (x1.is)) ∙ elements-reads e2 x1.left x3.mid x3.before _ _ ∙ more_tuples-reads xs3 x3.mid _ x3.after refl _ _

pub literal-reads : (x : LiteralP) (ts rest : List Piece) → Spells (of_literal x) ts rest → (stack : List Symbol) (k : Go (TheLiteral ∷ stack)) → read ts (TheLiteral ∷ stack) k ≡ read rest stack (λ v. k (x, v))
literal-reads (Tuples p (Tuple p1 e2) xs) ts rest sp stack go =
    let x0 = one (at t.Relation p) (token t.OpenBrace ++ placed t.Tuple p1 ++ of_elements e2 ++ of_more_tuples xs ++ token t.CloseBrace) ts rest sp in
    let x1 = one (fixed t.OpenBrace) (placed t.Tuple p1 ++ of_elements e2 ++ of_more_tuples xs ++ token t.CloseBrace) x0.left rest x0.spells in
    let x2 = one (at t.Tuple p1) (of_elements e2 ++ of_more_tuples xs ++ token t.CloseBrace) x1.left rest x1.spells in
    let x3 = last (of_elements e2 ++ of_more_tuples xs) (fixed t.CloseBrace) x2.left rest x2.spells in
    let x4 = two (of_elements e2) (of_more_tuples xs) x2.left _ x3.spells in
    along ts _ _ _ (x0.is ∙ ap (λ z. seen (at t.Relation p) x0.place x0.bytes ∷ z) (x1.is ∙ ap (λ z. seen (fixed t.OpenBrace) x1.place x1.bytes ∷ z) (x2.is))) ∙ elements-reads e2 x2.left x4.mid x4.before _ _ ∙ more_tuples-reads xs x4.mid _ x4.after refl _ _
literal-reads (Headed p (Heading p1 []) us) ts rest sp stack go =
    let x0 = one (at t.Relation p) (placed t.OpenBrace p1 ++ token t.CloseBrace ++ of_tuples us) ts rest sp in
    let x1 = one (at t.OpenBrace p1) (token t.CloseBrace ++ of_tuples us) x0.left rest x0.spells in
    let x2 = one (fixed t.CloseBrace) (of_tuples us) x1.left rest x1.spells in
    along ts _ _ _ (x0.is ∙ ap (λ z. seen (at t.Relation p) x0.place x0.bytes ∷ z) (x1.is ∙ ap (λ z. seen (at t.OpenBrace p1) x1.place x1.bytes ∷ z) (x2.is))) ∙ tuples-reads us x2.left rest x2.spells stack _
literal-reads (Headed p (Heading p1 ((Attribute n3 k4) ∷ xs5)) us) ts rest sp stack go =
    let x0 = one (at t.Relation p) (placed t.OpenBrace p1 ++ word_of n3 ++ of_kind k4 ++ of_more_attributes xs5 ++ token t.CloseBrace ++ of_tuples us) ts rest sp in
    let x1 = one (at t.OpenBrace p1) (word_of n3 ++ of_kind k4 ++ of_more_attributes xs5 ++ token t.CloseBrace ++ of_tuples us) x0.left rest x0.spells in
    let x2 = one (spelled t.Name n3.place n3.bytes) (of_kind k4 ++ of_more_attributes xs5 ++ token t.CloseBrace ++ of_tuples us) x1.left rest x1.spells in
    let x3 = two (of_kind k4 ++ of_more_attributes xs5 ++ token t.CloseBrace) (of_tuples us) x2.left rest x2.spells in
    let x4 = last (of_kind k4 ++ of_more_attributes xs5) (fixed t.CloseBrace) x2.left x3.mid x3.before in
    let x5 = two (of_kind k4) (of_more_attributes xs5) x2.left _ x4.spells in
    along ts _ _ _ (x0.is ∙ ap (λ z. seen (at t.Relation p) x0.place x0.bytes ∷ z) (x1.is ∙ ap (λ z. seen (at t.OpenBrace p1) x1.place x1.bytes ∷ z) (x2.is))) ∙ kind-reads k4 x2.left x5.mid x5.before _ _ ∙ more_attributes-reads xs5 x5.mid _ x5.after refl _ _ ∙ tuples-reads us x3.mid rest x3.after stack _

pub set_item-reads : (x : SetItemP) (ts rest : List Piece) → Spells (of_set_item x) ts rest → Calm6 (first rest) → (stack : List Symbol) (k : Go (TheSetItem ∷ stack)) → read ts (TheSetItem ∷ stack) k ≡ read rest stack (λ v. k (x, v))
set_item-reads (SetItem n s) ts rest sp calm stack go =
    let x0 = one (spelled t.Name n.place n.bytes) (token t.Assign ++ of_scalar s) ts rest sp in
    let x1 = one (fixed t.Assign) (of_scalar s) x0.left rest x0.spells in
    along ts _ _ _ (x0.is ∙ ap (λ z. seen (spelled t.Name n.place n.bytes) x0.place x0.bytes ∷ z) (x1.is)) ∙ scalar-reads s x1.left rest x1.spells calm.1 stack _ ∙ MoreOr-end rest _ _ calm.0

pub more_set_items-reads : (x : List SetItemP) (ts rest : List Piece) → Spells (of_more_set_items x) ts rest → Calm11 (first rest) → (stack : List Symbol) (k : Go (MoreSetItems ∷ stack)) → read ts (MoreSetItems ∷ stack) k ≡ read rest stack (λ v. k (x, v))
more_set_items-reads [] ts rest sp calm stack go = along ts rest (MoreSetItems ∷ stack) go (done ts rest sp) ∙ MoreSetItems-end rest stack go calm.0
more_set_items-reads (x ∷ xs) ts rest sp calm stack go =
    let x0 = one (fixed t.Comma) (of_set_item x ++ of_more_set_items xs) ts rest sp in
    let x1 = two (of_set_item x) (of_more_set_items xs) x0.left rest x0.spells in
    along ts _ _ _ (x0.is) ∙ set_item-reads x x0.left x1.mid x1.before (more_set_items-start Calm6 xs x1.mid rest x1.after (refl, (refl, (refl, (refl, (refl, refl))))) calm.1) _ _ ∙ more_set_items-reads xs x1.mid rest x1.after calm stack _

pub sets-reads : (x : SetsP) (ts rest : List Piece) → Spells (of_sets x) ts rest → (stack : List Symbol) (k : Go (TheSets ∷ stack)) → read ts (TheSets ∷ stack) k ≡ read rest stack (λ v. k (x, v))
sets-reads (Sets p x xs) ts rest sp stack go =
    let x0 = one (at t.OpenBrace p) (of_set_item x ++ of_more_set_items xs ++ token t.CloseBrace) ts rest sp in
    let x1 = last (of_set_item x ++ of_more_set_items xs) (fixed t.CloseBrace) x0.left rest x0.spells in
    let x2 = two (of_set_item x) (of_more_set_items xs) x0.left _ x1.spells in
    along ts _ _ _ (x0.is) ∙ set_item-reads x x0.left x2.mid x2.before (more_set_items-start Calm6 xs x2.mid _ x2.after (refl, (refl, (refl, (refl, (refl, refl))))) (refl, (refl, (refl, (refl, (refl, refl)))))) _ _ ∙ more_set_items-reads xs x2.mid _ x2.after (refl, (refl, (refl, (refl, (refl, (refl, refl)))))) _ _

pub aggregate_form-reads : (x : AggregateFormP) (ts rest : List Piece) → Spells (of_aggregate_form x) ts rest → (stack : List Symbol) (k : Go (TheAggregateForm ∷ stack)) → read ts (TheAggregateForm ∷ stack) k ≡ read rest stack (λ v. k (x, v))
aggregate_form-reads (CountRows p) ts rest sp stack go =
    let x0 = one (at t.Count p) (token t.Open ++ token t.Close) ts rest sp in
    let x1 = one (fixed t.Open) (token t.Close) x0.left rest x0.spells in
    let x2 = one (fixed t.Close) ([]) x1.left rest x1.spells in
    along ts _ _ _ (x0.is ∙ ap (λ z. seen (at t.Count p) x0.place x0.bytes ∷ z) (x1.is ∙ ap (λ z. seen (fixed t.Open) x1.place x1.bytes ∷ z) (x2.is ∙ ap (λ z. seen (fixed t.Close) x2.place x2.bytes ∷ z) (done x2.left rest x2.spells))))
aggregate_form-reads (AggregateOf p aggregate_words.Sum s) ts rest sp stack go =
    let x0 = one (at t.Sum p) (token t.Open ++ of_scalar s ++ token t.Close) ts rest sp in
    let x1 = one (fixed t.Open) (of_scalar s ++ token t.Close) x0.left rest x0.spells in
    let x2 = last (of_scalar s) (fixed t.Close) x1.left rest x1.spells in
    along ts _ _ _ (x0.is ∙ ap (λ z. seen (at t.Sum p) x0.place x0.bytes ∷ z) (x1.is)) ∙ scalar-reads s x1.left _ x2.spells (refl, (refl, (refl, (refl, refl)))) _ _
aggregate_form-reads (AggregateOf p aggregate_words.Min s) ts rest sp stack go =
    let x0 = one (at t.Min p) (token t.Open ++ of_scalar s ++ token t.Close) ts rest sp in
    let x1 = one (fixed t.Open) (of_scalar s ++ token t.Close) x0.left rest x0.spells in
    let x2 = last (of_scalar s) (fixed t.Close) x1.left rest x1.spells in
    along ts _ _ _ (x0.is ∙ ap (λ z. seen (at t.Min p) x0.place x0.bytes ∷ z) (x1.is)) ∙ scalar-reads s x1.left _ x2.spells (refl, (refl, (refl, (refl, refl)))) _ _
aggregate_form-reads (AggregateOf p aggregate_words.Max s) ts rest sp stack go =
    let x0 = one (at t.Max p) (token t.Open ++ of_scalar s ++ token t.Close) ts rest sp in
    let x1 = one (fixed t.Open) (of_scalar s ++ token t.Close) x0.left rest x0.spells in
    let x2 = last (of_scalar s) (fixed t.Close) x1.left rest x1.spells in
    along ts _ _ _ (x0.is ∙ ap (λ z. seen (at t.Max p) x0.place x0.bytes ∷ z) (x1.is)) ∙ scalar-reads s x1.left _ x2.spells (refl, (refl, (refl, (refl, refl)))) _ _

pub aggregate-reads : (x : AggregateP) (ts rest : List Piece) → Spells (of_aggregate x) ts rest → (stack : List Symbol) (k : Go (TheAggregate ∷ stack)) → read ts (TheAggregate ∷ stack) k ≡ read rest stack (λ v. k (x, v))
aggregate-reads (Aggregate n a) ts rest sp stack go =
    let x0 = one (spelled t.Name n.place n.bytes) (token t.Assign ++ of_aggregate_form a) ts rest sp in
    let x1 = one (fixed t.Assign) (of_aggregate_form a) x0.left rest x0.spells in
    along ts _ _ _ (x0.is ∙ ap (λ z. seen (spelled t.Name n.place n.bytes) x0.place x0.bytes ∷ z) (x1.is)) ∙ aggregate_form-reads a x1.left rest x1.spells stack _

pub more_aggregates-reads : (x : List AggregateP) (ts rest : List Piece) → Spells (of_more_aggregates x) ts rest → Calm12 (first rest) → (stack : List Symbol) (k : Go (MoreAggregates ∷ stack)) → read ts (MoreAggregates ∷ stack) k ≡ read rest stack (λ v. k (x, v))
more_aggregates-reads [] ts rest sp calm stack go = along ts rest (MoreAggregates ∷ stack) go (done ts rest sp) ∙ MoreAggregates-end rest stack go calm
more_aggregates-reads (x ∷ xs) ts rest sp calm stack go =
    let x0 = one (fixed t.Comma) (of_aggregate x ++ of_more_aggregates xs) ts rest sp in
    let x1 = two (of_aggregate x) (of_more_aggregates xs) x0.left rest x0.spells in
    along ts _ _ _ (x0.is) ∙ aggregate-reads x x0.left x1.mid x1.before _ _ ∙ more_aggregates-reads xs x1.mid rest x1.after calm stack _

pub aggregates-reads : (x : AggregatesP) (ts rest : List Piece) → Spells (of_aggregates x) ts rest → (stack : List Symbol) (k : Go (TheAggregates ∷ stack)) → read ts (TheAggregates ∷ stack) k ≡ read rest stack (λ v. k (x, v))
aggregates-reads (Aggregates p x xs) ts rest sp stack go =
    let x0 = one (at t.OpenBrace p) (of_aggregate x ++ of_more_aggregates xs ++ token t.CloseBrace) ts rest sp in
    let x1 = last (of_aggregate x ++ of_more_aggregates xs) (fixed t.CloseBrace) x0.left rest x0.spells in
    let x2 = two (of_aggregate x) (of_more_aggregates xs) x0.left _ x1.spells in
    along ts _ _ _ (x0.is) ∙ aggregate-reads x x0.left x2.mid x2.before _ _ ∙ more_aggregates-reads xs x2.mid _ x2.after refl _ _

pub renaming-reads : (x : RenamingP) (ts rest : List Piece) → Spells (of_renaming x) ts rest → (stack : List Symbol) (k : Go (TheRenaming ∷ stack)) → read ts (TheRenaming ∷ stack) k ≡ read rest stack (λ v. k (x, v))
renaming-reads (Renaming n m) ts rest sp stack go =
    let x0 = one (spelled t.Name n.place n.bytes) (token t.As ++ word_of m) ts rest sp in
    let x1 = one (fixed t.As) (word_of m) x0.left rest x0.spells in
    let x2 = one (spelled t.Name m.place m.bytes) ([]) x1.left rest x1.spells in
    along ts _ _ _ (x0.is ∙ ap (λ z. seen (spelled t.Name n.place n.bytes) x0.place x0.bytes ∷ z) (x1.is ∙ ap (λ z. seen (fixed t.As) x1.place x1.bytes ∷ z) (x2.is ∙ ap (λ z. seen (spelled t.Name m.place m.bytes) x2.place x2.bytes ∷ z) (done x2.left rest x2.spells))))

pub more_renamings-reads : (x : List RenamingP) (ts rest : List Piece) → Spells (of_more_renamings x) ts rest → Calm13 (first rest) → (stack : List Symbol) (k : Go (MoreRenamings ∷ stack)) → read ts (MoreRenamings ∷ stack) k ≡ read rest stack (λ v. k (x, v))
more_renamings-reads [] ts rest sp calm stack go = along ts rest (MoreRenamings ∷ stack) go (done ts rest sp) ∙ MoreRenamings-end rest stack go calm
more_renamings-reads (x ∷ xs) ts rest sp calm stack go =
    let x0 = one (fixed t.Comma) (of_renaming x ++ of_more_renamings xs) ts rest sp in
    let x1 = two (of_renaming x) (of_more_renamings xs) x0.left rest x0.spells in
    along ts _ _ _ (x0.is) ∙ renaming-reads x x0.left x1.mid x1.before _ _ ∙ more_renamings-reads xs x1.mid rest x1.after calm stack _

pub renamings-reads : (x : RenamingsP) (ts rest : List Piece) → Spells (of_renamings x) ts rest → (stack : List Symbol) (k : Go (TheRenamings ∷ stack)) → read ts (TheRenamings ∷ stack) k ≡ read rest stack (λ v. k (x, v))
renamings-reads (Renamings p x xs) ts rest sp stack go =
    let x0 = one (at t.OpenBrace p) (of_renaming x ++ of_more_renamings xs ++ token t.CloseBrace) ts rest sp in
    let x1 = last (of_renaming x ++ of_more_renamings xs) (fixed t.CloseBrace) x0.left rest x0.spells in
    let x2 = two (of_renaming x) (of_more_renamings xs) x0.left _ x1.spells in
    along ts _ _ _ (x0.is) ∙ renaming-reads x x0.left x2.mid x2.before _ _ ∙ more_renamings-reads xs x2.mid _ x2.after refl _ _

pub portion-reads : (x : PortionP) (ts rest : List Piece) → Spells (of_portion x) ts rest → (stack : List Symbol) (k : Go (ThePortion ∷ stack)) → read ts (ThePortion ∷ stack) k ≡ read rest stack (λ v. k (x, v))
portion-reads (Portion p e) ts rest sp stack go =
    let x0 = one (at t.Portion p) (of_some_elements e) ts rest sp in
    along ts _ _ _ (x0.is) ∙ some_elements-reads e x0.left rest x0.spells stack _

pub maybe_portion-reads : (x : MaybePortionP) (ts rest : List Piece) → Spells (of_maybe_portion x) ts rest → Calm14 (first rest) → (stack : List Symbol) (k : Go (MaybePortion ∷ stack)) → read ts (MaybePortion ∷ stack) k ≡ read rest stack (λ v. k (x, v))
maybe_portion-reads NoPortion ts rest sp calm stack go = along ts rest (MaybePortion ∷ stack) go (done ts rest sp) ∙ MaybePortion-end rest stack go calm
maybe_portion-reads (OfPortion p e) ts rest sp calm stack go =
    let x0 = one (at t.Portion p) (of_some_elements e) ts rest sp in
    along ts _ _ _ (x0.is) ∙ some_elements-reads e x0.left rest x0.spells stack _

pub condition-reads : (x : ConditionP) (ts rest : List Piece) → Spells (of_condition x) ts rest → Calm15 (first rest) → (stack : List Symbol) (k : Go (MaybeWhere ∷ stack)) → read ts (MaybeWhere ∷ stack) k ≡ read rest stack (λ v. k (x, v))
condition-reads NoCondition ts rest sp calm stack go = along ts rest (MaybeWhere ∷ stack) go (done ts rest sp) ∙ MaybeWhere-end rest stack go calm.0
condition-reads (Where p s) ts rest sp calm stack go =
    let x0 = one (at t.Where p) (of_scalar s) ts rest sp in
    along ts _ _ _ (x0.is) ∙ scalar-reads s x0.left rest x0.spells calm.1.1 stack _ ∙ MoreOr-end rest _ _ calm.1.0
