-- The values that forms give, in a range, and what rows make of them.
use Rattle.std.proofs.Common.{ℕ, List, [], ◌∷◌, ◌++◌}
use Rattle.utd_syntax.specs.declared.terminal.Terminal.{Terminal}
use Rattle.utd_syntax.specs.declared.terminal.Terminal.TheVariants as t
use Rattle.point_core.specs.declared.fault.Place.{Place}
use Rattle.utd_syntax.specs.Plain.{Word, ScalarP, ConjP, SumP, ProdP, NameListP, TermsP, TermP, OperandP}
use Rattle.utd_syntax.specs.Written.{log_word}
use Rattle.utd_syntax.specs.Table.{Symbol, TheName, Comma, DateText, MomentText, NegativeDigits, ThePrimary, AfterName, AfterScalar, EndOfSelector, InParens, InPair, InPoint, TheSign, TheProd, MoreProd, TheSum, MoreSum, TheCmp, MoreCmp, TheNeg, TheConj, MoreAnd, TheScalar, MoreOr, ThePoint, TheKind, TheAttribute, MoreAttributes, InHeading, TheHeading, MoreNames, InNames, InList, TheNames, TheList, TheSomeNames, TheParenName, TheElement, MoreElements, InElements, TheElements, TheSomeElements, TheTuple, MoreTuples, InTuples, TheTuples, TheLiteral, AfterRelation, TheSetItem, MoreSetItems, TheSets, EmptyParens, TheAggregateForm, TheAggregate, MoreAggregates, TheAggregates, TheRenaming, MoreRenamings, TheRenamings, ThePortion, MaybePortion, MaybeWhere, InProjection, TheOperand, TheExtend, TheSummarize, TheRelPrimary, TheTerm, MorePostfix, TheTerms, MoreInfix, TheUsing, TheRel, TheUsingPart, AfterOperand, TheKey, TheForeign, TheUsedConstraint, TheConstraint, MoreConstraints, InRel, TheKept, AfterKept, InKept, TheVarForm, TheComparison, AfterLeft, TheTest, TheUsedDeletion, TheUsedItem, TheDeletion, TheItem, MoreItems, TheAssign, TheStatement, AfterDrop, AfterLog, Just, Worded, Shut, Taking, Plain, Negated, Dated, Timed, Row, on, spelt, before, then_row, ◌▹◌}
use Rattle.utd_syntax.proofs.FormValues.{Val, Vals, inner, Case, Make, Makes, over_make, over_makes, last_of, last_behind, then_case, then_make, then_makes, append_makes}
use Rattle.utd_ranges.specs.Ranges.{Range, IsIn, Each, IsIn, NameIn, PointIn, ScalarIn, ConjIn, NegIn, CmpIn, SumIn, ProdIn, SignIn, PrimaryIn, KindIn, AttributeIn, HeadingIn, NamesIn, NameListIn, SomeNamesIn, ElementIn, ElementsIn, SomeElementsIn, TupleIn, LiteralIn, SetItemIn, SetsIn, AggregateFormIn, AggregateIn, AggregatesIn, RenamingIn, RenamingsIn, PortionIn, MaybePortionIn, ConditionIn, ProjectionIn, RelIn, TermsIn, TermIn, RelPrimaryIn, OperandIn, ExtendIn, SummarizeIn, UsingIn, UsingPartIn, KeyIn, ForeignIn, UsedConstraintIn, ConstraintIn, KeptIn, VarFormIn, ComparisonIn, TestIn, UsedDeletionIn, UsedItemIn, DeletionIn, ItemIn, AssignIn, StatementIn}

-- what a form gives is in the range; the rest of one keeps it
abbrev pub Good : Range → (s : Symbol) → Val s → Type 0
Good out TheName v = NameIn out v
Good out Comma v = Unit {0}
Good out DateText w = IsIn out Dated t.Quoted w.bytes
Good out MomentText w = IsIn out Timed t.Quoted w.bytes
Good out NegativeDigits w = IsIn out Negated t.Digits w.bytes
Good out ThePrimary v = PrimaryIn out v
Good out AfterName f = (x : Word) → NameIn out x → PrimaryIn out (f x)
Good out AfterScalar f = (x : Place) → (y : ScalarP) → ScalarIn out y → PrimaryIn out (f x y)
Good out EndOfSelector v = Unit {0}
Good out InParens v = ScalarIn out v
Good out InPair v = ScalarIn out v.0 × ScalarIn out v.1
Good out InPoint v = PointIn out v
Good out TheSign v = SignIn out v
Good out TheProd v = ProdIn out v
Good out MoreProd f = (x : ProdP) → ProdIn out x → ProdIn out (f x)
Good out TheSum v = SumIn out v
Good out MoreSum f = (x : SumP) → SumIn out x → SumIn out (f x)
Good out TheCmp v = CmpIn out v
Good out MoreCmp f = (x : SumP) → SumIn out x → CmpIn out (f x)
Good out TheNeg v = NegIn out v
Good out TheConj v = ConjIn out v
Good out MoreAnd f = (x : ConjP) → ConjIn out x → ConjIn out (f x)
Good out TheScalar v = ScalarIn out v
Good out MoreOr f = (x : ScalarP) → ScalarIn out x → ScalarIn out (f x)
Good out ThePoint v = PointIn out v
Good out TheKind v = KindIn out v
Good out TheAttribute v = AttributeIn out v
Good out MoreAttributes v = Each (AttributeIn out) v
Good out InHeading v = Each (AttributeIn out) v
Good out TheHeading v = HeadingIn out v
Good out MoreNames v = Each (NameIn out) v
Good out InNames v = Each (NameIn out) v
Good out InList v = Each (NameIn out) v
Good out TheNames v = NamesIn out v
Good out TheList v = NameListIn out v
Good out TheSomeNames v = SomeNamesIn out v
Good out TheParenName v = NameIn out v
Good out TheElement v = ElementIn out v
Good out MoreElements v = Each (ElementIn out) v
Good out InElements v = Each (ElementIn out) v
Good out TheElements v = ElementsIn out v
Good out TheSomeElements v = SomeElementsIn out v
Good out TheTuple v = TupleIn out v
Good out MoreTuples v = Each (TupleIn out) v
Good out InTuples v = Each (TupleIn out) v
Good out TheTuples v = Each (TupleIn out) v
Good out TheLiteral v = LiteralIn out v
Good out AfterRelation f = (x : Place) → LiteralIn out (f x)
Good out TheSetItem v = SetItemIn out v
Good out MoreSetItems v = Each (SetItemIn out) v
Good out TheSets v = SetsIn out v
Good out EmptyParens v = Unit {0}
Good out TheAggregateForm v = AggregateFormIn out v
Good out TheAggregate v = AggregateIn out v
Good out MoreAggregates v = Each (AggregateIn out) v
Good out TheAggregates v = AggregatesIn out v
Good out TheRenaming v = RenamingIn out v
Good out MoreRenamings v = Each (RenamingIn out) v
Good out TheRenamings v = RenamingsIn out v
Good out ThePortion v = PortionIn out v
Good out MaybePortion v = MaybePortionIn out v
Good out MaybeWhere v = ConditionIn out v
Good out InProjection f = (x : Place) → ProjectionIn out (f x)
Good out TheOperand v = OperandIn out v
Good out TheExtend v = ExtendIn out v
Good out TheSummarize v = SummarizeIn out v
Good out TheRelPrimary v = RelPrimaryIn out v
Good out TheTerm v = TermIn out v
Good out MorePostfix f = (x : TermP) → TermIn out x → TermIn out (f x)
Good out TheTerms v = TermsIn out v
Good out MoreInfix f = (x : TermsP) → TermsIn out x → TermsIn out (f x)
Good out TheUsing v = UsingIn out v
Good out TheRel v = RelIn out v
Good out TheUsingPart v = UsingPartIn out v
Good out AfterOperand f = (x : OperandP) → OperandIn out x → UsingPartIn out (f x)
Good out TheKey v = KeyIn out v
Good out TheForeign v = ForeignIn out v
Good out TheUsedConstraint v = UsedConstraintIn out v
Good out TheConstraint v = ConstraintIn out v
Good out MoreConstraints v = Each (ConstraintIn out) v
Good out InRel v = RelIn out v
Good out TheKept v = KeptIn out v
Good out AfterKept f = (x : Place) → (y : NameListP) → (z : Word) → NameListIn out y → NameIn out z → KeptIn out (f x y z)
Good out InKept v = KeptIn out v
Good out TheVarForm v = VarFormIn out v
Good out TheComparison v = ComparisonIn out v
Good out AfterLeft f = (x : OperandP) → OperandIn out x → ComparisonIn out (f x)
Good out TheTest v = TestIn out v
Good out TheUsedDeletion v = UsedDeletionIn out v
Good out TheUsedItem v = UsedItemIn out v
Good out TheDeletion v = DeletionIn out v
Good out TheItem v = ItemIn out v
Good out MoreItems v = Each (ItemIn out) v
Good out TheAssign v = AssignIn out v
Good out TheStatement v = StatementIn out v
Good out AfterDrop f = (x : Place) → StatementIn out (f x)
Good out AfterLog f = (x : Place) → IsIn out Plain t.Name log_word → StatementIn out (f x)
Good out (Just x) v = Unit {0}
Good out (Worded b) v = Unit {0}
Good out (Shut outer) v = Unit {0}

abbrev pub AllGood : Range → (stack : List Symbol) → Vals stack → Type 0
AllGood out [] vs = Unit {0}
AllGood out (s ∷ stack) vs = Good out s vs.0 × AllGood out stack vs.1

-- what a row makes of a token in the range, and of parts that are, is in it
abbrev pub CaseIn : Range → Terminal → (s : Symbol) (how : Taking) (more : List Symbol) → Case s how more → Type 0
CaseIn out x s how more f = (p : Place) (b : List ℕ) → IsIn out how x b → (vs : Vals (inner how ++ more)) → AllGood out (inner how ++ more) vs → Good out s (f p b vs)

-- the same of a name that is spelled so
abbrev pub SpeltIn : Range → List ℕ → (s : Symbol) (more : List Symbol) → Case s Plain more → Type 0
SpeltIn out c s more f = (p : Place) (b : List ℕ) → IsIn out Plain t.Name c → (vs : Vals (inner Plain ++ more)) → AllGood out (inner Plain ++ more) vs → Good out s (f p b vs)

abbrev pub RowIn : Range → (s : Symbol) (r : Row) → Make s r → Type 0
RowIn out s (on x how more) f = CaseIn out x s how more f
RowIn out s (spelt c more) f = SpeltIn out c s more f
RowIn out s (before x y how more how' more') f = CaseIn out x s how more f.0 × CaseIn out x s how' more' f.1

abbrev pub RowsIn : Range → (s : Symbol) (rs : List Row) → Makes s rs → Type 0
RowsIn out s [] ms = Unit {0}
RowsIn out s (r ∷ rs) ms = RowIn out s r ms.0 × RowsIn out s rs ms.1

-- of a form that is another
abbrev Keeps : Range → (a b : Symbol) → (Val a → Val b) → Type 0
Keeps out a b f = (v : Val a) → Good out a v → Good out b (f v)

over-row : (out : Range) (a b : Symbol) (f : Val a → Val b) → Keeps out a b f → (r : Row) (m : Make a r) → RowIn out a r m → RowIn out b r (over_make a b f r m)
over-row out a b f keeps (on x how more) m h = λ p c o vs g. keeps (m p c vs) (h p c o vs g)
over-row out a b f keeps (spelt w more) m h = λ p c o vs g. keeps (m p c vs) (h p c o vs g)
over-row out a b f keeps (before x y how more how' more') m h = ((λ p c o vs g. keeps (m.0 p c vs) (h.0 p c o vs g)), (λ p c o vs g. keeps (m.1 p c vs) (h.1 p c o vs g)))

pub over-in : (out : Range) (a b : Symbol) (f : Val a → Val b) → ((v : Val a) → Good out a v → Good out b (f v)) → (rs : List Row) (ms : Makes a rs) → RowsIn out a rs ms → RowsIn out b rs (over_makes a b f rs ms)
over-in out a b f keeps [] ms h = tt
over-in out a b f keeps (r ∷ rs) ms h = (over-row out a b f keeps r ms.0 h.0, over-in out a b f keeps rs ms.1 h.1)

-- of a form that is another and then more
last-in : (out : Range) (xs : List Symbol) (c : Symbol) (vs : Vals (xs ++ c ∷ [])) → AllGood out (xs ++ c ∷ []) vs → AllGood out xs (last_of xs c vs).0 × Good out c (last_of xs c vs).1
last-in out [] c vs h = (tt, h.0)
last-in out (x ∷ xs) c vs h = let r : AllGood out xs (last_of xs c vs.1).0 × Good out c (last_of xs c vs.1).1 = last-in out xs c vs.1 h.1 in ((h.0, r.0), r.1)

behind-in : (out : Range) (xs ys : List Symbol) (c : Symbol) (vs : Vals (xs ++ (ys ++ c ∷ []))) → AllGood out (xs ++ (ys ++ c ∷ [])) vs → AllGood out (xs ++ ys) (last_behind xs ys c vs).0 × Good out c (last_behind xs ys c vs).1
behind-in out [] ys c vs h = last-in out ys c vs h
behind-in out (x ∷ xs) ys c vs h = let r : AllGood out (xs ++ ys) (last_behind xs ys c vs.1).0 × Good out c (last_behind xs ys c vs.1).1 = behind-in out xs ys c vs.1 h.1 in ((h.0, r.0), r.1)

abbrev Joins : Range → (a b c : Symbol) → (Val a → Val c → Val b) → Type 0
Joins out a b c f = (u : Val a) (w : Val c) → Good out a u → Good out c w → Good out b (f u w)

then-case-in : (out : Range) (x : Terminal) (a b c : Symbol) (f : Val a → Val c → Val b) → Joins out a b c f → (how : Taking) (more : List Symbol) (m : Case a how more) → CaseIn out x a how more m → CaseIn out x b how (more ++ c ∷ []) (then_case a b c f how more m)
then-case-in out x a b c f joins how more m h = λ p w o vs g.
    let r : Vals (inner how ++ more) × Val c = last_behind (inner how) more c vs in
    let q : AllGood out (inner how ++ more) r.0 × Good out c r.1 = behind-in out (inner how) more c vs g in
    joins (m p w r.0) r.1 (h p w o r.0 q.0) q.1

then-spelt-in : (out : Range) (spelling : List ℕ) (a b c : Symbol) (f : Val a → Val c → Val b) → Joins out a b c f → (more : List Symbol) (m : Case a Plain more) → SpeltIn out spelling a more m → SpeltIn out spelling b (more ++ c ∷ []) (then_case a b c f Plain more m)
then-spelt-in out spelling a b c f joins more m h = λ p w o vs g.
    let r : Vals (inner Plain ++ more) × Val c = last_behind (inner Plain) more c vs in
    let q : AllGood out (inner Plain ++ more) r.0 × Good out c r.1 = behind-in out (inner Plain) more c vs g in
    joins (m p w r.0) r.1 (h p w o r.0 q.0) q.1

then-row-in : (out : Range) (a b c : Symbol) (f : Val a → Val c → Val b) → Joins out a b c f → (r : Row) (m : Make a r) → RowIn out a r m → RowIn out b (then_row r (c ∷ [])) (then_make a b c f r m)
then-row-in out a b c f joins (on x how more) m h = then-case-in out x a b c f joins how more m h
then-row-in out a b c f joins (spelt w more) m h = then-spelt-in out w a b c f joins more m h
then-row-in out a b c f joins (before x y how more how' more') m h = (then-case-in out x a b c f joins how more m.0 h.0, then-case-in out x a b c f joins how' more' m.1 h.1)

pub then-in : (out : Range) (a b c : Symbol) (f : Val a → Val c → Val b) → ((u : Val a) (w : Val c) → Good out a u → Good out c w → Good out b (f u w)) → (rs : List Row) (ms : Makes a rs) → RowsIn out a rs ms → RowsIn out b (rs ▹ (c ∷ [])) (then_makes a b c f rs ms)
then-in out a b c f joins [] ms h = tt
then-in out a b c f joins (r ∷ rs) ms h = (then-row-in out a b c f joins r ms.0 h.0, then-in out a b c f joins rs ms.1 h.1)

pub append-in : (out : Range) (s : Symbol) (xs ys : List Row) (ms : Makes s xs) (ns : Makes s ys) → RowsIn out s xs ms → RowsIn out s ys ns → RowsIn out s (xs ++ ys) (append_makes s xs ys ms ns)
append-in out s [] ys ms ns h g = g
append-in out s (r ∷ xs) ys ms ns h g = (h.0, append-in out s xs ys ms.1 ns h.1 g)
