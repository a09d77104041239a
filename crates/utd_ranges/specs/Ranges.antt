-- Whether the names and literals of a syntax tree are in a range, each as the grammar takes it.
--     HasLiteralsInRange      none is out of the range that the limits allow
--     HasValues      each stands for a name or a value
--     StatementIn out      none is one that `out` tells
use Rattle.std.specs.Prelude.{◌≡◌, ℕ, List, [], ◌∷◌, Bool, false, ◌&&◌, ◌||◌, not, nat_le, length}
use Rattle.utd_syntax.specs.declared.terminal.Terminal.{Terminal}
use Rattle.utd_syntax.specs.declared.terminal.Terminal.TheVariants as t
use Rattle.utd_syntax.specs.Pieces.{Piece}
use Rattle.utd_syntax.specs.Table.{Taking, Plain, Negated, Dated, Timed, same}
use Rattle.utd_ranges.specs.Limits.{is_out_of_range}
use Rattle.value_core.specs.Lengths.{is_utf8}
use Rattle.utd_syntax.specs.Plain.{Word, PointP, ScalarP, ConjP, NegP, CmpP, SumP, ProdP, SignP, PrimaryP, KindP, AttributeP, HeadingP, NamesP, NameListP, SomeNamesP, ElementP, ElementsP, SomeElementsP, TupleP, LiteralP, SetItemP, SetsP, AggregateFormP, AggregateP, AggregatesP, RenamingP, RenamingsP, PortionP, MaybePortionP, ConditionP, ProjectionP, RelP, TermsP, TermP, RelPrimaryP, OperandP, ExtendP, SummarizeP, UsingP, UsingPartP, KeyP, ForeignP, UsedConstraintP, ConstraintP, KeptP, VarFormP, ComparisonP, TestP, UsedDeletionP, UsedItemP, DeletionP, ItemP, AssignP, StatementP, IntegerType, DateType, MomentType, NamedType, OneConj, Or, OneNeg, And, Not, OneCmp, OneSum, Compare, OneProd, Add, OneSign, Multiply, NegativeInteger, Negate, OnePrimary, IntegerLiteral, TextLiteral, DateLiteral, MomentLiteral, TrueLiteral, FalseLiteral, AttributeName, Dotted, Paren, Selector, Extreme, Function, PairFunction, BooleanKind, CharKind, PointKind, IntervalKind, Attribute, Heading, Names, NameList, SomeNames, Element, Elements, SomeElements, Tuple, Tuples, Headed, SetItem, Sets, CountRows, AggregateOf, Aggregate, Aggregates, Renaming, Renamings, Portion, NoPortion, OfPortion, NoCondition, Where, Onto, AllBut, OfUsing, OfTerms, OneTerm, Infix, NotMatching, OneRelPrimary, Project, Filter, Rename, OfExtend, OfSummarize, OfOperand, Relvar, OfLiteral, ParenRel, PackOn, Extend, Summarize, Using, UsingExtend, UsingSummarize, UsingInfix, UsingNotMatching, UsingProject, UsingFilter, Key, Foreign, UsedKey, UsedForeign, KeyOf, ForeignOf, PackedOn, WhenUnpacked, UsingConstraint, KeptInfix, KeptNotMatching, KeptProject, KeptPack, BaseRelvar, View, Kept, Comparison, UsingTest, Emptiness, OfComparison, UsedDeleteWhere, UsedDeleteRows, UsedInsert, UsedDelete, UsedUpdate, DeleteWhere, DeletePortion, DeleteRows, SetRelvar, Insert, Delete, Update, Terminate, UsingItem, Assign, Nothing, DeclareOrdinal, DeclareRelvar, DeclareHistory, DeclareLog, DeclareRule, Drop, DropRule, Print, Ask, Assignment}

-- which tokens are out of a range: by how a token is taken, what it is, and its bytes
abbrev pub Range : Type 0
Range = Taking → Terminal → List ℕ → Bool

abbrev pub IsIn : Range → Taking → Terminal → List ℕ → Type 0
IsIn out how x bytes = out how x bytes ≡ false

abbrev pub Each : {X : Type 0} → (X → Type 0) → List X → Type 0
Each P [] = Unit {0}
Each P (x ∷ xs) = P x × Each P xs

abbrev pub NameIn : Range → Word → Type 0
NameIn out w = IsIn out Plain t.Name w.bytes

abbrev pub PointIn : Range → PointP → Type 0
PointIn out (IntegerType _) = Unit {0}
PointIn out (DateType _) = Unit {0}
PointIn out (MomentType _) = Unit {0}
PointIn out (NamedType a) = NameIn out a

abbrev mutual
  pub ScalarIn : Range → ScalarP → Type 0
  ScalarIn out (OneConj a) = ConjIn out a
  ScalarIn out (Or a _ c) = ScalarIn out a × ConjIn out c

  pub ConjIn : Range → ConjP → Type 0
  ConjIn out (OneNeg a) = NegIn out a
  ConjIn out (And a _ c) = ConjIn out a × NegIn out c

  pub NegIn : Range → NegP → Type 0
  NegIn out (Not _ b) = NegIn out b
  NegIn out (OneCmp a) = CmpIn out a

  pub CmpIn : Range → CmpP → Type 0
  CmpIn out (OneSum a) = SumIn out a
  CmpIn out (Compare a _ _ d) = SumIn out a × SumIn out d

  pub SumIn : Range → SumP → Type 0
  SumIn out (OneProd a) = ProdIn out a
  SumIn out (Add a _ _ d) = SumIn out a × ProdIn out d

  pub ProdIn : Range → ProdP → Type 0
  ProdIn out (OneSign a) = SignIn out a
  ProdIn out (Multiply a _ _ d) = ProdIn out a × SignIn out d

  pub SignIn : Range → SignP → Type 0
  SignIn out (NegativeInteger at digits bytes) = IsIn out Negated t.Digits bytes
  SignIn out (Negate _ b) = SignIn out b
  SignIn out (OnePrimary a) = PrimaryIn out a

  pub PrimaryIn : Range → PrimaryP → Type 0
  PrimaryIn out (IntegerLiteral at bytes) = IsIn out Plain t.Digits bytes
  PrimaryIn out (TextLiteral at bytes) = IsIn out Plain t.Quoted bytes
  PrimaryIn out (DateLiteral at quoted bytes) = IsIn out Dated t.Quoted bytes
  PrimaryIn out (MomentLiteral at quoted bytes) = IsIn out Timed t.Quoted bytes
  PrimaryIn out (TrueLiteral _) = Unit {0}
  PrimaryIn out (FalseLiteral _) = Unit {0}
  PrimaryIn out (AttributeName a) = NameIn out a
  PrimaryIn out (Dotted a b) = NameIn out a × NameIn out b
  PrimaryIn out (Paren _ b) = ScalarIn out b
  PrimaryIn out (Selector _ _ c d _) = ScalarIn out c × ScalarIn out d
  PrimaryIn out (Extreme _ _ c) = PointIn out c
  PrimaryIn out (Function _ _ c) = ScalarIn out c
  PrimaryIn out (PairFunction _ _ c d) = ScalarIn out c × ScalarIn out d

abbrev pub KindIn : Range → KindP → Type 0
KindIn out (BooleanKind _) = Unit {0}
KindIn out (CharKind _) = Unit {0}
KindIn out (PointKind a) = PointIn out a
KindIn out (IntervalKind _ b) = PointIn out b

abbrev pub AttributeIn : Range → AttributeP → Type 0
AttributeIn out (Attribute a b) = NameIn out a × KindIn out b

abbrev pub HeadingIn : Range → HeadingP → Type 0
HeadingIn out (Heading _ b) = Each (AttributeIn out) b

abbrev pub NamesIn : Range → NamesP → Type 0
NamesIn out (Names _ b) = Each (NameIn out) b

abbrev pub NameListIn : Range → NameListP → Type 0
NameListIn out (NameList _ b) = Each (NameIn out) b

abbrev pub SomeNamesIn : Range → SomeNamesP → Type 0
SomeNamesIn out (SomeNames _ b c) = NameIn out b × Each (NameIn out) c

abbrev pub ElementIn : Range → ElementP → Type 0
ElementIn out (Element a b) = NameIn out a × ScalarIn out b

abbrev pub ElementsIn : Range → ElementsP → Type 0
ElementsIn out (Elements _ b) = Each (ElementIn out) b

abbrev pub SomeElementsIn : Range → SomeElementsP → Type 0
SomeElementsIn out (SomeElements _ b c) = ElementIn out b × Each (ElementIn out) c

abbrev pub TupleIn : Range → TupleP → Type 0
TupleIn out (Tuple _ b) = ElementsIn out b

abbrev pub LiteralIn : Range → LiteralP → Type 0
LiteralIn out (Tuples _ b c) = TupleIn out b × Each (TupleIn out) c
LiteralIn out (Headed _ b c) = HeadingIn out b × Each (TupleIn out) c

abbrev pub SetItemIn : Range → SetItemP → Type 0
SetItemIn out (SetItem a b) = NameIn out a × ScalarIn out b

abbrev pub SetsIn : Range → SetsP → Type 0
SetsIn out (Sets _ b c) = SetItemIn out b × Each (SetItemIn out) c

abbrev pub AggregateFormIn : Range → AggregateFormP → Type 0
AggregateFormIn out (CountRows _) = Unit {0}
AggregateFormIn out (AggregateOf _ _ c) = ScalarIn out c

abbrev pub AggregateIn : Range → AggregateP → Type 0
AggregateIn out (Aggregate a b) = NameIn out a × AggregateFormIn out b

abbrev pub AggregatesIn : Range → AggregatesP → Type 0
AggregatesIn out (Aggregates _ b c) = AggregateIn out b × Each (AggregateIn out) c

abbrev pub RenamingIn : Range → RenamingP → Type 0
RenamingIn out (Renaming a b) = NameIn out a × NameIn out b

abbrev pub RenamingsIn : Range → RenamingsP → Type 0
RenamingsIn out (Renamings _ b c) = RenamingIn out b × Each (RenamingIn out) c

abbrev pub PortionIn : Range → PortionP → Type 0
PortionIn out (Portion _ b) = SomeElementsIn out b

abbrev pub MaybePortionIn : Range → MaybePortionP → Type 0
MaybePortionIn out NoPortion = Unit {0}
MaybePortionIn out (OfPortion _ b) = SomeElementsIn out b

abbrev pub ConditionIn : Range → ConditionP → Type 0
ConditionIn out NoCondition = Unit {0}
ConditionIn out (Where _ b) = ScalarIn out b

abbrev pub ProjectionIn : Range → ProjectionP → Type 0
ProjectionIn out (Onto _ b) = Each (NameIn out) b
ProjectionIn out (AllBut _ b c) = NameIn out b × Each (NameIn out) c

abbrev mutual
  pub RelIn : Range → RelP → Type 0
  RelIn out (OfUsing a) = UsingIn out a
  RelIn out (OfTerms a) = TermsIn out a

  pub TermsIn : Range → TermsP → Type 0
  TermsIn out (OneTerm a) = TermIn out a
  TermsIn out (Infix a _ _ d) = TermsIn out a × TermIn out d
  TermsIn out (NotMatching a _ c) = TermsIn out a × TermIn out c

  pub TermIn : Range → TermP → Type 0
  TermIn out (OneRelPrimary a) = RelPrimaryIn out a
  TermIn out (Project a b) = TermIn out a × ProjectionIn out b
  TermIn out (Filter a _ c) = TermIn out a × ScalarIn out c
  TermIn out (Rename a _ c) = TermIn out a × RenamingsIn out c

  pub RelPrimaryIn : Range → RelPrimaryP → Type 0
  RelPrimaryIn out (OfExtend a) = ExtendIn out a
  RelPrimaryIn out (OfSummarize a) = SummarizeIn out a
  RelPrimaryIn out (OfOperand a) = OperandIn out a

  pub OperandIn : Range → OperandP → Type 0
  OperandIn out (Relvar a) = NameIn out a
  OperandIn out (OfLiteral a) = LiteralIn out a
  OperandIn out (ParenRel _ b) = RelIn out b
  OperandIn out (PackOn _ _ c d) = RelIn out c × NameListIn out d

  pub ExtendIn : Range → ExtendP → Type 0
  ExtendIn out (Extend _ b c) = RelIn out b × SetsIn out c

  pub SummarizeIn : Range → SummarizeP → Type 0
  SummarizeIn out (Summarize _ b c d) = RelIn out b × NamesIn out c × AggregatesIn out d

  pub UsingIn : Range → UsingP → Type 0
  UsingIn out (Using _ b c) = NameListIn out b × UsingPartIn out c

  pub UsingPartIn : Range → UsingPartP → Type 0
  UsingPartIn out (UsingExtend a) = ExtendIn out a
  UsingPartIn out (UsingSummarize a) = SummarizeIn out a
  UsingPartIn out (UsingInfix a _ _ d) = OperandIn out a × OperandIn out d
  UsingPartIn out (UsingNotMatching a _ c) = OperandIn out a × OperandIn out c
  UsingPartIn out (UsingProject a b) = OperandIn out a × ProjectionIn out b
  UsingPartIn out (UsingFilter a _ c) = OperandIn out a × ScalarIn out c

abbrev pub KeyIn : Range → KeyP → Type 0
KeyIn out (Key _ b) = NamesIn out b

abbrev pub ForeignIn : Range → ForeignP → Type 0
ForeignIn out (Foreign _ b c) = NamesIn out b × NameIn out c

abbrev pub UsedConstraintIn : Range → UsedConstraintP → Type 0
UsedConstraintIn out (UsedKey a) = KeyIn out a
UsedConstraintIn out (UsedForeign a) = ForeignIn out a

abbrev pub ConstraintIn : Range → ConstraintP → Type 0
ConstraintIn out (KeyOf a) = KeyIn out a
ConstraintIn out (ForeignOf a) = ForeignIn out a
ConstraintIn out (PackedOn _ b) = NameListIn out b
ConstraintIn out (WhenUnpacked _ b c) = NameListIn out b × KeyIn out c
ConstraintIn out (UsingConstraint _ b c) = NameListIn out b × UsedConstraintIn out c

abbrev pub KeptIn : Range → KeptP → Type 0
KeptIn out (KeptInfix _ b c _ _ f) = NameListIn out b × NameIn out c × NameIn out f
KeptIn out (KeptNotMatching _ b c _ e) = NameListIn out b × NameIn out c × NameIn out e
KeptIn out (KeptProject _ b c d) = NameListIn out b × NameIn out c × ProjectionIn out d
KeptIn out (KeptPack _ b c) = NameIn out b × NameListIn out c

abbrev pub VarFormIn : Range → VarFormP → Type 0
VarFormIn out (BaseRelvar _ b c) = HeadingIn out b × Each (ConstraintIn out) c
VarFormIn out (View _ b) = RelIn out b
VarFormIn out (Kept _ b) = KeptIn out b

abbrev pub ComparisonIn : Range → ComparisonP → Type 0
ComparisonIn out (Comparison a _ _ d) = OperandIn out a × OperandIn out d

abbrev pub TestIn : Range → TestP → Type 0
TestIn out (UsingTest _ b c) = NameListIn out b × ComparisonIn out c
TestIn out (Emptiness _ _ c) = RelIn out c
TestIn out (OfComparison a) = ComparisonIn out a

abbrev pub UsedDeletionIn : Range → UsedDeletionP → Type 0
UsedDeletionIn out (UsedDeleteWhere _ b) = ScalarIn out b
UsedDeletionIn out (UsedDeleteRows a) = RelIn out a

abbrev pub UsedItemIn : Range → UsedItemP → Type 0
UsedItemIn out (UsedInsert _ b c) = NameIn out b × RelIn out c
UsedItemIn out (UsedDelete _ b c) = NameIn out b × UsedDeletionIn out c
UsedItemIn out (UsedUpdate _ b c d) = NameIn out b × ConditionIn out c × SetsIn out d

abbrev pub DeletionIn : Range → DeletionP → Type 0
DeletionIn out (DeleteWhere _ b) = ScalarIn out b
DeletionIn out (DeletePortion a b) = PortionIn out a × ConditionIn out b
DeletionIn out (DeleteRows a) = RelIn out a

abbrev pub ItemIn : Range → ItemP → Type 0
ItemIn out (SetRelvar a b) = NameIn out a × RelIn out b
ItemIn out (Insert _ b c) = NameIn out b × RelIn out c
ItemIn out (Delete _ b c) = NameIn out b × DeletionIn out c
ItemIn out (Update _ b c d e) = NameIn out b × MaybePortionIn out c × ConditionIn out d × SetsIn out e
ItemIn out (Terminate _ b _ d e) = NameIn out b × ScalarIn out d × ConditionIn out e
ItemIn out (UsingItem _ b c) = NameListIn out b × UsedItemIn out c

abbrev pub AssignIn : Range → AssignP → Type 0
AssignIn out (Assign a b) = ItemIn out a × Each (ItemIn out) b

abbrev pub StatementIn : Range → StatementP → Type 0
StatementIn out Nothing = Unit {0}
StatementIn out (DeclareOrdinal _ b c) = NameIn out b × SomeNamesIn out c
StatementIn out (DeclareRelvar _ b c) = NameIn out b × VarFormIn out c
StatementIn out (DeclareHistory _ b c d e f g h i) = NameIn out b × HeadingIn out c × KeyIn out d × NameIn out e × NameIn out f × NameIn out g × NameIn out h × PointIn out i
StatementIn out (DeclareLog _ b c d) = NameIn out b × NameIn out c × NameIn out d
StatementIn out (DeclareRule _ b c) = NameIn out b × TestIn out c
StatementIn out (Drop _ b) = NameIn out b
StatementIn out (DropRule _ _ c) = NameIn out c
StatementIn out (Print _ b) = RelIn out b
StatementIn out (Ask _ b) = TestIn out b
StatementIn out (Assignment a) = AssignIn out a

-- ---- the ranges

-- No name of the statement has too many bytes, no integer leaves 64 bits, no date and no moment is one that does not exist, and
-- no text has too many bytes or a character below the space.
abbrev pub HasLiteralsInRange : StatementP → Type 0
HasLiteralsInRange statement = StatementIn is_out_of_range statement

-- what no text writes: bytes that are not UTF-8, and a name without any
abbrev pub is_unwritten : Terminal → List ℕ → Bool
is_unwritten x bytes = not (is_utf8 bytes && (not (same x t.Name) || nat_le 1 (length bytes)))

abbrev pub AreWritten : List Piece → Type 0
AreWritten [] = Unit {0}
AreWritten (p ∷ ps) = (is_unwritten p.terminal p.bytes ≡ false) × AreWritten ps

-- out of range, or what no text writes
abbrev pub has_no_value : Range
has_no_value how x bytes = is_out_of_range how x bytes || is_unwritten x bytes

-- each name and literal of the statement stands for a name or a value
abbrev pub HasValues : StatementP → Type 0
HasValues statement = StatementIn has_no_value statement
