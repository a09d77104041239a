-- Written by tools/grammar; change it there.
-- The syntax tree as plain data: without where its parts lie in memory. Each rule of the grammar is one type. A tree
-- keeps the place of its first token, of each name, and of each token at which a refusal or a fault may stand.
use Rattle.std.specs.Prelude.{ℕ, List}
use Rattle.point_core.specs.declared.fault.Place.{Place}
use Rattle.utd_syntax.specs.declared.words.ComparisonWord.{ComparisonWord}
use Rattle.utd_syntax.specs.declared.words.SumWord.{SumWord}
use Rattle.utd_syntax.specs.declared.words.ProductWord.{ProductWord}
use Rattle.utd_syntax.specs.declared.words.BeginBracket.{BeginBracket}
use Rattle.utd_syntax.specs.declared.words.EndBracket.{EndBracket}
use Rattle.utd_syntax.specs.declared.words.ExtremeWord.{ExtremeWord}
use Rattle.utd_syntax.specs.declared.words.FunctionWord.{FunctionWord}
use Rattle.utd_syntax.specs.declared.words.PairWord.{PairWord}
use Rattle.utd_syntax.specs.declared.words.InfixWord.{InfixWord}
use Rattle.utd_syntax.specs.declared.words.PackWord.{PackWord}
use Rattle.utd_syntax.specs.declared.words.AggregateWord.{AggregateWord}
use Rattle.utd_syntax.specs.declared.words.RelationComparison.{RelationComparison}
use Rattle.utd_syntax.specs.declared.words.EmptinessWord.{EmptinessWord}

-- a name, and where it stands
pub record Word : Type 0 where
  pub place : Place
  pub bytes : List ℕ

abbrev pub word : Place → List ℕ → Word
word place bytes = record { place = place; bytes = bytes }

-- "INTEGER" | "DATE" | "MOMENT" | name
pub data PointP : Type 0 where
  IntegerType : Place → PointP
  DateType : Place → PointP
  MomentType : Place → PointP
  NamedType : Word → PointP

mutual
  -- conj | scalar "OR" conj
  pub data ScalarP : Type 0 where
    OneConj : ConjP → ScalarP
    Or : ScalarP → Place → ConjP → ScalarP

  -- neg | conj "AND" neg
  pub data ConjP : Type 0 where
    OneNeg : NegP → ConjP
    And : ConjP → Place → NegP → ConjP

  -- "NOT" neg | cmp
  pub data NegP : Type 0 where
    Not : Place → NegP → NegP
    OneCmp : CmpP → NegP

  -- sum | sum comparison sum
  pub data CmpP : Type 0 where
    OneSum : SumP → CmpP
    Compare : SumP → Place → ComparisonWord → SumP → CmpP

  -- prod | sum ( "+" | "-" | "||" ) prod
  pub data SumP : Type 0 where
    OneProd : ProdP → SumP
    Add : SumP → Place → SumWord → ProdP → SumP

  -- sign | prod ( "*" | "/" ) sign
  pub data ProdP : Type 0 where
    OneSign : SignP → ProdP
    Multiply : ProdP → Place → ProductWord → SignP → ProdP

  -- "-" integer | "-" sign | primary; a "-" before an integer is one literal with it
  pub data SignP : Type 0 where
    NegativeInteger : Place → Place → List ℕ → SignP
    Negate : Place → SignP → SignP
    OnePrimary : PrimaryP → SignP

  -- integer | text | "DATE" text | "MOMENT" text | "TRUE" | "FALSE" | name | name "." name | "(" scalar ")" | an interval | a function
  pub data PrimaryP : Type 0 where
    IntegerLiteral : Place → List ℕ → PrimaryP
    TextLiteral : Place → List ℕ → PrimaryP
    DateLiteral : Place → Place → List ℕ → PrimaryP
    MomentLiteral : Place → Place → List ℕ → PrimaryP
    TrueLiteral : Place → PrimaryP
    FalseLiteral : Place → PrimaryP
    AttributeName : Word → PrimaryP
    Dotted : Word → Word → PrimaryP
    Paren : Place → ScalarP → PrimaryP
    Selector : Place → BeginBracket → ScalarP → ScalarP → EndBracket → PrimaryP
    Extreme : Place → ExtremeWord → PointP → PrimaryP
    Function : Place → FunctionWord → ScalarP → PrimaryP
    PairFunction : Place → PairWord → ScalarP → ScalarP → PrimaryP

-- "BOOLEAN" | "CHAR" | point | "INTERVAL" "(" point ")"
pub data KindP : Type 0 where
  BooleanKind : Place → KindP
  CharKind : Place → KindP
  PointKind : PointP → KindP
  IntervalKind : Place → PointP → KindP

-- name kind
pub data AttributeP : Type 0 where
  Attribute : Word → KindP → AttributeP

-- "{" [ attribute { "," attribute } ] "}"
pub data HeadingP : Type 0 where
  Heading : Place → List AttributeP → HeadingP

-- "{" [ name { "," name } ] "}"
pub data NamesP : Type 0 where
  Names : Place → List Word → NamesP

-- "(" [ name { "," name } ] ")"
pub data NameListP : Type 0 where
  NameList : Place → List Word → NameListP

-- "{" name { "," name } "}"
pub data SomeNamesP : Type 0 where
  SomeNames : Place → Word → List Word → SomeNamesP

-- name scalar
pub data ElementP : Type 0 where
  Element : Word → ScalarP → ElementP

-- "{" [ element { "," element } ] "}"
pub data ElementsP : Type 0 where
  Elements : Place → List ElementP → ElementsP

-- "{" element { "," element } "}"
pub data SomeElementsP : Type 0 where
  SomeElements : Place → ElementP → List ElementP → SomeElementsP

-- "TUPLE" elements
pub data TupleP : Type 0 where
  Tuple : Place → ElementsP → TupleP

-- "RELATION" "{" tuple { "," tuple } "}" | "RELATION" heading "{" [ tuple { "," tuple } ] "}"
pub data LiteralP : Type 0 where
  Tuples : Place → TupleP → List TupleP → LiteralP
  Headed : Place → HeadingP → List TupleP → LiteralP

-- name ":=" scalar
pub data SetItemP : Type 0 where
  SetItem : Word → ScalarP → SetItemP

-- "{" set_item { "," set_item } "}"
pub data SetsP : Type 0 where
  Sets : Place → SetItemP → List SetItemP → SetsP

-- "COUNT" "(" ")" | ( "SUM" | "MIN" | "MAX" ) "(" scalar ")"
pub data AggregateFormP : Type 0 where
  CountRows : Place → AggregateFormP
  AggregateOf : Place → AggregateWord → ScalarP → AggregateFormP

-- name ":=" aggregate_form
pub data AggregateP : Type 0 where
  Aggregate : Word → AggregateFormP → AggregateP

-- "{" aggregate { "," aggregate } "}"
pub data AggregatesP : Type 0 where
  Aggregates : Place → AggregateP → List AggregateP → AggregatesP

-- name "AS" name
pub data RenamingP : Type 0 where
  Renaming : Word → Word → RenamingP

-- "{" renaming { "," renaming } "}"
pub data RenamingsP : Type 0 where
  Renamings : Place → RenamingP → List RenamingP → RenamingsP

-- "PORTION" some_elements
pub data PortionP : Type 0 where
  Portion : Place → SomeElementsP → PortionP

-- [ "PORTION" some_elements ]
pub data MaybePortionP : Type 0 where
  NoPortion : MaybePortionP
  OfPortion : Place → SomeElementsP → MaybePortionP

-- [ "WHERE" scalar ]
pub data ConditionP : Type 0 where
  NoCondition : ConditionP
  Where : Place → ScalarP → ConditionP

-- names | "{" "ALL" "BUT" name { "," name } "}"
pub data ProjectionP : Type 0 where
  Onto : Place → List Word → ProjectionP
  AllBut : Place → Word → List Word → ProjectionP

mutual
  -- using | terms
  pub data RelP : Type 0 where
    OfUsing : UsingP → RelP
    OfTerms : TermsP → RelP

  -- term | terms infix term
  pub data TermsP : Type 0 where
    OneTerm : TermP → TermsP
    Infix : TermsP → Place → InfixWord → TermP → TermsP
    NotMatching : TermsP → Place → TermP → TermsP

  -- rel_primary | term projection | term "WHERE" scalar | term "RENAME" renamings
  pub data TermP : Type 0 where
    OneRelPrimary : RelPrimaryP → TermP
    Project : TermP → ProjectionP → TermP
    Filter : TermP → Place → ScalarP → TermP
    Rename : TermP → Place → RenamingsP → TermP

  -- extend | summarize | operand
  pub data RelPrimaryP : Type 0 where
    OfExtend : ExtendP → RelPrimaryP
    OfSummarize : SummarizeP → RelPrimaryP
    OfOperand : OperandP → RelPrimaryP

  -- name | literal | "(" rel ")" | ( "PACK" | "UNPACK" ) rel "ON" list
  pub data OperandP : Type 0 where
    Relvar : Word → OperandP
    OfLiteral : LiteralP → OperandP
    ParenRel : Place → RelP → OperandP
    PackOn : Place → PackWord → RelP → NameListP → OperandP

  -- "EXTEND" rel ":" sets
  pub data ExtendP : Type 0 where
    Extend : Place → RelP → SetsP → ExtendP

  -- "SUMMARIZE" rel "BY" names ":" aggregates
  pub data SummarizeP : Type 0 where
    Summarize : Place → RelP → NamesP → AggregatesP → SummarizeP

  -- "USING" list ":" using_part
  pub data UsingP : Type 0 where
    Using : Place → NameListP → UsingPartP → UsingP

  -- extend | summarize | operand infix operand | operand projection | operand "WHERE" scalar
  pub data UsingPartP : Type 0 where
    UsingExtend : ExtendP → UsingPartP
    UsingSummarize : SummarizeP → UsingPartP
    UsingInfix : OperandP → Place → InfixWord → OperandP → UsingPartP
    UsingNotMatching : OperandP → Place → OperandP → UsingPartP
    UsingProject : OperandP → ProjectionP → UsingPartP
    UsingFilter : OperandP → Place → ScalarP → UsingPartP

-- "KEY" names
pub data KeyP : Type 0 where
  Key : Place → NamesP → KeyP

-- "FOREIGN" "KEY" names "REFERENCES" name
pub data ForeignP : Type 0 where
  Foreign : Place → NamesP → Word → ForeignP

-- key | foreign
pub data UsedConstraintP : Type 0 where
  UsedKey : KeyP → UsedConstraintP
  UsedForeign : ForeignP → UsedConstraintP

-- key | foreign | "PACKED" "ON" list | "WHEN" "UNPACKED" "ON" list "THEN" key | "USING" list ":" used_constraint
pub data ConstraintP : Type 0 where
  KeyOf : KeyP → ConstraintP
  ForeignOf : ForeignP → ConstraintP
  PackedOn : Place → NameListP → ConstraintP
  WhenUnpacked : Place → NameListP → KeyP → ConstraintP
  UsingConstraint : Place → NameListP → UsedConstraintP → ConstraintP

-- "USING" list ":" name infix name | "USING" list ":" name projection | "PACK" name "ON" list
pub data KeptP : Type 0 where
  KeptInfix : Place → NameListP → Word → Place → InfixWord → Word → KeptP
  KeptNotMatching : Place → NameListP → Word → Place → Word → KeptP
  KeptProject : Place → NameListP → Word → ProjectionP → KeptP
  KeptPack : Place → Word → NameListP → KeptP

-- "RELATION" heading { constraint } | "VIRTUAL" "(" rel ")" | "KEPT" "(" kept ")"
pub data VarFormP : Type 0 where
  BaseRelvar : Place → HeadingP → List ConstraintP → VarFormP
  View : Place → RelP → VarFormP
  Kept : Place → KeptP → VarFormP

-- operand ( "=" | "<>" | "<" | "<=" | ">" | ">=" ) operand
pub data ComparisonP : Type 0 where
  Comparison : OperandP → Place → RelationComparison → OperandP → ComparisonP

-- "USING" list ":" comparison | ( "IS_EMPTY" | "IS_NOT_EMPTY" ) "(" rel ")" | comparison
pub data TestP : Type 0 where
  UsingTest : Place → NameListP → ComparisonP → TestP
  Emptiness : Place → EmptinessWord → RelP → TestP
  OfComparison : ComparisonP → TestP

-- "WHERE" scalar | rel
pub data UsedDeletionP : Type 0 where
  UsedDeleteWhere : Place → ScalarP → UsedDeletionP
  UsedDeleteRows : RelP → UsedDeletionP

-- "INSERT" name rel | "DELETE" name used_deletion | "UPDATE" name condition ":" sets
pub data UsedItemP : Type 0 where
  UsedInsert : Place → Word → RelP → UsedItemP
  UsedDelete : Place → Word → UsedDeletionP → UsedItemP
  UsedUpdate : Place → Word → ConditionP → SetsP → UsedItemP

-- "WHERE" scalar | portion condition | rel
pub data DeletionP : Type 0 where
  DeleteWhere : Place → ScalarP → DeletionP
  DeletePortion : PortionP → ConditionP → DeletionP
  DeleteRows : RelP → DeletionP

-- name ":=" rel | "INSERT" name rel | "DELETE" name deletion | "UPDATE" name maybe_portion condition ":" sets | "TERMINATE" name "AT" scalar condition | "USING" list ":" used_item
pub data ItemP : Type 0 where
  SetRelvar : Word → RelP → ItemP
  Insert : Place → Word → RelP → ItemP
  Delete : Place → Word → DeletionP → ItemP
  Update : Place → Word → MaybePortionP → ConditionP → SetsP → ItemP
  Terminate : Place → Word → Place → ScalarP → ConditionP → ItemP
  UsingItem : Place → NameListP → UsedItemP → ItemP

-- item { "," item }
pub data AssignP : Type 0 where
  Assign : ItemP → List ItemP → AssignP

-- ";" and what may stand before it
pub data StatementP : Type 0 where
  Nothing : StatementP
  DeclareOrdinal : Place → Word → SomeNamesP → StatementP
  DeclareRelvar : Place → Word → VarFormP → StatementP
  DeclareHistory : Place → Word → HeadingP → KeyP → Word → Word → Word → Word → PointP → StatementP
  DeclareLog : Place → Word → Word → Word → StatementP
  DeclareRule : Place → Word → TestP → StatementP
  Drop : Place → Word → StatementP
  DropRule : Place → Place → Word → StatementP
  Print : Place → RelP → StatementP
  Ask : Place → TestP → StatementP
  Assignment : AssignP → StatementP
