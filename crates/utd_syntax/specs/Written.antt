-- Written by tools/grammar; change it there.
-- The grammar: the tokens that a tree is written as, an equation for each alternative.
use Rattle.std.specs.Prelude.{◌≡◌, ℕ, List, [], ◌∷◌, ◌++◌}
use Rattle.utd_syntax.specs.declared.terminal.Terminal.{Terminal}
use Rattle.utd_syntax.specs.declared.terminal.Terminal.TheVariants as t
use Rattle.point_core.specs.declared.fault.Place.{Place}
use Rattle.utd_syntax.specs.declared.words.ComparisonWord.{ComparisonWord}
use Rattle.utd_syntax.specs.declared.words.ComparisonWord.TheVariants as comparisons
use Rattle.utd_syntax.specs.declared.words.SumWord.{SumWord}
use Rattle.utd_syntax.specs.declared.words.SumWord.TheVariants as sum_words
use Rattle.utd_syntax.specs.declared.words.ProductWord.{ProductWord}
use Rattle.utd_syntax.specs.declared.words.ProductWord.TheVariants as product_words
use Rattle.utd_syntax.specs.declared.words.BeginBracket.{BeginBracket}
use Rattle.utd_syntax.specs.declared.words.BeginBracket.TheVariants as begin_brackets
use Rattle.utd_syntax.specs.declared.words.EndBracket.{EndBracket}
use Rattle.utd_syntax.specs.declared.words.EndBracket.TheVariants as end_brackets
use Rattle.utd_syntax.specs.declared.words.ExtremeWord.{ExtremeWord}
use Rattle.utd_syntax.specs.declared.words.ExtremeWord.TheVariants as extremes
use Rattle.utd_syntax.specs.declared.words.FunctionWord.{FunctionWord}
use Rattle.utd_syntax.specs.declared.words.FunctionWord.TheVariants as functions
use Rattle.utd_syntax.specs.declared.words.PairWord.{PairWord}
use Rattle.utd_syntax.specs.declared.words.PairWord.TheVariants as pair_functions
use Rattle.utd_syntax.specs.declared.words.InfixWord.{InfixWord}
use Rattle.utd_syntax.specs.declared.words.InfixWord.TheVariants as infixes
use Rattle.utd_syntax.specs.declared.words.PackWord.{PackWord}
use Rattle.utd_syntax.specs.declared.words.PackWord.TheVariants as pack_words
use Rattle.utd_syntax.specs.declared.words.AggregateWord.{AggregateWord}
use Rattle.utd_syntax.specs.declared.words.AggregateWord.TheVariants as aggregate_words
use Rattle.utd_syntax.specs.declared.words.RelationComparison.{RelationComparison}
use Rattle.utd_syntax.specs.declared.words.RelationComparison.TheVariants as relation_comparisons
use Rattle.utd_syntax.specs.declared.words.EmptinessWord.{EmptinessWord}
use Rattle.utd_syntax.specs.declared.words.EmptinessWord.TheVariants as emptinesses
use Rattle.utd_syntax.specs.Pieces.{Piece, first}
use Rattle.utd_syntax.specs.Plain.{Word, PointP, ScalarP, ConjP, NegP, CmpP, SumP, ProdP, SignP, PrimaryP, KindP, AttributeP, HeadingP, NamesP, NameListP, SomeNamesP, ElementP, ElementsP, SomeElementsP, TupleP, LiteralP, SetItemP, SetsP, AggregateFormP, AggregateP, AggregatesP, RenamingP, RenamingsP, PortionP, MaybePortionP, ConditionP, ProjectionP, RelP, TermsP, TermP, RelPrimaryP, OperandP, ExtendP, SummarizeP, UsingP, UsingPartP, KeyP, ForeignP, UsedConstraintP, ConstraintP, KeptP, VarFormP, ComparisonP, TestP, UsedDeletionP, UsedItemP, DeletionP, ItemP, AssignP, StatementP, IntegerType, DateType, MomentType, NamedType, OneConj, Or, OneNeg, And, Not, OneCmp, OneSum, Compare, OneProd, Add, OneSign, Multiply, NegativeInteger, Negate, OnePrimary, IntegerLiteral, TextLiteral, DateLiteral, MomentLiteral, TrueLiteral, FalseLiteral, AttributeName, Dotted, Paren, Selector, Extreme, Function, PairFunction, BooleanKind, CharKind, PointKind, IntervalKind, Attribute, Heading, Names, NameList, SomeNames, Element, Elements, SomeElements, Tuple, Tuples, Headed, SetItem, Sets, CountRows, AggregateOf, Aggregate, Aggregates, Renaming, Renamings, Portion, NoPortion, OfPortion, NoCondition, Where, Onto, AllBut, OfUsing, OfTerms, OneTerm, Infix, NotMatching, OneRelPrimary, Project, Filter, Rename, OfExtend, OfSummarize, OfOperand, Relvar, OfLiteral, ParenRel, PackOn, Extend, Summarize, Using, UsingExtend, UsingSummarize, UsingInfix, UsingNotMatching, UsingProject, UsingFilter, Key, Foreign, UsedKey, UsedForeign, KeyOf, ForeignOf, PackedOn, WhenUnpacked, UsingConstraint, KeptInfix, KeptNotMatching, KeptProject, KeptPack, BaseRelvar, View, Kept, Comparison, UsingTest, Emptiness, OfComparison, UsedDeleteWhere, UsedDeleteRows, UsedInsert, UsedDelete, UsedUpdate, DeleteWhere, DeletePortion, DeleteRows, SetRelvar, Insert, Delete, Update, Terminate, UsingItem, Assign, Nothing, DeclareOrdinal, DeclareRelvar, DeclareHistory, DeclareLog, DeclareRule, Drop, DropRule, Print, Ask, Assignment}

-- What a tree says of one token: what it is, and where the tree keeps them its place and its bytes.
pub data Mark : Type 0 where
  fixed : Terminal → Mark
  at : Terminal → Place → Mark
  spelled : Terminal → Place → List ℕ → Mark
  -- a word that is reserved at its place alone
  worded : List ℕ → Mark
  -- and that this one does not stand directly behind it
  apart : Terminal → Place → Terminal → Mark

-- the token, given the one behind it
abbrev pub IsMark : Mark → Piece → Terminal → Type 0
IsMark (fixed s) t behind = t.terminal ≡ s
IsMark (at s p) t behind = (t.terminal ≡ s) × (t.place ≡ p)
IsMark (spelled s p bytes) t behind = (t.terminal ≡ s) × (t.place ≡ p) × (t.bytes ≡ bytes)
IsMark (worded bytes) x behind = (x.terminal ≡ t.Name) × (x.bytes ≡ bytes)
IsMark (apart s p barred) t behind = (t.terminal ≡ s) × (t.place ≡ p) × (behind ≡ barred → ⊥)

-- the tokens begin with these, and these are the tokens after them
unfoldable pub Spells : List Mark → List Piece → List Piece → Type 0
Spells [] ts rest = ts ≡ rest
Spells (m ∷ ms) [] rest = ⊥
Spells (m ∷ ms) (t ∷ ts) rest = IsMark m t (first ts) × Spells ms ts rest

-- a token of this kind; one whose place the tree keeps; one whose bytes it keeps too
abbrev pub token : Terminal → List Mark
token s = fixed s ∷ []

abbrev pub placed : Terminal → Place → List Mark
placed s p = at s p ∷ []

abbrev pub lexeme : Terminal → Place → List ℕ → List Mark
lexeme s p bytes = spelled s p bytes ∷ []

abbrev pub word_of : Word → List Mark
word_of n = lexeme t.Name n.place n.bytes

abbrev pub contextual : List ℕ → List Mark
contextual bytes = worded bytes ∷ []

-- a "-" before an integer is one literal with it
abbrev pub negation : Place → List Mark
negation p = apart t.Dash p t.Digits ∷ []

-- the words that have a meaning at their places alone, and may be names
abbrev pub ordinal_word : List ℕ
ordinal_word = 79 ∷ 82 ∷ 68 ∷ 73 ∷ 78 ∷ 65 ∷ 76 ∷ []

abbrev pub since_word : List ℕ
since_word = 83 ∷ 73 ∷ 78 ∷ 67 ∷ 69 ∷ []

abbrev pub during_word : List ℕ
during_word = 68 ∷ 85 ∷ 82 ∷ 73 ∷ 78 ∷ 71 ∷ []

abbrev pub over_word : List ℕ
over_word = 79 ∷ 86 ∷ 69 ∷ 82 ∷ []

abbrev pub at_word : List ℕ
at_word = 65 ∷ 84 ∷ []

abbrev pub log_word : List ℕ
log_word = 76 ∷ 79 ∷ 71 ∷ []

abbrev pub of_word : List ℕ
of_word = 79 ∷ 70 ∷ []

abbrev pub kept_word : List ℕ
kept_word = 75 ∷ 69 ∷ 80 ∷ 84 ∷ []

abbrev pub comparison : ComparisonWord → Terminal
comparison comparisons.Equal = t.Equal
comparison comparisons.NotEqual = t.NotEqual
comparison comparisons.Less = t.Less
comparison comparisons.LessEqual = t.LessEqual
comparison comparisons.Greater = t.Greater
comparison comparisons.GreaterEqual = t.GreaterEqual
comparison comparisons.In = t.In
comparison comparisons.Includes = t.Includes
comparison comparisons.IncludedIn = t.IncludedIn
comparison comparisons.Before = t.Before
comparison comparisons.After = t.After
comparison comparisons.Meets = t.Meets
comparison comparisons.Overlaps = t.Overlaps
comparison comparisons.Merges = t.Merges
comparison comparisons.Begins = t.Begins
comparison comparisons.Ends = t.Ends

abbrev pub sum_word : SumWord → Terminal
sum_word sum_words.Plus = t.Plus
sum_word sum_words.Minus = t.Dash
sum_word sum_words.Concat = t.Bars

abbrev pub product_word : ProductWord → Terminal
product_word product_words.Times = t.Star
product_word product_words.Divide = t.Slash

abbrev pub begin_bracket : BeginBracket → Terminal
begin_bracket begin_brackets.Closed = t.OpenBracket
begin_bracket begin_brackets.Open = t.Open

abbrev pub end_bracket : EndBracket → Terminal
end_bracket end_brackets.Closed = t.CloseBracket
end_bracket end_brackets.Open = t.Close

abbrev pub extreme : ExtremeWord → Terminal
extreme extremes.First = t.First
extreme extremes.Last = t.Last

abbrev pub function : FunctionWord → Terminal
function functions.Begin = t.Begin
function functions.End = t.End
function functions.Pre = t.Pre
function functions.Post = t.Post
function functions.Count = t.Count
function functions.Next = t.Next
function functions.Prior = t.Prior

abbrev pub pair_function : PairWord → Terminal
pair_function pair_functions.Union = t.Union
pair_function pair_functions.Intersect = t.Intersect
pair_function pair_functions.Minus = t.Minus

abbrev pub infix_word : InfixWord → Terminal
infix_word infixes.Union = t.Union
infix_word infixes.Intersect = t.Intersect
infix_word infixes.Minus = t.Minus
infix_word infixes.Join = t.Join
infix_word infixes.Matching = t.Matching

abbrev pub pack_word : PackWord → Terminal
pack_word pack_words.Pack = t.Pack
pack_word pack_words.Unpack = t.Unpack

abbrev pub aggregate_word : AggregateWord → Terminal
aggregate_word aggregate_words.Sum = t.Sum
aggregate_word aggregate_words.Min = t.Min
aggregate_word aggregate_words.Max = t.Max

abbrev pub relation_comparison : RelationComparison → Terminal
relation_comparison relation_comparisons.Equal = t.Equal
relation_comparison relation_comparisons.NotEqual = t.NotEqual
relation_comparison relation_comparisons.Less = t.Less
relation_comparison relation_comparisons.LessEqual = t.LessEqual
relation_comparison relation_comparisons.Greater = t.Greater
relation_comparison relation_comparisons.GreaterEqual = t.GreaterEqual

abbrev pub emptiness : EmptinessWord → Terminal
emptiness emptinesses.IsEmpty = t.IsEmpty
emptiness emptinesses.IsNotEmpty = t.IsNotEmpty

abbrev pub of_name : Word → List Mark
of_name n = word_of n

abbrev pub of_point : PointP → List Mark
of_point (IntegerType p) = placed t.Integer p
of_point (DateType p) = placed t.Date p
of_point (MomentType p) = placed t.Moment p
of_point (NamedType n) = word_of n

abbrev mutual
  pub of_scalar : ScalarP → List Mark
  of_scalar (OneConj c) = of_conj c
  of_scalar (Or s p c) = of_scalar s ++ placed t.Or p ++ of_conj c

  pub of_conj : ConjP → List Mark
  of_conj (OneNeg c) = of_neg c
  of_conj (And s p c) = of_conj s ++ placed t.And p ++ of_neg c

  pub of_neg : NegP → List Mark
  of_neg (Not p n) = placed t.Not p ++ of_neg n
  of_neg (OneCmp c) = of_cmp c

  pub of_cmp : CmpP → List Mark
  of_cmp (OneSum s) = of_sum s
  of_cmp (Compare s p o r) = of_sum s ++ placed (comparison o) p ++ of_sum r

  pub of_sum : SumP → List Mark
  of_sum (OneProd f) = of_prod f
  of_sum (Add s p o f) = of_sum s ++ placed (sum_word o) p ++ of_prod f

  pub of_prod : ProdP → List Mark
  of_prod (OneSign f) = of_sign f
  of_prod (Multiply s p o f) = of_prod s ++ placed (product_word o) p ++ of_sign f

  pub of_sign : SignP → List Mark
  of_sign (NegativeInteger p q c) = placed t.Dash p ++ lexeme t.Digits q c
  of_sign (Negate p s) = negation p ++ of_sign s
  of_sign (OnePrimary a) = of_primary a

  pub of_primary : PrimaryP → List Mark
  of_primary (IntegerLiteral p c) = lexeme t.Digits p c
  of_primary (TextLiteral p c) = lexeme t.Quoted p c
  of_primary (DateLiteral p q c) = placed t.Date p ++ lexeme t.Quoted q c
  of_primary (MomentLiteral p q c) = placed t.Moment p ++ lexeme t.Quoted q c
  of_primary (TrueLiteral p) = placed t.True p
  of_primary (FalseLiteral p) = placed t.False p
  of_primary (AttributeName n) = word_of n
  of_primary (Dotted n v) = word_of n ++ token t.Dot ++ word_of v
  of_primary (Paren p s) = placed t.Open p ++ of_scalar s ++ token t.Close
  of_primary (Selector p b s r e) = placed (begin_bracket b) p ++ of_scalar s ++ token t.Colon ++ of_scalar r ++ token (end_bracket e)
  of_primary (Extreme p o y) = placed (extreme o) p ++ token t.Open ++ of_point y ++ token t.Close
  of_primary (Function p o s) = placed (function o) p ++ token t.Open ++ of_scalar s ++ token t.Close
  of_primary (PairFunction p o s r) = placed (pair_function o) p ++ token t.Open ++ of_scalar s ++ token t.Comma ++ of_scalar r ++ token t.Close

abbrev pub of_kind : KindP → List Mark
of_kind (BooleanKind p) = placed t.Boolean p
of_kind (CharKind p) = placed t.Char p
of_kind (PointKind y) = of_point y
of_kind (IntervalKind p y) = placed t.Interval p ++ token t.Open ++ of_point y ++ token t.Close

abbrev pub of_attribute : AttributeP → List Mark
of_attribute (Attribute n k) = word_of n ++ of_kind k

abbrev pub of_more_attributes : List AttributeP → List Mark
of_more_attributes [] = []
of_more_attributes (x ∷ xs) = token t.Comma ++ of_attribute x ++ of_more_attributes xs

abbrev pub of_attributes : List AttributeP → List Mark
of_attributes [] = []
of_attributes (x ∷ xs) = of_attribute x ++ of_more_attributes xs

abbrev pub of_heading : HeadingP → List Mark
of_heading (Heading p xs) = placed t.OpenBrace p ++ of_attributes xs ++ token t.CloseBrace

abbrev pub of_more_words : List Word → List Mark
of_more_words [] = []
of_more_words (x ∷ xs) = token t.Comma ++ word_of x ++ of_more_words xs

abbrev pub of_words : List Word → List Mark
of_words [] = []
of_words (x ∷ xs) = word_of x ++ of_more_words xs

abbrev pub of_names : NamesP → List Mark
of_names (Names p ns) = placed t.OpenBrace p ++ of_words ns ++ token t.CloseBrace

abbrev pub of_list : NameListP → List Mark
of_list (NameList p ns) = placed t.Open p ++ of_words ns ++ token t.Close

abbrev pub of_some_names : SomeNamesP → List Mark
of_some_names (SomeNames p n ns) = placed t.OpenBrace p ++ word_of n ++ of_more_words ns ++ token t.CloseBrace

abbrev pub of_paren_name : Word → List Mark
of_paren_name n = token t.Open ++ word_of n ++ token t.Close

abbrev pub of_element : ElementP → List Mark
of_element (Element n s) = word_of n ++ of_scalar s

abbrev pub of_more_elements : List ElementP → List Mark
of_more_elements [] = []
of_more_elements (x ∷ xs) = token t.Comma ++ of_element x ++ of_more_elements xs

abbrev pub of_element_list : List ElementP → List Mark
of_element_list [] = []
of_element_list (x ∷ xs) = of_element x ++ of_more_elements xs

abbrev pub of_elements : ElementsP → List Mark
of_elements (Elements p xs) = placed t.OpenBrace p ++ of_element_list xs ++ token t.CloseBrace

abbrev pub of_some_elements : SomeElementsP → List Mark
of_some_elements (SomeElements p x xs) = placed t.OpenBrace p ++ of_element x ++ of_more_elements xs ++ token t.CloseBrace

abbrev pub of_tuple : TupleP → List Mark
of_tuple (Tuple p e) = placed t.Tuple p ++ of_elements e

abbrev pub of_more_tuples : List TupleP → List Mark
of_more_tuples [] = []
of_more_tuples (x ∷ xs) = token t.Comma ++ of_tuple x ++ of_more_tuples xs

abbrev pub of_tuple_list : List TupleP → List Mark
of_tuple_list [] = []
of_tuple_list (x ∷ xs) = of_tuple x ++ of_more_tuples xs

abbrev pub of_tuples : List TupleP → List Mark
of_tuples xs = token t.OpenBrace ++ of_tuple_list xs ++ token t.CloseBrace

abbrev pub of_literal : LiteralP → List Mark
of_literal (Tuples p x xs) = placed t.Relation p ++ token t.OpenBrace ++ of_tuple x ++ of_more_tuples xs ++ token t.CloseBrace
of_literal (Headed p h us) = placed t.Relation p ++ of_heading h ++ of_tuples us

abbrev pub of_set_item : SetItemP → List Mark
of_set_item (SetItem n s) = word_of n ++ token t.Assign ++ of_scalar s

abbrev pub of_more_set_items : List SetItemP → List Mark
of_more_set_items [] = []
of_more_set_items (x ∷ xs) = token t.Comma ++ of_set_item x ++ of_more_set_items xs

abbrev pub of_sets : SetsP → List Mark
of_sets (Sets p x xs) = placed t.OpenBrace p ++ of_set_item x ++ of_more_set_items xs ++ token t.CloseBrace

abbrev pub of_aggregate_form : AggregateFormP → List Mark
of_aggregate_form (CountRows p) = placed t.Count p ++ token t.Open ++ token t.Close
of_aggregate_form (AggregateOf p o s) = placed (aggregate_word o) p ++ token t.Open ++ of_scalar s ++ token t.Close

abbrev pub of_aggregate : AggregateP → List Mark
of_aggregate (Aggregate n a) = word_of n ++ token t.Assign ++ of_aggregate_form a

abbrev pub of_more_aggregates : List AggregateP → List Mark
of_more_aggregates [] = []
of_more_aggregates (x ∷ xs) = token t.Comma ++ of_aggregate x ++ of_more_aggregates xs

abbrev pub of_aggregates : AggregatesP → List Mark
of_aggregates (Aggregates p x xs) = placed t.OpenBrace p ++ of_aggregate x ++ of_more_aggregates xs ++ token t.CloseBrace

abbrev pub of_renaming : RenamingP → List Mark
of_renaming (Renaming n m) = word_of n ++ token t.As ++ word_of m

abbrev pub of_more_renamings : List RenamingP → List Mark
of_more_renamings [] = []
of_more_renamings (x ∷ xs) = token t.Comma ++ of_renaming x ++ of_more_renamings xs

abbrev pub of_renamings : RenamingsP → List Mark
of_renamings (Renamings p x xs) = placed t.OpenBrace p ++ of_renaming x ++ of_more_renamings xs ++ token t.CloseBrace

abbrev pub of_portion : PortionP → List Mark
of_portion (Portion p e) = placed t.Portion p ++ of_some_elements e

abbrev pub of_maybe_portion : MaybePortionP → List Mark
of_maybe_portion NoPortion = []
of_maybe_portion (OfPortion p e) = placed t.Portion p ++ of_some_elements e

abbrev pub of_condition : ConditionP → List Mark
of_condition NoCondition = []
of_condition (Where p s) = placed t.Where p ++ of_scalar s

abbrev pub of_projection : ProjectionP → List Mark
of_projection (Onto p ns) = placed t.OpenBrace p ++ of_words ns ++ token t.CloseBrace
of_projection (AllBut p n ns) = placed t.OpenBrace p ++ token t.All ++ token t.But ++ word_of n ++ of_more_words ns ++ token t.CloseBrace

abbrev mutual
  pub of_rel : RelP → List Mark
  of_rel (OfUsing u) = of_using u
  of_rel (OfTerms y) = of_terms y

  pub of_terms : TermsP → List Mark
  of_terms (OneTerm y) = of_term y
  of_terms (Infix s p o y) = of_terms s ++ placed (infix_word o) p ++ of_term y
  of_terms (NotMatching s p y) = of_terms s ++ placed t.Not p ++ token t.Matching ++ of_term y

  pub of_term : TermP → List Mark
  of_term (OneRelPrimary x) = of_rel_primary x
  of_term (Project s q) = of_term s ++ of_projection q
  of_term (Filter s p c) = of_term s ++ placed t.Where p ++ of_scalar c
  of_term (Rename s p q) = of_term s ++ placed t.Rename p ++ of_renamings q

  pub of_rel_primary : RelPrimaryP → List Mark
  of_rel_primary (OfExtend e) = of_extend e
  of_rel_primary (OfSummarize e) = of_summarize e
  of_rel_primary (OfOperand o) = of_operand o

  pub of_operand : OperandP → List Mark
  of_operand (Relvar n) = word_of n
  of_operand (OfLiteral l) = of_literal l
  of_operand (ParenRel p r) = placed t.Open p ++ of_rel r ++ token t.Close
  of_operand (PackOn p o r a) = placed (pack_word o) p ++ of_rel r ++ token t.On ++ of_list a

  pub of_extend : ExtendP → List Mark
  of_extend (Extend p r s) = placed t.Extend p ++ of_rel r ++ token t.Colon ++ of_sets s

  pub of_summarize : SummarizeP → List Mark
  of_summarize (Summarize p r b a) = placed t.Summarize p ++ of_rel r ++ token t.By ++ of_names b ++ token t.Colon ++ of_aggregates a

  pub of_using : UsingP → List Mark
  of_using (Using p a u) = placed t.Using p ++ of_list a ++ token t.Colon ++ of_using_part u

  pub of_using_part : UsingPartP → List Mark
  of_using_part (UsingExtend e) = of_extend e
  of_using_part (UsingSummarize e) = of_summarize e
  of_using_part (UsingInfix l p o r) = of_operand l ++ placed (infix_word o) p ++ of_operand r
  of_using_part (UsingNotMatching l p r) = of_operand l ++ placed t.Not p ++ token t.Matching ++ of_operand r
  of_using_part (UsingProject l q) = of_operand l ++ of_projection q
  of_using_part (UsingFilter l p c) = of_operand l ++ placed t.Where p ++ of_scalar c

abbrev pub of_key : KeyP → List Mark
of_key (Key p n) = placed t.Key p ++ of_names n

abbrev pub of_foreign : ForeignP → List Mark
of_foreign (Foreign p n r) = placed t.Foreign p ++ token t.Key ++ of_names n ++ token t.References ++ word_of r

abbrev pub of_used_constraint : UsedConstraintP → List Mark
of_used_constraint (UsedKey k) = of_key k
of_used_constraint (UsedForeign f) = of_foreign f

abbrev pub of_constraint : ConstraintP → List Mark
of_constraint (KeyOf k) = of_key k
of_constraint (ForeignOf f) = of_foreign f
of_constraint (PackedOn p a) = placed t.Packed p ++ token t.On ++ of_list a
of_constraint (WhenUnpacked p a k) = placed t.When p ++ token t.Unpacked ++ token t.On ++ of_list a ++ token t.Then ++ of_key k
of_constraint (UsingConstraint p a u) = placed t.Using p ++ of_list a ++ token t.Colon ++ of_used_constraint u

abbrev pub of_constraints : List ConstraintP → List Mark
of_constraints [] = []
of_constraints (x ∷ xs) = of_constraint x ++ of_constraints xs

abbrev pub of_kept : KeptP → List Mark
of_kept (KeptInfix p a l q o r) = placed t.Using p ++ of_list a ++ token t.Colon ++ word_of l ++ placed (infix_word o) q ++ word_of r
of_kept (KeptNotMatching p a l q r) = placed t.Using p ++ of_list a ++ token t.Colon ++ word_of l ++ placed t.Not q ++ token t.Matching ++ word_of r
of_kept (KeptProject p a l q) = placed t.Using p ++ of_list a ++ token t.Colon ++ word_of l ++ of_projection q
of_kept (KeptPack p n a) = placed t.Pack p ++ word_of n ++ token t.On ++ of_list a

abbrev pub of_var_form : VarFormP → List Mark
of_var_form (BaseRelvar p h cs) = placed t.Relation p ++ of_heading h ++ of_constraints cs
of_var_form (View p r) = placed t.Virtual p ++ token t.Open ++ of_rel r ++ token t.Close
of_var_form (Kept p k) = lexeme t.Name p kept_word ++ token t.Open ++ of_kept k ++ token t.Close

abbrev pub of_comparison : ComparisonP → List Mark
of_comparison (Comparison l p o r) = of_operand l ++ placed (relation_comparison o) p ++ of_operand r

abbrev pub of_test : TestP → List Mark
of_test (UsingTest p a c) = placed t.Using p ++ of_list a ++ token t.Colon ++ of_comparison c
of_test (Emptiness p o r) = placed (emptiness o) p ++ token t.Open ++ of_rel r ++ token t.Close
of_test (OfComparison c) = of_comparison c

abbrev pub of_used_deletion : UsedDeletionP → List Mark
of_used_deletion (UsedDeleteWhere p s) = placed t.Where p ++ of_scalar s
of_used_deletion (UsedDeleteRows r) = of_rel r

abbrev pub of_used_item : UsedItemP → List Mark
of_used_item (UsedInsert p n r) = placed t.Insert p ++ word_of n ++ of_rel r
of_used_item (UsedDelete p n d) = placed t.Delete p ++ word_of n ++ of_used_deletion d
of_used_item (UsedUpdate p n c s) = placed t.Update p ++ word_of n ++ of_condition c ++ token t.Colon ++ of_sets s

abbrev pub of_deletion : DeletionP → List Mark
of_deletion (DeleteWhere p s) = placed t.Where p ++ of_scalar s
of_deletion (DeletePortion q c) = of_portion q ++ of_condition c
of_deletion (DeleteRows r) = of_rel r

abbrev pub of_item : ItemP → List Mark
of_item (SetRelvar n r) = word_of n ++ token t.Assign ++ of_rel r
of_item (Insert p n r) = placed t.Insert p ++ word_of n ++ of_rel r
of_item (Delete p n d) = placed t.Delete p ++ word_of n ++ of_deletion d
of_item (Update p n q c s) = placed t.Update p ++ word_of n ++ of_maybe_portion q ++ of_condition c ++ token t.Colon ++ of_sets s
of_item (Terminate p n q e c) = placed t.Terminate p ++ word_of n ++ lexeme t.Name q at_word ++ of_scalar e ++ of_condition c
of_item (UsingItem p a u) = placed t.Using p ++ of_list a ++ token t.Colon ++ of_used_item u

abbrev pub of_more_items : List ItemP → List Mark
of_more_items [] = []
of_more_items (x ∷ xs) = token t.Comma ++ of_item x ++ of_more_items xs

abbrev pub of_assign : AssignP → List Mark
of_assign (Assign x xs) = of_item x ++ of_more_items xs

abbrev pub of_statement : StatementP → List Mark
of_statement Nothing = token t.Semicolon
of_statement (DeclareOrdinal p n v) = placed t.TypeWord p ++ word_of n ++ contextual ordinal_word ++ of_some_names v ++ token t.Semicolon
of_statement (DeclareRelvar p n f) = placed t.Var p ++ word_of n ++ of_var_form f ++ token t.Semicolon
of_statement (DeclareHistory p n h k s b d i y) = placed t.History p ++ word_of n ++ of_heading h ++ of_key k ++ contextual since_word ++ word_of s ++ of_paren_name b ++ contextual during_word ++ word_of d ++ of_paren_name i ++ contextual over_word ++ of_point y ++ token t.Semicolon
of_statement (DeclareLog p l s b) = lexeme t.Name p log_word ++ word_of l ++ contextual of_word ++ word_of s ++ of_paren_name b ++ token t.Semicolon
of_statement (DeclareRule p n y) = placed t.Constraint p ++ word_of n ++ of_test y ++ token t.Semicolon
of_statement (Drop p n) = placed t.Drop p ++ token t.Var ++ word_of n ++ token t.Semicolon
of_statement (DropRule p q n) = placed t.Drop p ++ placed t.Constraint q ++ word_of n ++ token t.Semicolon
of_statement (Print p r) = placed t.Print p ++ of_rel r ++ token t.Semicolon
of_statement (Ask p y) = placed t.Ask p ++ of_test y ++ token t.Semicolon
of_statement (Assignment a) = of_assign a ++ token t.Semicolon
