-- Written by tools/grammar; change it there.
-- A tree of which no place is moved is itself.
-- word-same, point-same, .., statement-same: an equation for each type of trees. each-same: that of a list.
use Rattle.std.proofs.Common.{◌≡◌, List, [], ◌∷◌, map, refl}
use Rattle.utd_syntax.specs.Plain.{Word, PointP, ScalarP, ConjP, NegP, CmpP, SumP, ProdP, SignP, PrimaryP, KindP, AttributeP, HeadingP, NamesP, NameListP, SomeNamesP, ElementP, ElementsP, SomeElementsP, TupleP, LiteralP, SetItemP, SetsP, AggregateFormP, AggregateP, AggregatesP, RenamingP, RenamingsP, PortionP, MaybePortionP, ConditionP, ProjectionP, RelP, TermsP, TermP, RelPrimaryP, OperandP, ExtendP, SummarizeP, UsingP, UsingPartP, KeyP, ForeignP, UsedConstraintP, ConstraintP, KeptP, VarFormP, ComparisonP, TestP, UsedDeletionP, UsedItemP, DeletionP, ItemP, AssignP, StatementP, IntegerType, DateType, MomentType, NamedType, OneConj, Or, OneNeg, And, Not, OneCmp, OneSum, Compare, OneProd, Add, OneSign, Multiply, NegativeInteger, Negate, OnePrimary, IntegerLiteral, TextLiteral, DateLiteral, MomentLiteral, TrueLiteral, FalseLiteral, AttributeName, Dotted, Paren, Selector, Extreme, Function, PairFunction, BooleanKind, CharKind, PointKind, IntervalKind, Attribute, Heading, Names, NameList, SomeNames, Element, Elements, SomeElements, Tuple, Tuples, Headed, SetItem, Sets, CountRows, AggregateOf, Aggregate, Aggregates, Renaming, Renamings, Portion, NoPortion, OfPortion, NoCondition, Where, Onto, AllBut, OfUsing, OfTerms, OneTerm, Infix, NotMatching, OneRelPrimary, Project, Filter, Rename, OfExtend, OfSummarize, OfOperand, Relvar, OfLiteral, ParenRel, PackOn, Extend, Summarize, Using, UsingExtend, UsingSummarize, UsingInfix, UsingNotMatching, UsingProject, UsingFilter, Key, Foreign, UsedKey, UsedForeign, KeyOf, ForeignOf, PackedOn, WhenUnpacked, UsingConstraint, KeptInfix, KeptNotMatching, KeptProject, KeptPack, BaseRelvar, View, Kept, Comparison, UsingTest, Emptiness, OfComparison, UsedDeleteWhere, UsedDeleteRows, UsedInsert, UsedDelete, UsedUpdate, DeleteWhere, DeletePortion, DeleteRows, SetRelvar, Insert, Delete, Update, Terminate, UsingItem, Assign, Nothing, DeclareOrdinal, DeclareRelvar, DeclareHistory, DeclareLog, DeclareRule, Drop, DropRule, Print, Ask, Assignment}
use Rattle.place_laws.specs.Moved.{moved_word, moved_point, moved_scalar, moved_conj, moved_neg, moved_cmp, moved_sum, moved_prod, moved_sign, moved_primary, moved_kind, moved_attribute, moved_heading, moved_names, moved_name_list, moved_some_names, moved_element, moved_elements, moved_some_elements, moved_tuple, moved_literal, moved_set_item, moved_sets, moved_aggregate_form, moved_aggregate, moved_aggregates, moved_renaming, moved_renamings, moved_portion, moved_maybe_portion, moved_condition, moved_projection, moved_rel, moved_terms, moved_term, moved_rel_primary, moved_operand, moved_extend, moved_summarize, moved_using, moved_using_part, moved_key, moved_foreign, moved_used_constraint, moved_constraint, moved_kept, moved_var_form, moved_comparison, moved_test, moved_used_deletion, moved_used_item, moved_deletion, moved_item, moved_assign, moved_statement}

pub each-same : {A : Type 0} (g : A → A) → ((x : A) → g x ≡ x) → (xs : List A) → map g xs ≡ xs
each-same g e [] = refl
each-same g e (x ∷ xs) = λ j. e x j ∷ each-same g e xs j

pub word-same : (x : Word) → moved_word (λ p. p) x ≡ x
word-same x = refl

pub point-same : (x : PointP) → moved_point (λ p. p) x ≡ x
point-same (IntegerType p) = refl
point-same (DateType p) = refl
point-same (MomentType p) = refl
point-same (NamedType n) = refl

mutual
  pub scalar-same : (x : ScalarP) → moved_scalar (λ p. p) x ≡ x
  scalar-same (OneConj c) = λ j. OneConj (conj-same c j)
  scalar-same (Or s p c) = λ j. Or (scalar-same s j) p (conj-same c j)

  pub conj-same : (x : ConjP) → moved_conj (λ p. p) x ≡ x
  conj-same (OneNeg c) = λ j. OneNeg (neg-same c j)
  conj-same (And s p c) = λ j. And (conj-same s j) p (neg-same c j)

  pub neg-same : (x : NegP) → moved_neg (λ p. p) x ≡ x
  neg-same (Not p n) = λ j. Not p (neg-same n j)
  neg-same (OneCmp c) = λ j. OneCmp (cmp-same c j)

  pub cmp-same : (x : CmpP) → moved_cmp (λ p. p) x ≡ x
  cmp-same (OneSum s) = λ j. OneSum (sum-same s j)
  cmp-same (Compare s p o r) = λ j. Compare (sum-same s j) p o (sum-same r j)

  pub sum-same : (x : SumP) → moved_sum (λ p. p) x ≡ x
  sum-same (OneProd f) = λ j. OneProd (prod-same f j)
  sum-same (Add s p o f) = λ j. Add (sum-same s j) p o (prod-same f j)

  pub prod-same : (x : ProdP) → moved_prod (λ p. p) x ≡ x
  prod-same (OneSign f) = λ j. OneSign (sign-same f j)
  prod-same (Multiply s p o f) = λ j. Multiply (prod-same s j) p o (sign-same f j)

  pub sign-same : (x : SignP) → moved_sign (λ p. p) x ≡ x
  sign-same (NegativeInteger p q c) = refl
  sign-same (Negate p s) = λ j. Negate p (sign-same s j)
  sign-same (OnePrimary a) = λ j. OnePrimary (primary-same a j)

  pub primary-same : (x : PrimaryP) → moved_primary (λ p. p) x ≡ x
  primary-same (IntegerLiteral p c) = refl
  primary-same (TextLiteral p c) = refl
  primary-same (DateLiteral p q c) = refl
  primary-same (MomentLiteral p q c) = refl
  primary-same (TrueLiteral p) = refl
  primary-same (FalseLiteral p) = refl
  primary-same (AttributeName n) = refl
  primary-same (Dotted n v) = refl
  primary-same (Paren p s) = λ j. Paren p (scalar-same s j)
  primary-same (Selector p b s r e) = λ j. Selector p b (scalar-same s j) (scalar-same r j) e
  primary-same (Extreme p o y) = λ j. Extreme p o (point-same y j)
  primary-same (Function p o s) = λ j. Function p o (scalar-same s j)
  primary-same (PairFunction p o s r) = λ j. PairFunction p o (scalar-same s j) (scalar-same r j)

pub kind-same : (x : KindP) → moved_kind (λ p. p) x ≡ x
kind-same (BooleanKind p) = refl
kind-same (CharKind p) = refl
kind-same (PointKind y) = λ j. PointKind (point-same y j)
kind-same (IntervalKind p y) = λ j. IntervalKind p (point-same y j)

pub attribute-same : (x : AttributeP) → moved_attribute (λ p. p) x ≡ x
attribute-same (Attribute n k) = λ j. Attribute n (kind-same k j)

pub heading-same : (x : HeadingP) → moved_heading (λ p. p) x ≡ x
heading-same (Heading p xs) = λ j. Heading p (each-same _ attribute-same xs j)

pub names-same : (x : NamesP) → moved_names (λ p. p) x ≡ x
names-same (Names p ns) = λ j. Names p (each-same _ word-same ns j)

pub name_list-same : (x : NameListP) → moved_name_list (λ p. p) x ≡ x
name_list-same (NameList p ns) = λ j. NameList p (each-same _ word-same ns j)

pub some_names-same : (x : SomeNamesP) → moved_some_names (λ p. p) x ≡ x
some_names-same (SomeNames p n ns) = λ j. SomeNames p n (each-same _ word-same ns j)

pub element-same : (x : ElementP) → moved_element (λ p. p) x ≡ x
element-same (Element n s) = λ j. Element n (scalar-same s j)

pub elements-same : (x : ElementsP) → moved_elements (λ p. p) x ≡ x
elements-same (Elements p xs) = λ j. Elements p (each-same _ element-same xs j)

pub some_elements-same : (x : SomeElementsP) → moved_some_elements (λ p. p) x ≡ x
some_elements-same (SomeElements p x xs) = λ j. SomeElements p (element-same x j) (each-same _ element-same xs j)

pub tuple-same : (x : TupleP) → moved_tuple (λ p. p) x ≡ x
tuple-same (Tuple p e) = λ j. Tuple p (elements-same e j)

pub literal-same : (x : LiteralP) → moved_literal (λ p. p) x ≡ x
literal-same (Tuples p x xs) = λ j. Tuples p (tuple-same x j) (each-same _ tuple-same xs j)
literal-same (Headed p h us) = λ j. Headed p (heading-same h j) (each-same _ tuple-same us j)

pub set_item-same : (x : SetItemP) → moved_set_item (λ p. p) x ≡ x
set_item-same (SetItem n s) = λ j. SetItem n (scalar-same s j)

pub sets-same : (x : SetsP) → moved_sets (λ p. p) x ≡ x
sets-same (Sets p x xs) = λ j. Sets p (set_item-same x j) (each-same _ set_item-same xs j)

pub aggregate_form-same : (x : AggregateFormP) → moved_aggregate_form (λ p. p) x ≡ x
aggregate_form-same (CountRows p) = refl
aggregate_form-same (AggregateOf p o s) = λ j. AggregateOf p o (scalar-same s j)

pub aggregate-same : (x : AggregateP) → moved_aggregate (λ p. p) x ≡ x
aggregate-same (Aggregate n a) = λ j. Aggregate n (aggregate_form-same a j)

pub aggregates-same : (x : AggregatesP) → moved_aggregates (λ p. p) x ≡ x
aggregates-same (Aggregates p x xs) = λ j. Aggregates p (aggregate-same x j) (each-same _ aggregate-same xs j)

pub renaming-same : (x : RenamingP) → moved_renaming (λ p. p) x ≡ x
renaming-same (Renaming n m) = refl

pub renamings-same : (x : RenamingsP) → moved_renamings (λ p. p) x ≡ x
renamings-same (Renamings p x xs) = λ j. Renamings p (renaming-same x j) (each-same _ renaming-same xs j)

pub portion-same : (x : PortionP) → moved_portion (λ p. p) x ≡ x
portion-same (Portion p e) = λ j. Portion p (some_elements-same e j)

pub maybe_portion-same : (x : MaybePortionP) → moved_maybe_portion (λ p. p) x ≡ x
maybe_portion-same NoPortion = refl
maybe_portion-same (OfPortion p e) = λ j. OfPortion p (some_elements-same e j)

pub condition-same : (x : ConditionP) → moved_condition (λ p. p) x ≡ x
condition-same NoCondition = refl
condition-same (Where p s) = λ j. Where p (scalar-same s j)

pub projection-same : (x : ProjectionP) → moved_projection (λ p. p) x ≡ x
projection-same (Onto p ns) = λ j. Onto p (each-same _ word-same ns j)
projection-same (AllBut p n ns) = λ j. AllBut p n (each-same _ word-same ns j)

mutual
  pub rel-same : (x : RelP) → moved_rel (λ p. p) x ≡ x
  rel-same (OfUsing u) = λ j. OfUsing (using-same u j)
  rel-same (OfTerms y) = λ j. OfTerms (terms-same y j)

  pub terms-same : (x : TermsP) → moved_terms (λ p. p) x ≡ x
  terms-same (OneTerm y) = λ j. OneTerm (term-same y j)
  terms-same (Infix s p o y) = λ j. Infix (terms-same s j) p o (term-same y j)
  terms-same (NotMatching s p y) = λ j. NotMatching (terms-same s j) p (term-same y j)

  pub term-same : (x : TermP) → moved_term (λ p. p) x ≡ x
  term-same (OneRelPrimary x) = λ j. OneRelPrimary (rel_primary-same x j)
  term-same (Project s q) = λ j. Project (term-same s j) (projection-same q j)
  term-same (Filter s p c) = λ j. Filter (term-same s j) p (scalar-same c j)
  term-same (Rename s p q) = λ j. Rename (term-same s j) p (renamings-same q j)

  pub rel_primary-same : (x : RelPrimaryP) → moved_rel_primary (λ p. p) x ≡ x
  rel_primary-same (OfExtend e) = λ j. OfExtend (extend-same e j)
  rel_primary-same (OfSummarize e) = λ j. OfSummarize (summarize-same e j)
  rel_primary-same (OfOperand o) = λ j. OfOperand (operand-same o j)

  pub operand-same : (x : OperandP) → moved_operand (λ p. p) x ≡ x
  operand-same (Relvar n) = refl
  operand-same (OfLiteral l) = λ j. OfLiteral (literal-same l j)
  operand-same (ParenRel p r) = λ j. ParenRel p (rel-same r j)
  operand-same (PackOn p o r a) = λ j. PackOn p o (rel-same r j) (name_list-same a j)

  pub extend-same : (x : ExtendP) → moved_extend (λ p. p) x ≡ x
  extend-same (Extend p r s) = λ j. Extend p (rel-same r j) (sets-same s j)

  pub summarize-same : (x : SummarizeP) → moved_summarize (λ p. p) x ≡ x
  summarize-same (Summarize p r b a) = λ j. Summarize p (rel-same r j) (names-same b j) (aggregates-same a j)

  pub using-same : (x : UsingP) → moved_using (λ p. p) x ≡ x
  using-same (Using p a u) = λ j. Using p (name_list-same a j) (using_part-same u j)

  pub using_part-same : (x : UsingPartP) → moved_using_part (λ p. p) x ≡ x
  using_part-same (UsingExtend e) = λ j. UsingExtend (extend-same e j)
  using_part-same (UsingSummarize e) = λ j. UsingSummarize (summarize-same e j)
  using_part-same (UsingInfix l p o r) = λ j. UsingInfix (operand-same l j) p o (operand-same r j)
  using_part-same (UsingNotMatching l p r) = λ j. UsingNotMatching (operand-same l j) p (operand-same r j)
  using_part-same (UsingProject l q) = λ j. UsingProject (operand-same l j) (projection-same q j)
  using_part-same (UsingFilter l p c) = λ j. UsingFilter (operand-same l j) p (scalar-same c j)

pub key-same : (x : KeyP) → moved_key (λ p. p) x ≡ x
key-same (Key p n) = λ j. Key p (names-same n j)

pub foreign-same : (x : ForeignP) → moved_foreign (λ p. p) x ≡ x
foreign-same (Foreign p n r) = λ j. Foreign p (names-same n j) r

pub used_constraint-same : (x : UsedConstraintP) → moved_used_constraint (λ p. p) x ≡ x
used_constraint-same (UsedKey k) = λ j. UsedKey (key-same k j)
used_constraint-same (UsedForeign f) = λ j. UsedForeign (foreign-same f j)

pub constraint-same : (x : ConstraintP) → moved_constraint (λ p. p) x ≡ x
constraint-same (KeyOf k) = λ j. KeyOf (key-same k j)
constraint-same (ForeignOf f) = λ j. ForeignOf (foreign-same f j)
constraint-same (PackedOn p a) = λ j. PackedOn p (name_list-same a j)
constraint-same (WhenUnpacked p a k) = λ j. WhenUnpacked p (name_list-same a j) (key-same k j)
constraint-same (UsingConstraint p a u) = λ j. UsingConstraint p (name_list-same a j) (used_constraint-same u j)

pub kept-same : (x : KeptP) → moved_kept (λ p. p) x ≡ x
kept-same (KeptInfix p a l q o r) = λ j. KeptInfix p (name_list-same a j) l q o r
kept-same (KeptNotMatching p a l q r) = λ j. KeptNotMatching p (name_list-same a j) l q r
kept-same (KeptProject p a l q) = λ j. KeptProject p (name_list-same a j) l (projection-same q j)
kept-same (KeptPack p n a) = λ j. KeptPack p n (name_list-same a j)

pub var_form-same : (x : VarFormP) → moved_var_form (λ p. p) x ≡ x
var_form-same (BaseRelvar p h cs) = λ j. BaseRelvar p (heading-same h j) (each-same _ constraint-same cs j)
var_form-same (View p r) = λ j. View p (rel-same r j)
var_form-same (Kept p k) = λ j. Kept p (kept-same k j)

pub comparison-same : (x : ComparisonP) → moved_comparison (λ p. p) x ≡ x
comparison-same (Comparison l p o r) = λ j. Comparison (operand-same l j) p o (operand-same r j)

pub test-same : (x : TestP) → moved_test (λ p. p) x ≡ x
test-same (UsingTest p a c) = λ j. UsingTest p (name_list-same a j) (comparison-same c j)
test-same (Emptiness p o r) = λ j. Emptiness p o (rel-same r j)
test-same (OfComparison c) = λ j. OfComparison (comparison-same c j)

pub used_deletion-same : (x : UsedDeletionP) → moved_used_deletion (λ p. p) x ≡ x
used_deletion-same (UsedDeleteWhere p s) = λ j. UsedDeleteWhere p (scalar-same s j)
used_deletion-same (UsedDeleteRows r) = λ j. UsedDeleteRows (rel-same r j)

pub used_item-same : (x : UsedItemP) → moved_used_item (λ p. p) x ≡ x
used_item-same (UsedInsert p n r) = λ j. UsedInsert p n (rel-same r j)
used_item-same (UsedDelete p n d) = λ j. UsedDelete p n (used_deletion-same d j)
used_item-same (UsedUpdate p n c s) = λ j. UsedUpdate p n (condition-same c j) (sets-same s j)

pub deletion-same : (x : DeletionP) → moved_deletion (λ p. p) x ≡ x
deletion-same (DeleteWhere p s) = λ j. DeleteWhere p (scalar-same s j)
deletion-same (DeletePortion q c) = λ j. DeletePortion (portion-same q j) (condition-same c j)
deletion-same (DeleteRows r) = λ j. DeleteRows (rel-same r j)

pub item-same : (x : ItemP) → moved_item (λ p. p) x ≡ x
item-same (SetRelvar n r) = λ j. SetRelvar n (rel-same r j)
item-same (Insert p n r) = λ j. Insert p n (rel-same r j)
item-same (Delete p n d) = λ j. Delete p n (deletion-same d j)
item-same (Update p n q c s) = λ j. Update p n (maybe_portion-same q j) (condition-same c j) (sets-same s j)
item-same (Terminate p n q e c) = λ j. Terminate p n q (scalar-same e j) (condition-same c j)
item-same (UsingItem p a u) = λ j. UsingItem p (name_list-same a j) (used_item-same u j)

pub assign-same : (x : AssignP) → moved_assign (λ p. p) x ≡ x
assign-same (Assign x xs) = λ j. Assign (item-same x j) (each-same _ item-same xs j)

pub statement-same : (x : StatementP) → moved_statement (λ p. p) x ≡ x
statement-same Nothing = refl
statement-same (DeclareOrdinal p n v) = λ j. DeclareOrdinal p n (some_names-same v j)
statement-same (DeclareRelvar p n f) = λ j. DeclareRelvar p n (var_form-same f j)
statement-same (DeclareHistory p n h k s b d i y) = λ j. DeclareHistory p n (heading-same h j) (key-same k j) s b d i (point-same y j)
statement-same (DeclareLog p l s b) = refl
statement-same (DeclareRule p n y) = λ j. DeclareRule p n (test-same y j)
statement-same (Drop p n) = refl
statement-same (DropRule p q n) = refl
statement-same (Print p r) = λ j. Print p (rel-same r j)
statement-same (Ask p y) = λ j. Ask p (test-same y j)
statement-same (Assignment a) = λ j. Assignment (assign-same a j)
