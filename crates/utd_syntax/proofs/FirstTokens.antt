-- Written by tools/grammar; change it there.
-- A tree begins with a token that may begin its form.
use Rattle.std.proofs.Common.{◌≡◌, ℕ, List, [], ◌∷◌, ◌++◌, Bool, true, false, Option, refl, sym, ◌∙◌, ap, subst}
use Rattle.utd_syntax.specs.declared.terminal.Terminal.{Terminal}
use Rattle.utd_syntax.specs.declared.terminal.Terminal.TheVariants as t
use Rattle.point_core.specs.declared.fault.Place.{Place}
use Rattle.utd_syntax.specs.declared.words.ComparisonWord.TheVariants as comparisons
use Rattle.utd_syntax.specs.declared.words.SumWord.TheVariants as sum_words
use Rattle.utd_syntax.specs.declared.words.ProductWord.TheVariants as product_words
use Rattle.utd_syntax.specs.declared.words.BeginBracket.TheVariants as begin_brackets
use Rattle.utd_syntax.specs.declared.words.EndBracket.TheVariants as end_brackets
use Rattle.utd_syntax.specs.declared.words.ExtremeWord.TheVariants as extremes
use Rattle.utd_syntax.specs.declared.words.FunctionWord.TheVariants as functions
use Rattle.utd_syntax.specs.declared.words.PairWord.TheVariants as pair_functions
use Rattle.utd_syntax.specs.declared.words.InfixWord.TheVariants as infixes
use Rattle.utd_syntax.specs.declared.words.PackWord.TheVariants as pack_words
use Rattle.utd_syntax.specs.declared.words.RelationComparison.TheVariants as relation_comparisons
use Rattle.utd_syntax.specs.Pieces.{Piece, first, second}
use Rattle.utd_syntax.specs.Plain.{word, ConjP, NegP, CmpP, SumP, ProdP, SignP, PrimaryP, LiteralP, PortionP, RelP, TermsP, TermP, RelPrimaryP, OperandP, ExtendP, SummarizeP, UsingP, KeyP, ForeignP, ConstraintP, ComparisonP, ItemP, AssignP, StatementP, OneConj, OneNeg, And, Not, OneCmp, OneSum, Compare, OneProd, Add, OneSign, Multiply, NegativeInteger, Negate, OnePrimary, IntegerLiteral, TextLiteral, DateLiteral, MomentLiteral, TrueLiteral, FalseLiteral, AttributeName, Dotted, Paren, Selector, Extreme, Function, PairFunction, PointKind, Attribute, Heading, Tuple, Tuples, Headed, Portion, Onto, AllBut, OfUsing, OfTerms, OneTerm, Infix, NotMatching, OneRelPrimary, Project, Filter, Rename, OfExtend, OfSummarize, OfOperand, Relvar, OfLiteral, ParenRel, PackOn, Extend, Summarize, Using, UsingExtend, UsingSummarize, Key, Foreign, UsedKey, UsedForeign, KeyOf, ForeignOf, PackedOn, WhenUnpacked, UsingConstraint, Comparison, OfComparison, UsedDeleteRows, DeletePortion, DeleteRows, SetRelvar, Insert, Delete, Update, Terminate, UsingItem, Assign, Assignment}
use Rattle.utd_syntax.specs.Written.{spelled, Spells, token, placed, log_word, of_scalar, of_conj, of_neg, of_cmp, of_sum, of_prod, of_sign, of_primary, of_literal, of_renamings, of_portion, of_projection, of_rel, of_terms, of_term, of_rel_primary, of_operand, of_extend, of_summarize, of_using, of_key, of_foreign, of_constraint, of_comparison, of_item, of_more_items, of_assign}
use Rattle.utd_syntax.specs.Table.{Symbol, ThePrimary, TheSign, TheProd, MoreProd, TheSum, MoreSum, TheCmp, MoreCmp, TheNeg, TheConj, MoreAnd, TheScalar, MoreOr, ThePoint, TheKind, TheLiteral, ThePortion, MaybeWhere, TheOperand, TheExtend, TheSummarize, TheRelPrimary, TheTerm, MorePostfix, TheTerms, MoreInfix, TheUsing, TheRel, TheUsingPart, AfterOperand, TheKey, TheForeign, TheUsedConstraint, TheConstraint, MoreConstraints, TheComparison, AfterLeft, TheTest, TheUsedDeletion, TheDeletion, TheItem, MoreItems, TheAssign, TheStatement, AfterLog, Just, Plain, Takes, same_bytes}
use Rattle.utd_syntax.proofs.Reader.{Go, read_at, read}
use Rattle.utd_syntax.proofs.Marks.{one, two, begins}
use Rattle.utd_syntax.proofs.FormEnds.{other-row, bytes-same, Starts_point, Starts_conj, Starts_cmp, Starts_primary, Starts_literal, Starts_portion, Starts_rel, Starts_terms, Starts_operand, Starts_extend, Starts_summarize, Starts_using, Starts_key, Starts_foreign, Starts_constraint, Starts_item, Starts_cmp-Starts_conj, Starts_primary-Starts_cmp, Starts_using-Starts_rel, Starts_terms-Starts_rel, Starts_extend-Starts_terms, Starts_summarize-Starts_terms, Starts_operand-Starts_terms, Starts_literal-Starts_operand, Starts_key-Starts_constraint, Starts_foreign-Starts_constraint}

mutual
  pub conj-first : (x : ConjP) (ts rest : List Piece) → Spells (of_conj x) ts rest → Starts_conj (first ts)
  conj-first (OneNeg c) ts rest h = neg-first c ts rest h
  conj-first (And s p c) ts rest h = let x0 = two (of_conj s ++ placed t.And p) (of_neg c) ts rest h in let x1 = two (of_conj s) (placed t.And p) ts x0.mid x0.before in conj-first s ts x1.mid x1.before

  pub neg-first : (x : NegP) (ts rest : List Piece) → Spells (of_neg x) ts rest → Starts_conj (first ts)
  neg-first (Not p n) ts rest h = begins Starts_conj _ ts rest tt h
  neg-first (OneCmp c) ts rest h = Starts_cmp-Starts_conj (first ts) (cmp-first c ts rest h)

  pub cmp-first : (x : CmpP) (ts rest : List Piece) → Spells (of_cmp x) ts rest → Starts_cmp (first ts)
  cmp-first (OneSum s) ts rest h = sum-first s ts rest h
  cmp-first (Compare s p comparisons.Equal r) ts rest h = let x0 = two (of_sum s ++ placed t.Equal p) (of_sum r) ts rest h in let x1 = two (of_sum s) (placed t.Equal p) ts x0.mid x0.before in sum-first s ts x1.mid x1.before
  cmp-first (Compare s p comparisons.NotEqual r) ts rest h = let x0 = two (of_sum s ++ placed t.NotEqual p) (of_sum r) ts rest h in let x1 = two (of_sum s) (placed t.NotEqual p) ts x0.mid x0.before in sum-first s ts x1.mid x1.before
  cmp-first (Compare s p comparisons.Less r) ts rest h = let x0 = two (of_sum s ++ placed t.Less p) (of_sum r) ts rest h in let x1 = two (of_sum s) (placed t.Less p) ts x0.mid x0.before in sum-first s ts x1.mid x1.before
  cmp-first (Compare s p comparisons.LessEqual r) ts rest h = let x0 = two (of_sum s ++ placed t.LessEqual p) (of_sum r) ts rest h in let x1 = two (of_sum s) (placed t.LessEqual p) ts x0.mid x0.before in sum-first s ts x1.mid x1.before
  cmp-first (Compare s p comparisons.Greater r) ts rest h = let x0 = two (of_sum s ++ placed t.Greater p) (of_sum r) ts rest h in let x1 = two (of_sum s) (placed t.Greater p) ts x0.mid x0.before in sum-first s ts x1.mid x1.before
  cmp-first (Compare s p comparisons.GreaterEqual r) ts rest h = let x0 = two (of_sum s ++ placed t.GreaterEqual p) (of_sum r) ts rest h in let x1 = two (of_sum s) (placed t.GreaterEqual p) ts x0.mid x0.before in sum-first s ts x1.mid x1.before
  cmp-first (Compare s p comparisons.In r) ts rest h = let x0 = two (of_sum s ++ placed t.In p) (of_sum r) ts rest h in let x1 = two (of_sum s) (placed t.In p) ts x0.mid x0.before in sum-first s ts x1.mid x1.before
  cmp-first (Compare s p comparisons.Includes r) ts rest h = let x0 = two (of_sum s ++ placed t.Includes p) (of_sum r) ts rest h in let x1 = two (of_sum s) (placed t.Includes p) ts x0.mid x0.before in sum-first s ts x1.mid x1.before
  cmp-first (Compare s p comparisons.IncludedIn r) ts rest h = let x0 = two (of_sum s ++ placed t.IncludedIn p) (of_sum r) ts rest h in let x1 = two (of_sum s) (placed t.IncludedIn p) ts x0.mid x0.before in sum-first s ts x1.mid x1.before
  cmp-first (Compare s p comparisons.Before r) ts rest h = let x0 = two (of_sum s ++ placed t.Before p) (of_sum r) ts rest h in let x1 = two (of_sum s) (placed t.Before p) ts x0.mid x0.before in sum-first s ts x1.mid x1.before
  cmp-first (Compare s p comparisons.After r) ts rest h = let x0 = two (of_sum s ++ placed t.After p) (of_sum r) ts rest h in let x1 = two (of_sum s) (placed t.After p) ts x0.mid x0.before in sum-first s ts x1.mid x1.before
  cmp-first (Compare s p comparisons.Meets r) ts rest h = let x0 = two (of_sum s ++ placed t.Meets p) (of_sum r) ts rest h in let x1 = two (of_sum s) (placed t.Meets p) ts x0.mid x0.before in sum-first s ts x1.mid x1.before
  cmp-first (Compare s p comparisons.Overlaps r) ts rest h = let x0 = two (of_sum s ++ placed t.Overlaps p) (of_sum r) ts rest h in let x1 = two (of_sum s) (placed t.Overlaps p) ts x0.mid x0.before in sum-first s ts x1.mid x1.before
  cmp-first (Compare s p comparisons.Merges r) ts rest h = let x0 = two (of_sum s ++ placed t.Merges p) (of_sum r) ts rest h in let x1 = two (of_sum s) (placed t.Merges p) ts x0.mid x0.before in sum-first s ts x1.mid x1.before
  cmp-first (Compare s p comparisons.Begins r) ts rest h = let x0 = two (of_sum s ++ placed t.Begins p) (of_sum r) ts rest h in let x1 = two (of_sum s) (placed t.Begins p) ts x0.mid x0.before in sum-first s ts x1.mid x1.before
  cmp-first (Compare s p comparisons.Ends r) ts rest h = let x0 = two (of_sum s ++ placed t.Ends p) (of_sum r) ts rest h in let x1 = two (of_sum s) (placed t.Ends p) ts x0.mid x0.before in sum-first s ts x1.mid x1.before

  pub sum-first : (x : SumP) (ts rest : List Piece) → Spells (of_sum x) ts rest → Starts_cmp (first ts)
  sum-first (OneProd f) ts rest h = prod-first f ts rest h
  sum-first (Add s p sum_words.Plus f) ts rest h = let x0 = two (of_sum s ++ placed t.Plus p) (of_prod f) ts rest h in let x1 = two (of_sum s) (placed t.Plus p) ts x0.mid x0.before in sum-first s ts x1.mid x1.before
  sum-first (Add s p sum_words.Minus f) ts rest h = let x0 = two (of_sum s ++ placed t.Dash p) (of_prod f) ts rest h in let x1 = two (of_sum s) (placed t.Dash p) ts x0.mid x0.before in sum-first s ts x1.mid x1.before
  sum-first (Add s p sum_words.Concat f) ts rest h = let x0 = two (of_sum s ++ placed t.Bars p) (of_prod f) ts rest h in let x1 = two (of_sum s) (placed t.Bars p) ts x0.mid x0.before in sum-first s ts x1.mid x1.before

  pub prod-first : (x : ProdP) (ts rest : List Piece) → Spells (of_prod x) ts rest → Starts_cmp (first ts)
  prod-first (OneSign f) ts rest h = sign-first f ts rest h
  prod-first (Multiply s p product_words.Times f) ts rest h = let x0 = two (of_prod s ++ placed t.Star p) (of_sign f) ts rest h in let x1 = two (of_prod s) (placed t.Star p) ts x0.mid x0.before in prod-first s ts x1.mid x1.before
  prod-first (Multiply s p product_words.Divide f) ts rest h = let x0 = two (of_prod s ++ placed t.Slash p) (of_sign f) ts rest h in let x1 = two (of_prod s) (placed t.Slash p) ts x0.mid x0.before in prod-first s ts x1.mid x1.before

  pub sign-first : (x : SignP) (ts rest : List Piece) → Spells (of_sign x) ts rest → Starts_cmp (first ts)
  sign-first (NegativeInteger p q c) ts rest h = begins Starts_cmp _ ts rest tt h
  sign-first (Negate p s) ts rest h = begins Starts_cmp _ ts rest tt h
  sign-first (OnePrimary a) ts rest h = Starts_primary-Starts_cmp (first ts) (primary-first a ts rest h)

  pub primary-first : (x : PrimaryP) (ts rest : List Piece) → Spells (of_primary x) ts rest → Starts_primary (first ts)
  primary-first (IntegerLiteral p c) ts rest h = begins Starts_primary _ ts rest tt h
  primary-first (TextLiteral p c) ts rest h = begins Starts_primary _ ts rest tt h
  primary-first (DateLiteral p q c) ts rest h = begins Starts_primary _ ts rest tt h
  primary-first (MomentLiteral p q c) ts rest h = begins Starts_primary _ ts rest tt h
  primary-first (TrueLiteral p) ts rest h = begins Starts_primary _ ts rest tt h
  primary-first (FalseLiteral p) ts rest h = begins Starts_primary _ ts rest tt h
  primary-first (AttributeName n) ts rest h = begins Starts_primary _ ts rest tt h
  primary-first (Dotted n v) ts rest h = begins Starts_primary _ ts rest tt h
  primary-first (Paren p s) ts rest h = begins Starts_primary _ ts rest tt h
  primary-first (Selector p begin_brackets.Closed s r end_brackets.Closed) ts rest h = begins Starts_primary _ ts rest tt h
  primary-first (Selector p begin_brackets.Closed s r end_brackets.Open) ts rest h = begins Starts_primary _ ts rest tt h
  primary-first (Selector p begin_brackets.Open s r end_brackets.Closed) ts rest h = begins Starts_primary _ ts rest tt h
  primary-first (Selector p begin_brackets.Open s r end_brackets.Open) ts rest h = begins Starts_primary _ ts rest tt h
  primary-first (Extreme p extremes.First y) ts rest h = begins Starts_primary _ ts rest tt h
  primary-first (Extreme p extremes.Last y) ts rest h = begins Starts_primary _ ts rest tt h
  primary-first (Function p functions.Begin s) ts rest h = begins Starts_primary _ ts rest tt h
  primary-first (Function p functions.End s) ts rest h = begins Starts_primary _ ts rest tt h
  primary-first (Function p functions.Pre s) ts rest h = begins Starts_primary _ ts rest tt h
  primary-first (Function p functions.Post s) ts rest h = begins Starts_primary _ ts rest tt h
  primary-first (Function p functions.Count s) ts rest h = begins Starts_primary _ ts rest tt h
  primary-first (Function p functions.Next s) ts rest h = begins Starts_primary _ ts rest tt h
  primary-first (Function p functions.Prior s) ts rest h = begins Starts_primary _ ts rest tt h
  primary-first (PairFunction p pair_functions.Union s r) ts rest h = begins Starts_primary _ ts rest tt h
  primary-first (PairFunction p pair_functions.Intersect s r) ts rest h = begins Starts_primary _ ts rest tt h
  primary-first (PairFunction p pair_functions.Minus s r) ts rest h = begins Starts_primary _ ts rest tt h

pub literal-first : (x : LiteralP) (ts rest : List Piece) → Spells (of_literal x) ts rest → Starts_literal (first ts)
literal-first (Tuples p (Tuple p1 e2) xs) ts rest h = begins Starts_literal _ ts rest tt h
literal-first (Headed p (Heading p1 []) us) ts rest h = begins Starts_literal _ ts rest tt h
literal-first (Headed p (Heading p1 ((Attribute n3 k4) ∷ xs5)) us) ts rest h = begins Starts_literal _ ts rest tt h

pub portion-first : (x : PortionP) (ts rest : List Piece) → Spells (of_portion x) ts rest → Starts_portion (first ts)
portion-first (Portion p e) ts rest h = begins Starts_portion _ ts rest tt h

mutual
  pub rel-first : (x : RelP) (ts rest : List Piece) → Spells (of_rel x) ts rest → Starts_rel (first ts)
  rel-first (OfUsing u) ts rest h = Starts_using-Starts_rel (first ts) (using-first u ts rest h)
  rel-first (OfTerms y) ts rest h = Starts_terms-Starts_rel (first ts) (terms-first y ts rest h)

  pub terms-first : (x : TermsP) (ts rest : List Piece) → Spells (of_terms x) ts rest → Starts_terms (first ts)
  terms-first (OneTerm y) ts rest h = term-first y ts rest h
  terms-first (Infix s p infixes.Union y) ts rest h = let x0 = two (of_terms s ++ placed t.Union p) (of_term y) ts rest h in let x1 = two (of_terms s) (placed t.Union p) ts x0.mid x0.before in terms-first s ts x1.mid x1.before
  terms-first (Infix s p infixes.Intersect y) ts rest h = let x0 = two (of_terms s ++ placed t.Intersect p) (of_term y) ts rest h in let x1 = two (of_terms s) (placed t.Intersect p) ts x0.mid x0.before in terms-first s ts x1.mid x1.before
  terms-first (Infix s p infixes.Minus y) ts rest h = let x0 = two (of_terms s ++ placed t.Minus p) (of_term y) ts rest h in let x1 = two (of_terms s) (placed t.Minus p) ts x0.mid x0.before in terms-first s ts x1.mid x1.before
  terms-first (Infix s p infixes.Join y) ts rest h = let x0 = two (of_terms s ++ placed t.Join p) (of_term y) ts rest h in let x1 = two (of_terms s) (placed t.Join p) ts x0.mid x0.before in terms-first s ts x1.mid x1.before
  terms-first (Infix s p infixes.Matching y) ts rest h = let x0 = two (of_terms s ++ placed t.Matching p) (of_term y) ts rest h in let x1 = two (of_terms s) (placed t.Matching p) ts x0.mid x0.before in terms-first s ts x1.mid x1.before
  terms-first (NotMatching s p y) ts rest h = let x0 = two (of_terms s ++ placed t.Not p ++ token t.Matching) (of_term y) ts rest h in let x1 = two (of_terms s ++ placed t.Not p) (token t.Matching) ts x0.mid x0.before in let x2 = two (of_terms s) (placed t.Not p) ts x1.mid x1.before in terms-first s ts x2.mid x2.before

  pub term-first : (x : TermP) (ts rest : List Piece) → Spells (of_term x) ts rest → Starts_terms (first ts)
  term-first (OneRelPrimary x) ts rest h = rel_primary-first x ts rest h
  term-first (Project s (Onto p1 [])) ts rest h = let x0 = two (of_term s) (of_projection (Onto p1 [])) ts rest h in term-first s ts x0.mid x0.before
  term-first (Project s (Onto p1 (n3 ∷ xs4))) ts rest h = let x0 = two (of_term s) (of_projection (Onto p1 (n3 ∷ xs4))) ts rest h in term-first s ts x0.mid x0.before
  term-first (Project s (AllBut p5 n6 ns7)) ts rest h = let x0 = two (of_term s) (of_projection (AllBut p5 n6 ns7)) ts rest h in term-first s ts x0.mid x0.before
  term-first (Filter s p c) ts rest h = let x0 = two (of_term s ++ placed t.Where p) (of_scalar c) ts rest h in let x1 = two (of_term s) (placed t.Where p) ts x0.mid x0.before in term-first s ts x1.mid x1.before
  term-first (Rename s p q) ts rest h = let x0 = two (of_term s ++ placed t.Rename p) (of_renamings q) ts rest h in let x1 = two (of_term s) (placed t.Rename p) ts x0.mid x0.before in term-first s ts x1.mid x1.before

  pub rel_primary-first : (x : RelPrimaryP) (ts rest : List Piece) → Spells (of_rel_primary x) ts rest → Starts_terms (first ts)
  rel_primary-first (OfExtend e) ts rest h = Starts_extend-Starts_terms (first ts) (extend-first e ts rest h)
  rel_primary-first (OfSummarize e) ts rest h = Starts_summarize-Starts_terms (first ts) (summarize-first e ts rest h)
  rel_primary-first (OfOperand o) ts rest h = Starts_operand-Starts_terms (first ts) (operand-first o ts rest h)

  pub operand-first : (x : OperandP) (ts rest : List Piece) → Spells (of_operand x) ts rest → Starts_operand (first ts)
  operand-first (Relvar n) ts rest h = begins Starts_operand _ ts rest tt h
  operand-first (OfLiteral l) ts rest h = Starts_literal-Starts_operand (first ts) (literal-first l ts rest h)
  operand-first (ParenRel p r) ts rest h = begins Starts_operand _ ts rest tt h
  operand-first (PackOn p pack_words.Pack r a) ts rest h = begins Starts_operand _ ts rest tt h
  operand-first (PackOn p pack_words.Unpack r a) ts rest h = begins Starts_operand _ ts rest tt h

  pub extend-first : (x : ExtendP) (ts rest : List Piece) → Spells (of_extend x) ts rest → Starts_extend (first ts)
  extend-first (Extend p r s) ts rest h = begins Starts_extend _ ts rest tt h

  pub summarize-first : (x : SummarizeP) (ts rest : List Piece) → Spells (of_summarize x) ts rest → Starts_summarize (first ts)
  summarize-first (Summarize p r b a) ts rest h = begins Starts_summarize _ ts rest tt h

  pub using-first : (x : UsingP) (ts rest : List Piece) → Spells (of_using x) ts rest → Starts_using (first ts)
  using-first (Using p a u) ts rest h = begins Starts_using _ ts rest tt h

pub key-first : (x : KeyP) (ts rest : List Piece) → Spells (of_key x) ts rest → Starts_key (first ts)
key-first (Key p n) ts rest h = begins Starts_key _ ts rest tt h

pub foreign-first : (x : ForeignP) (ts rest : List Piece) → Spells (of_foreign x) ts rest → Starts_foreign (first ts)
foreign-first (Foreign p n r) ts rest h = begins Starts_foreign _ ts rest tt h

pub constraint-first : (x : ConstraintP) (ts rest : List Piece) → Spells (of_constraint x) ts rest → Starts_constraint (first ts)
constraint-first (KeyOf k) ts rest h = Starts_key-Starts_constraint (first ts) (key-first k ts rest h)
constraint-first (ForeignOf f) ts rest h = Starts_foreign-Starts_constraint (first ts) (foreign-first f ts rest h)
constraint-first (PackedOn p a) ts rest h = begins Starts_constraint _ ts rest tt h
constraint-first (WhenUnpacked p a k) ts rest h = begins Starts_constraint _ ts rest tt h
constraint-first (UsingConstraint p a u) ts rest h = begins Starts_constraint _ ts rest tt h

pub comparison-first : (x : ComparisonP) (ts rest : List Piece) → Spells (of_comparison x) ts rest → Starts_operand (first ts)
comparison-first (Comparison l p relation_comparisons.Equal r) ts rest h = let x0 = two (of_operand l ++ placed t.Equal p) (of_operand r) ts rest h in let x1 = two (of_operand l) (placed t.Equal p) ts x0.mid x0.before in operand-first l ts x1.mid x1.before
comparison-first (Comparison l p relation_comparisons.NotEqual r) ts rest h = let x0 = two (of_operand l ++ placed t.NotEqual p) (of_operand r) ts rest h in let x1 = two (of_operand l) (placed t.NotEqual p) ts x0.mid x0.before in operand-first l ts x1.mid x1.before
comparison-first (Comparison l p relation_comparisons.Less r) ts rest h = let x0 = two (of_operand l ++ placed t.Less p) (of_operand r) ts rest h in let x1 = two (of_operand l) (placed t.Less p) ts x0.mid x0.before in operand-first l ts x1.mid x1.before
comparison-first (Comparison l p relation_comparisons.LessEqual r) ts rest h = let x0 = two (of_operand l ++ placed t.LessEqual p) (of_operand r) ts rest h in let x1 = two (of_operand l) (placed t.LessEqual p) ts x0.mid x0.before in operand-first l ts x1.mid x1.before
comparison-first (Comparison l p relation_comparisons.Greater r) ts rest h = let x0 = two (of_operand l ++ placed t.Greater p) (of_operand r) ts rest h in let x1 = two (of_operand l) (placed t.Greater p) ts x0.mid x0.before in operand-first l ts x1.mid x1.before
comparison-first (Comparison l p relation_comparisons.GreaterEqual r) ts rest h = let x0 = two (of_operand l ++ placed t.GreaterEqual p) (of_operand r) ts rest h in let x1 = two (of_operand l) (placed t.GreaterEqual p) ts x0.mid x0.before in operand-first l ts x1.mid x1.before

pub item-first : (x : ItemP) (ts rest : List Piece) → Spells (of_item x) ts rest → Starts_item (first ts)
item-first (SetRelvar n r) ts rest h = begins Starts_item _ ts rest tt h
item-first (Insert p n r) ts rest h = begins Starts_item _ ts rest tt h
item-first (Delete p n d) ts rest h = begins Starts_item _ ts rest tt h
item-first (Update p n q c s) ts rest h = begins Starts_item _ ts rest tt h
item-first (Terminate p n q e c) ts rest h = begins Starts_item _ ts rest tt h
item-first (UsingItem p a u) ts rest h = begins Starts_item _ ts rest tt h

pub assign-first : (x : AssignP) (ts rest : List Piece) → Spells (of_assign x) ts rest → Starts_item (first ts)
assign-first (Assign x xs) ts rest h = let x0 = two (of_item x) (of_more_items xs) ts rest h in item-first x ts x0.mid x0.before

pub scalar-is-conj : (x n : Terminal) (p : Place) (b : List ℕ) (next : (st : List Symbol) → Go st → Option StatementP) (stack : List Symbol) (k : Go (TheScalar ∷ stack)) → Starts_conj x → read_at x n p b next (TheScalar ∷ stack) k ≡ read_at x n p b next (TheConj ∷ MoreOr ∷ stack) (λ v. k (v.1.0 (OneConj v.0), v.1.1))
scalar-is-conj t.Begin n p b next stack k h = refl
scalar-is-conj t.Count n p b next stack k h = refl
scalar-is-conj t.Dash t.Digits p b next stack k h = refl
scalar-is-conj t.Dash _ p b next stack k h = refl
scalar-is-conj t.Date n p b next stack k h = refl
scalar-is-conj t.Digits n p b next stack k h = refl
scalar-is-conj t.End n p b next stack k h = refl
scalar-is-conj t.False n p b next stack k h = refl
scalar-is-conj t.First n p b next stack k h = refl
scalar-is-conj t.Intersect n p b next stack k h = refl
scalar-is-conj t.Last n p b next stack k h = refl
scalar-is-conj t.Minus n p b next stack k h = refl
scalar-is-conj t.Moment n p b next stack k h = refl
scalar-is-conj t.Name n p b next stack k h = refl
scalar-is-conj t.Next n p b next stack k h = refl
scalar-is-conj t.Not n p b next stack k h = refl
scalar-is-conj t.Open n p b next stack k h = refl
scalar-is-conj t.OpenBracket n p b next stack k h = refl
scalar-is-conj t.Post n p b next stack k h = refl
scalar-is-conj t.Pre n p b next stack k h = refl
scalar-is-conj t.Prior n p b next stack k h = refl
scalar-is-conj t.Quoted n p b next stack k h = refl
scalar-is-conj t.True n p b next stack k h = refl
scalar-is-conj t.Union n p b next stack k h = refl
scalar-is-conj _ n p b next stack k h = absurd h

pub scalar-as-conj : (ts : List Piece) (stack : List Symbol) (k : Go (TheScalar ∷ stack)) → Starts_conj (first ts) → read ts (TheScalar ∷ stack) k ≡ read ts (TheConj ∷ MoreOr ∷ stack) (λ v. k (v.1.0 (OneConj v.0), v.1.1))
scalar-as-conj [] stack k h = absurd h
scalar-as-conj (x ∷ ts) stack k h = scalar-is-conj x.terminal (first ts) x.place x.bytes (read ts) stack k h

pub conj-is-neg : (x n : Terminal) (p : Place) (b : List ℕ) (next : (st : List Symbol) → Go st → Option StatementP) (stack : List Symbol) (k : Go (TheConj ∷ stack)) → Starts_conj x → read_at x n p b next (TheConj ∷ stack) k ≡ read_at x n p b next (TheNeg ∷ MoreAnd ∷ stack) (λ v. k (v.1.0 (OneNeg v.0), v.1.1))
conj-is-neg t.Begin n p b next stack k h = refl
conj-is-neg t.Count n p b next stack k h = refl
conj-is-neg t.Dash t.Digits p b next stack k h = refl
conj-is-neg t.Dash _ p b next stack k h = refl
conj-is-neg t.Date n p b next stack k h = refl
conj-is-neg t.Digits n p b next stack k h = refl
conj-is-neg t.End n p b next stack k h = refl
conj-is-neg t.False n p b next stack k h = refl
conj-is-neg t.First n p b next stack k h = refl
conj-is-neg t.Intersect n p b next stack k h = refl
conj-is-neg t.Last n p b next stack k h = refl
conj-is-neg t.Minus n p b next stack k h = refl
conj-is-neg t.Moment n p b next stack k h = refl
conj-is-neg t.Name n p b next stack k h = refl
conj-is-neg t.Next n p b next stack k h = refl
conj-is-neg t.Not n p b next stack k h = refl
conj-is-neg t.Open n p b next stack k h = refl
conj-is-neg t.OpenBracket n p b next stack k h = refl
conj-is-neg t.Post n p b next stack k h = refl
conj-is-neg t.Pre n p b next stack k h = refl
conj-is-neg t.Prior n p b next stack k h = refl
conj-is-neg t.Quoted n p b next stack k h = refl
conj-is-neg t.True n p b next stack k h = refl
conj-is-neg t.Union n p b next stack k h = refl
conj-is-neg _ n p b next stack k h = absurd h

pub conj-as-neg : (ts : List Piece) (stack : List Symbol) (k : Go (TheConj ∷ stack)) → Starts_conj (first ts) → read ts (TheConj ∷ stack) k ≡ read ts (TheNeg ∷ MoreAnd ∷ stack) (λ v. k (v.1.0 (OneNeg v.0), v.1.1))
conj-as-neg [] stack k h = absurd h
conj-as-neg (x ∷ ts) stack k h = conj-is-neg x.terminal (first ts) x.place x.bytes (read ts) stack k h

pub neg-is-cmp : (x n : Terminal) (p : Place) (b : List ℕ) (next : (st : List Symbol) → Go st → Option StatementP) (stack : List Symbol) (k : Go (TheNeg ∷ stack)) → Starts_cmp x → read_at x n p b next (TheNeg ∷ stack) k ≡ read_at x n p b next (TheCmp ∷ stack) (λ v. k (OneCmp v.0, v.1))
neg-is-cmp t.Begin n p b next stack k h = refl
neg-is-cmp t.Count n p b next stack k h = refl
neg-is-cmp t.Dash t.Digits p b next stack k h = refl
neg-is-cmp t.Dash _ p b next stack k h = refl
neg-is-cmp t.Date n p b next stack k h = refl
neg-is-cmp t.Digits n p b next stack k h = refl
neg-is-cmp t.End n p b next stack k h = refl
neg-is-cmp t.False n p b next stack k h = refl
neg-is-cmp t.First n p b next stack k h = refl
neg-is-cmp t.Intersect n p b next stack k h = refl
neg-is-cmp t.Last n p b next stack k h = refl
neg-is-cmp t.Minus n p b next stack k h = refl
neg-is-cmp t.Moment n p b next stack k h = refl
neg-is-cmp t.Name n p b next stack k h = refl
neg-is-cmp t.Next n p b next stack k h = refl
neg-is-cmp t.Open n p b next stack k h = refl
neg-is-cmp t.OpenBracket n p b next stack k h = refl
neg-is-cmp t.Post n p b next stack k h = refl
neg-is-cmp t.Pre n p b next stack k h = refl
neg-is-cmp t.Prior n p b next stack k h = refl
neg-is-cmp t.Quoted n p b next stack k h = refl
neg-is-cmp t.True n p b next stack k h = refl
neg-is-cmp t.Union n p b next stack k h = refl
neg-is-cmp _ n p b next stack k h = absurd h

pub neg-as-cmp : (ts : List Piece) (stack : List Symbol) (k : Go (TheNeg ∷ stack)) → Starts_cmp (first ts) → read ts (TheNeg ∷ stack) k ≡ read ts (TheCmp ∷ stack) (λ v. k (OneCmp v.0, v.1))
neg-as-cmp [] stack k h = absurd h
neg-as-cmp (x ∷ ts) stack k h = neg-is-cmp x.terminal (first ts) x.place x.bytes (read ts) stack k h

pub cmp-is-sum : (x n : Terminal) (p : Place) (b : List ℕ) (next : (st : List Symbol) → Go st → Option StatementP) (stack : List Symbol) (k : Go (TheCmp ∷ stack)) → Starts_cmp x → read_at x n p b next (TheCmp ∷ stack) k ≡ read_at x n p b next (TheSum ∷ MoreCmp ∷ stack) (λ v. k (v.1.0 v.0, v.1.1))
cmp-is-sum t.Begin n p b next stack k h = refl
cmp-is-sum t.Count n p b next stack k h = refl
cmp-is-sum t.Dash t.Digits p b next stack k h = refl
cmp-is-sum t.Dash _ p b next stack k h = refl
cmp-is-sum t.Date n p b next stack k h = refl
cmp-is-sum t.Digits n p b next stack k h = refl
cmp-is-sum t.End n p b next stack k h = refl
cmp-is-sum t.False n p b next stack k h = refl
cmp-is-sum t.First n p b next stack k h = refl
cmp-is-sum t.Intersect n p b next stack k h = refl
cmp-is-sum t.Last n p b next stack k h = refl
cmp-is-sum t.Minus n p b next stack k h = refl
cmp-is-sum t.Moment n p b next stack k h = refl
cmp-is-sum t.Name n p b next stack k h = refl
cmp-is-sum t.Next n p b next stack k h = refl
cmp-is-sum t.Open n p b next stack k h = refl
cmp-is-sum t.OpenBracket n p b next stack k h = refl
cmp-is-sum t.Post n p b next stack k h = refl
cmp-is-sum t.Pre n p b next stack k h = refl
cmp-is-sum t.Prior n p b next stack k h = refl
cmp-is-sum t.Quoted n p b next stack k h = refl
cmp-is-sum t.True n p b next stack k h = refl
cmp-is-sum t.Union n p b next stack k h = refl
cmp-is-sum _ n p b next stack k h = absurd h

pub cmp-as-sum : (ts : List Piece) (stack : List Symbol) (k : Go (TheCmp ∷ stack)) → Starts_cmp (first ts) → read ts (TheCmp ∷ stack) k ≡ read ts (TheSum ∷ MoreCmp ∷ stack) (λ v. k (v.1.0 v.0, v.1.1))
cmp-as-sum [] stack k h = absurd h
cmp-as-sum (x ∷ ts) stack k h = cmp-is-sum x.terminal (first ts) x.place x.bytes (read ts) stack k h

pub sum-is-prod : (x n : Terminal) (p : Place) (b : List ℕ) (next : (st : List Symbol) → Go st → Option StatementP) (stack : List Symbol) (k : Go (TheSum ∷ stack)) → Starts_cmp x → read_at x n p b next (TheSum ∷ stack) k ≡ read_at x n p b next (TheProd ∷ MoreSum ∷ stack) (λ v. k (v.1.0 (OneProd v.0), v.1.1))
sum-is-prod t.Begin n p b next stack k h = refl
sum-is-prod t.Count n p b next stack k h = refl
sum-is-prod t.Dash t.Digits p b next stack k h = refl
sum-is-prod t.Dash _ p b next stack k h = refl
sum-is-prod t.Date n p b next stack k h = refl
sum-is-prod t.Digits n p b next stack k h = refl
sum-is-prod t.End n p b next stack k h = refl
sum-is-prod t.False n p b next stack k h = refl
sum-is-prod t.First n p b next stack k h = refl
sum-is-prod t.Intersect n p b next stack k h = refl
sum-is-prod t.Last n p b next stack k h = refl
sum-is-prod t.Minus n p b next stack k h = refl
sum-is-prod t.Moment n p b next stack k h = refl
sum-is-prod t.Name n p b next stack k h = refl
sum-is-prod t.Next n p b next stack k h = refl
sum-is-prod t.Open n p b next stack k h = refl
sum-is-prod t.OpenBracket n p b next stack k h = refl
sum-is-prod t.Post n p b next stack k h = refl
sum-is-prod t.Pre n p b next stack k h = refl
sum-is-prod t.Prior n p b next stack k h = refl
sum-is-prod t.Quoted n p b next stack k h = refl
sum-is-prod t.True n p b next stack k h = refl
sum-is-prod t.Union n p b next stack k h = refl
sum-is-prod _ n p b next stack k h = absurd h

pub sum-as-prod : (ts : List Piece) (stack : List Symbol) (k : Go (TheSum ∷ stack)) → Starts_cmp (first ts) → read ts (TheSum ∷ stack) k ≡ read ts (TheProd ∷ MoreSum ∷ stack) (λ v. k (v.1.0 (OneProd v.0), v.1.1))
sum-as-prod [] stack k h = absurd h
sum-as-prod (x ∷ ts) stack k h = sum-is-prod x.terminal (first ts) x.place x.bytes (read ts) stack k h

pub prod-is-sign : (x n : Terminal) (p : Place) (b : List ℕ) (next : (st : List Symbol) → Go st → Option StatementP) (stack : List Symbol) (k : Go (TheProd ∷ stack)) → Starts_cmp x → read_at x n p b next (TheProd ∷ stack) k ≡ read_at x n p b next (TheSign ∷ MoreProd ∷ stack) (λ v. k (v.1.0 (OneSign v.0), v.1.1))
prod-is-sign t.Begin n p b next stack k h = refl
prod-is-sign t.Count n p b next stack k h = refl
prod-is-sign t.Dash t.Digits p b next stack k h = refl
prod-is-sign t.Dash _ p b next stack k h = refl
prod-is-sign t.Date n p b next stack k h = refl
prod-is-sign t.Digits n p b next stack k h = refl
prod-is-sign t.End n p b next stack k h = refl
prod-is-sign t.False n p b next stack k h = refl
prod-is-sign t.First n p b next stack k h = refl
prod-is-sign t.Intersect n p b next stack k h = refl
prod-is-sign t.Last n p b next stack k h = refl
prod-is-sign t.Minus n p b next stack k h = refl
prod-is-sign t.Moment n p b next stack k h = refl
prod-is-sign t.Name n p b next stack k h = refl
prod-is-sign t.Next n p b next stack k h = refl
prod-is-sign t.Open n p b next stack k h = refl
prod-is-sign t.OpenBracket n p b next stack k h = refl
prod-is-sign t.Post n p b next stack k h = refl
prod-is-sign t.Pre n p b next stack k h = refl
prod-is-sign t.Prior n p b next stack k h = refl
prod-is-sign t.Quoted n p b next stack k h = refl
prod-is-sign t.True n p b next stack k h = refl
prod-is-sign t.Union n p b next stack k h = refl
prod-is-sign _ n p b next stack k h = absurd h

pub prod-as-sign : (ts : List Piece) (stack : List Symbol) (k : Go (TheProd ∷ stack)) → Starts_cmp (first ts) → read ts (TheProd ∷ stack) k ≡ read ts (TheSign ∷ MoreProd ∷ stack) (λ v. k (v.1.0 (OneSign v.0), v.1.1))
prod-as-sign [] stack k h = absurd h
prod-as-sign (x ∷ ts) stack k h = prod-is-sign x.terminal (first ts) x.place x.bytes (read ts) stack k h

pub sign-is-primary : (x n : Terminal) (p : Place) (b : List ℕ) (next : (st : List Symbol) → Go st → Option StatementP) (stack : List Symbol) (k : Go (TheSign ∷ stack)) → Starts_primary x → read_at x n p b next (TheSign ∷ stack) k ≡ read_at x n p b next (ThePrimary ∷ stack) (λ v. k (OnePrimary v.0, v.1))
sign-is-primary t.Begin n p b next stack k h = refl
sign-is-primary t.Count n p b next stack k h = refl
sign-is-primary t.Date n p b next stack k h = refl
sign-is-primary t.Digits n p b next stack k h = refl
sign-is-primary t.End n p b next stack k h = refl
sign-is-primary t.False n p b next stack k h = refl
sign-is-primary t.First n p b next stack k h = refl
sign-is-primary t.Intersect n p b next stack k h = refl
sign-is-primary t.Last n p b next stack k h = refl
sign-is-primary t.Minus n p b next stack k h = refl
sign-is-primary t.Moment n p b next stack k h = refl
sign-is-primary t.Name n p b next stack k h = refl
sign-is-primary t.Next n p b next stack k h = refl
sign-is-primary t.Open n p b next stack k h = refl
sign-is-primary t.OpenBracket n p b next stack k h = refl
sign-is-primary t.Post n p b next stack k h = refl
sign-is-primary t.Pre n p b next stack k h = refl
sign-is-primary t.Prior n p b next stack k h = refl
sign-is-primary t.Quoted n p b next stack k h = refl
sign-is-primary t.True n p b next stack k h = refl
sign-is-primary t.Union n p b next stack k h = refl
sign-is-primary _ n p b next stack k h = absurd h

pub sign-as-primary : (ts : List Piece) (stack : List Symbol) (k : Go (TheSign ∷ stack)) → Starts_primary (first ts) → read ts (TheSign ∷ stack) k ≡ read ts (ThePrimary ∷ stack) (λ v. k (OnePrimary v.0, v.1))
sign-as-primary [] stack k h = absurd h
sign-as-primary (x ∷ ts) stack k h = sign-is-primary x.terminal (first ts) x.place x.bytes (read ts) stack k h

pub kind-is-point : (x n : Terminal) (p : Place) (b : List ℕ) (next : (st : List Symbol) → Go st → Option StatementP) (stack : List Symbol) (k : Go (TheKind ∷ stack)) → Starts_point x → read_at x n p b next (TheKind ∷ stack) k ≡ read_at x n p b next (ThePoint ∷ stack) (λ v. k (PointKind v.0, v.1))
kind-is-point t.Date n p b next stack k h = refl
kind-is-point t.Integer n p b next stack k h = refl
kind-is-point t.Moment n p b next stack k h = refl
kind-is-point t.Name n p b next stack k h = refl
kind-is-point _ n p b next stack k h = absurd h

pub kind-as-point : (ts : List Piece) (stack : List Symbol) (k : Go (TheKind ∷ stack)) → Starts_point (first ts) → read ts (TheKind ∷ stack) k ≡ read ts (ThePoint ∷ stack) (λ v. k (PointKind v.0, v.1))
kind-as-point [] stack k h = absurd h
kind-as-point (x ∷ ts) stack k h = kind-is-point x.terminal (first ts) x.place x.bytes (read ts) stack k h

pub rel-is-using : (x n : Terminal) (p : Place) (b : List ℕ) (next : (st : List Symbol) → Go st → Option StatementP) (stack : List Symbol) (k : Go (TheRel ∷ stack)) → Starts_using x → read_at x n p b next (TheRel ∷ stack) k ≡ read_at x n p b next (TheUsing ∷ stack) (λ v. k (OfUsing v.0, v.1))
rel-is-using t.Using n p b next stack k h = refl
rel-is-using _ n p b next stack k h = absurd h

pub rel-as-using : (ts : List Piece) (stack : List Symbol) (k : Go (TheRel ∷ stack)) → Starts_using (first ts) → read ts (TheRel ∷ stack) k ≡ read ts (TheUsing ∷ stack) (λ v. k (OfUsing v.0, v.1))
rel-as-using [] stack k h = absurd h
rel-as-using (x ∷ ts) stack k h = rel-is-using x.terminal (first ts) x.place x.bytes (read ts) stack k h

pub rel-is-terms : (x n : Terminal) (p : Place) (b : List ℕ) (next : (st : List Symbol) → Go st → Option StatementP) (stack : List Symbol) (k : Go (TheRel ∷ stack)) → Starts_terms x → read_at x n p b next (TheRel ∷ stack) k ≡ read_at x n p b next (TheTerms ∷ stack) (λ v. k (OfTerms v.0, v.1))
rel-is-terms t.Extend n p b next stack k h = refl
rel-is-terms t.Name n p b next stack k h = refl
rel-is-terms t.Open n p b next stack k h = refl
rel-is-terms t.Pack n p b next stack k h = refl
rel-is-terms t.Relation n p b next stack k h = refl
rel-is-terms t.Summarize n p b next stack k h = refl
rel-is-terms t.Unpack n p b next stack k h = refl
rel-is-terms _ n p b next stack k h = absurd h

pub rel-as-terms : (ts : List Piece) (stack : List Symbol) (k : Go (TheRel ∷ stack)) → Starts_terms (first ts) → read ts (TheRel ∷ stack) k ≡ read ts (TheTerms ∷ stack) (λ v. k (OfTerms v.0, v.1))
rel-as-terms [] stack k h = absurd h
rel-as-terms (x ∷ ts) stack k h = rel-is-terms x.terminal (first ts) x.place x.bytes (read ts) stack k h

pub terms-is-term : (x n : Terminal) (p : Place) (b : List ℕ) (next : (st : List Symbol) → Go st → Option StatementP) (stack : List Symbol) (k : Go (TheTerms ∷ stack)) → Starts_terms x → read_at x n p b next (TheTerms ∷ stack) k ≡ read_at x n p b next (TheTerm ∷ MoreInfix ∷ stack) (λ v. k (v.1.0 (OneTerm v.0), v.1.1))
terms-is-term t.Extend n p b next stack k h = refl
terms-is-term t.Name n p b next stack k h = refl
terms-is-term t.Open n p b next stack k h = refl
terms-is-term t.Pack n p b next stack k h = refl
terms-is-term t.Relation n p b next stack k h = refl
terms-is-term t.Summarize n p b next stack k h = refl
terms-is-term t.Unpack n p b next stack k h = refl
terms-is-term _ n p b next stack k h = absurd h

pub terms-as-term : (ts : List Piece) (stack : List Symbol) (k : Go (TheTerms ∷ stack)) → Starts_terms (first ts) → read ts (TheTerms ∷ stack) k ≡ read ts (TheTerm ∷ MoreInfix ∷ stack) (λ v. k (v.1.0 (OneTerm v.0), v.1.1))
terms-as-term [] stack k h = absurd h
terms-as-term (x ∷ ts) stack k h = terms-is-term x.terminal (first ts) x.place x.bytes (read ts) stack k h

pub term-is-rel_primary : (x n : Terminal) (p : Place) (b : List ℕ) (next : (st : List Symbol) → Go st → Option StatementP) (stack : List Symbol) (k : Go (TheTerm ∷ stack)) → Starts_terms x → read_at x n p b next (TheTerm ∷ stack) k ≡ read_at x n p b next (TheRelPrimary ∷ MorePostfix ∷ stack) (λ v. k (v.1.0 (OneRelPrimary v.0), v.1.1))
term-is-rel_primary t.Extend n p b next stack k h = refl
term-is-rel_primary t.Name n p b next stack k h = refl
term-is-rel_primary t.Open n p b next stack k h = refl
term-is-rel_primary t.Pack n p b next stack k h = refl
term-is-rel_primary t.Relation n p b next stack k h = refl
term-is-rel_primary t.Summarize n p b next stack k h = refl
term-is-rel_primary t.Unpack n p b next stack k h = refl
term-is-rel_primary _ n p b next stack k h = absurd h

pub term-as-rel_primary : (ts : List Piece) (stack : List Symbol) (k : Go (TheTerm ∷ stack)) → Starts_terms (first ts) → read ts (TheTerm ∷ stack) k ≡ read ts (TheRelPrimary ∷ MorePostfix ∷ stack) (λ v. k (v.1.0 (OneRelPrimary v.0), v.1.1))
term-as-rel_primary [] stack k h = absurd h
term-as-rel_primary (x ∷ ts) stack k h = term-is-rel_primary x.terminal (first ts) x.place x.bytes (read ts) stack k h

pub rel_primary-is-extend : (x n : Terminal) (p : Place) (b : List ℕ) (next : (st : List Symbol) → Go st → Option StatementP) (stack : List Symbol) (k : Go (TheRelPrimary ∷ stack)) → Starts_extend x → read_at x n p b next (TheRelPrimary ∷ stack) k ≡ read_at x n p b next (TheExtend ∷ stack) (λ v. k (OfExtend v.0, v.1))
rel_primary-is-extend t.Extend n p b next stack k h = refl
rel_primary-is-extend _ n p b next stack k h = absurd h

pub rel_primary-as-extend : (ts : List Piece) (stack : List Symbol) (k : Go (TheRelPrimary ∷ stack)) → Starts_extend (first ts) → read ts (TheRelPrimary ∷ stack) k ≡ read ts (TheExtend ∷ stack) (λ v. k (OfExtend v.0, v.1))
rel_primary-as-extend [] stack k h = absurd h
rel_primary-as-extend (x ∷ ts) stack k h = rel_primary-is-extend x.terminal (first ts) x.place x.bytes (read ts) stack k h

pub rel_primary-is-summarize : (x n : Terminal) (p : Place) (b : List ℕ) (next : (st : List Symbol) → Go st → Option StatementP) (stack : List Symbol) (k : Go (TheRelPrimary ∷ stack)) → Starts_summarize x → read_at x n p b next (TheRelPrimary ∷ stack) k ≡ read_at x n p b next (TheSummarize ∷ stack) (λ v. k (OfSummarize v.0, v.1))
rel_primary-is-summarize t.Summarize n p b next stack k h = refl
rel_primary-is-summarize _ n p b next stack k h = absurd h

pub rel_primary-as-summarize : (ts : List Piece) (stack : List Symbol) (k : Go (TheRelPrimary ∷ stack)) → Starts_summarize (first ts) → read ts (TheRelPrimary ∷ stack) k ≡ read ts (TheSummarize ∷ stack) (λ v. k (OfSummarize v.0, v.1))
rel_primary-as-summarize [] stack k h = absurd h
rel_primary-as-summarize (x ∷ ts) stack k h = rel_primary-is-summarize x.terminal (first ts) x.place x.bytes (read ts) stack k h

pub rel_primary-is-operand : (x n : Terminal) (p : Place) (b : List ℕ) (next : (st : List Symbol) → Go st → Option StatementP) (stack : List Symbol) (k : Go (TheRelPrimary ∷ stack)) → Starts_operand x → read_at x n p b next (TheRelPrimary ∷ stack) k ≡ read_at x n p b next (TheOperand ∷ stack) (λ v. k (OfOperand v.0, v.1))
rel_primary-is-operand t.Name n p b next stack k h = refl
rel_primary-is-operand t.Open n p b next stack k h = refl
rel_primary-is-operand t.Pack n p b next stack k h = refl
rel_primary-is-operand t.Relation n p b next stack k h = refl
rel_primary-is-operand t.Unpack n p b next stack k h = refl
rel_primary-is-operand _ n p b next stack k h = absurd h

pub rel_primary-as-operand : (ts : List Piece) (stack : List Symbol) (k : Go (TheRelPrimary ∷ stack)) → Starts_operand (first ts) → read ts (TheRelPrimary ∷ stack) k ≡ read ts (TheOperand ∷ stack) (λ v. k (OfOperand v.0, v.1))
rel_primary-as-operand [] stack k h = absurd h
rel_primary-as-operand (x ∷ ts) stack k h = rel_primary-is-operand x.terminal (first ts) x.place x.bytes (read ts) stack k h

pub operand-is-literal : (x n : Terminal) (p : Place) (b : List ℕ) (next : (st : List Symbol) → Go st → Option StatementP) (stack : List Symbol) (k : Go (TheOperand ∷ stack)) → Starts_literal x → read_at x n p b next (TheOperand ∷ stack) k ≡ read_at x n p b next (TheLiteral ∷ stack) (λ v. k (OfLiteral v.0, v.1))
operand-is-literal t.Relation n p b next stack k h = refl
operand-is-literal _ n p b next stack k h = absurd h

pub operand-as-literal : (ts : List Piece) (stack : List Symbol) (k : Go (TheOperand ∷ stack)) → Starts_literal (first ts) → read ts (TheOperand ∷ stack) k ≡ read ts (TheLiteral ∷ stack) (λ v. k (OfLiteral v.0, v.1))
operand-as-literal [] stack k h = absurd h
operand-as-literal (x ∷ ts) stack k h = operand-is-literal x.terminal (first ts) x.place x.bytes (read ts) stack k h

pub using_part-is-extend : (x n : Terminal) (p : Place) (b : List ℕ) (next : (st : List Symbol) → Go st → Option StatementP) (stack : List Symbol) (k : Go (TheUsingPart ∷ stack)) → Starts_extend x → read_at x n p b next (TheUsingPart ∷ stack) k ≡ read_at x n p b next (TheExtend ∷ stack) (λ v. k (UsingExtend v.0, v.1))
using_part-is-extend t.Extend n p b next stack k h = refl
using_part-is-extend _ n p b next stack k h = absurd h

pub using_part-as-extend : (ts : List Piece) (stack : List Symbol) (k : Go (TheUsingPart ∷ stack)) → Starts_extend (first ts) → read ts (TheUsingPart ∷ stack) k ≡ read ts (TheExtend ∷ stack) (λ v. k (UsingExtend v.0, v.1))
using_part-as-extend [] stack k h = absurd h
using_part-as-extend (x ∷ ts) stack k h = using_part-is-extend x.terminal (first ts) x.place x.bytes (read ts) stack k h

pub using_part-is-summarize : (x n : Terminal) (p : Place) (b : List ℕ) (next : (st : List Symbol) → Go st → Option StatementP) (stack : List Symbol) (k : Go (TheUsingPart ∷ stack)) → Starts_summarize x → read_at x n p b next (TheUsingPart ∷ stack) k ≡ read_at x n p b next (TheSummarize ∷ stack) (λ v. k (UsingSummarize v.0, v.1))
using_part-is-summarize t.Summarize n p b next stack k h = refl
using_part-is-summarize _ n p b next stack k h = absurd h

pub using_part-as-summarize : (ts : List Piece) (stack : List Symbol) (k : Go (TheUsingPart ∷ stack)) → Starts_summarize (first ts) → read ts (TheUsingPart ∷ stack) k ≡ read ts (TheSummarize ∷ stack) (λ v. k (UsingSummarize v.0, v.1))
using_part-as-summarize [] stack k h = absurd h
using_part-as-summarize (x ∷ ts) stack k h = using_part-is-summarize x.terminal (first ts) x.place x.bytes (read ts) stack k h

pub using_part-is-operand : (x n : Terminal) (p : Place) (b : List ℕ) (next : (st : List Symbol) → Go st → Option StatementP) (stack : List Symbol) (k : Go (TheUsingPart ∷ stack)) → Starts_operand x → read_at x n p b next (TheUsingPart ∷ stack) k ≡ read_at x n p b next (TheOperand ∷ AfterOperand ∷ stack) (λ v. k (v.1.0 v.0, v.1.1))
using_part-is-operand t.Name n p b next stack k h = refl
using_part-is-operand t.Open n p b next stack k h = refl
using_part-is-operand t.Pack n p b next stack k h = refl
using_part-is-operand t.Relation n p b next stack k h = refl
using_part-is-operand t.Unpack n p b next stack k h = refl
using_part-is-operand _ n p b next stack k h = absurd h

pub using_part-as-operand : (ts : List Piece) (stack : List Symbol) (k : Go (TheUsingPart ∷ stack)) → Starts_operand (first ts) → read ts (TheUsingPart ∷ stack) k ≡ read ts (TheOperand ∷ AfterOperand ∷ stack) (λ v. k (v.1.0 v.0, v.1.1))
using_part-as-operand [] stack k h = absurd h
using_part-as-operand (x ∷ ts) stack k h = using_part-is-operand x.terminal (first ts) x.place x.bytes (read ts) stack k h

pub used_constraint-is-key : (x n : Terminal) (p : Place) (b : List ℕ) (next : (st : List Symbol) → Go st → Option StatementP) (stack : List Symbol) (k : Go (TheUsedConstraint ∷ stack)) → Starts_key x → read_at x n p b next (TheUsedConstraint ∷ stack) k ≡ read_at x n p b next (TheKey ∷ stack) (λ v. k (UsedKey v.0, v.1))
used_constraint-is-key t.Key n p b next stack k h = refl
used_constraint-is-key _ n p b next stack k h = absurd h

pub used_constraint-as-key : (ts : List Piece) (stack : List Symbol) (k : Go (TheUsedConstraint ∷ stack)) → Starts_key (first ts) → read ts (TheUsedConstraint ∷ stack) k ≡ read ts (TheKey ∷ stack) (λ v. k (UsedKey v.0, v.1))
used_constraint-as-key [] stack k h = absurd h
used_constraint-as-key (x ∷ ts) stack k h = used_constraint-is-key x.terminal (first ts) x.place x.bytes (read ts) stack k h

pub used_constraint-is-foreign : (x n : Terminal) (p : Place) (b : List ℕ) (next : (st : List Symbol) → Go st → Option StatementP) (stack : List Symbol) (k : Go (TheUsedConstraint ∷ stack)) → Starts_foreign x → read_at x n p b next (TheUsedConstraint ∷ stack) k ≡ read_at x n p b next (TheForeign ∷ stack) (λ v. k (UsedForeign v.0, v.1))
used_constraint-is-foreign t.Foreign n p b next stack k h = refl
used_constraint-is-foreign _ n p b next stack k h = absurd h

pub used_constraint-as-foreign : (ts : List Piece) (stack : List Symbol) (k : Go (TheUsedConstraint ∷ stack)) → Starts_foreign (first ts) → read ts (TheUsedConstraint ∷ stack) k ≡ read ts (TheForeign ∷ stack) (λ v. k (UsedForeign v.0, v.1))
used_constraint-as-foreign [] stack k h = absurd h
used_constraint-as-foreign (x ∷ ts) stack k h = used_constraint-is-foreign x.terminal (first ts) x.place x.bytes (read ts) stack k h

pub constraint-is-key : (x n : Terminal) (p : Place) (b : List ℕ) (next : (st : List Symbol) → Go st → Option StatementP) (stack : List Symbol) (k : Go (TheConstraint ∷ stack)) → Starts_key x → read_at x n p b next (TheConstraint ∷ stack) k ≡ read_at x n p b next (TheKey ∷ stack) (λ v. k (KeyOf v.0, v.1))
constraint-is-key t.Key n p b next stack k h = refl
constraint-is-key _ n p b next stack k h = absurd h

pub constraint-as-key : (ts : List Piece) (stack : List Symbol) (k : Go (TheConstraint ∷ stack)) → Starts_key (first ts) → read ts (TheConstraint ∷ stack) k ≡ read ts (TheKey ∷ stack) (λ v. k (KeyOf v.0, v.1))
constraint-as-key [] stack k h = absurd h
constraint-as-key (x ∷ ts) stack k h = constraint-is-key x.terminal (first ts) x.place x.bytes (read ts) stack k h

pub constraint-is-foreign : (x n : Terminal) (p : Place) (b : List ℕ) (next : (st : List Symbol) → Go st → Option StatementP) (stack : List Symbol) (k : Go (TheConstraint ∷ stack)) → Starts_foreign x → read_at x n p b next (TheConstraint ∷ stack) k ≡ read_at x n p b next (TheForeign ∷ stack) (λ v. k (ForeignOf v.0, v.1))
constraint-is-foreign t.Foreign n p b next stack k h = refl
constraint-is-foreign _ n p b next stack k h = absurd h

pub constraint-as-foreign : (ts : List Piece) (stack : List Symbol) (k : Go (TheConstraint ∷ stack)) → Starts_foreign (first ts) → read ts (TheConstraint ∷ stack) k ≡ read ts (TheForeign ∷ stack) (λ v. k (ForeignOf v.0, v.1))
constraint-as-foreign [] stack k h = absurd h
constraint-as-foreign (x ∷ ts) stack k h = constraint-is-foreign x.terminal (first ts) x.place x.bytes (read ts) stack k h

pub constraints-is-constraint : (x n : Terminal) (p : Place) (b : List ℕ) (next : (st : List Symbol) → Go st → Option StatementP) (stack : List Symbol) (k : Go (MoreConstraints ∷ stack)) → Starts_constraint x → read_at x n p b next (MoreConstraints ∷ stack) k ≡ read_at x n p b next (TheConstraint ∷ MoreConstraints ∷ stack) (λ v. k (v.0 ∷ v.1.0, v.1.1))
constraints-is-constraint t.Foreign n p b next stack k h = refl
constraints-is-constraint t.Key n p b next stack k h = refl
constraints-is-constraint t.Packed n p b next stack k h = refl
constraints-is-constraint t.Using n p b next stack k h = refl
constraints-is-constraint t.When n p b next stack k h = refl
constraints-is-constraint _ n p b next stack k h = absurd h

pub constraints-as-constraint : (ts : List Piece) (stack : List Symbol) (k : Go (MoreConstraints ∷ stack)) → Starts_constraint (first ts) → read ts (MoreConstraints ∷ stack) k ≡ read ts (TheConstraint ∷ MoreConstraints ∷ stack) (λ v. k (v.0 ∷ v.1.0, v.1.1))
constraints-as-constraint [] stack k h = absurd h
constraints-as-constraint (x ∷ ts) stack k h = constraints-is-constraint x.terminal (first ts) x.place x.bytes (read ts) stack k h

pub comparison-is-operand : (x n : Terminal) (p : Place) (b : List ℕ) (next : (st : List Symbol) → Go st → Option StatementP) (stack : List Symbol) (k : Go (TheComparison ∷ stack)) → Starts_operand x → read_at x n p b next (TheComparison ∷ stack) k ≡ read_at x n p b next (TheOperand ∷ AfterLeft ∷ stack) (λ v. k (v.1.0 v.0, v.1.1))
comparison-is-operand t.Name n p b next stack k h = refl
comparison-is-operand t.Open n p b next stack k h = refl
comparison-is-operand t.Pack n p b next stack k h = refl
comparison-is-operand t.Relation n p b next stack k h = refl
comparison-is-operand t.Unpack n p b next stack k h = refl
comparison-is-operand _ n p b next stack k h = absurd h

pub comparison-as-operand : (ts : List Piece) (stack : List Symbol) (k : Go (TheComparison ∷ stack)) → Starts_operand (first ts) → read ts (TheComparison ∷ stack) k ≡ read ts (TheOperand ∷ AfterLeft ∷ stack) (λ v. k (v.1.0 v.0, v.1.1))
comparison-as-operand [] stack k h = absurd h
comparison-as-operand (x ∷ ts) stack k h = comparison-is-operand x.terminal (first ts) x.place x.bytes (read ts) stack k h

pub test-is-comparison : (x n : Terminal) (p : Place) (b : List ℕ) (next : (st : List Symbol) → Go st → Option StatementP) (stack : List Symbol) (k : Go (TheTest ∷ stack)) → Starts_operand x → read_at x n p b next (TheTest ∷ stack) k ≡ read_at x n p b next (TheComparison ∷ stack) (λ v. k (OfComparison v.0, v.1))
test-is-comparison t.Name n p b next stack k h = refl
test-is-comparison t.Open n p b next stack k h = refl
test-is-comparison t.Pack n p b next stack k h = refl
test-is-comparison t.Relation n p b next stack k h = refl
test-is-comparison t.Unpack n p b next stack k h = refl
test-is-comparison _ n p b next stack k h = absurd h

pub test-as-comparison : (ts : List Piece) (stack : List Symbol) (k : Go (TheTest ∷ stack)) → Starts_operand (first ts) → read ts (TheTest ∷ stack) k ≡ read ts (TheComparison ∷ stack) (λ v. k (OfComparison v.0, v.1))
test-as-comparison [] stack k h = absurd h
test-as-comparison (x ∷ ts) stack k h = test-is-comparison x.terminal (first ts) x.place x.bytes (read ts) stack k h

pub used_deletion-is-rel : (x n : Terminal) (p : Place) (b : List ℕ) (next : (st : List Symbol) → Go st → Option StatementP) (stack : List Symbol) (k : Go (TheUsedDeletion ∷ stack)) → Starts_rel x → read_at x n p b next (TheUsedDeletion ∷ stack) k ≡ read_at x n p b next (TheRel ∷ stack) (λ v. k (UsedDeleteRows v.0, v.1))
used_deletion-is-rel t.Extend n p b next stack k h = refl
used_deletion-is-rel t.Name n p b next stack k h = refl
used_deletion-is-rel t.Open n p b next stack k h = refl
used_deletion-is-rel t.Pack n p b next stack k h = refl
used_deletion-is-rel t.Relation n p b next stack k h = refl
used_deletion-is-rel t.Summarize n p b next stack k h = refl
used_deletion-is-rel t.Unpack n p b next stack k h = refl
used_deletion-is-rel t.Using n p b next stack k h = refl
used_deletion-is-rel _ n p b next stack k h = absurd h

pub used_deletion-as-rel : (ts : List Piece) (stack : List Symbol) (k : Go (TheUsedDeletion ∷ stack)) → Starts_rel (first ts) → read ts (TheUsedDeletion ∷ stack) k ≡ read ts (TheRel ∷ stack) (λ v. k (UsedDeleteRows v.0, v.1))
used_deletion-as-rel [] stack k h = absurd h
used_deletion-as-rel (x ∷ ts) stack k h = used_deletion-is-rel x.terminal (first ts) x.place x.bytes (read ts) stack k h

pub deletion-is-portion : (x n : Terminal) (p : Place) (b : List ℕ) (next : (st : List Symbol) → Go st → Option StatementP) (stack : List Symbol) (k : Go (TheDeletion ∷ stack)) → Starts_portion x → read_at x n p b next (TheDeletion ∷ stack) k ≡ read_at x n p b next (ThePortion ∷ MaybeWhere ∷ stack) (λ v. k (DeletePortion v.0 v.1.0, v.1.1))
deletion-is-portion t.Portion n p b next stack k h = refl
deletion-is-portion _ n p b next stack k h = absurd h

pub deletion-as-portion : (ts : List Piece) (stack : List Symbol) (k : Go (TheDeletion ∷ stack)) → Starts_portion (first ts) → read ts (TheDeletion ∷ stack) k ≡ read ts (ThePortion ∷ MaybeWhere ∷ stack) (λ v. k (DeletePortion v.0 v.1.0, v.1.1))
deletion-as-portion [] stack k h = absurd h
deletion-as-portion (x ∷ ts) stack k h = deletion-is-portion x.terminal (first ts) x.place x.bytes (read ts) stack k h

pub deletion-is-rel : (x n : Terminal) (p : Place) (b : List ℕ) (next : (st : List Symbol) → Go st → Option StatementP) (stack : List Symbol) (k : Go (TheDeletion ∷ stack)) → Starts_rel x → read_at x n p b next (TheDeletion ∷ stack) k ≡ read_at x n p b next (TheRel ∷ stack) (λ v. k (DeleteRows v.0, v.1))
deletion-is-rel t.Extend n p b next stack k h = refl
deletion-is-rel t.Name n p b next stack k h = refl
deletion-is-rel t.Open n p b next stack k h = refl
deletion-is-rel t.Pack n p b next stack k h = refl
deletion-is-rel t.Relation n p b next stack k h = refl
deletion-is-rel t.Summarize n p b next stack k h = refl
deletion-is-rel t.Unpack n p b next stack k h = refl
deletion-is-rel t.Using n p b next stack k h = refl
deletion-is-rel _ n p b next stack k h = absurd h

pub deletion-as-rel : (ts : List Piece) (stack : List Symbol) (k : Go (TheDeletion ∷ stack)) → Starts_rel (first ts) → read ts (TheDeletion ∷ stack) k ≡ read ts (TheRel ∷ stack) (λ v. k (DeleteRows v.0, v.1))
deletion-as-rel [] stack k h = absurd h
deletion-as-rel (x ∷ ts) stack k h = deletion-is-rel x.terminal (first ts) x.place x.bytes (read ts) stack k h

pub assign-is-item : (x n : Terminal) (p : Place) (b : List ℕ) (next : (st : List Symbol) → Go st → Option StatementP) (stack : List Symbol) (k : Go (TheAssign ∷ stack)) → Starts_item x → read_at x n p b next (TheAssign ∷ stack) k ≡ read_at x n p b next (TheItem ∷ MoreItems ∷ stack) (λ v. k (Assign v.0 v.1.0, v.1.1))
assign-is-item t.Delete n p b next stack k h = refl
assign-is-item t.Insert n p b next stack k h = refl
assign-is-item t.Name n p b next stack k h = refl
assign-is-item t.Terminate n p b next stack k h = refl
assign-is-item t.Update n p b next stack k h = refl
assign-is-item t.Using n p b next stack k h = refl
assign-is-item _ n p b next stack k h = absurd h

pub assign-as-item : (ts : List Piece) (stack : List Symbol) (k : Go (TheAssign ∷ stack)) → Starts_item (first ts) → read ts (TheAssign ∷ stack) k ≡ read ts (TheItem ∷ MoreItems ∷ stack) (λ v. k (Assign v.0 v.1.0, v.1.1))
assign-as-item [] stack k h = absurd h
assign-as-item (x ∷ ts) stack k h = assign-is-item x.terminal (first ts) x.place x.bytes (read ts) stack k h

pub item-second : (x : ItemP) (ts rest : List Piece) → Spells (of_item x) ts rest → first ts ≡ t.Name → second ts ≡ t.Assign
item-second (SetRelvar n r) ts rest h name = let x0 = one (spelled t.Name n.place n.bytes) (token t.Assign ++ of_rel r) ts rest h in ap second x0.is ∙ begins (λ z. z ≡ t.Assign) _ x0.left rest refl x0.spells
item-second (Insert p n r) ts rest h name = absurd (begins (λ z. z ≡ t.Name → ⊥) _ ts rest (λ z. cc) h name)
item-second (Delete p n d) ts rest h name = absurd (begins (λ z. z ≡ t.Name → ⊥) _ ts rest (λ z. cc) h name)
item-second (Update p n q c s) ts rest h name = absurd (begins (λ z. z ≡ t.Name → ⊥) _ ts rest (λ z. cc) h name)
item-second (Terminate p n q e c) ts rest h name = absurd (begins (λ z. z ≡ t.Name → ⊥) _ ts rest (λ z. cc) h name)
item-second (UsingItem p a u) ts rest h name = absurd (begins (λ z. z ≡ t.Name → ⊥) _ ts rest (λ z. cc) h name)

pub assign-second : (x : AssignP) (ts rest : List Piece) → Spells (of_assign x) ts rest → first ts ≡ t.Name → second ts ≡ t.Assign
assign-second (Assign x xs) ts rest h name = let x0 = two (of_item x) (of_more_items xs) ts rest h in item-second x ts x0.mid x0.before name

pub AfterLog-goes_on : (x n : Terminal) (p q : Place) (b : List ℕ) (next : (st : List Symbol) → Go st → Option StatementP) (stack : List Symbol) (k : Go (TheStatement ∷ stack)) → x ≡ t.Assign → read_at x n q b next (AfterLog ∷ stack) (λ v. k (v.0 p, v.1)) ≡ read_at x n q b next (Just t.Assign ∷ TheRel ∷ MoreItems ∷ Just t.Semicolon ∷ stack) (λ v. k (Assignment (Assign (SetRelvar (word p log_word) v.1.0) v.1.1.0), v.1.1.1.1))
AfterLog-goes_on x n p q b next stack k is = subst (λ z. read_at z n q b next (AfterLog ∷ stack) (λ v. k (v.0 p, v.1)) ≡ read_at z n q b next (Just t.Assign ∷ TheRel ∷ MoreItems ∷ Just t.Semicolon ∷ stack) (λ v. k (Assignment (Assign (SetRelvar (word p log_word) v.1.0) v.1.1.0), v.1.1.1.1))) (sym is) refl

pub statement-named : (p : Place) (b : List ℕ) (ts : List Piece) (stack : List Symbol) (k : Go (TheStatement ∷ stack)) (c : Bool) → same_bytes log_word b ≡ c → first ts ≡ t.Assign → read_at t.Name (first ts) p b (read ts) (TheStatement ∷ stack) k ≡ read_at t.Name (first ts) p b (read ts) (TheAssign ∷ Just t.Semicolon ∷ stack) (λ v. k (Assignment v.0, v.1.1))
statement-named p b [] stack k c e is = absurd (no-end is)
  where
    no-end : t.Finish ≡ t.Assign → ⊥
    no-end e = cc
statement-named p b (y ∷ ts) stack k true e is = subst (λ z. read_at t.Name (first (y ∷ ts)) p z (read (y ∷ ts)) (TheStatement ∷ stack) k ≡ read_at t.Name (first (y ∷ ts)) p z (read (y ∷ ts)) (TheAssign ∷ Just t.Semicolon ∷ stack) (λ v. k (Assignment v.0, v.1.1))) (bytes-same log_word b e) (AfterLog-goes_on y.terminal (first ts) p y.place y.bytes (read ts) stack k is)
statement-named p b (y ∷ ts) stack k false e is = other-row TheStatement (same_bytes log_word b) (Takes Plain (AfterLog ∷ [])) (Takes Plain (Just t.Assign ∷ TheRel ∷ MoreItems ∷ Just t.Semicolon ∷ [])) (λ v. v.0 p) (λ v. Assignment (Assign (SetRelvar (word p b) v.1.0) v.1.1.0)) stack (read (y ∷ ts)) (read_at t.Name y.terminal p b (read (y ∷ ts)) stack) k e

pub statement-is-assign : (x : Terminal) (p : Place) (b : List ℕ) (ts : List Piece) (stack : List Symbol) (k : Go (TheStatement ∷ stack)) → Starts_item x → (x ≡ t.Name → first ts ≡ t.Assign) → read_at x (first ts) p b (read ts) (TheStatement ∷ stack) k ≡ read_at x (first ts) p b (read ts) (TheAssign ∷ Just t.Semicolon ∷ stack) (λ v. k (Assignment v.0, v.1.1))
statement-is-assign t.Delete p b ts stack k h g = refl
statement-is-assign t.Insert p b ts stack k h g = refl
statement-is-assign t.Name p b ts stack k h g = statement-named p b ts stack k (same_bytes log_word b) refl (g refl)
statement-is-assign t.Terminate p b ts stack k h g = refl
statement-is-assign t.Update p b ts stack k h g = refl
statement-is-assign t.Using p b ts stack k h g = refl
statement-is-assign _ p b ts stack k h g = absurd h

pub statement-as-assign : (ts : List Piece) (stack : List Symbol) (k : Go (TheStatement ∷ stack)) → Starts_item (first ts) → (first ts ≡ t.Name → second ts ≡ t.Assign) → read ts (TheStatement ∷ stack) k ≡ read ts (TheAssign ∷ Just t.Semicolon ∷ stack) (λ v. k (Assignment v.0, v.1.1))
statement-as-assign [] stack k h g = absurd h
statement-as-assign (x ∷ ts) stack k h g = statement-is-assign x.terminal x.place x.bytes ts stack k h g
