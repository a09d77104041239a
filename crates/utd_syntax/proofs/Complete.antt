-- Written by tools/grammar; change it there.
-- The table reads what a tree writes as that tree.
use Rattle.std.proofs.Common.{◌≡◌, List, [], ◌∷◌, ◌++◌, Option, Some, None, refl, sym, ◌∙◌, ap}
use Rattle.utd_syntax.specs.declared.terminal.Terminal.TheVariants as t
use Rattle.utd_syntax.specs.declared.words.InfixWord.TheVariants as infixes
use Rattle.utd_syntax.specs.declared.words.PackWord.TheVariants as pack_words
use Rattle.utd_syntax.specs.declared.words.RelationComparison.TheVariants as relation_comparisons
use Rattle.utd_syntax.specs.declared.words.EmptinessWord.TheVariants as emptinesses
use Rattle.utd_syntax.specs.Pieces.{Piece, first}
use Rattle.utd_syntax.specs.Plain.{RelP, TermsP, TermP, RelPrimaryP, OperandP, ExtendP, SummarizeP, UsingP, UsingPartP, KeyP, ForeignP, UsedConstraintP, ConstraintP, KeptP, VarFormP, ComparisonP, TestP, UsedDeletionP, UsedItemP, DeletionP, ItemP, AssignP, StatementP, Onto, AllBut, OfUsing, OfTerms, OneTerm, Infix, NotMatching, OneRelPrimary, Project, Filter, Rename, OfExtend, OfSummarize, OfOperand, Relvar, OfLiteral, ParenRel, PackOn, Extend, Summarize, Using, UsingExtend, UsingSummarize, UsingInfix, UsingNotMatching, UsingProject, UsingFilter, Key, Foreign, UsedKey, UsedForeign, KeyOf, ForeignOf, PackedOn, WhenUnpacked, UsingConstraint, KeptInfix, KeptNotMatching, KeptProject, KeptPack, BaseRelvar, View, Kept, Comparison, UsingTest, Emptiness, OfComparison, UsedDeleteWhere, UsedDeleteRows, UsedInsert, UsedDelete, UsedUpdate, DeleteWhere, DeletePortion, DeleteRows, SetRelvar, Insert, Delete, Update, Terminate, UsingItem, Assign, Nothing, DeclareOrdinal, DeclareRelvar, DeclareHistory, DeclareLog, DeclareRule, Drop, DropRule, Print, Ask, Assignment}
use Rattle.utd_syntax.specs.Written.{fixed, at, spelled, worded, Spells, token, placed, lexeme, word_of, contextual, ordinal_word, since_word, during_word, over_word, at_word, log_word, of_word, kept_word, of_point, of_scalar, of_heading, of_more_words, of_names, of_list, of_some_names, of_paren_name, of_sets, of_aggregates, of_renamings, of_portion, of_maybe_portion, of_condition, of_projection, of_rel, of_terms, of_term, of_rel_primary, of_operand, of_extend, of_summarize, of_using, of_using_part, of_key, of_foreign, of_used_constraint, of_constraint, of_constraints, of_kept, of_var_form, of_comparison, of_test, of_used_deletion, of_used_item, of_deletion, of_item, of_more_items, of_assign, of_statement}
use Rattle.utd_syntax.specs.Table.{Symbol, MoreOr, MaybePortion, TheOperand, TheExtend, TheSummarize, TheRelPrimary, TheTerm, MorePostfix, TheTerms, MoreInfix, TheUsing, TheRel, TheUsingPart, TheKey, TheForeign, TheUsedConstraint, TheConstraint, MoreConstraints, TheKept, TheVarForm, TheComparison, TheTest, TheUsedDeletion, TheUsedItem, TheDeletion, TheItem, MoreItems, TheAssign, TheStatement}
use Rattle.utd_syntax.proofs.Reader.{Go, read}
use Rattle.utd_syntax.proofs.Marks.{one, last, two, done, seen, begins}
use Rattle.utd_syntax.proofs.FormEnds.{along, Halts, Calm18, Calm5, Calm6, Calm16, Calm17, Calm19, Calm20, MoreOr-end, MorePostfix-end, MoreInfix-end, MoreConstraints-end, MoreItems-end}
use Rattle.utd_syntax.proofs.FirstTokens.{literal-first, portion-first, rel-first, terms-first, term-first, rel_primary-first, operand-first, extend-first, summarize-first, using-first, key-first, foreign-first, constraint-first, comparison-first, item-first, assign-first, rel-as-using, rel-as-terms, terms-as-term, term-as-rel_primary, rel_primary-as-extend, rel_primary-as-summarize, rel_primary-as-operand, operand-as-literal, using_part-as-extend, using_part-as-summarize, using_part-as-operand, used_constraint-as-key, used_constraint-as-foreign, constraint-as-key, constraint-as-foreign, constraints-as-constraint, comparison-as-operand, test-as-comparison, used_deletion-as-rel, deletion-as-portion, deletion-as-rel, assign-as-item, assign-second, statement-as-assign}
use Rattle.utd_syntax.proofs.ReadScalars.{condition-start, more_items-start, point-reads, scalar-reads, heading-reads, more_words-reads, names-reads, list-reads, some_names-reads, paren_name-reads, literal-reads, sets-reads, aggregates-reads, renamings-reads, portion-reads, maybe_portion-reads, condition-reads}

mutual
  pub rel-reads : (x : RelP) (ts rest : List Piece) → Spells (of_rel x) ts rest → Calm17 (first rest) → (stack : List Symbol) (k : Go (TheRel ∷ stack)) → read ts (TheRel ∷ stack) k ≡ read rest stack (λ v. k (x, v))
  rel-reads (OfUsing u) ts rest sp calm stack go = rel-as-using ts stack go (using-first u ts rest sp) ∙ using-reads u ts rest sp calm.1.1 stack _
  rel-reads (OfTerms y) ts rest sp calm stack go = rel-as-terms ts stack go (terms-first y ts rest sp) ∙ terms-reads y ts rest sp calm.1 stack _ ∙ MoreInfix-end rest _ _ calm.0

  pub terms-reads : (x : TermsP) (ts rest : List Piece) → Spells (of_terms x) ts rest → Calm16 (first rest) → (stack : List Symbol) (k : Go (TheTerms ∷ stack)) → read ts (TheTerms ∷ stack) k ≡ read rest (MoreInfix ∷ stack) (λ v. k (v.0 x, v.1))
  terms-reads (OneTerm y) ts rest sp calm stack go = terms-as-term ts stack go (term-first y ts rest sp) ∙ term-reads y ts rest sp calm.1 (MoreInfix ∷ stack) _ ∙ MorePostfix-end rest _ _ calm.0
  terms-reads (Infix s p infixes.Union y) ts rest sp calm stack go =
      let x0 = two (of_terms s ++ placed t.Union p) (of_term y) ts rest sp in
      let x1 = last (of_terms s) (at t.Union p) ts x0.mid x0.before in
      terms-reads s ts _ x1.spells (refl, (refl, (refl, (refl, (refl, (refl, refl)))))) stack go ∙ term-reads y x0.mid rest x0.after calm.1 (MoreInfix ∷ stack) _ ∙ MorePostfix-end rest _ _ calm.0
  terms-reads (Infix s p infixes.Intersect y) ts rest sp calm stack go =
      let x0 = two (of_terms s ++ placed t.Intersect p) (of_term y) ts rest sp in
      let x1 = last (of_terms s) (at t.Intersect p) ts x0.mid x0.before in
      terms-reads s ts _ x1.spells (refl, (refl, (refl, (refl, (refl, (refl, refl)))))) stack go ∙ term-reads y x0.mid rest x0.after calm.1 (MoreInfix ∷ stack) _ ∙ MorePostfix-end rest _ _ calm.0
  terms-reads (Infix s p infixes.Minus y) ts rest sp calm stack go =
      let x0 = two (of_terms s ++ placed t.Minus p) (of_term y) ts rest sp in
      let x1 = last (of_terms s) (at t.Minus p) ts x0.mid x0.before in
      terms-reads s ts _ x1.spells (refl, (refl, (refl, (refl, (refl, (refl, refl)))))) stack go ∙ term-reads y x0.mid rest x0.after calm.1 (MoreInfix ∷ stack) _ ∙ MorePostfix-end rest _ _ calm.0
  terms-reads (Infix s p infixes.Join y) ts rest sp calm stack go =
      let x0 = two (of_terms s ++ placed t.Join p) (of_term y) ts rest sp in
      let x1 = last (of_terms s) (at t.Join p) ts x0.mid x0.before in
      terms-reads s ts _ x1.spells (refl, (refl, (refl, (refl, (refl, (refl, refl)))))) stack go ∙ term-reads y x0.mid rest x0.after calm.1 (MoreInfix ∷ stack) _ ∙ MorePostfix-end rest _ _ calm.0
  terms-reads (Infix s p infixes.Matching y) ts rest sp calm stack go =
      let x0 = two (of_terms s ++ placed t.Matching p) (of_term y) ts rest sp in
      let x1 = last (of_terms s) (at t.Matching p) ts x0.mid x0.before in
      terms-reads s ts _ x1.spells (refl, (refl, (refl, (refl, (refl, (refl, refl)))))) stack go ∙ term-reads y x0.mid rest x0.after calm.1 (MoreInfix ∷ stack) _ ∙ MorePostfix-end rest _ _ calm.0
  terms-reads (NotMatching s p y) ts rest sp calm stack go =
      let x0 = two (of_terms s ++ placed t.Not p ++ token t.Matching) (of_term y) ts rest sp in
      let x1 = last (of_terms s ++ placed t.Not p) (fixed t.Matching) ts x0.mid x0.before in
      let x2 = last (of_terms s) (at t.Not p) ts _ x1.spells in
      terms-reads s ts _ x2.spells (refl, (refl, (refl, (refl, (refl, (refl, refl)))))) stack go ∙ term-reads y x0.mid rest x0.after calm.1 (MoreInfix ∷ stack) _ ∙ MorePostfix-end rest _ _ calm.0

  pub term-reads : (x : TermP) (ts rest : List Piece) → Spells (of_term x) ts rest → Calm6 (first rest) → (stack : List Symbol) (k : Go (TheTerm ∷ stack)) → read ts (TheTerm ∷ stack) k ≡ read rest (MorePostfix ∷ stack) (λ v. k (v.0 x, v.1))
  term-reads (OneRelPrimary x) ts rest sp calm stack go = term-as-rel_primary ts stack go (rel_primary-first x ts rest sp) ∙ rel_primary-reads x ts rest sp (MorePostfix ∷ stack) _
  term-reads (Project s (Onto p1 [])) ts rest sp calm stack go =
      let x0 = two (of_term s) (of_projection (Onto p1 [])) ts rest sp in
      let x1 = one (at t.OpenBrace p1) (token t.CloseBrace) x0.mid rest x0.after in
      let x2 = one (fixed t.CloseBrace) ([]) x1.left rest x1.spells in
      term-reads s ts x0.mid x0.before (begins Calm6 _ x0.mid rest (refl, (refl, (refl, (refl, (refl, refl))))) x0.after) stack go ∙ along x0.mid _ _ _ (x1.is ∙ ap (λ z. seen (at t.OpenBrace p1) x1.place x1.bytes ∷ z) (x2.is ∙ ap (λ z. seen (fixed t.CloseBrace) x2.place x2.bytes ∷ z) (done x2.left rest x2.spells)))
  term-reads (Project s (Onto p1 (n3 ∷ xs4))) ts rest sp calm stack go =
      let x0 = two (of_term s) (of_projection (Onto p1 (n3 ∷ xs4))) ts rest sp in
      let x1 = one (at t.OpenBrace p1) (word_of n3 ++ of_more_words xs4 ++ token t.CloseBrace) x0.mid rest x0.after in
      let x2 = one (spelled t.Name n3.place n3.bytes) (of_more_words xs4 ++ token t.CloseBrace) x1.left rest x1.spells in
      let x3 = last (of_more_words xs4) (fixed t.CloseBrace) x2.left rest x2.spells in
      term-reads s ts x0.mid x0.before (begins Calm6 _ x0.mid rest (refl, (refl, (refl, (refl, (refl, refl))))) x0.after) stack go ∙ along x0.mid _ _ _ (x1.is ∙ ap (λ z. seen (at t.OpenBrace p1) x1.place x1.bytes ∷ z) (x2.is)) ∙ more_words-reads xs4 x2.left _ x3.spells refl _ _
  term-reads (Project s (AllBut p5 n6 ns7)) ts rest sp calm stack go =
      let x0 = two (of_term s) (of_projection (AllBut p5 n6 ns7)) ts rest sp in
      let x1 = one (at t.OpenBrace p5) (token t.All ++ token t.But ++ word_of n6 ++ of_more_words ns7 ++ token t.CloseBrace) x0.mid rest x0.after in
      let x2 = one (fixed t.All) (token t.But ++ word_of n6 ++ of_more_words ns7 ++ token t.CloseBrace) x1.left rest x1.spells in
      let x3 = one (fixed t.But) (word_of n6 ++ of_more_words ns7 ++ token t.CloseBrace) x2.left rest x2.spells in
      let x4 = one (spelled t.Name n6.place n6.bytes) (of_more_words ns7 ++ token t.CloseBrace) x3.left rest x3.spells in
      let x5 = last (of_more_words ns7) (fixed t.CloseBrace) x4.left rest x4.spells in
      term-reads s ts x0.mid x0.before (begins Calm6 _ x0.mid rest (refl, (refl, (refl, (refl, (refl, refl))))) x0.after) stack go ∙ along x0.mid _ _ _ (x1.is ∙ ap (λ z. seen (at t.OpenBrace p5) x1.place x1.bytes ∷ z) (x2.is ∙ ap (λ z. seen (fixed t.All) x2.place x2.bytes ∷ z) (x3.is ∙ ap (λ z. seen (fixed t.But) x3.place x3.bytes ∷ z) (x4.is)))) ∙ more_words-reads ns7 x4.left _ x5.spells refl _ _
  term-reads (Filter s p c) ts rest sp calm stack go =
      let x0 = two (of_term s ++ placed t.Where p) (of_scalar c) ts rest sp in
      let x1 = last (of_term s) (at t.Where p) ts x0.mid x0.before in
      term-reads s ts _ x1.spells (refl, (refl, (refl, (refl, (refl, refl))))) stack go ∙ scalar-reads c x0.mid rest x0.after calm.1 (MorePostfix ∷ stack) _ ∙ MoreOr-end rest _ _ calm.0
  term-reads (Rename s p q) ts rest sp calm stack go =
      let x0 = two (of_term s ++ placed t.Rename p) (of_renamings q) ts rest sp in
      let x1 = last (of_term s) (at t.Rename p) ts x0.mid x0.before in
      term-reads s ts _ x1.spells (refl, (refl, (refl, (refl, (refl, refl))))) stack go ∙ renamings-reads q x0.mid rest x0.after (MorePostfix ∷ stack) _

  pub rel_primary-reads : (x : RelPrimaryP) (ts rest : List Piece) → Spells (of_rel_primary x) ts rest → (stack : List Symbol) (k : Go (TheRelPrimary ∷ stack)) → read ts (TheRelPrimary ∷ stack) k ≡ read rest stack (λ v. k (x, v))
  rel_primary-reads (OfExtend e) ts rest sp stack go = rel_primary-as-extend ts stack go (extend-first e ts rest sp) ∙ extend-reads e ts rest sp stack _
  rel_primary-reads (OfSummarize e) ts rest sp stack go = rel_primary-as-summarize ts stack go (summarize-first e ts rest sp) ∙ summarize-reads e ts rest sp stack _
  rel_primary-reads (OfOperand o) ts rest sp stack go = rel_primary-as-operand ts stack go (operand-first o ts rest sp) ∙ operand-reads o ts rest sp stack _

  pub operand-reads : (x : OperandP) (ts rest : List Piece) → Spells (of_operand x) ts rest → (stack : List Symbol) (k : Go (TheOperand ∷ stack)) → read ts (TheOperand ∷ stack) k ≡ read rest stack (λ v. k (x, v))
  operand-reads (Relvar n) ts rest sp stack go =
      let x0 = one (spelled t.Name n.place n.bytes) ([]) ts rest sp in
      along ts _ _ _ (x0.is ∙ ap (λ z. seen (spelled t.Name n.place n.bytes) x0.place x0.bytes ∷ z) (done x0.left rest x0.spells))
  operand-reads (OfLiteral l) ts rest sp stack go = operand-as-literal ts stack go (literal-first l ts rest sp) ∙ literal-reads l ts rest sp stack _
  operand-reads (ParenRel p r) ts rest sp stack go =
      let x0 = one (at t.Open p) (of_rel r ++ token t.Close) ts rest sp in
      let x1 = last (of_rel r) (fixed t.Close) x0.left rest x0.spells in
      along ts _ _ _ (x0.is) ∙ rel-reads r x0.left _ x1.spells (refl, (refl, (refl, (refl, (refl, (refl, (refl, refl))))))) _ _
  operand-reads (PackOn p pack_words.Pack r a) ts rest sp stack go =
      let x0 = one (at t.Pack p) (of_rel r ++ token t.On ++ of_list a) ts rest sp in
      let x1 = two (of_rel r ++ token t.On) (of_list a) x0.left rest x0.spells in
      let x2 = last (of_rel r) (fixed t.On) x0.left x1.mid x1.before in
      along ts _ _ _ (x0.is) ∙ rel-reads r x0.left _ x2.spells (refl, (refl, (refl, (refl, (refl, (refl, (refl, refl))))))) _ _ ∙ list-reads a x1.mid rest x1.after stack _
  operand-reads (PackOn p pack_words.Unpack r a) ts rest sp stack go =
      let x0 = one (at t.Unpack p) (of_rel r ++ token t.On ++ of_list a) ts rest sp in
      let x1 = two (of_rel r ++ token t.On) (of_list a) x0.left rest x0.spells in
      let x2 = last (of_rel r) (fixed t.On) x0.left x1.mid x1.before in
      along ts _ _ _ (x0.is) ∙ rel-reads r x0.left _ x2.spells (refl, (refl, (refl, (refl, (refl, (refl, (refl, refl))))))) _ _ ∙ list-reads a x1.mid rest x1.after stack _

  pub extend-reads : (x : ExtendP) (ts rest : List Piece) → Spells (of_extend x) ts rest → (stack : List Symbol) (k : Go (TheExtend ∷ stack)) → read ts (TheExtend ∷ stack) k ≡ read rest stack (λ v. k (x, v))
  extend-reads (Extend p r s) ts rest sp stack go =
      let x0 = one (at t.Extend p) (of_rel r ++ token t.Colon ++ of_sets s) ts rest sp in
      let x1 = two (of_rel r ++ token t.Colon) (of_sets s) x0.left rest x0.spells in
      let x2 = last (of_rel r) (fixed t.Colon) x0.left x1.mid x1.before in
      along ts _ _ _ (x0.is) ∙ rel-reads r x0.left _ x2.spells (refl, (refl, (refl, (refl, (refl, (refl, (refl, refl))))))) _ _ ∙ sets-reads s x1.mid rest x1.after stack _

  pub summarize-reads : (x : SummarizeP) (ts rest : List Piece) → Spells (of_summarize x) ts rest → (stack : List Symbol) (k : Go (TheSummarize ∷ stack)) → read ts (TheSummarize ∷ stack) k ≡ read rest stack (λ v. k (x, v))
  summarize-reads (Summarize p r b a) ts rest sp stack go =
      let x0 = one (at t.Summarize p) (of_rel r ++ token t.By ++ of_names b ++ token t.Colon ++ of_aggregates a) ts rest sp in
      let x1 = two (of_rel r ++ token t.By ++ of_names b ++ token t.Colon) (of_aggregates a) x0.left rest x0.spells in
      let x2 = last (of_rel r ++ token t.By ++ of_names b) (fixed t.Colon) x0.left x1.mid x1.before in
      let x3 = two (of_rel r ++ token t.By) (of_names b) x0.left _ x2.spells in
      let x4 = last (of_rel r) (fixed t.By) x0.left x3.mid x3.before in
      along ts _ _ _ (x0.is) ∙ rel-reads r x0.left _ x4.spells (refl, (refl, (refl, (refl, (refl, (refl, (refl, refl))))))) _ _ ∙ names-reads b x3.mid _ x3.after _ _ ∙ aggregates-reads a x1.mid rest x1.after stack _

  pub using-reads : (x : UsingP) (ts rest : List Piece) → Spells (of_using x) ts rest → Calm6 (first rest) → (stack : List Symbol) (k : Go (TheUsing ∷ stack)) → read ts (TheUsing ∷ stack) k ≡ read rest stack (λ v. k (x, v))
  using-reads (Using p a u) ts rest sp calm stack go =
      let x0 = one (at t.Using p) (of_list a ++ token t.Colon ++ of_using_part u) ts rest sp in
      let x1 = two (of_list a ++ token t.Colon) (of_using_part u) x0.left rest x0.spells in
      let x2 = last (of_list a) (fixed t.Colon) x0.left x1.mid x1.before in
      along ts _ _ _ (x0.is) ∙ list-reads a x0.left _ x2.spells _ _ ∙ using_part-reads u x1.mid rest x1.after calm stack _

  pub using_part-reads : (x : UsingPartP) (ts rest : List Piece) → Spells (of_using_part x) ts rest → Calm6 (first rest) → (stack : List Symbol) (k : Go (TheUsingPart ∷ stack)) → read ts (TheUsingPart ∷ stack) k ≡ read rest stack (λ v. k (x, v))
  using_part-reads (UsingExtend e) ts rest sp calm stack go = using_part-as-extend ts stack go (extend-first e ts rest sp) ∙ extend-reads e ts rest sp stack _
  using_part-reads (UsingSummarize e) ts rest sp calm stack go = using_part-as-summarize ts stack go (summarize-first e ts rest sp) ∙ summarize-reads e ts rest sp stack _
  using_part-reads (UsingInfix l p infixes.Union r) ts rest sp calm stack go =
      let x0 = two (of_operand l ++ placed t.Union p) (of_operand r) ts rest sp in
      let x1 = last (of_operand l) (at t.Union p) ts x0.mid x0.before in
      using_part-as-operand ts stack go (operand-first l ts _ x1.spells) ∙ operand-reads l ts _ x1.spells _ _ ∙ operand-reads r x0.mid rest x0.after stack _
  using_part-reads (UsingInfix l p infixes.Intersect r) ts rest sp calm stack go =
      let x0 = two (of_operand l ++ placed t.Intersect p) (of_operand r) ts rest sp in
      let x1 = last (of_operand l) (at t.Intersect p) ts x0.mid x0.before in
      using_part-as-operand ts stack go (operand-first l ts _ x1.spells) ∙ operand-reads l ts _ x1.spells _ _ ∙ operand-reads r x0.mid rest x0.after stack _
  using_part-reads (UsingInfix l p infixes.Minus r) ts rest sp calm stack go =
      let x0 = two (of_operand l ++ placed t.Minus p) (of_operand r) ts rest sp in
      let x1 = last (of_operand l) (at t.Minus p) ts x0.mid x0.before in
      using_part-as-operand ts stack go (operand-first l ts _ x1.spells) ∙ operand-reads l ts _ x1.spells _ _ ∙ operand-reads r x0.mid rest x0.after stack _
  using_part-reads (UsingInfix l p infixes.Join r) ts rest sp calm stack go =
      let x0 = two (of_operand l ++ placed t.Join p) (of_operand r) ts rest sp in
      let x1 = last (of_operand l) (at t.Join p) ts x0.mid x0.before in
      using_part-as-operand ts stack go (operand-first l ts _ x1.spells) ∙ operand-reads l ts _ x1.spells _ _ ∙ operand-reads r x0.mid rest x0.after stack _
  using_part-reads (UsingInfix l p infixes.Matching r) ts rest sp calm stack go =
      let x0 = two (of_operand l ++ placed t.Matching p) (of_operand r) ts rest sp in
      let x1 = last (of_operand l) (at t.Matching p) ts x0.mid x0.before in
      using_part-as-operand ts stack go (operand-first l ts _ x1.spells) ∙ operand-reads l ts _ x1.spells _ _ ∙ operand-reads r x0.mid rest x0.after stack _
  using_part-reads (UsingNotMatching l p r) ts rest sp calm stack go =
      let x0 = two (of_operand l ++ placed t.Not p ++ token t.Matching) (of_operand r) ts rest sp in
      let x1 = last (of_operand l ++ placed t.Not p) (fixed t.Matching) ts x0.mid x0.before in
      let x2 = last (of_operand l) (at t.Not p) ts _ x1.spells in
      using_part-as-operand ts stack go (operand-first l ts _ x2.spells) ∙ operand-reads l ts _ x2.spells _ _ ∙ operand-reads r x0.mid rest x0.after stack _
  using_part-reads (UsingProject l (Onto p1 [])) ts rest sp calm stack go =
      let x0 = two (of_operand l) (of_projection (Onto p1 [])) ts rest sp in
      let x1 = one (at t.OpenBrace p1) (token t.CloseBrace) x0.mid rest x0.after in
      let x2 = one (fixed t.CloseBrace) ([]) x1.left rest x1.spells in
      using_part-as-operand ts stack go (operand-first l ts x0.mid x0.before) ∙ operand-reads l ts x0.mid x0.before _ _ ∙ along x0.mid _ _ _ (x1.is ∙ ap (λ z. seen (at t.OpenBrace p1) x1.place x1.bytes ∷ z) (x2.is ∙ ap (λ z. seen (fixed t.CloseBrace) x2.place x2.bytes ∷ z) (done x2.left rest x2.spells)))
  using_part-reads (UsingProject l (Onto p1 (n3 ∷ xs4))) ts rest sp calm stack go =
      let x0 = two (of_operand l) (of_projection (Onto p1 (n3 ∷ xs4))) ts rest sp in
      let x1 = one (at t.OpenBrace p1) (word_of n3 ++ of_more_words xs4 ++ token t.CloseBrace) x0.mid rest x0.after in
      let x2 = one (spelled t.Name n3.place n3.bytes) (of_more_words xs4 ++ token t.CloseBrace) x1.left rest x1.spells in
      let x3 = last (of_more_words xs4) (fixed t.CloseBrace) x2.left rest x2.spells in
      using_part-as-operand ts stack go (operand-first l ts x0.mid x0.before) ∙ operand-reads l ts x0.mid x0.before _ _ ∙ along x0.mid _ _ _ (x1.is ∙ ap (λ z. seen (at t.OpenBrace p1) x1.place x1.bytes ∷ z) (x2.is)) ∙ more_words-reads xs4 x2.left _ x3.spells refl _ _
  using_part-reads (UsingProject l (AllBut p5 n6 ns7)) ts rest sp calm stack go =
      let x0 = two (of_operand l) (of_projection (AllBut p5 n6 ns7)) ts rest sp in
      let x1 = one (at t.OpenBrace p5) (token t.All ++ token t.But ++ word_of n6 ++ of_more_words ns7 ++ token t.CloseBrace) x0.mid rest x0.after in
      let x2 = one (fixed t.All) (token t.But ++ word_of n6 ++ of_more_words ns7 ++ token t.CloseBrace) x1.left rest x1.spells in
      let x3 = one (fixed t.But) (word_of n6 ++ of_more_words ns7 ++ token t.CloseBrace) x2.left rest x2.spells in
      let x4 = one (spelled t.Name n6.place n6.bytes) (of_more_words ns7 ++ token t.CloseBrace) x3.left rest x3.spells in
      let x5 = last (of_more_words ns7) (fixed t.CloseBrace) x4.left rest x4.spells in
      using_part-as-operand ts stack go (operand-first l ts x0.mid x0.before) ∙ operand-reads l ts x0.mid x0.before _ _ ∙ along x0.mid _ _ _ (x1.is ∙ ap (λ z. seen (at t.OpenBrace p5) x1.place x1.bytes ∷ z) (x2.is ∙ ap (λ z. seen (fixed t.All) x2.place x2.bytes ∷ z) (x3.is ∙ ap (λ z. seen (fixed t.But) x3.place x3.bytes ∷ z) (x4.is)))) ∙ more_words-reads ns7 x4.left _ x5.spells refl _ _
  using_part-reads (UsingFilter l p c) ts rest sp calm stack go =
      let x0 = two (of_operand l ++ placed t.Where p) (of_scalar c) ts rest sp in
      let x1 = last (of_operand l) (at t.Where p) ts x0.mid x0.before in
      using_part-as-operand ts stack go (operand-first l ts _ x1.spells) ∙ operand-reads l ts _ x1.spells _ _ ∙ scalar-reads c x0.mid rest x0.after calm.1 stack _ ∙ MoreOr-end rest _ _ calm.0

pub key-reads : (x : KeyP) (ts rest : List Piece) → Spells (of_key x) ts rest → (stack : List Symbol) (k : Go (TheKey ∷ stack)) → read ts (TheKey ∷ stack) k ≡ read rest stack (λ v. k (x, v))
key-reads (Key p n) ts rest sp stack go =
    let x0 = one (at t.Key p) (of_names n) ts rest sp in
    along ts _ _ _ (x0.is) ∙ names-reads n x0.left rest x0.spells stack _

pub foreign-reads : (x : ForeignP) (ts rest : List Piece) → Spells (of_foreign x) ts rest → (stack : List Symbol) (k : Go (TheForeign ∷ stack)) → read ts (TheForeign ∷ stack) k ≡ read rest stack (λ v. k (x, v))
foreign-reads (Foreign p n r) ts rest sp stack go =
    let x0 = one (at t.Foreign p) (token t.Key ++ of_names n ++ token t.References ++ word_of r) ts rest sp in
    let x1 = one (fixed t.Key) (of_names n ++ token t.References ++ word_of r) x0.left rest x0.spells in
    let x2 = last (of_names n ++ token t.References) (spelled t.Name r.place r.bytes) x1.left rest x1.spells in
    let x3 = last (of_names n) (fixed t.References) x1.left _ x2.spells in
    along ts _ _ _ (x0.is ∙ ap (λ z. seen (at t.Foreign p) x0.place x0.bytes ∷ z) (x1.is)) ∙ names-reads n x1.left _ x3.spells _ _

pub used_constraint-reads : (x : UsedConstraintP) (ts rest : List Piece) → Spells (of_used_constraint x) ts rest → (stack : List Symbol) (k : Go (TheUsedConstraint ∷ stack)) → read ts (TheUsedConstraint ∷ stack) k ≡ read rest stack (λ v. k (x, v))
used_constraint-reads (UsedKey k) ts rest sp stack go = used_constraint-as-key ts stack go (key-first k ts rest sp) ∙ key-reads k ts rest sp stack _
used_constraint-reads (UsedForeign f) ts rest sp stack go = used_constraint-as-foreign ts stack go (foreign-first f ts rest sp) ∙ foreign-reads f ts rest sp stack _

pub constraint-reads : (x : ConstraintP) (ts rest : List Piece) → Spells (of_constraint x) ts rest → (stack : List Symbol) (k : Go (TheConstraint ∷ stack)) → read ts (TheConstraint ∷ stack) k ≡ read rest stack (λ v. k (x, v))
constraint-reads (KeyOf k) ts rest sp stack go = constraint-as-key ts stack go (key-first k ts rest sp) ∙ key-reads k ts rest sp stack _
constraint-reads (ForeignOf f) ts rest sp stack go = constraint-as-foreign ts stack go (foreign-first f ts rest sp) ∙ foreign-reads f ts rest sp stack _
constraint-reads (PackedOn p a) ts rest sp stack go =
    let x0 = one (at t.Packed p) (token t.On ++ of_list a) ts rest sp in
    let x1 = one (fixed t.On) (of_list a) x0.left rest x0.spells in
    along ts _ _ _ (x0.is ∙ ap (λ z. seen (at t.Packed p) x0.place x0.bytes ∷ z) (x1.is)) ∙ list-reads a x1.left rest x1.spells stack _
constraint-reads (WhenUnpacked p a k) ts rest sp stack go =
    let x0 = one (at t.When p) (token t.Unpacked ++ token t.On ++ of_list a ++ token t.Then ++ of_key k) ts rest sp in
    let x1 = one (fixed t.Unpacked) (token t.On ++ of_list a ++ token t.Then ++ of_key k) x0.left rest x0.spells in
    let x2 = one (fixed t.On) (of_list a ++ token t.Then ++ of_key k) x1.left rest x1.spells in
    let x3 = two (of_list a ++ token t.Then) (of_key k) x2.left rest x2.spells in
    let x4 = last (of_list a) (fixed t.Then) x2.left x3.mid x3.before in
    along ts _ _ _ (x0.is ∙ ap (λ z. seen (at t.When p) x0.place x0.bytes ∷ z) (x1.is ∙ ap (λ z. seen (fixed t.Unpacked) x1.place x1.bytes ∷ z) (x2.is))) ∙ list-reads a x2.left _ x4.spells _ _ ∙ key-reads k x3.mid rest x3.after stack _
constraint-reads (UsingConstraint p a u) ts rest sp stack go =
    let x0 = one (at t.Using p) (of_list a ++ token t.Colon ++ of_used_constraint u) ts rest sp in
    let x1 = two (of_list a ++ token t.Colon) (of_used_constraint u) x0.left rest x0.spells in
    let x2 = last (of_list a) (fixed t.Colon) x0.left x1.mid x1.before in
    along ts _ _ _ (x0.is) ∙ list-reads a x0.left _ x2.spells _ _ ∙ used_constraint-reads u x1.mid rest x1.after stack _

pub constraints-reads : (x : List ConstraintP) (ts rest : List Piece) → Spells (of_constraints x) ts rest → Calm18 (first rest) → (stack : List Symbol) (k : Go (MoreConstraints ∷ stack)) → read ts (MoreConstraints ∷ stack) k ≡ read rest stack (λ v. k (x, v))
constraints-reads [] ts rest sp calm stack go = along ts rest (MoreConstraints ∷ stack) go (done ts rest sp) ∙ MoreConstraints-end rest stack go calm
constraints-reads (x ∷ xs) ts rest sp calm stack go =
    let x0 = two (of_constraint x) (of_constraints xs) ts rest sp in
    constraints-as-constraint ts stack go (constraint-first x ts x0.mid x0.before) ∙ constraint-reads x ts x0.mid x0.before _ _ ∙ constraints-reads xs x0.mid rest x0.after calm stack _

pub kept-reads : (x : KeptP) (ts rest : List Piece) → Spells (of_kept x) ts rest → (stack : List Symbol) (k : Go (TheKept ∷ stack)) → read ts (TheKept ∷ stack) k ≡ read rest stack (λ v. k (x, v))
kept-reads (KeptInfix p a l q infixes.Union r) ts rest sp stack go =
    let x0 = one (at t.Using p) (of_list a ++ token t.Colon ++ word_of l ++ placed t.Union q ++ word_of r) ts rest sp in
    let x1 = last (of_list a ++ token t.Colon ++ word_of l ++ placed t.Union q) (spelled t.Name r.place r.bytes) x0.left rest x0.spells in
    let x2 = last (of_list a ++ token t.Colon ++ word_of l) (at t.Union q) x0.left _ x1.spells in
    let x3 = last (of_list a ++ token t.Colon) (spelled t.Name l.place l.bytes) x0.left _ x2.spells in
    let x4 = last (of_list a) (fixed t.Colon) x0.left _ x3.spells in
    along ts _ _ _ (x0.is) ∙ list-reads a x0.left _ x4.spells _ _
kept-reads (KeptInfix p a l q infixes.Intersect r) ts rest sp stack go =
    let x0 = one (at t.Using p) (of_list a ++ token t.Colon ++ word_of l ++ placed t.Intersect q ++ word_of r) ts rest sp in
    let x1 = last (of_list a ++ token t.Colon ++ word_of l ++ placed t.Intersect q) (spelled t.Name r.place r.bytes) x0.left rest x0.spells in
    let x2 = last (of_list a ++ token t.Colon ++ word_of l) (at t.Intersect q) x0.left _ x1.spells in
    let x3 = last (of_list a ++ token t.Colon) (spelled t.Name l.place l.bytes) x0.left _ x2.spells in
    let x4 = last (of_list a) (fixed t.Colon) x0.left _ x3.spells in
    along ts _ _ _ (x0.is) ∙ list-reads a x0.left _ x4.spells _ _
kept-reads (KeptInfix p a l q infixes.Minus r) ts rest sp stack go =
    let x0 = one (at t.Using p) (of_list a ++ token t.Colon ++ word_of l ++ placed t.Minus q ++ word_of r) ts rest sp in
    let x1 = last (of_list a ++ token t.Colon ++ word_of l ++ placed t.Minus q) (spelled t.Name r.place r.bytes) x0.left rest x0.spells in
    let x2 = last (of_list a ++ token t.Colon ++ word_of l) (at t.Minus q) x0.left _ x1.spells in
    let x3 = last (of_list a ++ token t.Colon) (spelled t.Name l.place l.bytes) x0.left _ x2.spells in
    let x4 = last (of_list a) (fixed t.Colon) x0.left _ x3.spells in
    along ts _ _ _ (x0.is) ∙ list-reads a x0.left _ x4.spells _ _
kept-reads (KeptInfix p a l q infixes.Join r) ts rest sp stack go =
    let x0 = one (at t.Using p) (of_list a ++ token t.Colon ++ word_of l ++ placed t.Join q ++ word_of r) ts rest sp in
    let x1 = last (of_list a ++ token t.Colon ++ word_of l ++ placed t.Join q) (spelled t.Name r.place r.bytes) x0.left rest x0.spells in
    let x2 = last (of_list a ++ token t.Colon ++ word_of l) (at t.Join q) x0.left _ x1.spells in
    let x3 = last (of_list a ++ token t.Colon) (spelled t.Name l.place l.bytes) x0.left _ x2.spells in
    let x4 = last (of_list a) (fixed t.Colon) x0.left _ x3.spells in
    along ts _ _ _ (x0.is) ∙ list-reads a x0.left _ x4.spells _ _
kept-reads (KeptInfix p a l q infixes.Matching r) ts rest sp stack go =
    let x0 = one (at t.Using p) (of_list a ++ token t.Colon ++ word_of l ++ placed t.Matching q ++ word_of r) ts rest sp in
    let x1 = last (of_list a ++ token t.Colon ++ word_of l ++ placed t.Matching q) (spelled t.Name r.place r.bytes) x0.left rest x0.spells in
    let x2 = last (of_list a ++ token t.Colon ++ word_of l) (at t.Matching q) x0.left _ x1.spells in
    let x3 = last (of_list a ++ token t.Colon) (spelled t.Name l.place l.bytes) x0.left _ x2.spells in
    let x4 = last (of_list a) (fixed t.Colon) x0.left _ x3.spells in
    along ts _ _ _ (x0.is) ∙ list-reads a x0.left _ x4.spells _ _
kept-reads (KeptNotMatching p a l q r) ts rest sp stack go =
    let x0 = one (at t.Using p) (of_list a ++ token t.Colon ++ word_of l ++ placed t.Not q ++ token t.Matching ++ word_of r) ts rest sp in
    let x1 = last (of_list a ++ token t.Colon ++ word_of l ++ placed t.Not q ++ token t.Matching) (spelled t.Name r.place r.bytes) x0.left rest x0.spells in
    let x2 = last (of_list a ++ token t.Colon ++ word_of l ++ placed t.Not q) (fixed t.Matching) x0.left _ x1.spells in
    let x3 = last (of_list a ++ token t.Colon ++ word_of l) (at t.Not q) x0.left _ x2.spells in
    let x4 = last (of_list a ++ token t.Colon) (spelled t.Name l.place l.bytes) x0.left _ x3.spells in
    let x5 = last (of_list a) (fixed t.Colon) x0.left _ x4.spells in
    along ts _ _ _ (x0.is) ∙ list-reads a x0.left _ x5.spells _ _
kept-reads (KeptProject p a l (Onto p1 [])) ts rest sp stack go =
    let x0 = one (at t.Using p) (of_list a ++ token t.Colon ++ word_of l ++ of_projection (Onto p1 [])) ts rest sp in
    let x1 = two (of_list a ++ token t.Colon ++ word_of l) (of_projection (Onto p1 [])) x0.left rest x0.spells in
    let x2 = last (of_list a ++ token t.Colon) (spelled t.Name l.place l.bytes) x0.left x1.mid x1.before in
    let x3 = last (of_list a) (fixed t.Colon) x0.left _ x2.spells in
    let x4 = one (at t.OpenBrace p1) (token t.CloseBrace) x1.mid rest x1.after in
    let x5 = one (fixed t.CloseBrace) ([]) x4.left rest x4.spells in
    along ts _ _ _ (x0.is) ∙ list-reads a x0.left _ x3.spells _ _ ∙ along x1.mid _ _ _ (x4.is ∙ ap (λ z. seen (at t.OpenBrace p1) x4.place x4.bytes ∷ z) (x5.is ∙ ap (λ z. seen (fixed t.CloseBrace) x5.place x5.bytes ∷ z) (done x5.left rest x5.spells)))
kept-reads (KeptProject p a l (Onto p1 (n3 ∷ xs4))) ts rest sp stack go =
    let x0 = one (at t.Using p) (of_list a ++ token t.Colon ++ word_of l ++ of_projection (Onto p1 (n3 ∷ xs4))) ts rest sp in
    let x1 = two (of_list a ++ token t.Colon ++ word_of l) (of_projection (Onto p1 (n3 ∷ xs4))) x0.left rest x0.spells in
    let x2 = last (of_list a ++ token t.Colon) (spelled t.Name l.place l.bytes) x0.left x1.mid x1.before in
    let x3 = last (of_list a) (fixed t.Colon) x0.left _ x2.spells in
    let x4 = one (at t.OpenBrace p1) (word_of n3 ++ of_more_words xs4 ++ token t.CloseBrace) x1.mid rest x1.after in
    let x5 = one (spelled t.Name n3.place n3.bytes) (of_more_words xs4 ++ token t.CloseBrace) x4.left rest x4.spells in
    let x6 = last (of_more_words xs4) (fixed t.CloseBrace) x5.left rest x5.spells in
    along ts _ _ _ (x0.is) ∙ list-reads a x0.left _ x3.spells _ _ ∙ along x1.mid _ _ _ (x4.is ∙ ap (λ z. seen (at t.OpenBrace p1) x4.place x4.bytes ∷ z) (x5.is)) ∙ more_words-reads xs4 x5.left _ x6.spells refl _ _
kept-reads (KeptProject p a l (AllBut p5 n6 ns7)) ts rest sp stack go =
    let x0 = one (at t.Using p) (of_list a ++ token t.Colon ++ word_of l ++ of_projection (AllBut p5 n6 ns7)) ts rest sp in
    let x1 = two (of_list a ++ token t.Colon ++ word_of l) (of_projection (AllBut p5 n6 ns7)) x0.left rest x0.spells in
    let x2 = last (of_list a ++ token t.Colon) (spelled t.Name l.place l.bytes) x0.left x1.mid x1.before in
    let x3 = last (of_list a) (fixed t.Colon) x0.left _ x2.spells in
    let x4 = one (at t.OpenBrace p5) (token t.All ++ token t.But ++ word_of n6 ++ of_more_words ns7 ++ token t.CloseBrace) x1.mid rest x1.after in
    let x5 = one (fixed t.All) (token t.But ++ word_of n6 ++ of_more_words ns7 ++ token t.CloseBrace) x4.left rest x4.spells in
    let x6 = one (fixed t.But) (word_of n6 ++ of_more_words ns7 ++ token t.CloseBrace) x5.left rest x5.spells in
    let x7 = one (spelled t.Name n6.place n6.bytes) (of_more_words ns7 ++ token t.CloseBrace) x6.left rest x6.spells in
    let x8 = last (of_more_words ns7) (fixed t.CloseBrace) x7.left rest x7.spells in
    along ts _ _ _ (x0.is) ∙ list-reads a x0.left _ x3.spells _ _ ∙ along x1.mid _ _ _ (x4.is ∙ ap (λ z. seen (at t.OpenBrace p5) x4.place x4.bytes ∷ z) (x5.is ∙ ap (λ z. seen (fixed t.All) x5.place x5.bytes ∷ z) (x6.is ∙ ap (λ z. seen (fixed t.But) x6.place x6.bytes ∷ z) (x7.is)))) ∙ more_words-reads ns7 x7.left _ x8.spells refl _ _
kept-reads (KeptPack p n a) ts rest sp stack go =
    let x0 = one (at t.Pack p) (word_of n ++ token t.On ++ of_list a) ts rest sp in
    let x1 = one (spelled t.Name n.place n.bytes) (token t.On ++ of_list a) x0.left rest x0.spells in
    let x2 = one (fixed t.On) (of_list a) x1.left rest x1.spells in
    along ts _ _ _ (x0.is ∙ ap (λ z. seen (at t.Pack p) x0.place x0.bytes ∷ z) (x1.is ∙ ap (λ z. seen (spelled t.Name n.place n.bytes) x1.place x1.bytes ∷ z) (x2.is))) ∙ list-reads a x2.left rest x2.spells stack _

pub var_form-reads : (x : VarFormP) (ts rest : List Piece) → Spells (of_var_form x) ts rest → Calm18 (first rest) → (stack : List Symbol) (k : Go (TheVarForm ∷ stack)) → read ts (TheVarForm ∷ stack) k ≡ read rest stack (λ v. k (x, v))
var_form-reads (BaseRelvar p h cs) ts rest sp calm stack go =
    let x0 = one (at t.Relation p) (of_heading h ++ of_constraints cs) ts rest sp in
    let x1 = two (of_heading h) (of_constraints cs) x0.left rest x0.spells in
    along ts _ _ _ (x0.is) ∙ heading-reads h x0.left x1.mid x1.before _ _ ∙ constraints-reads cs x1.mid rest x1.after calm stack _
var_form-reads (View p r) ts rest sp calm stack go =
    let x0 = one (at t.Virtual p) (token t.Open ++ of_rel r ++ token t.Close) ts rest sp in
    let x1 = one (fixed t.Open) (of_rel r ++ token t.Close) x0.left rest x0.spells in
    let x2 = last (of_rel r) (fixed t.Close) x1.left rest x1.spells in
    along ts _ _ _ (x0.is ∙ ap (λ z. seen (at t.Virtual p) x0.place x0.bytes ∷ z) (x1.is)) ∙ rel-reads r x1.left _ x2.spells (refl, (refl, (refl, (refl, (refl, (refl, (refl, refl))))))) _ _
var_form-reads (Kept p k) ts rest sp calm stack go =
    let x0 = one (spelled t.Name p kept_word) (token t.Open ++ of_kept k ++ token t.Close) ts rest sp in
    let x1 = one (fixed t.Open) (of_kept k ++ token t.Close) x0.left rest x0.spells in
    let x2 = last (of_kept k) (fixed t.Close) x1.left rest x1.spells in
    along ts _ _ _ (x0.is ∙ ap (λ z. seen (spelled t.Name p kept_word) x0.place x0.bytes ∷ z) (x1.is)) ∙ kept-reads k x1.left _ x2.spells _ _

pub comparison-reads : (x : ComparisonP) (ts rest : List Piece) → Spells (of_comparison x) ts rest → (stack : List Symbol) (k : Go (TheComparison ∷ stack)) → read ts (TheComparison ∷ stack) k ≡ read rest stack (λ v. k (x, v))
comparison-reads (Comparison l p relation_comparisons.Equal r) ts rest sp stack go =
    let x0 = two (of_operand l ++ placed t.Equal p) (of_operand r) ts rest sp in
    let x1 = last (of_operand l) (at t.Equal p) ts x0.mid x0.before in
    comparison-as-operand ts stack go (operand-first l ts _ x1.spells) ∙ operand-reads l ts _ x1.spells _ _ ∙ operand-reads r x0.mid rest x0.after stack _
comparison-reads (Comparison l p relation_comparisons.NotEqual r) ts rest sp stack go =
    let x0 = two (of_operand l ++ placed t.NotEqual p) (of_operand r) ts rest sp in
    let x1 = last (of_operand l) (at t.NotEqual p) ts x0.mid x0.before in
    comparison-as-operand ts stack go (operand-first l ts _ x1.spells) ∙ operand-reads l ts _ x1.spells _ _ ∙ operand-reads r x0.mid rest x0.after stack _
comparison-reads (Comparison l p relation_comparisons.Less r) ts rest sp stack go =
    let x0 = two (of_operand l ++ placed t.Less p) (of_operand r) ts rest sp in
    let x1 = last (of_operand l) (at t.Less p) ts x0.mid x0.before in
    comparison-as-operand ts stack go (operand-first l ts _ x1.spells) ∙ operand-reads l ts _ x1.spells _ _ ∙ operand-reads r x0.mid rest x0.after stack _
comparison-reads (Comparison l p relation_comparisons.LessEqual r) ts rest sp stack go =
    let x0 = two (of_operand l ++ placed t.LessEqual p) (of_operand r) ts rest sp in
    let x1 = last (of_operand l) (at t.LessEqual p) ts x0.mid x0.before in
    comparison-as-operand ts stack go (operand-first l ts _ x1.spells) ∙ operand-reads l ts _ x1.spells _ _ ∙ operand-reads r x0.mid rest x0.after stack _
comparison-reads (Comparison l p relation_comparisons.Greater r) ts rest sp stack go =
    let x0 = two (of_operand l ++ placed t.Greater p) (of_operand r) ts rest sp in
    let x1 = last (of_operand l) (at t.Greater p) ts x0.mid x0.before in
    comparison-as-operand ts stack go (operand-first l ts _ x1.spells) ∙ operand-reads l ts _ x1.spells _ _ ∙ operand-reads r x0.mid rest x0.after stack _
comparison-reads (Comparison l p relation_comparisons.GreaterEqual r) ts rest sp stack go =
    let x0 = two (of_operand l ++ placed t.GreaterEqual p) (of_operand r) ts rest sp in
    let x1 = last (of_operand l) (at t.GreaterEqual p) ts x0.mid x0.before in
    comparison-as-operand ts stack go (operand-first l ts _ x1.spells) ∙ operand-reads l ts _ x1.spells _ _ ∙ operand-reads r x0.mid rest x0.after stack _

pub test-reads : (x : TestP) (ts rest : List Piece) → Spells (of_test x) ts rest → (stack : List Symbol) (k : Go (TheTest ∷ stack)) → read ts (TheTest ∷ stack) k ≡ read rest stack (λ v. k (x, v))
test-reads (UsingTest p a c) ts rest sp stack go =
    let x0 = one (at t.Using p) (of_list a ++ token t.Colon ++ of_comparison c) ts rest sp in
    let x1 = two (of_list a ++ token t.Colon) (of_comparison c) x0.left rest x0.spells in
    let x2 = last (of_list a) (fixed t.Colon) x0.left x1.mid x1.before in
    along ts _ _ _ (x0.is) ∙ list-reads a x0.left _ x2.spells _ _ ∙ comparison-reads c x1.mid rest x1.after stack _
test-reads (Emptiness p emptinesses.IsEmpty r) ts rest sp stack go =
    let x0 = one (at t.IsEmpty p) (token t.Open ++ of_rel r ++ token t.Close) ts rest sp in
    let x1 = one (fixed t.Open) (of_rel r ++ token t.Close) x0.left rest x0.spells in
    let x2 = last (of_rel r) (fixed t.Close) x1.left rest x1.spells in
    along ts _ _ _ (x0.is ∙ ap (λ z. seen (at t.IsEmpty p) x0.place x0.bytes ∷ z) (x1.is)) ∙ rel-reads r x1.left _ x2.spells (refl, (refl, (refl, (refl, (refl, (refl, (refl, refl))))))) _ _
test-reads (Emptiness p emptinesses.IsNotEmpty r) ts rest sp stack go =
    let x0 = one (at t.IsNotEmpty p) (token t.Open ++ of_rel r ++ token t.Close) ts rest sp in
    let x1 = one (fixed t.Open) (of_rel r ++ token t.Close) x0.left rest x0.spells in
    let x2 = last (of_rel r) (fixed t.Close) x1.left rest x1.spells in
    along ts _ _ _ (x0.is ∙ ap (λ z. seen (at t.IsNotEmpty p) x0.place x0.bytes ∷ z) (x1.is)) ∙ rel-reads r x1.left _ x2.spells (refl, (refl, (refl, (refl, (refl, (refl, (refl, refl))))))) _ _
test-reads (OfComparison c) ts rest sp stack go = test-as-comparison ts stack go (comparison-first c ts rest sp) ∙ comparison-reads c ts rest sp stack _

pub used_deletion-reads : (x : UsedDeletionP) (ts rest : List Piece) → Spells (of_used_deletion x) ts rest → Calm17 (first rest) → (stack : List Symbol) (k : Go (TheUsedDeletion ∷ stack)) → read ts (TheUsedDeletion ∷ stack) k ≡ read rest stack (λ v. k (x, v))
used_deletion-reads (UsedDeleteWhere p s) ts rest sp calm stack go =
    let x0 = one (at t.Where p) (of_scalar s) ts rest sp in
    along ts _ _ _ (x0.is) ∙ scalar-reads s x0.left rest x0.spells calm.1.1.1 stack _ ∙ MoreOr-end rest _ _ calm.1.1.0
used_deletion-reads (UsedDeleteRows r) ts rest sp calm stack go = used_deletion-as-rel ts stack go (rel-first r ts rest sp) ∙ rel-reads r ts rest sp calm stack _

pub used_item-reads : (x : UsedItemP) (ts rest : List Piece) → Spells (of_used_item x) ts rest → Calm17 (first rest) → (stack : List Symbol) (k : Go (TheUsedItem ∷ stack)) → read ts (TheUsedItem ∷ stack) k ≡ read rest stack (λ v. k (x, v))
used_item-reads (UsedInsert p n r) ts rest sp calm stack go =
    let x0 = one (at t.Insert p) (word_of n ++ of_rel r) ts rest sp in
    let x1 = one (spelled t.Name n.place n.bytes) (of_rel r) x0.left rest x0.spells in
    along ts _ _ _ (x0.is ∙ ap (λ z. seen (at t.Insert p) x0.place x0.bytes ∷ z) (x1.is)) ∙ rel-reads r x1.left rest x1.spells calm stack _
used_item-reads (UsedDelete p n d) ts rest sp calm stack go =
    let x0 = one (at t.Delete p) (word_of n ++ of_used_deletion d) ts rest sp in
    let x1 = one (spelled t.Name n.place n.bytes) (of_used_deletion d) x0.left rest x0.spells in
    along ts _ _ _ (x0.is ∙ ap (λ z. seen (at t.Delete p) x0.place x0.bytes ∷ z) (x1.is)) ∙ used_deletion-reads d x1.left rest x1.spells calm stack _
used_item-reads (UsedUpdate p n c s) ts rest sp calm stack go =
    let x0 = one (at t.Update p) (word_of n ++ of_condition c ++ token t.Colon ++ of_sets s) ts rest sp in
    let x1 = one (spelled t.Name n.place n.bytes) (of_condition c ++ token t.Colon ++ of_sets s) x0.left rest x0.spells in
    let x2 = two (of_condition c ++ token t.Colon) (of_sets s) x1.left rest x1.spells in
    let x3 = last (of_condition c) (fixed t.Colon) x1.left x2.mid x2.before in
    along ts _ _ _ (x0.is ∙ ap (λ z. seen (at t.Update p) x0.place x0.bytes ∷ z) (x1.is)) ∙ condition-reads c x1.left _ x3.spells (refl, (refl, (refl, (refl, (refl, (refl, refl)))))) _ _ ∙ sets-reads s x2.mid rest x2.after stack _

pub deletion-reads : (x : DeletionP) (ts rest : List Piece) → Spells (of_deletion x) ts rest → Calm19 (first rest) → (stack : List Symbol) (k : Go (TheDeletion ∷ stack)) → read ts (TheDeletion ∷ stack) k ≡ read rest stack (λ v. k (x, v))
deletion-reads (DeleteWhere p s) ts rest sp calm stack go =
    let x0 = one (at t.Where p) (of_scalar s) ts rest sp in
    along ts _ _ _ (x0.is) ∙ scalar-reads s x0.left rest x0.spells calm.1.1.1.1 stack _ ∙ MoreOr-end rest _ _ calm.1.1.1.0
deletion-reads (DeletePortion q c) ts rest sp calm stack go =
    let x0 = two (of_portion q) (of_condition c) ts rest sp in
    deletion-as-portion ts stack go (portion-first q ts x0.mid x0.before) ∙ portion-reads q ts x0.mid x0.before _ _ ∙ condition-reads c x0.mid rest x0.after (calm.0, calm.1.1.1) stack _
deletion-reads (DeleteRows r) ts rest sp calm stack go = deletion-as-rel ts stack go (rel-first r ts rest sp) ∙ rel-reads r ts rest sp calm.1 stack _

pub item-reads : (x : ItemP) (ts rest : List Piece) → Spells (of_item x) ts rest → Calm19 (first rest) → (stack : List Symbol) (k : Go (TheItem ∷ stack)) → read ts (TheItem ∷ stack) k ≡ read rest stack (λ v. k (x, v))
item-reads (SetRelvar n r) ts rest sp calm stack go =
    let x0 = one (spelled t.Name n.place n.bytes) (token t.Assign ++ of_rel r) ts rest sp in
    let x1 = one (fixed t.Assign) (of_rel r) x0.left rest x0.spells in
    along ts _ _ _ (x0.is ∙ ap (λ z. seen (spelled t.Name n.place n.bytes) x0.place x0.bytes ∷ z) (x1.is)) ∙ rel-reads r x1.left rest x1.spells calm.1 stack _
item-reads (Insert p n r) ts rest sp calm stack go =
    let x0 = one (at t.Insert p) (word_of n ++ of_rel r) ts rest sp in
    let x1 = one (spelled t.Name n.place n.bytes) (of_rel r) x0.left rest x0.spells in
    along ts _ _ _ (x0.is ∙ ap (λ z. seen (at t.Insert p) x0.place x0.bytes ∷ z) (x1.is)) ∙ rel-reads r x1.left rest x1.spells calm.1 stack _
item-reads (Delete p n d) ts rest sp calm stack go =
    let x0 = one (at t.Delete p) (word_of n ++ of_deletion d) ts rest sp in
    let x1 = one (spelled t.Name n.place n.bytes) (of_deletion d) x0.left rest x0.spells in
    along ts _ _ _ (x0.is ∙ ap (λ z. seen (at t.Delete p) x0.place x0.bytes ∷ z) (x1.is)) ∙ deletion-reads d x1.left rest x1.spells calm stack _
item-reads (Update p n q c s) ts rest sp calm stack go =
    let x0 = one (at t.Update p) (word_of n ++ of_maybe_portion q ++ of_condition c ++ token t.Colon ++ of_sets s) ts rest sp in
    let x1 = one (spelled t.Name n.place n.bytes) (of_maybe_portion q ++ of_condition c ++ token t.Colon ++ of_sets s) x0.left rest x0.spells in
    let x2 = two (of_maybe_portion q ++ of_condition c ++ token t.Colon) (of_sets s) x1.left rest x1.spells in
    let x3 = last (of_maybe_portion q ++ of_condition c) (fixed t.Colon) x1.left x2.mid x2.before in
    let x4 = two (of_maybe_portion q) (of_condition c) x1.left _ x3.spells in
    along ts _ _ _ (x0.is ∙ ap (λ z. seen (at t.Update p) x0.place x0.bytes ∷ z) (x1.is)) ∙ maybe_portion-reads q x1.left x4.mid x4.before (condition-start (Halts MaybePortion) c x4.mid _ x4.after refl refl) _ _ ∙ condition-reads c x4.mid _ x4.after (refl, (refl, (refl, (refl, (refl, (refl, refl)))))) _ _ ∙ sets-reads s x2.mid rest x2.after stack _
item-reads (Terminate p n q e c) ts rest sp calm stack go =
    let x0 = one (at t.Terminate p) (word_of n ++ lexeme t.Name q at_word ++ of_scalar e ++ of_condition c) ts rest sp in
    let x1 = one (spelled t.Name n.place n.bytes) (lexeme t.Name q at_word ++ of_scalar e ++ of_condition c) x0.left rest x0.spells in
    let x2 = one (spelled t.Name q at_word) (of_scalar e ++ of_condition c) x1.left rest x1.spells in
    let x3 = two (of_scalar e) (of_condition c) x2.left rest x2.spells in
    along ts _ _ _ (x0.is ∙ ap (λ z. seen (at t.Terminate p) x0.place x0.bytes ∷ z) (x1.is ∙ ap (λ z. seen (spelled t.Name n.place n.bytes) x1.place x1.bytes ∷ z) (x2.is))) ∙ scalar-reads e x2.left x3.mid x3.before (condition-start Calm5 c x3.mid rest x3.after (refl, (refl, (refl, (refl, refl)))) calm.1.1.1.1) _ _ ∙ MoreOr-end x3.mid _ _ (condition-start (Halts MoreOr) c x3.mid rest x3.after refl calm.1.1.1.0) ∙ condition-reads c x3.mid rest x3.after (calm.0, calm.1.1.1) stack _
item-reads (UsingItem p a u) ts rest sp calm stack go =
    let x0 = one (at t.Using p) (of_list a ++ token t.Colon ++ of_used_item u) ts rest sp in
    let x1 = two (of_list a ++ token t.Colon) (of_used_item u) x0.left rest x0.spells in
    let x2 = last (of_list a) (fixed t.Colon) x0.left x1.mid x1.before in
    along ts _ _ _ (x0.is) ∙ list-reads a x0.left _ x2.spells _ _ ∙ used_item-reads u x1.mid rest x1.after calm.1 stack _

pub more_items-reads : (x : List ItemP) (ts rest : List Piece) → Spells (of_more_items x) ts rest → Calm20 (first rest) → (stack : List Symbol) (k : Go (MoreItems ∷ stack)) → read ts (MoreItems ∷ stack) k ≡ read rest stack (λ v. k (x, v))
more_items-reads [] ts rest sp calm stack go = along ts rest (MoreItems ∷ stack) go (done ts rest sp) ∙ MoreItems-end rest stack go calm.0
more_items-reads (x ∷ xs) ts rest sp calm stack go =
    let x0 = one (fixed t.Comma) (of_item x ++ of_more_items xs) ts rest sp in
    let x1 = two (of_item x) (of_more_items xs) x0.left rest x0.spells in
    along ts _ _ _ (x0.is) ∙ item-reads x x0.left x1.mid x1.before (more_items-start Calm19 xs x1.mid rest x1.after (refl, (refl, (refl, (refl, (refl, (refl, (refl, (refl, refl)))))))) calm.1) _ _ ∙ more_items-reads xs x1.mid rest x1.after calm stack _

pub assign-reads : (x : AssignP) (ts rest : List Piece) → Spells (of_assign x) ts rest → Calm20 (first rest) → (stack : List Symbol) (k : Go (TheAssign ∷ stack)) → read ts (TheAssign ∷ stack) k ≡ read rest stack (λ v. k (x, v))
assign-reads (Assign x xs) ts rest sp calm stack go =
    let x0 = two (of_item x) (of_more_items xs) ts rest sp in
    assign-as-item ts stack go (item-first x ts x0.mid x0.before) ∙ item-reads x ts x0.mid x0.before (more_items-start Calm19 xs x0.mid rest x0.after (refl, (refl, (refl, (refl, (refl, (refl, (refl, (refl, refl)))))))) calm.1) _ _ ∙ more_items-reads xs x0.mid rest x0.after calm stack _

pub statement-reads : (x : StatementP) (ts rest : List Piece) → Spells (of_statement x) ts rest → (stack : List Symbol) (k : Go (TheStatement ∷ stack)) → read ts (TheStatement ∷ stack) k ≡ read rest stack (λ v. k (x, v))
statement-reads Nothing ts rest sp stack go =
    let x0 = one (fixed t.Semicolon) ([]) ts rest sp in
    along ts _ _ _ (x0.is ∙ ap (λ z. seen (fixed t.Semicolon) x0.place x0.bytes ∷ z) (done x0.left rest x0.spells))
statement-reads (DeclareOrdinal p n v) ts rest sp stack go =
    let x0 = one (at t.TypeWord p) (word_of n ++ contextual ordinal_word ++ of_some_names v ++ token t.Semicolon) ts rest sp in
    let x1 = one (spelled t.Name n.place n.bytes) (contextual ordinal_word ++ of_some_names v ++ token t.Semicolon) x0.left rest x0.spells in
    let x2 = one (worded ordinal_word) (of_some_names v ++ token t.Semicolon) x1.left rest x1.spells in
    let x3 = last (of_some_names v) (fixed t.Semicolon) x2.left rest x2.spells in
    along ts _ _ _ (x0.is ∙ ap (λ z. seen (at t.TypeWord p) x0.place x0.bytes ∷ z) (x1.is ∙ ap (λ z. seen (spelled t.Name n.place n.bytes) x1.place x1.bytes ∷ z) (x2.is))) ∙ some_names-reads v x2.left _ x3.spells _ _
statement-reads (DeclareRelvar p n f) ts rest sp stack go =
    let x0 = one (at t.Var p) (word_of n ++ of_var_form f ++ token t.Semicolon) ts rest sp in
    let x1 = one (spelled t.Name n.place n.bytes) (of_var_form f ++ token t.Semicolon) x0.left rest x0.spells in
    let x2 = last (of_var_form f) (fixed t.Semicolon) x1.left rest x1.spells in
    along ts _ _ _ (x0.is ∙ ap (λ z. seen (at t.Var p) x0.place x0.bytes ∷ z) (x1.is)) ∙ var_form-reads f x1.left _ x2.spells refl _ _
statement-reads (DeclareHistory p n h k s b d i y) ts rest sp stack go =
    let x0 = one (at t.History p) (word_of n ++ of_heading h ++ of_key k ++ contextual since_word ++ word_of s ++ of_paren_name b ++ contextual during_word ++ word_of d ++ of_paren_name i ++ contextual over_word ++ of_point y ++ token t.Semicolon) ts rest sp in
    let x1 = one (spelled t.Name n.place n.bytes) (of_heading h ++ of_key k ++ contextual since_word ++ word_of s ++ of_paren_name b ++ contextual during_word ++ word_of d ++ of_paren_name i ++ contextual over_word ++ of_point y ++ token t.Semicolon) x0.left rest x0.spells in
    let x2 = last (of_heading h ++ of_key k ++ contextual since_word ++ word_of s ++ of_paren_name b ++ contextual during_word ++ word_of d ++ of_paren_name i ++ contextual over_word ++ of_point y) (fixed t.Semicolon) x1.left rest x1.spells in
    let x3 = two (of_heading h ++ of_key k ++ contextual since_word ++ word_of s ++ of_paren_name b ++ contextual during_word ++ word_of d ++ of_paren_name i ++ contextual over_word) (of_point y) x1.left _ x2.spells in
    let x4 = last (of_heading h ++ of_key k ++ contextual since_word ++ word_of s ++ of_paren_name b ++ contextual during_word ++ word_of d ++ of_paren_name i) (worded over_word) x1.left x3.mid x3.before in
    let x5 = two (of_heading h ++ of_key k ++ contextual since_word ++ word_of s ++ of_paren_name b ++ contextual during_word ++ word_of d) (of_paren_name i) x1.left _ x4.spells in
    let x6 = last (of_heading h ++ of_key k ++ contextual since_word ++ word_of s ++ of_paren_name b ++ contextual during_word) (spelled t.Name d.place d.bytes) x1.left x5.mid x5.before in
    let x7 = last (of_heading h ++ of_key k ++ contextual since_word ++ word_of s ++ of_paren_name b) (worded during_word) x1.left _ x6.spells in
    let x8 = two (of_heading h ++ of_key k ++ contextual since_word ++ word_of s) (of_paren_name b) x1.left _ x7.spells in
    let x9 = last (of_heading h ++ of_key k ++ contextual since_word) (spelled t.Name s.place s.bytes) x1.left x8.mid x8.before in
    let x10 = last (of_heading h ++ of_key k) (worded since_word) x1.left _ x9.spells in
    let x11 = two (of_heading h) (of_key k) x1.left _ x10.spells in
    along ts _ _ _ (x0.is ∙ ap (λ z. seen (at t.History p) x0.place x0.bytes ∷ z) (x1.is)) ∙ heading-reads h x1.left x11.mid x11.before _ _ ∙ key-reads k x11.mid _ x11.after _ _ ∙ paren_name-reads b x8.mid _ x8.after _ _ ∙ paren_name-reads i x5.mid _ x5.after _ _ ∙ point-reads y x3.mid _ x3.after _ _
statement-reads (DeclareLog p l s b) ts rest sp stack go =
    let x0 = one (spelled t.Name p log_word) (word_of l ++ contextual of_word ++ word_of s ++ of_paren_name b ++ token t.Semicolon) ts rest sp in
    let x1 = one (spelled t.Name l.place l.bytes) (contextual of_word ++ word_of s ++ of_paren_name b ++ token t.Semicolon) x0.left rest x0.spells in
    let x2 = one (worded of_word) (word_of s ++ of_paren_name b ++ token t.Semicolon) x1.left rest x1.spells in
    let x3 = one (spelled t.Name s.place s.bytes) (of_paren_name b ++ token t.Semicolon) x2.left rest x2.spells in
    let x4 = last (of_paren_name b) (fixed t.Semicolon) x3.left rest x3.spells in
    along ts _ _ _ (x0.is ∙ ap (λ z. seen (spelled t.Name p log_word) x0.place x0.bytes ∷ z) (x1.is ∙ ap (λ z. seen (spelled t.Name l.place l.bytes) x1.place x1.bytes ∷ z) (x2.is ∙ ap (λ z. seen (worded of_word) x2.place x2.bytes ∷ z) (x3.is)))) ∙ paren_name-reads b x3.left _ x4.spells _ _
statement-reads (DeclareRule p n y) ts rest sp stack go =
    let x0 = one (at t.Constraint p) (word_of n ++ of_test y ++ token t.Semicolon) ts rest sp in
    let x1 = one (spelled t.Name n.place n.bytes) (of_test y ++ token t.Semicolon) x0.left rest x0.spells in
    let x2 = last (of_test y) (fixed t.Semicolon) x1.left rest x1.spells in
    along ts _ _ _ (x0.is ∙ ap (λ z. seen (at t.Constraint p) x0.place x0.bytes ∷ z) (x1.is)) ∙ test-reads y x1.left _ x2.spells _ _
statement-reads (Drop p n) ts rest sp stack go =
    let x0 = one (at t.Drop p) (token t.Var ++ word_of n ++ token t.Semicolon) ts rest sp in
    let x1 = one (fixed t.Var) (word_of n ++ token t.Semicolon) x0.left rest x0.spells in
    let x2 = one (spelled t.Name n.place n.bytes) (token t.Semicolon) x1.left rest x1.spells in
    let x3 = one (fixed t.Semicolon) ([]) x2.left rest x2.spells in
    along ts _ _ _ (x0.is ∙ ap (λ z. seen (at t.Drop p) x0.place x0.bytes ∷ z) (x1.is ∙ ap (λ z. seen (fixed t.Var) x1.place x1.bytes ∷ z) (x2.is ∙ ap (λ z. seen (spelled t.Name n.place n.bytes) x2.place x2.bytes ∷ z) (x3.is ∙ ap (λ z. seen (fixed t.Semicolon) x3.place x3.bytes ∷ z) (done x3.left rest x3.spells)))))
statement-reads (DropRule p q n) ts rest sp stack go =
    let x0 = one (at t.Drop p) (placed t.Constraint q ++ word_of n ++ token t.Semicolon) ts rest sp in
    let x1 = one (at t.Constraint q) (word_of n ++ token t.Semicolon) x0.left rest x0.spells in
    let x2 = one (spelled t.Name n.place n.bytes) (token t.Semicolon) x1.left rest x1.spells in
    let x3 = one (fixed t.Semicolon) ([]) x2.left rest x2.spells in
    along ts _ _ _ (x0.is ∙ ap (λ z. seen (at t.Drop p) x0.place x0.bytes ∷ z) (x1.is ∙ ap (λ z. seen (at t.Constraint q) x1.place x1.bytes ∷ z) (x2.is ∙ ap (λ z. seen (spelled t.Name n.place n.bytes) x2.place x2.bytes ∷ z) (x3.is ∙ ap (λ z. seen (fixed t.Semicolon) x3.place x3.bytes ∷ z) (done x3.left rest x3.spells)))))
statement-reads (Print p r) ts rest sp stack go =
    let x0 = one (at t.Print p) (of_rel r ++ token t.Semicolon) ts rest sp in
    let x1 = last (of_rel r) (fixed t.Semicolon) x0.left rest x0.spells in
    along ts _ _ _ (x0.is) ∙ rel-reads r x0.left _ x1.spells (refl, (refl, (refl, (refl, (refl, (refl, (refl, refl))))))) _ _
statement-reads (Ask p y) ts rest sp stack go =
    let x0 = one (at t.Ask p) (of_test y ++ token t.Semicolon) ts rest sp in
    let x1 = last (of_test y) (fixed t.Semicolon) x0.left rest x0.spells in
    along ts _ _ _ (x0.is) ∙ test-reads y x0.left _ x1.spells _ _
statement-reads (Assignment a) ts rest sp stack go =
    let x0 = last (of_assign a) (fixed t.Semicolon) ts rest sp in
    statement-as-assign ts stack go (assign-first a ts _ x0.spells) (assign-second a ts _ x0.spells) ∙ assign-reads a ts _ x0.spells (refl, (refl, (refl, (refl, (refl, (refl, (refl, (refl, (refl, refl))))))))) _ _

-- the value, or this one
pub some_or : StatementP → Option StatementP → StatementP
some_or x None = x
some_or x (Some y) = y

-- two trees that write the same tokens are equal
pub written-once : (x y : StatementP) (ts : List Piece) → Spells (of_statement x) ts [] → Spells (of_statement y) ts [] → x ≡ y
unfolding some_or
written-once x y ts h g = ap (some_or x) (sym (statement-reads x ts [] h [] (λ v. v.0)) ∙ statement-reads y ts [] g [] (λ v. v.0))
