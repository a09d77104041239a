-- Written by tools/grammar; change it there.
-- The tokens that complete a stack, and that they do.
use Rattle.std.proofs.Common.{◌≡◌, ℕ, List, [], ◌∷◌, ◌++◌, Bool, true, false, cond, ◌&&◌, Option, Some, refl, ◌∙◌}
use Rattle.utd_syntax.specs.declared.terminal.Terminal.{Terminal}
use Rattle.utd_syntax.specs.declared.terminal.Terminal.TheVariants as t
use Rattle.point_core.specs.declared.fault.Place.{Place}
use Rattle.utd_syntax.specs.Pieces.{Piece, first, place_of}
use Rattle.utd_syntax.specs.Plain.{StatementP}
use Rattle.utd_syntax.specs.Terminals.{spelling, is_token, AreTokens}
use Rattle.utd_syntax.specs.Table.{Load, Symbol, TheName, Comma, DateText, MomentText, NegativeDigits, ThePrimary, AfterName, AfterScalar, EndOfSelector, InParens, InPair, InPoint, TheSign, TheProd, MoreProd, TheSum, MoreSum, TheCmp, MoreCmp, TheNeg, TheConj, MoreAnd, TheScalar, MoreOr, ThePoint, TheKind, TheAttribute, MoreAttributes, InHeading, TheHeading, MoreNames, InNames, InList, TheNames, TheList, TheSomeNames, TheParenName, TheElement, MoreElements, InElements, TheElements, TheSomeElements, TheTuple, MoreTuples, InTuples, TheTuples, TheLiteral, AfterRelation, TheSetItem, MoreSetItems, TheSets, EmptyParens, TheAggregateForm, TheAggregate, MoreAggregates, TheAggregates, TheRenaming, MoreRenamings, TheRenamings, ThePortion, MaybePortion, MaybeWhere, InProjection, TheOperand, TheExtend, TheSummarize, TheRelPrimary, TheTerm, MorePostfix, TheTerms, MoreInfix, TheUsing, TheRel, TheUsingPart, AfterOperand, TheKey, TheForeign, TheUsedConstraint, TheConstraint, MoreConstraints, InRel, TheKept, AfterKept, InKept, TheVarForm, TheComparison, AfterLeft, TheTest, TheUsedDeletion, TheUsedItem, TheDeletion, TheItem, MoreItems, TheAssign, TheStatement, AfterDrop, AfterLog, Just, Worded, Shut, Plain, Never, Takes, same, same_bytes}
use Rattle.utd_syntax.proofs.FormValues.{Val, Vals}
use Rattle.utd_syntax.proofs.Reader.{Go, pick, split, on_turn, read_at, read}
use Rattle.utd_syntax.proofs.FormEnds.{Halts, Calm2, Calm3, Calm4, Calm5, Calm6, Calm9, Calm11, Calm15, Calm16, Calm17, Calm19, Calm20, AfterName-end, MoreProd-end, MoreSum-end, MoreCmp-end, MoreAnd-end, MoreOr-end, MoreAttributes-end, MoreNames-end, MoreElements-end, MoreTuples-end, MoreSetItems-end, MoreAggregates-end, MoreRenamings-end, MaybePortion-end, MaybeWhere-end, MorePostfix-end, MoreInfix-end, MoreConstraints-end, MoreItems-end}
use Rattle.utd_syntax.proofs.Sound.{same-self, bytes-self}

-- the tokens that complete a form
abbrev pub ending : Symbol → List (Terminal × List ℕ)
ending TheName = (t.Name, spelling t.Name) ∷ []
ending Comma = (t.Comma, spelling t.Comma) ∷ []
ending DateText = (t.Quoted, spelling t.Quoted) ∷ []
ending MomentText = (t.Quoted, spelling t.Quoted) ∷ []
ending NegativeDigits = (t.Digits, spelling t.Digits) ∷ []
ending ThePrimary = (t.True, spelling t.True) ∷ []
ending AfterName = []
ending AfterScalar = (t.Close, spelling t.Close) ∷ []
ending EndOfSelector = (t.CloseBracket, spelling t.CloseBracket) ∷ []
ending InParens = (t.Open, spelling t.Open) ∷ (t.True, spelling t.True) ∷ (t.Close, spelling t.Close) ∷ []
ending InPair = (t.Open, spelling t.Open) ∷ (t.True, spelling t.True) ∷ (t.Comma, spelling t.Comma) ∷ (t.True, spelling t.True) ∷ (t.Close, spelling t.Close) ∷ []
ending InPoint = (t.Open, spelling t.Open) ∷ (t.Integer, spelling t.Integer) ∷ (t.Close, spelling t.Close) ∷ []
ending TheSign = (t.True, spelling t.True) ∷ []
ending TheProd = (t.True, spelling t.True) ∷ []
ending MoreProd = []
ending TheSum = (t.True, spelling t.True) ∷ []
ending MoreSum = []
ending TheCmp = (t.True, spelling t.True) ∷ []
ending MoreCmp = []
ending TheNeg = (t.True, spelling t.True) ∷ []
ending TheConj = (t.True, spelling t.True) ∷ []
ending MoreAnd = []
ending TheScalar = (t.True, spelling t.True) ∷ []
ending MoreOr = []
ending ThePoint = (t.Integer, spelling t.Integer) ∷ []
ending TheKind = (t.Boolean, spelling t.Boolean) ∷ []
ending TheAttribute = (t.Name, spelling t.Name) ∷ (t.Boolean, spelling t.Boolean) ∷ []
ending MoreAttributes = []
ending InHeading = (t.CloseBrace, spelling t.CloseBrace) ∷ []
ending TheHeading = (t.OpenBrace, spelling t.OpenBrace) ∷ (t.CloseBrace, spelling t.CloseBrace) ∷ []
ending MoreNames = []
ending InNames = (t.CloseBrace, spelling t.CloseBrace) ∷ []
ending InList = (t.Close, spelling t.Close) ∷ []
ending TheNames = (t.OpenBrace, spelling t.OpenBrace) ∷ (t.CloseBrace, spelling t.CloseBrace) ∷ []
ending TheList = (t.Open, spelling t.Open) ∷ (t.Close, spelling t.Close) ∷ []
ending TheSomeNames = (t.OpenBrace, spelling t.OpenBrace) ∷ (t.Name, spelling t.Name) ∷ (t.CloseBrace, spelling t.CloseBrace) ∷ []
ending TheParenName = (t.Open, spelling t.Open) ∷ (t.Name, spelling t.Name) ∷ (t.Close, spelling t.Close) ∷ []
ending TheElement = (t.Name, spelling t.Name) ∷ (t.True, spelling t.True) ∷ []
ending MoreElements = []
ending InElements = (t.CloseBrace, spelling t.CloseBrace) ∷ []
ending TheElements = (t.OpenBrace, spelling t.OpenBrace) ∷ (t.CloseBrace, spelling t.CloseBrace) ∷ []
ending TheSomeElements = (t.OpenBrace, spelling t.OpenBrace) ∷ (t.Name, spelling t.Name) ∷ (t.True, spelling t.True) ∷ (t.CloseBrace, spelling t.CloseBrace) ∷ []
ending TheTuple = (t.Tuple, spelling t.Tuple) ∷ (t.OpenBrace, spelling t.OpenBrace) ∷ (t.CloseBrace, spelling t.CloseBrace) ∷ []
ending MoreTuples = []
ending InTuples = (t.CloseBrace, spelling t.CloseBrace) ∷ []
ending TheTuples = (t.OpenBrace, spelling t.OpenBrace) ∷ (t.CloseBrace, spelling t.CloseBrace) ∷ []
ending TheLiteral = (t.Relation, spelling t.Relation) ∷ (t.OpenBrace, spelling t.OpenBrace) ∷ (t.CloseBrace, spelling t.CloseBrace) ∷ (t.OpenBrace, spelling t.OpenBrace) ∷ (t.CloseBrace, spelling t.CloseBrace) ∷ []
ending AfterRelation = (t.OpenBrace, spelling t.OpenBrace) ∷ (t.CloseBrace, spelling t.CloseBrace) ∷ (t.OpenBrace, spelling t.OpenBrace) ∷ (t.CloseBrace, spelling t.CloseBrace) ∷ []
ending TheSetItem = (t.Name, spelling t.Name) ∷ (t.Assign, spelling t.Assign) ∷ (t.True, spelling t.True) ∷ []
ending MoreSetItems = []
ending TheSets = (t.OpenBrace, spelling t.OpenBrace) ∷ (t.Name, spelling t.Name) ∷ (t.Assign, spelling t.Assign) ∷ (t.True, spelling t.True) ∷ (t.CloseBrace, spelling t.CloseBrace) ∷ []
ending EmptyParens = (t.Open, spelling t.Open) ∷ (t.Close, spelling t.Close) ∷ []
ending TheAggregateForm = (t.Count, spelling t.Count) ∷ (t.Open, spelling t.Open) ∷ (t.Close, spelling t.Close) ∷ []
ending TheAggregate = (t.Name, spelling t.Name) ∷ (t.Assign, spelling t.Assign) ∷ (t.Count, spelling t.Count) ∷ (t.Open, spelling t.Open) ∷ (t.Close, spelling t.Close) ∷ []
ending MoreAggregates = []
ending TheAggregates = (t.OpenBrace, spelling t.OpenBrace) ∷ (t.Name, spelling t.Name) ∷ (t.Assign, spelling t.Assign) ∷ (t.Count, spelling t.Count) ∷ (t.Open, spelling t.Open) ∷ (t.Close, spelling t.Close) ∷ (t.CloseBrace, spelling t.CloseBrace) ∷ []
ending TheRenaming = (t.Name, spelling t.Name) ∷ (t.As, spelling t.As) ∷ (t.Name, spelling t.Name) ∷ []
ending MoreRenamings = []
ending TheRenamings = (t.OpenBrace, spelling t.OpenBrace) ∷ (t.Name, spelling t.Name) ∷ (t.As, spelling t.As) ∷ (t.Name, spelling t.Name) ∷ (t.CloseBrace, spelling t.CloseBrace) ∷ []
ending ThePortion = (t.Portion, spelling t.Portion) ∷ (t.OpenBrace, spelling t.OpenBrace) ∷ (t.Name, spelling t.Name) ∷ (t.True, spelling t.True) ∷ (t.CloseBrace, spelling t.CloseBrace) ∷ []
ending MaybePortion = []
ending MaybeWhere = []
ending InProjection = (t.CloseBrace, spelling t.CloseBrace) ∷ []
ending TheOperand = (t.Name, spelling t.Name) ∷ []
ending TheExtend = (t.Extend, spelling t.Extend) ∷ (t.Name, spelling t.Name) ∷ (t.Colon, spelling t.Colon) ∷ (t.OpenBrace, spelling t.OpenBrace) ∷ (t.Name, spelling t.Name) ∷ (t.Assign, spelling t.Assign) ∷ (t.True, spelling t.True) ∷ (t.CloseBrace, spelling t.CloseBrace) ∷ []
ending TheSummarize = (t.Summarize, spelling t.Summarize) ∷ (t.Name, spelling t.Name) ∷ (t.By, spelling t.By) ∷ (t.OpenBrace, spelling t.OpenBrace) ∷ (t.CloseBrace, spelling t.CloseBrace) ∷ (t.Colon, spelling t.Colon) ∷ (t.OpenBrace, spelling t.OpenBrace) ∷ (t.Name, spelling t.Name) ∷ (t.Assign, spelling t.Assign) ∷ (t.Count, spelling t.Count) ∷ (t.Open, spelling t.Open) ∷ (t.Close, spelling t.Close) ∷ (t.CloseBrace, spelling t.CloseBrace) ∷ []
ending TheRelPrimary = (t.Name, spelling t.Name) ∷ []
ending TheTerm = (t.Name, spelling t.Name) ∷ []
ending MorePostfix = []
ending TheTerms = (t.Name, spelling t.Name) ∷ []
ending MoreInfix = []
ending TheUsing = (t.Using, spelling t.Using) ∷ (t.Open, spelling t.Open) ∷ (t.Close, spelling t.Close) ∷ (t.Colon, spelling t.Colon) ∷ (t.Name, spelling t.Name) ∷ (t.Union, spelling t.Union) ∷ (t.Name, spelling t.Name) ∷ []
ending TheRel = (t.Name, spelling t.Name) ∷ []
ending TheUsingPart = (t.Name, spelling t.Name) ∷ (t.Union, spelling t.Union) ∷ (t.Name, spelling t.Name) ∷ []
ending AfterOperand = (t.Union, spelling t.Union) ∷ (t.Name, spelling t.Name) ∷ []
ending TheKey = (t.Key, spelling t.Key) ∷ (t.OpenBrace, spelling t.OpenBrace) ∷ (t.CloseBrace, spelling t.CloseBrace) ∷ []
ending TheForeign = (t.Foreign, spelling t.Foreign) ∷ (t.Key, spelling t.Key) ∷ (t.OpenBrace, spelling t.OpenBrace) ∷ (t.CloseBrace, spelling t.CloseBrace) ∷ (t.References, spelling t.References) ∷ (t.Name, spelling t.Name) ∷ []
ending TheUsedConstraint = (t.Key, spelling t.Key) ∷ (t.OpenBrace, spelling t.OpenBrace) ∷ (t.CloseBrace, spelling t.CloseBrace) ∷ []
ending TheConstraint = (t.Key, spelling t.Key) ∷ (t.OpenBrace, spelling t.OpenBrace) ∷ (t.CloseBrace, spelling t.CloseBrace) ∷ []
ending MoreConstraints = []
ending InRel = (t.Open, spelling t.Open) ∷ (t.Name, spelling t.Name) ∷ (t.Close, spelling t.Close) ∷ []
ending TheKept = (t.Pack, spelling t.Pack) ∷ (t.Name, spelling t.Name) ∷ (t.On, spelling t.On) ∷ (t.Open, spelling t.Open) ∷ (t.Close, spelling t.Close) ∷ []
ending AfterKept = (t.Union, spelling t.Union) ∷ (t.Name, spelling t.Name) ∷ []
ending InKept = (t.Open, spelling t.Open) ∷ (t.Pack, spelling t.Pack) ∷ (t.Name, spelling t.Name) ∷ (t.On, spelling t.On) ∷ (t.Open, spelling t.Open) ∷ (t.Close, spelling t.Close) ∷ (t.Close, spelling t.Close) ∷ []
ending TheVarForm = (t.Relation, spelling t.Relation) ∷ (t.OpenBrace, spelling t.OpenBrace) ∷ (t.CloseBrace, spelling t.CloseBrace) ∷ []
ending TheComparison = (t.Name, spelling t.Name) ∷ (t.Equal, spelling t.Equal) ∷ (t.Name, spelling t.Name) ∷ []
ending AfterLeft = (t.Equal, spelling t.Equal) ∷ (t.Name, spelling t.Name) ∷ []
ending TheTest = (t.Name, spelling t.Name) ∷ (t.Equal, spelling t.Equal) ∷ (t.Name, spelling t.Name) ∷ []
ending TheUsedDeletion = (t.Name, spelling t.Name) ∷ []
ending TheUsedItem = (t.Insert, spelling t.Insert) ∷ (t.Name, spelling t.Name) ∷ (t.Name, spelling t.Name) ∷ []
ending TheDeletion = (t.Name, spelling t.Name) ∷ []
ending TheItem = (t.Name, spelling t.Name) ∷ (t.Assign, spelling t.Assign) ∷ (t.Name, spelling t.Name) ∷ []
ending MoreItems = []
ending TheAssign = (t.Name, spelling t.Name) ∷ (t.Assign, spelling t.Assign) ∷ (t.Name, spelling t.Name) ∷ []
ending TheStatement = (t.Semicolon, spelling t.Semicolon) ∷ []
ending AfterDrop = (t.Var, spelling t.Var) ∷ (t.Name, spelling t.Name) ∷ (t.Semicolon, spelling t.Semicolon) ∷ []
ending AfterLog = (t.Assign, spelling t.Assign) ∷ (t.Name, spelling t.Name) ∷ (t.Semicolon, spelling t.Semicolon) ∷ []
ending (Just x) = (x, spelling x) ∷ []
ending (Worded w) = (t.Name, w) ∷ []
ending (Shut outer) = []

abbrev pub pieces_of : List (Terminal × List ℕ) → List Piece → List Piece
pieces_of [] rest = rest
pieces_of (x ∷ xs) rest = record { terminal = x.0; place = place_of []; bytes = x.1 } ∷ pieces_of xs rest

abbrev pub complete : List Symbol → List Piece
complete [] = []
complete (s ∷ stack) = pieces_of (ending s) (complete stack)

abbrev pub lead : List Symbol → Terminal
lead stack = first (complete stack)

-- what comes next does not continue a form that could go on
abbrev pub Calm : Symbol → Terminal → Type 0
Calm ThePrimary x = Halts AfterName x
Calm AfterName x = Halts AfterName x
Calm TheSign x = Halts AfterName x
Calm TheProd x = Calm2 x
Calm MoreProd x = Calm2 x
Calm TheSum x = Calm3 x
Calm MoreSum x = Calm3 x
Calm TheCmp x = Calm4 x
Calm MoreCmp x = Calm4 x
Calm TheNeg x = Calm4 x
Calm TheConj x = Calm5 x
Calm MoreAnd x = Calm5 x
Calm TheScalar x = Calm6 x
Calm MoreOr x = Calm6 x
Calm MoreAttributes x = Halts MoreAttributes x
Calm MoreNames x = Halts MoreNames x
Calm TheElement x = Calm6 x
Calm MoreElements x = Calm9 x
Calm MoreTuples x = Halts MoreTuples x
Calm TheSetItem x = Calm6 x
Calm MoreSetItems x = Calm11 x
Calm MoreAggregates x = Halts MoreAggregates x
Calm MoreRenamings x = Halts MoreRenamings x
Calm MaybePortion x = Halts MaybePortion x
Calm MaybeWhere x = Calm15 x
Calm TheTerm x = Calm16 x
Calm MorePostfix x = Calm16 x
Calm TheTerms x = Calm17 x
Calm MoreInfix x = Calm17 x
Calm TheUsing x = Calm6 x
Calm TheRel x = Calm17 x
Calm TheUsingPart x = Calm6 x
Calm AfterOperand x = Calm6 x
Calm MoreConstraints x = Halts MoreConstraints x
Calm TheVarForm x = Halts MoreConstraints x
Calm TheUsedDeletion x = Calm17 x
Calm TheUsedItem x = Calm17 x
Calm TheDeletion x = Calm19 x
Calm TheItem x = Calm19 x
Calm MoreItems x = Calm20 x
Calm TheAssign x = Calm20 x
Calm (Just y) x = is_token y (spelling y) ≡ true
Calm (Worded w) x = is_token t.Name w ≡ true
Calm _ x = Unit {0}

abbrev pub Good : List Symbol → Type 0
Good [] = Unit {0}
Good (s ∷ stack) = Calm s (lead stack) × Good stack

abbrev pub Reads : Option StatementP → Type 0
Reads o = (x : StatementP) × (o ≡ Some x)

pub by : (o o' : Option StatementP) → o ≡ o' → Reads o' → Reads o
by o o' e h = (h.0, e ∙ h.1)

-- a token that a form of one row takes
pub one-row : (s : Symbol) (c : Bool) (more : List Symbol) (v : Vals more → Val s) (stack : List Symbol) (next : (st : List Symbol) → Go st → Option StatementP) (beyond : Go stack → Option StatementP) (k : Go (s ∷ stack)) → c ≡ true → on_turn s (cond c (Takes Plain more) Never) (pick s c (Takes Plain more) Never v tt) stack next beyond k ≡ next (more ++ stack) (λ vs. let r : Vals more × Vals stack = split more stack vs in k (v r.0, r.1))
one-row s true more v stack next beyond k e = refl
one-row s false more v stack next beyond k e = cc

pub both-true : (a b : Bool) → a ≡ true → b ≡ true → (a && b) ≡ true
both-true true b h g = g
both-true false b h g = h

pub just-self : (x n : Terminal) (p : Place) (b : List ℕ) (next : (st : List Symbol) → Go st → Option StatementP) (stack : List Symbol) (k : Go (Just x ∷ stack)) → read_at x n p b next (Just x ∷ stack) k ≡ next stack (λ v. k (tt, v))
just-self x n p b next stack k = one-row (Just x) (same x x) [] (λ v. tt) stack next (read_at x n p b next stack) k (same-self x)

pub worded-self : (w : List ℕ) (n : Terminal) (p : Place) (next : (st : List Symbol) → Go st → Option StatementP) (stack : List Symbol) (k : Go (Worded w ∷ stack)) → read_at t.Name n p w next (Worded w ∷ stack) k ≡ next stack (λ v. k (p, v))
worded-self w n p next stack k = one-row (Worded w) (same t.Name t.Name && same_bytes w w) [] (λ v. p) stack next (read_at t.Name n p w next stack) k (bytes-self w)

pub shut-end : (ts : List Piece) (outer : Load) (st : List Symbol) (k : Go (Shut outer ∷ st)) → read ts (Shut outer ∷ st) k ≡ read ts st (λ v. k (tt, v))
shut-end [] outer st k = refl
shut-end (x ∷ ts) outer st k = refl

-- a good stack can be completed
pub complete-reads : (stack : List Symbol) → Good stack → (k : Go stack) → Reads (read (complete stack) stack k)
complete-reads [] g k = (k tt, refl)
complete-reads (TheName ∷ st) g k = complete-reads st g.1 _
complete-reads (Comma ∷ st) g k = complete-reads st g.1 _
complete-reads (DateText ∷ st) g k = complete-reads st g.1 _
complete-reads (MomentText ∷ st) g k = complete-reads st g.1 _
complete-reads (NegativeDigits ∷ st) g k = complete-reads st g.1 _
complete-reads (ThePrimary ∷ st) g k = complete-reads st g.1 _
complete-reads (AfterName ∷ st) g k = by _ _ (AfterName-end (complete st) _ _ g.0) (complete-reads st g.1 _)
complete-reads (AfterScalar ∷ st) g k = complete-reads st g.1 _
complete-reads (EndOfSelector ∷ st) g k = complete-reads st g.1 _
complete-reads (InParens ∷ st) g k = complete-reads st g.1 _
complete-reads (InPair ∷ st) g k = complete-reads st g.1 _
complete-reads (InPoint ∷ st) g k = complete-reads st g.1 _
complete-reads (TheSign ∷ st) g k = complete-reads st g.1 _
complete-reads (TheProd ∷ st) g k = by _ _ (MoreProd-end (complete st) _ _ g.0.0) (complete-reads st g.1 _)
complete-reads (MoreProd ∷ st) g k = by _ _ (MoreProd-end (complete st) _ _ g.0.0) (complete-reads st g.1 _)
complete-reads (TheSum ∷ st) g k = by _ _ (MoreProd-end (complete st) _ _ g.0.1.0 ∙ MoreSum-end (complete st) _ _ g.0.0) (complete-reads st g.1 _)
complete-reads (MoreSum ∷ st) g k = by _ _ (MoreSum-end (complete st) _ _ g.0.0) (complete-reads st g.1 _)
complete-reads (TheCmp ∷ st) g k = by _ _ (MoreProd-end (complete st) _ _ g.0.1.1.0 ∙ MoreSum-end (complete st) _ _ g.0.1.0 ∙ MoreCmp-end (complete st) _ _ g.0.0) (complete-reads st g.1 _)
complete-reads (MoreCmp ∷ st) g k = by _ _ (MoreCmp-end (complete st) _ _ g.0.0) (complete-reads st g.1 _)
complete-reads (TheNeg ∷ st) g k = by _ _ (MoreProd-end (complete st) _ _ g.0.1.1.0 ∙ MoreSum-end (complete st) _ _ g.0.1.0 ∙ MoreCmp-end (complete st) _ _ g.0.0) (complete-reads st g.1 _)
complete-reads (TheConj ∷ st) g k = by _ _ (MoreProd-end (complete st) _ _ g.0.1.1.1.0 ∙ MoreSum-end (complete st) _ _ g.0.1.1.0 ∙ MoreCmp-end (complete st) _ _ g.0.1.0 ∙ MoreAnd-end (complete st) _ _ g.0.0) (complete-reads st g.1 _)
complete-reads (MoreAnd ∷ st) g k = by _ _ (MoreAnd-end (complete st) _ _ g.0.0) (complete-reads st g.1 _)
complete-reads (TheScalar ∷ st) g k = by _ _ (MoreProd-end (complete st) _ _ g.0.1.1.1.1.0 ∙ MoreSum-end (complete st) _ _ g.0.1.1.1.0 ∙ MoreCmp-end (complete st) _ _ g.0.1.1.0 ∙ MoreAnd-end (complete st) _ _ g.0.1.0 ∙ MoreOr-end (complete st) _ _ g.0.0) (complete-reads st g.1 _)
complete-reads (MoreOr ∷ st) g k = by _ _ (MoreOr-end (complete st) _ _ g.0.0) (complete-reads st g.1 _)
complete-reads (ThePoint ∷ st) g k = complete-reads st g.1 _
complete-reads (TheKind ∷ st) g k = complete-reads st g.1 _
complete-reads (TheAttribute ∷ st) g k = complete-reads st g.1 _
complete-reads (MoreAttributes ∷ st) g k = by _ _ (MoreAttributes-end (complete st) _ _ g.0) (complete-reads st g.1 _)
complete-reads (InHeading ∷ st) g k = complete-reads st g.1 _
complete-reads (TheHeading ∷ st) g k = complete-reads st g.1 _
complete-reads (MoreNames ∷ st) g k = by _ _ (MoreNames-end (complete st) _ _ g.0) (complete-reads st g.1 _)
complete-reads (InNames ∷ st) g k = complete-reads st g.1 _
complete-reads (InList ∷ st) g k = complete-reads st g.1 _
complete-reads (TheNames ∷ st) g k = complete-reads st g.1 _
complete-reads (TheList ∷ st) g k = complete-reads st g.1 _
complete-reads (TheSomeNames ∷ st) g k = complete-reads st g.1 _
complete-reads (TheParenName ∷ st) g k = complete-reads st g.1 _
complete-reads (TheElement ∷ st) g k = by _ _ (MoreProd-end (complete st) _ _ g.0.1.1.1.1.0 ∙ MoreSum-end (complete st) _ _ g.0.1.1.1.0 ∙ MoreCmp-end (complete st) _ _ g.0.1.1.0 ∙ MoreAnd-end (complete st) _ _ g.0.1.0 ∙ MoreOr-end (complete st) _ _ g.0.0) (complete-reads st g.1 _)
complete-reads (MoreElements ∷ st) g k = by _ _ (MoreElements-end (complete st) _ _ g.0.0) (complete-reads st g.1 _)
complete-reads (InElements ∷ st) g k = complete-reads st g.1 _
complete-reads (TheElements ∷ st) g k = complete-reads st g.1 _
complete-reads (TheSomeElements ∷ st) g k = complete-reads st g.1 _
complete-reads (TheTuple ∷ st) g k = complete-reads st g.1 _
complete-reads (MoreTuples ∷ st) g k = by _ _ (MoreTuples-end (complete st) _ _ g.0) (complete-reads st g.1 _)
complete-reads (InTuples ∷ st) g k = complete-reads st g.1 _
complete-reads (TheTuples ∷ st) g k = complete-reads st g.1 _
complete-reads (TheLiteral ∷ st) g k = complete-reads st g.1 _
complete-reads (AfterRelation ∷ st) g k = complete-reads st g.1 _
complete-reads (TheSetItem ∷ st) g k = by _ _ (MoreProd-end (complete st) _ _ g.0.1.1.1.1.0 ∙ MoreSum-end (complete st) _ _ g.0.1.1.1.0 ∙ MoreCmp-end (complete st) _ _ g.0.1.1.0 ∙ MoreAnd-end (complete st) _ _ g.0.1.0 ∙ MoreOr-end (complete st) _ _ g.0.0) (complete-reads st g.1 _)
complete-reads (MoreSetItems ∷ st) g k = by _ _ (MoreSetItems-end (complete st) _ _ g.0.0) (complete-reads st g.1 _)
complete-reads (TheSets ∷ st) g k = complete-reads st g.1 _
complete-reads (EmptyParens ∷ st) g k = complete-reads st g.1 _
complete-reads (TheAggregateForm ∷ st) g k = complete-reads st g.1 _
complete-reads (TheAggregate ∷ st) g k = complete-reads st g.1 _
complete-reads (MoreAggregates ∷ st) g k = by _ _ (MoreAggregates-end (complete st) _ _ g.0) (complete-reads st g.1 _)
complete-reads (TheAggregates ∷ st) g k = complete-reads st g.1 _
complete-reads (TheRenaming ∷ st) g k = complete-reads st g.1 _
complete-reads (MoreRenamings ∷ st) g k = by _ _ (MoreRenamings-end (complete st) _ _ g.0) (complete-reads st g.1 _)
complete-reads (TheRenamings ∷ st) g k = complete-reads st g.1 _
complete-reads (ThePortion ∷ st) g k = complete-reads st g.1 _
complete-reads (MaybePortion ∷ st) g k = by _ _ (MaybePortion-end (complete st) _ _ g.0) (complete-reads st g.1 _)
complete-reads (MaybeWhere ∷ st) g k = by _ _ (MaybeWhere-end (complete st) _ _ g.0.0) (complete-reads st g.1 _)
complete-reads (InProjection ∷ st) g k = complete-reads st g.1 _
complete-reads (TheOperand ∷ st) g k = complete-reads st g.1 _
complete-reads (TheExtend ∷ st) g k = complete-reads st g.1 _
complete-reads (TheSummarize ∷ st) g k = complete-reads st g.1 _
complete-reads (TheRelPrimary ∷ st) g k = complete-reads st g.1 _
complete-reads (TheTerm ∷ st) g k = by _ _ (MorePostfix-end (complete st) _ _ g.0.0) (complete-reads st g.1 _)
complete-reads (MorePostfix ∷ st) g k = by _ _ (MorePostfix-end (complete st) _ _ g.0.0) (complete-reads st g.1 _)
complete-reads (TheTerms ∷ st) g k = by _ _ (MorePostfix-end (complete st) _ _ g.0.1.0 ∙ MoreInfix-end (complete st) _ _ g.0.0) (complete-reads st g.1 _)
complete-reads (MoreInfix ∷ st) g k = by _ _ (MoreInfix-end (complete st) _ _ g.0.0) (complete-reads st g.1 _)
complete-reads (TheUsing ∷ st) g k = complete-reads st g.1 _
complete-reads (TheRel ∷ st) g k = by _ _ (MorePostfix-end (complete st) _ _ g.0.1.0 ∙ MoreInfix-end (complete st) _ _ g.0.0) (complete-reads st g.1 _)
complete-reads (TheUsingPart ∷ st) g k = complete-reads st g.1 _
complete-reads (AfterOperand ∷ st) g k = complete-reads st g.1 _
complete-reads (TheKey ∷ st) g k = complete-reads st g.1 _
complete-reads (TheForeign ∷ st) g k = complete-reads st g.1 _
complete-reads (TheUsedConstraint ∷ st) g k = complete-reads st g.1 _
complete-reads (TheConstraint ∷ st) g k = complete-reads st g.1 _
complete-reads (MoreConstraints ∷ st) g k = by _ _ (MoreConstraints-end (complete st) _ _ g.0) (complete-reads st g.1 _)
complete-reads (InRel ∷ st) g k = complete-reads st g.1 _
complete-reads (TheKept ∷ st) g k = complete-reads st g.1 _
complete-reads (AfterKept ∷ st) g k = complete-reads st g.1 _
complete-reads (InKept ∷ st) g k = complete-reads st g.1 _
complete-reads (TheVarForm ∷ st) g k = by _ _ (MoreConstraints-end (complete st) _ _ g.0) (complete-reads st g.1 _)
complete-reads (TheComparison ∷ st) g k = complete-reads st g.1 _
complete-reads (AfterLeft ∷ st) g k = complete-reads st g.1 _
complete-reads (TheTest ∷ st) g k = complete-reads st g.1 _
complete-reads (TheUsedDeletion ∷ st) g k = by _ _ (MorePostfix-end (complete st) _ _ g.0.1.0 ∙ MoreInfix-end (complete st) _ _ g.0.0) (complete-reads st g.1 _)
complete-reads (TheUsedItem ∷ st) g k = by _ _ (MorePostfix-end (complete st) _ _ g.0.1.0 ∙ MoreInfix-end (complete st) _ _ g.0.0) (complete-reads st g.1 _)
complete-reads (TheDeletion ∷ st) g k = by _ _ (MorePostfix-end (complete st) _ _ g.0.1.1.0 ∙ MoreInfix-end (complete st) _ _ g.0.1.0) (complete-reads st g.1 _)
complete-reads (TheItem ∷ st) g k = by _ _ (MorePostfix-end (complete st) _ _ g.0.1.1.0 ∙ MoreInfix-end (complete st) _ _ g.0.1.0) (complete-reads st g.1 _)
complete-reads (MoreItems ∷ st) g k = by _ _ (MoreItems-end (complete st) _ _ g.0.0) (complete-reads st g.1 _)
complete-reads (TheAssign ∷ st) g k = by _ _ (MorePostfix-end (complete st) _ _ g.0.1.1.1.0 ∙ MoreInfix-end (complete st) _ _ g.0.1.1.0 ∙ MoreItems-end (complete st) _ _ g.0.0) (complete-reads st g.1 _)
complete-reads (TheStatement ∷ st) g k = complete-reads st g.1 _
complete-reads (AfterDrop ∷ st) g k = complete-reads st g.1 _
complete-reads (AfterLog ∷ st) g k = complete-reads st g.1 _
complete-reads (Just wanted ∷ st) g k = by _ _ (just-self wanted (first (complete st)) (place_of []) (spelling wanted) (read (complete st)) st k) (complete-reads st g.1 _)
complete-reads (Worded w ∷ st) g k = by _ _ (worded-self w (first (complete st)) (place_of []) (read (complete st)) st k) (complete-reads st g.1 _)
complete-reads (Shut outer ∷ st) g k = by _ _ (shut-end (complete st) outer st k) (complete-reads st g.1 _)

-- and that with tokens
pub complete-tokens : (stack : List Symbol) → Good stack → AreTokens (complete stack)
complete-tokens [] g = tt
complete-tokens (TheName ∷ st) g = (refl, complete-tokens st g.1)
complete-tokens (Comma ∷ st) g = (refl, complete-tokens st g.1)
complete-tokens (DateText ∷ st) g = (refl, complete-tokens st g.1)
complete-tokens (MomentText ∷ st) g = (refl, complete-tokens st g.1)
complete-tokens (NegativeDigits ∷ st) g = (refl, complete-tokens st g.1)
complete-tokens (ThePrimary ∷ st) g = (refl, complete-tokens st g.1)
complete-tokens (AfterName ∷ st) g = complete-tokens st g.1
complete-tokens (AfterScalar ∷ st) g = (refl, complete-tokens st g.1)
complete-tokens (EndOfSelector ∷ st) g = (refl, complete-tokens st g.1)
complete-tokens (InParens ∷ st) g = (refl, (refl, (refl, complete-tokens st g.1)))
complete-tokens (InPair ∷ st) g = (refl, (refl, (refl, (refl, (refl, complete-tokens st g.1)))))
complete-tokens (InPoint ∷ st) g = (refl, (refl, (refl, complete-tokens st g.1)))
complete-tokens (TheSign ∷ st) g = (refl, complete-tokens st g.1)
complete-tokens (TheProd ∷ st) g = (refl, complete-tokens st g.1)
complete-tokens (MoreProd ∷ st) g = complete-tokens st g.1
complete-tokens (TheSum ∷ st) g = (refl, complete-tokens st g.1)
complete-tokens (MoreSum ∷ st) g = complete-tokens st g.1
complete-tokens (TheCmp ∷ st) g = (refl, complete-tokens st g.1)
complete-tokens (MoreCmp ∷ st) g = complete-tokens st g.1
complete-tokens (TheNeg ∷ st) g = (refl, complete-tokens st g.1)
complete-tokens (TheConj ∷ st) g = (refl, complete-tokens st g.1)
complete-tokens (MoreAnd ∷ st) g = complete-tokens st g.1
complete-tokens (TheScalar ∷ st) g = (refl, complete-tokens st g.1)
complete-tokens (MoreOr ∷ st) g = complete-tokens st g.1
complete-tokens (ThePoint ∷ st) g = (refl, complete-tokens st g.1)
complete-tokens (TheKind ∷ st) g = (refl, complete-tokens st g.1)
complete-tokens (TheAttribute ∷ st) g = (refl, (refl, complete-tokens st g.1))
complete-tokens (MoreAttributes ∷ st) g = complete-tokens st g.1
complete-tokens (InHeading ∷ st) g = (refl, complete-tokens st g.1)
complete-tokens (TheHeading ∷ st) g = (refl, (refl, complete-tokens st g.1))
complete-tokens (MoreNames ∷ st) g = complete-tokens st g.1
complete-tokens (InNames ∷ st) g = (refl, complete-tokens st g.1)
complete-tokens (InList ∷ st) g = (refl, complete-tokens st g.1)
complete-tokens (TheNames ∷ st) g = (refl, (refl, complete-tokens st g.1))
complete-tokens (TheList ∷ st) g = (refl, (refl, complete-tokens st g.1))
complete-tokens (TheSomeNames ∷ st) g = (refl, (refl, (refl, complete-tokens st g.1)))
complete-tokens (TheParenName ∷ st) g = (refl, (refl, (refl, complete-tokens st g.1)))
complete-tokens (TheElement ∷ st) g = (refl, (refl, complete-tokens st g.1))
complete-tokens (MoreElements ∷ st) g = complete-tokens st g.1
complete-tokens (InElements ∷ st) g = (refl, complete-tokens st g.1)
complete-tokens (TheElements ∷ st) g = (refl, (refl, complete-tokens st g.1))
complete-tokens (TheSomeElements ∷ st) g = (refl, (refl, (refl, (refl, complete-tokens st g.1))))
complete-tokens (TheTuple ∷ st) g = (refl, (refl, (refl, complete-tokens st g.1)))
complete-tokens (MoreTuples ∷ st) g = complete-tokens st g.1
complete-tokens (InTuples ∷ st) g = (refl, complete-tokens st g.1)
complete-tokens (TheTuples ∷ st) g = (refl, (refl, complete-tokens st g.1))
complete-tokens (TheLiteral ∷ st) g = (refl, (refl, (refl, (refl, (refl, complete-tokens st g.1)))))
complete-tokens (AfterRelation ∷ st) g = (refl, (refl, (refl, (refl, complete-tokens st g.1))))
complete-tokens (TheSetItem ∷ st) g = (refl, (refl, (refl, complete-tokens st g.1)))
complete-tokens (MoreSetItems ∷ st) g = complete-tokens st g.1
complete-tokens (TheSets ∷ st) g = (refl, (refl, (refl, (refl, (refl, complete-tokens st g.1)))))
complete-tokens (EmptyParens ∷ st) g = (refl, (refl, complete-tokens st g.1))
complete-tokens (TheAggregateForm ∷ st) g = (refl, (refl, (refl, complete-tokens st g.1)))
complete-tokens (TheAggregate ∷ st) g = (refl, (refl, (refl, (refl, (refl, complete-tokens st g.1)))))
complete-tokens (MoreAggregates ∷ st) g = complete-tokens st g.1
complete-tokens (TheAggregates ∷ st) g = (refl, (refl, (refl, (refl, (refl, (refl, (refl, complete-tokens st g.1)))))))
complete-tokens (TheRenaming ∷ st) g = (refl, (refl, (refl, complete-tokens st g.1)))
complete-tokens (MoreRenamings ∷ st) g = complete-tokens st g.1
complete-tokens (TheRenamings ∷ st) g = (refl, (refl, (refl, (refl, (refl, complete-tokens st g.1)))))
complete-tokens (ThePortion ∷ st) g = (refl, (refl, (refl, (refl, (refl, complete-tokens st g.1)))))
complete-tokens (MaybePortion ∷ st) g = complete-tokens st g.1
complete-tokens (MaybeWhere ∷ st) g = complete-tokens st g.1
complete-tokens (InProjection ∷ st) g = (refl, complete-tokens st g.1)
complete-tokens (TheOperand ∷ st) g = (refl, complete-tokens st g.1)
complete-tokens (TheExtend ∷ st) g = (refl, (refl, (refl, (refl, (refl, (refl, (refl, (refl, complete-tokens st g.1))))))))
complete-tokens (TheSummarize ∷ st) g = (refl, (refl, (refl, (refl, (refl, (refl, (refl, (refl, (refl, (refl, (refl, (refl, (refl, complete-tokens st g.1)))))))))))))
complete-tokens (TheRelPrimary ∷ st) g = (refl, complete-tokens st g.1)
complete-tokens (TheTerm ∷ st) g = (refl, complete-tokens st g.1)
complete-tokens (MorePostfix ∷ st) g = complete-tokens st g.1
complete-tokens (TheTerms ∷ st) g = (refl, complete-tokens st g.1)
complete-tokens (MoreInfix ∷ st) g = complete-tokens st g.1
complete-tokens (TheUsing ∷ st) g = (refl, (refl, (refl, (refl, (refl, (refl, (refl, complete-tokens st g.1)))))))
complete-tokens (TheRel ∷ st) g = (refl, complete-tokens st g.1)
complete-tokens (TheUsingPart ∷ st) g = (refl, (refl, (refl, complete-tokens st g.1)))
complete-tokens (AfterOperand ∷ st) g = (refl, (refl, complete-tokens st g.1))
complete-tokens (TheKey ∷ st) g = (refl, (refl, (refl, complete-tokens st g.1)))
complete-tokens (TheForeign ∷ st) g = (refl, (refl, (refl, (refl, (refl, (refl, complete-tokens st g.1))))))
complete-tokens (TheUsedConstraint ∷ st) g = (refl, (refl, (refl, complete-tokens st g.1)))
complete-tokens (TheConstraint ∷ st) g = (refl, (refl, (refl, complete-tokens st g.1)))
complete-tokens (MoreConstraints ∷ st) g = complete-tokens st g.1
complete-tokens (InRel ∷ st) g = (refl, (refl, (refl, complete-tokens st g.1)))
complete-tokens (TheKept ∷ st) g = (refl, (refl, (refl, (refl, (refl, complete-tokens st g.1)))))
complete-tokens (AfterKept ∷ st) g = (refl, (refl, complete-tokens st g.1))
complete-tokens (InKept ∷ st) g = (refl, (refl, (refl, (refl, (refl, (refl, (refl, complete-tokens st g.1)))))))
complete-tokens (TheVarForm ∷ st) g = (refl, (refl, (refl, complete-tokens st g.1)))
complete-tokens (TheComparison ∷ st) g = (refl, (refl, (refl, complete-tokens st g.1)))
complete-tokens (AfterLeft ∷ st) g = (refl, (refl, complete-tokens st g.1))
complete-tokens (TheTest ∷ st) g = (refl, (refl, (refl, complete-tokens st g.1)))
complete-tokens (TheUsedDeletion ∷ st) g = (refl, complete-tokens st g.1)
complete-tokens (TheUsedItem ∷ st) g = (refl, (refl, (refl, complete-tokens st g.1)))
complete-tokens (TheDeletion ∷ st) g = (refl, complete-tokens st g.1)
complete-tokens (TheItem ∷ st) g = (refl, (refl, (refl, complete-tokens st g.1)))
complete-tokens (MoreItems ∷ st) g = complete-tokens st g.1
complete-tokens (TheAssign ∷ st) g = (refl, (refl, (refl, complete-tokens st g.1)))
complete-tokens (TheStatement ∷ st) g = (refl, complete-tokens st g.1)
complete-tokens (AfterDrop ∷ st) g = (refl, (refl, (refl, complete-tokens st g.1)))
complete-tokens (AfterLog ∷ st) g = (refl, (refl, (refl, complete-tokens st g.1)))
complete-tokens (Just wanted ∷ st) g = (g.0, complete-tokens st g.1)
complete-tokens (Worded w ∷ st) g = (g.0, complete-tokens st g.1)
complete-tokens (Shut outer ∷ st) g = complete-tokens st g.1
