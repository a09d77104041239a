-- Written by tools/grammar; change it there.
-- The verdict without limits, and what the table reads.
use Rattle.std.proofs.Common.{◌≡◌, ℕ, List, [], ◌∷◌, ◌++◌, Bool, true, false, cond, Option, Some, None, refl, sym, ◌∙◌, ap, subst, append_assoc}
use Rattle.utd_syntax.specs.declared.terminal.Terminal.{Terminal}
use Rattle.utd_syntax.specs.declared.terminal.Terminal.TheVariants as t
use Rattle.utd_syntax.specs.Pieces.{Piece, first, place_of}
use Rattle.utd_syntax.specs.Plain.{StatementP}
use Rattle.utd_syntax.specs.Written.{Spells, of_statement}
use Rattle.utd_syntax.specs.Table.{Load, Symbol, TheName, Comma, DateText, MomentText, NegativeDigits, ThePrimary, AfterName, AfterScalar, EndOfSelector, InParens, InPair, InPoint, TheSign, TheProd, MoreProd, TheSum, MoreSum, TheCmp, MoreCmp, TheNeg, TheConj, MoreAnd, TheScalar, MoreOr, ThePoint, TheKind, TheAttribute, MoreAttributes, InHeading, TheHeading, MoreNames, InNames, InList, TheNames, TheList, TheSomeNames, TheParenName, TheElement, MoreElements, InElements, TheElements, TheSomeElements, TheTuple, MoreTuples, InTuples, TheTuples, TheLiteral, AfterRelation, TheSetItem, MoreSetItems, TheSets, EmptyParens, TheAggregateForm, TheAggregate, MoreAggregates, TheAggregates, TheRenaming, MoreRenamings, TheRenamings, ThePortion, MaybePortion, MaybeWhere, InProjection, TheOperand, TheExtend, TheSummarize, TheRelPrimary, TheTerm, MorePostfix, TheTerms, MoreInfix, TheUsing, TheRel, TheUsingPart, AfterOperand, TheKey, TheForeign, TheUsedConstraint, TheConstraint, MoreConstraints, InRel, TheKept, AfterKept, InKept, TheVarForm, TheComparison, AfterLeft, TheTest, TheUsedDeletion, TheUsedItem, TheDeletion, TheItem, MoreItems, TheAssign, TheStatement, AfterDrop, AfterLog, Just, Worded, Shut, Taking, Plain, Operator, Separator, Negated, Dated, Timed, Opens, OperatorOpens, Turn, Never, Ends, Takes, Row, on, spelt, before, rows, may_end, same, fits, chosen, find, turn}
use Rattle.utd_syntax.proofs.Reader.{Built, Go, build, on_turn, read_at, on_end, read_end, read}
use Rattle.utd_syntax.proofs.FormValues.{inner}
use Rattle.utd_syntax.specs.Verdict.{Verdict, Whole, no_limits, verdict, reach, taken, ended, at_form, Reach, counted, stack_after, load_after}
use Rattle.utd_syntax.proofs.Complete.{statement-reads}

-- the stack without the ends of levels
abbrev pub bare : List Symbol → List Symbol
bare [] = []
bare (Shut outer ∷ stack) = bare stack
bare (s ∷ stack) = s ∷ bare stack

pub bare-append : (a b : List Symbol) → bare (a ++ b) ≡ bare a ++ bare b
bare-append [] b = refl
bare-append (Shut outer ∷ a) b = bare-append a b
bare-append (s ∷ a) b = ap (λ x. s ∷ x) (bare-append a b)

-- the forms that a turn asks for
abbrev pub row : Turn → List Symbol
row (Takes how more) = inner how ++ more
row _ = []

-- no row holds the end of a level
abbrev IsBare : List Symbol → Type 0
IsBare xs = bare xs ≡ xs

abbrev BareRow : Row → Type 0
BareRow (on x how more) = IsBare (inner how ++ more)
BareRow (spelt c more) = IsBare more
BareRow (before x y how more how' more') = IsBare (inner how ++ more) × IsBare (inner how' ++ more')

abbrev BareRows : List Row → Type 0
BareRows [] = Unit {0}
BareRows (r ∷ rs) = BareRow r × BareRows rs

bare-rows : (s : Symbol) → BareRows (rows s)
bare-rows TheName = (refl, tt)
bare-rows Comma = (refl, tt)
bare-rows DateText = (refl, tt)
bare-rows MomentText = (refl, tt)
bare-rows NegativeDigits = (refl, tt)
bare-rows ThePrimary = (refl, (refl, (refl, (refl, (refl, (refl, (refl, (refl, (refl, (refl, (refl, (refl, (refl, (refl, (refl, (refl, (refl, (refl, (refl, (refl, (refl, tt)))))))))))))))))))))
bare-rows AfterName = (refl, tt)
bare-rows AfterScalar = (refl, (refl, tt))
bare-rows EndOfSelector = (refl, (refl, tt))
bare-rows InParens = (refl, tt)
bare-rows InPair = (refl, tt)
bare-rows InPoint = (refl, tt)
bare-rows TheSign = ((refl, refl), (refl, (refl, (refl, (refl, (refl, (refl, (refl, (refl, (refl, (refl, (refl, (refl, (refl, (refl, (refl, (refl, (refl, (refl, (refl, (refl, (refl, tt))))))))))))))))))))))
bare-rows TheProd = ((refl, refl), (refl, (refl, (refl, (refl, (refl, (refl, (refl, (refl, (refl, (refl, (refl, (refl, (refl, (refl, (refl, (refl, (refl, (refl, (refl, (refl, (refl, tt))))))))))))))))))))))
bare-rows MoreProd = (refl, (refl, tt))
bare-rows TheSum = ((refl, refl), (refl, (refl, (refl, (refl, (refl, (refl, (refl, (refl, (refl, (refl, (refl, (refl, (refl, (refl, (refl, (refl, (refl, (refl, (refl, (refl, (refl, tt))))))))))))))))))))))
bare-rows MoreSum = (refl, (refl, (refl, tt)))
bare-rows TheCmp = ((refl, refl), (refl, (refl, (refl, (refl, (refl, (refl, (refl, (refl, (refl, (refl, (refl, (refl, (refl, (refl, (refl, (refl, (refl, (refl, (refl, (refl, (refl, tt))))))))))))))))))))))
bare-rows MoreCmp = (refl, (refl, (refl, (refl, (refl, (refl, (refl, (refl, (refl, (refl, (refl, (refl, (refl, (refl, (refl, (refl, tt))))))))))))))))
bare-rows TheNeg = (refl, ((refl, refl), (refl, (refl, (refl, (refl, (refl, (refl, (refl, (refl, (refl, (refl, (refl, (refl, (refl, (refl, (refl, (refl, (refl, (refl, (refl, (refl, (refl, tt)))))))))))))))))))))))
bare-rows TheConj = (refl, ((refl, refl), (refl, (refl, (refl, (refl, (refl, (refl, (refl, (refl, (refl, (refl, (refl, (refl, (refl, (refl, (refl, (refl, (refl, (refl, (refl, (refl, (refl, tt)))))))))))))))))))))))
bare-rows MoreAnd = (refl, tt)
bare-rows TheScalar = (refl, ((refl, refl), (refl, (refl, (refl, (refl, (refl, (refl, (refl, (refl, (refl, (refl, (refl, (refl, (refl, (refl, (refl, (refl, (refl, (refl, (refl, (refl, (refl, tt)))))))))))))))))))))))
bare-rows MoreOr = (refl, tt)
bare-rows ThePoint = (refl, (refl, (refl, (refl, tt))))
bare-rows TheKind = (refl, (refl, (refl, (refl, (refl, (refl, (refl, tt)))))))
bare-rows TheAttribute = (refl, tt)
bare-rows MoreAttributes = (refl, tt)
bare-rows InHeading = (refl, (refl, tt))
bare-rows TheHeading = (refl, tt)
bare-rows MoreNames = (refl, tt)
bare-rows InNames = (refl, (refl, tt))
bare-rows InList = (refl, (refl, tt))
bare-rows TheNames = (refl, tt)
bare-rows TheList = (refl, tt)
bare-rows TheSomeNames = (refl, tt)
bare-rows TheParenName = (refl, tt)
bare-rows TheElement = (refl, tt)
bare-rows MoreElements = (refl, tt)
bare-rows InElements = (refl, (refl, tt))
bare-rows TheElements = (refl, tt)
bare-rows TheSomeElements = (refl, tt)
bare-rows TheTuple = (refl, tt)
bare-rows MoreTuples = (refl, tt)
bare-rows InTuples = (refl, (refl, tt))
bare-rows TheTuples = (refl, tt)
bare-rows TheLiteral = (refl, tt)
bare-rows AfterRelation = ((refl, refl), tt)
bare-rows TheSetItem = (refl, tt)
bare-rows MoreSetItems = (refl, tt)
bare-rows TheSets = (refl, tt)
bare-rows EmptyParens = (refl, tt)
bare-rows TheAggregateForm = (refl, (refl, (refl, (refl, tt))))
bare-rows TheAggregate = (refl, tt)
bare-rows MoreAggregates = (refl, tt)
bare-rows TheAggregates = (refl, tt)
bare-rows TheRenaming = (refl, tt)
bare-rows MoreRenamings = (refl, tt)
bare-rows TheRenamings = (refl, tt)
bare-rows ThePortion = (refl, tt)
bare-rows MaybePortion = (refl, tt)
bare-rows MaybeWhere = (refl, tt)
bare-rows InProjection = (refl, (refl, (refl, tt)))
bare-rows TheOperand = (refl, (refl, (refl, (refl, (refl, tt)))))
bare-rows TheExtend = (refl, tt)
bare-rows TheSummarize = (refl, tt)
bare-rows TheRelPrimary = (refl, (refl, (refl, (refl, (refl, (refl, (refl, tt)))))))
bare-rows TheTerm = (refl, (refl, (refl, (refl, (refl, (refl, (refl, tt)))))))
bare-rows MorePostfix = (refl, (refl, (refl, tt)))
bare-rows TheTerms = (refl, (refl, (refl, (refl, (refl, (refl, (refl, tt)))))))
bare-rows MoreInfix = (refl, (refl, (refl, (refl, (refl, (refl, tt))))))
bare-rows TheUsing = (refl, tt)
bare-rows TheRel = (refl, (refl, (refl, (refl, (refl, (refl, (refl, (refl, tt))))))))
bare-rows TheUsingPart = (refl, (refl, (refl, (refl, (refl, (refl, (refl, tt)))))))
bare-rows AfterOperand = (refl, (refl, (refl, (refl, (refl, (refl, (refl, (refl, tt))))))))
bare-rows TheKey = (refl, tt)
bare-rows TheForeign = (refl, tt)
bare-rows TheUsedConstraint = (refl, (refl, tt))
bare-rows TheConstraint = (refl, (refl, (refl, (refl, (refl, tt)))))
bare-rows MoreConstraints = (refl, (refl, (refl, (refl, (refl, tt)))))
bare-rows InRel = (refl, tt)
bare-rows TheKept = (refl, (refl, tt))
bare-rows AfterKept = (refl, (refl, (refl, (refl, (refl, (refl, (refl, tt)))))))
bare-rows InKept = (refl, tt)
bare-rows TheVarForm = (refl, (refl, (refl, tt)))
bare-rows TheComparison = (refl, (refl, (refl, (refl, (refl, tt)))))
bare-rows AfterLeft = (refl, (refl, (refl, (refl, (refl, (refl, tt))))))
bare-rows TheTest = (refl, (refl, (refl, (refl, (refl, (refl, (refl, (refl, tt))))))))
bare-rows TheUsedDeletion = (refl, (refl, (refl, (refl, (refl, (refl, (refl, (refl, (refl, tt)))))))))
bare-rows TheUsedItem = (refl, (refl, (refl, tt)))
bare-rows TheDeletion = (refl, (refl, (refl, (refl, (refl, (refl, (refl, (refl, (refl, (refl, tt))))))))))
bare-rows TheItem = (refl, (refl, (refl, (refl, (refl, (refl, tt))))))
bare-rows MoreItems = (refl, tt)
bare-rows TheAssign = (refl, (refl, (refl, (refl, (refl, (refl, tt))))))
bare-rows TheStatement = (refl, (refl, (refl, (refl, (refl, (refl, (refl, (refl, (refl, (refl, (refl, (refl, (refl, (refl, (refl, tt)))))))))))))))
bare-rows AfterDrop = (refl, (refl, tt))
bare-rows AfterLog = (refl, (refl, tt))
bare-rows (Just x) = (refl, tt)
bare-rows (Worded w) = (refl, tt)
bare-rows (Shut outer) = tt

bare-case : (c : Bool) (how how' : Taking) (more more' : List Symbol) → IsBare (inner how ++ more) → IsBare (inner how' ++ more') → bare (row (cond c (Takes how more) (Takes how' more'))) ≡ row (cond c (Takes how more) (Takes how' more'))
bare-case true how how' more more' h g = h
bare-case false how how' more more' h g = g

bare-chosen : (r : Row) (n : Terminal) → BareRow r → bare (row (chosen r n)) ≡ row (chosen r n)
bare-chosen (on x how more) n h = h
bare-chosen (spelt c more) n h = h
bare-chosen (before x y how more how' more') n h = bare-case (same y n) how how' more more' h.0 h.1

bare-pick : (c : Bool) (r r' : Turn) → bare (row r) ≡ row r → bare (row r') ≡ row r' → bare (row (cond c r r')) ≡ row (cond c r r')
bare-pick true r r' h g = h
bare-pick false r r' h g = g

bare-find : (rs : List Row) (e : Bool) (x : Terminal) (b : List ℕ) (n : Terminal) → BareRows rs → bare (row (find rs e x b n)) ≡ row (find rs e x b n)
bare-find [] true x b n h = refl
bare-find [] false x b n h = refl
bare-find (r ∷ rs) e x b n h = bare-pick (fits r x b) (chosen r n) (find rs e x b n) (bare-chosen r n h.0) (bare-find rs e x b n h.1)

pub plain : (s : Symbol) (x : Terminal) (b : List ℕ) (n : Terminal) → bare (row (turn s x b n)) ≡ row (turn s x b n)
plain s x b n = bare-find (rows s) (may_end s) x b n (bare-rows s)

pub bare-after : (how : Taking) (load : Load) (more stack : List Symbol) → bare (inner how ++ more) ≡ inner how ++ more → bare (stack_after how load (more ++ stack)) ≡ (inner how ++ more) ++ bare stack
bare-after Plain load more stack h = bare-append more stack ∙ ap (λ x. x ++ bare stack) h
bare-after Negated load more stack h = bare-append more stack ∙ ap (λ x. x ++ bare stack) h
bare-after Dated load more stack h = bare-append more stack ∙ ap (λ x. x ++ bare stack) h
bare-after Timed load more stack h = bare-append more stack ∙ ap (λ x. x ++ bare stack) h
bare-after Operator load more stack h = bare-append more stack ∙ ap (λ x. x ++ bare stack) h
bare-after Separator load more stack h = bare-append more stack ∙ ap (λ x. x ++ bare stack) h
bare-after (Opens f) load more stack h = bare-append f (Shut load ∷ (more ++ stack)) ∙ ap (λ x. bare f ++ x) (bare-append more stack) ∙ sym (append_assoc (bare f) (bare more) (bare stack)) ∙ ap (λ x. x ++ bare stack) (sym (bare-append f more) ∙ h)
bare-after (OperatorOpens f) load more stack h = bare-append f (Shut (counted load) ∷ (more ++ stack)) ∙ ap (λ x. bare f ++ x) (bare-append more stack) ∙ sym (append_assoc (bare f) (bare more) (bare stack)) ∙ ap (λ x. x ++ bare stack) (sym (bare-append f more) ∙ h)

-- the table reads something exactly where the verdict is that the text is whole
abbrev pub Agree : Option StatementP → Verdict → Type 0
Agree (Some x) v = v ≡ Whole
Agree None v = v ≡ Whole → ⊥

end-step : (s : Symbol) (r : Turn) (v : Built s r) (stack : List Symbol) (load : Load) (k : Go (s ∷ bare stack)) → ((h : Go (bare stack)) → Agree (read_end (bare stack) h) (ended (reach stack load t.Finish [] t.Finish))) → Agree (on_end s r v (bare stack) (read_end (bare stack)) k) (ended (at_form r stack load (reach stack load t.Finish [] t.Finish)))
end-step s Never v stack load k ih = λ e. cc
end-step s Ends v stack load k ih = ih _
end-step s (Takes how more) v stack load k ih = λ e. cc

pub agrees-end : (stack : List Symbol) (load : Load) (k : Go (bare stack)) → Agree (read_end (bare stack) k) (ended (reach stack load t.Finish [] t.Finish))
unfolding reach
agrees-end [] load k = refl
agrees-end (Shut outer ∷ stack) load k = agrees-end stack outer k
agrees-end (s ∷ stack) load k = end-step s (turn s t.Finish [] t.Finish) (build s t.Finish [] t.Finish (place_of [])) stack load k (agrees-end stack load)

turn-step : (s : Symbol) (r : Turn) (v : Built s r) → bare (row r) ≡ row r → (x : Piece) (ts : List Piece) → ((stack : List Symbol) (load : Load) (k : Go (bare stack)) → Agree (read ts (bare stack) k) (verdict no_limits ts stack load)) → (stack : List Symbol) (load : Load) (k : Go (s ∷ bare stack)) (beyond : Go (bare stack) → Option StatementP) (reached : Reach) → ((h : Go (bare stack)) → Agree (beyond h) (taken no_limits reached x (verdict no_limits ts))) → Agree (on_turn s r v (bare stack) (read ts) beyond k) (taken no_limits (at_form r stack load reached) x (verdict no_limits ts))
turn-step s Never v plain_row x ts ih stack load k beyond reached h = λ e. cc
turn-step s Ends v plain_row x ts ih stack load k beyond reached h = h _
turn-step s (Takes how more) v plain_row x ts ih stack load k beyond reached h =
    let P : List Symbol → Type 0 = λ xs. (g : Go xs) → Agree (read ts xs g) (verdict no_limits ts (stack_after how load (more ++ stack)) (load_after how load)) in
    subst P (bare-after how load more stack plain_row) (ih (stack_after how load (more ++ stack)) (load_after how load)) _

agrees-at : (x : Piece) (ts : List Piece) → ((stack : List Symbol) (load : Load) (k : Go (bare stack)) → Agree (read ts (bare stack) k) (verdict no_limits ts stack load)) → (stack : List Symbol) (load : Load) (k : Go (bare stack)) → Agree (read_at x.terminal (first ts) x.place x.bytes (read ts) (bare stack) k) (taken no_limits (reach stack load x.terminal x.bytes (first ts)) x (verdict no_limits ts))
unfolding reach
agrees-at x ts ih [] load k = λ e. cc
agrees-at x ts ih (Shut outer ∷ stack) load k = agrees-at x ts ih stack outer k
agrees-at x ts ih (s ∷ stack) load k = turn-step s (turn s x.terminal x.bytes (first ts)) (build s x.terminal x.bytes (first ts) x.place) (plain s x.terminal x.bytes (first ts)) x ts ih stack load k _ _ (agrees-at x ts ih stack load)

pub agrees : (ts : List Piece) (stack : List Symbol) (load : Load) (k : Go (bare stack)) → Agree (read ts (bare stack) k) (verdict no_limits ts stack load)
unfolding verdict
agrees [] stack load k = agrees-end stack load k
agrees (x ∷ ts) stack load k = agrees-at x ts (agrees ts) stack load k

-- the table accepts what a tree writes
pub written-accepted : (x : StatementP) (ts : List Piece) (load : Load) → Spells (of_statement x) ts [] → verdict no_limits ts (TheStatement ∷ []) load ≡ Whole
written-accepted x ts load h = subst (λ r. Agree r (verdict no_limits ts (TheStatement ∷ []) load)) (statement-reads x ts [] h [] (λ v. v.0)) (agrees ts (TheStatement ∷ []) load (λ v. v.0))
