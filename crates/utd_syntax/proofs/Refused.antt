-- Written by tools/grammar; change it there.
-- Each stack that the table reaches can be completed; so E01 is that no statement continues so.
use Rattle.std.proofs.Common.{◌≡◌, ℕ, List, [], ◌∷◌, ◌++◌, Bool, true, false, cond, ◌⊎◌, inl, inr, Option, Some, None, refl, sym, ◌∙◌, ap, subst}
use Rattle.utd_syntax.specs.declared.terminal.Terminal.{Terminal}
use Rattle.utd_syntax.specs.declared.terminal.Terminal.TheVariants as t
use Rattle.point_core.specs.declared.fault.Place.{Place}
use Rattle.point_core.specs.declared.fault.Code.{Code}
use Rattle.point_core.specs.declared.fault.Code.TheVariants.{E01, E05, E06}
use Rattle.utd_syntax.specs.Pieces.{Piece, first, place_of}
use Rattle.utd_syntax.specs.Plain.{StatementP}
use Rattle.utd_syntax.specs.Written.{Spells, of_statement}
use Rattle.utd_syntax.specs.Continues.{Starts, again, NoStatement}
use Rattle.utd_syntax.specs.Terminals.{AreTokens}
use Rattle.utd_syntax.specs.Table.{Load, Symbol, TheName, Comma, DateText, MomentText, NegativeDigits, ThePrimary, AfterName, AfterScalar, EndOfSelector, InParens, InPair, InPoint, TheSign, TheProd, MoreProd, TheSum, MoreSum, TheCmp, MoreCmp, TheNeg, TheConj, MoreAnd, TheScalar, MoreOr, ThePoint, TheKind, TheAttribute, MoreAttributes, InHeading, TheHeading, MoreNames, InNames, InList, TheNames, TheList, TheSomeNames, TheParenName, TheElement, MoreElements, InElements, TheElements, TheSomeElements, TheTuple, MoreTuples, InTuples, TheTuples, TheLiteral, AfterRelation, TheSetItem, MoreSetItems, TheSets, EmptyParens, TheAggregateForm, TheAggregate, MoreAggregates, TheAggregates, TheRenaming, MoreRenamings, TheRenamings, ThePortion, MaybePortion, MaybeWhere, InProjection, TheOperand, TheExtend, TheSummarize, TheRelPrimary, TheTerm, MorePostfix, TheTerms, MoreInfix, TheUsing, TheRel, TheUsingPart, AfterOperand, TheKey, TheForeign, TheUsedConstraint, TheConstraint, MoreConstraints, InRel, TheKept, AfterKept, InKept, TheVarForm, TheComparison, AfterLeft, TheTest, TheUsedDeletion, TheUsedItem, TheDeletion, TheItem, MoreItems, TheAssign, TheStatement, AfterDrop, AfterLog, Just, Worded, Shut, Taking, Turn, Never, Ends, Takes, Row, on, spelt, before, rows, may_end, same, fits, chosen, find, turn}
use Rattle.utd_syntax.specs.Verdict.{Verdict, Whole, Refused, Limits, verdict, reach, taken, ended, at_form, Reach, Over, Stuck, Reaches, stack_after, load_after}
use Rattle.utd_syntax.proofs.FormValues.{inner}
use Rattle.utd_syntax.proofs.Reader.{Built, Go, build, on_turn, read_at, read}
use Rattle.utd_syntax.proofs.Complete.{statement-reads}
use Rattle.utd_syntax.proofs.Accepted.{bare, row, plain, bare-after, Agree, agrees-end}
use Rattle.utd_syntax.proofs.Sound.{SoundAt, sound}
use Rattle.utd_syntax.proofs.Completions.{complete, lead, Good, Reads, by, complete-reads, complete-tokens}
use Rattle.utd_syntax.proofs.GoodStatements.{good-row}

-- what the token behind it changes: never whether a token can stand there
abbrev pub kind : Turn → ℕ
kind Never = 0
kind Ends = 1
kind (Takes how more) = 2

pub is-never : (r : Turn) → kind r ≡ 0 → r ≡ Never
is-never Never e = refl
is-never Ends e = cc
is-never (Takes how more) e = cc

pub is-ends : (r : Turn) → kind r ≡ 1 → r ≡ Ends
is-ends Never e = cc
is-ends Ends e = refl
is-ends (Takes how more) e = cc

pub kind-case : (c : Bool) (how how' : Taking) (more more' : List Symbol) → kind (cond c (Takes how more) (Takes how' more')) ≡ 2
kind-case true how how' more more' = refl
kind-case false how how' more more' = refl

pub kind-chosen : (r : Row) (n : Terminal) → kind (chosen r n) ≡ 2
kind-chosen (on x how more) n = refl
kind-chosen (spelt c more) n = refl
kind-chosen (before x y how more how' more') n = kind-case (same y n) how how' more more'

pub kind-pick : (c : Bool) (r r' q q' : Turn) → kind r ≡ kind q → kind r' ≡ kind q' → kind (cond c r r') ≡ kind (cond c q q')
kind-pick true r r' q q' h g = h
kind-pick false r r' q q' h g = g

pub kind-find : (rs : List Row) (e : Bool) (x : Terminal) (b : List ℕ) (n m : Terminal) → kind (find rs e x b n) ≡ kind (find rs e x b m)
kind-find [] e x b n m = refl
kind-find (r ∷ rs) e x b n m = kind-pick (fits r x b) (chosen r n) (find rs e x b n) (chosen r m) (find rs e x b m) (kind-chosen r n ∙ sym (kind-chosen r m)) (kind-find rs e x b n m)

pub kind-row : (s : Symbol) (x : Terminal) (b : List ℕ) (n m : Terminal) → kind (turn s x b n) ≡ kind (turn s x b m)
kind-row s x b n m = kind-find (rows s) (may_end s) x b n m

-- what a token is taken for holds before the completion of the forms that it asks for
abbrev pub SteadyRow : Row → Type 0
SteadyRow (on x how more) = Unit {0}
SteadyRow (spelt c more) = Unit {0}
SteadyRow (before x y how more how' more') = ((st : List Symbol) → same y (lead ((inner how ++ more) ++ st)) ≡ true) × ((st : List Symbol) → same y (lead ((inner how' ++ more') ++ st)) ≡ false)

abbrev pub SteadyRows : List Row → Type 0
SteadyRows [] = Unit {0}
SteadyRows (r ∷ rs) = SteadyRow r × SteadyRows rs

pub steady-rows : (s : Symbol) → SteadyRows (rows s)
steady-rows TheName = (tt, tt)
steady-rows Comma = (tt, tt)
steady-rows DateText = (tt, tt)
steady-rows MomentText = (tt, tt)
steady-rows NegativeDigits = (tt, tt)
steady-rows ThePrimary = (tt, (tt, (tt, (tt, (tt, (tt, (tt, (tt, (tt, (tt, (tt, (tt, (tt, (tt, (tt, (tt, (tt, (tt, (tt, (tt, (tt, tt)))))))))))))))))))))
steady-rows AfterName = (tt, tt)
steady-rows AfterScalar = (tt, (tt, tt))
steady-rows EndOfSelector = (tt, (tt, tt))
steady-rows InParens = (tt, tt)
steady-rows InPair = (tt, tt)
steady-rows InPoint = (tt, tt)
steady-rows TheSign = (((λ st. refl), (λ st. refl)), (tt, (tt, (tt, (tt, (tt, (tt, (tt, (tt, (tt, (tt, (tt, (tt, (tt, (tt, (tt, (tt, (tt, (tt, (tt, (tt, (tt, tt))))))))))))))))))))))
steady-rows TheProd = (((λ st. refl), (λ st. refl)), (tt, (tt, (tt, (tt, (tt, (tt, (tt, (tt, (tt, (tt, (tt, (tt, (tt, (tt, (tt, (tt, (tt, (tt, (tt, (tt, (tt, tt))))))))))))))))))))))
steady-rows MoreProd = (tt, (tt, tt))
steady-rows TheSum = (((λ st. refl), (λ st. refl)), (tt, (tt, (tt, (tt, (tt, (tt, (tt, (tt, (tt, (tt, (tt, (tt, (tt, (tt, (tt, (tt, (tt, (tt, (tt, (tt, (tt, tt))))))))))))))))))))))
steady-rows MoreSum = (tt, (tt, (tt, tt)))
steady-rows TheCmp = (((λ st. refl), (λ st. refl)), (tt, (tt, (tt, (tt, (tt, (tt, (tt, (tt, (tt, (tt, (tt, (tt, (tt, (tt, (tt, (tt, (tt, (tt, (tt, (tt, (tt, tt))))))))))))))))))))))
steady-rows MoreCmp = (tt, (tt, (tt, (tt, (tt, (tt, (tt, (tt, (tt, (tt, (tt, (tt, (tt, (tt, (tt, (tt, tt))))))))))))))))
steady-rows TheNeg = (tt, (((λ st. refl), (λ st. refl)), (tt, (tt, (tt, (tt, (tt, (tt, (tt, (tt, (tt, (tt, (tt, (tt, (tt, (tt, (tt, (tt, (tt, (tt, (tt, (tt, (tt, tt)))))))))))))))))))))))
steady-rows TheConj = (tt, (((λ st. refl), (λ st. refl)), (tt, (tt, (tt, (tt, (tt, (tt, (tt, (tt, (tt, (tt, (tt, (tt, (tt, (tt, (tt, (tt, (tt, (tt, (tt, (tt, (tt, tt)))))))))))))))))))))))
steady-rows MoreAnd = (tt, tt)
steady-rows TheScalar = (tt, (((λ st. refl), (λ st. refl)), (tt, (tt, (tt, (tt, (tt, (tt, (tt, (tt, (tt, (tt, (tt, (tt, (tt, (tt, (tt, (tt, (tt, (tt, (tt, (tt, (tt, tt)))))))))))))))))))))))
steady-rows MoreOr = (tt, tt)
steady-rows ThePoint = (tt, (tt, (tt, (tt, tt))))
steady-rows TheKind = (tt, (tt, (tt, (tt, (tt, (tt, (tt, tt)))))))
steady-rows TheAttribute = (tt, tt)
steady-rows MoreAttributes = (tt, tt)
steady-rows InHeading = (tt, (tt, tt))
steady-rows TheHeading = (tt, tt)
steady-rows MoreNames = (tt, tt)
steady-rows InNames = (tt, (tt, tt))
steady-rows InList = (tt, (tt, tt))
steady-rows TheNames = (tt, tt)
steady-rows TheList = (tt, tt)
steady-rows TheSomeNames = (tt, tt)
steady-rows TheParenName = (tt, tt)
steady-rows TheElement = (tt, tt)
steady-rows MoreElements = (tt, tt)
steady-rows InElements = (tt, (tt, tt))
steady-rows TheElements = (tt, tt)
steady-rows TheSomeElements = (tt, tt)
steady-rows TheTuple = (tt, tt)
steady-rows MoreTuples = (tt, tt)
steady-rows InTuples = (tt, (tt, tt))
steady-rows TheTuples = (tt, tt)
steady-rows TheLiteral = (tt, tt)
steady-rows AfterRelation = (((λ st. refl), (λ st. refl)), tt)
steady-rows TheSetItem = (tt, tt)
steady-rows MoreSetItems = (tt, tt)
steady-rows TheSets = (tt, tt)
steady-rows EmptyParens = (tt, tt)
steady-rows TheAggregateForm = (tt, (tt, (tt, (tt, tt))))
steady-rows TheAggregate = (tt, tt)
steady-rows MoreAggregates = (tt, tt)
steady-rows TheAggregates = (tt, tt)
steady-rows TheRenaming = (tt, tt)
steady-rows MoreRenamings = (tt, tt)
steady-rows TheRenamings = (tt, tt)
steady-rows ThePortion = (tt, tt)
steady-rows MaybePortion = (tt, tt)
steady-rows MaybeWhere = (tt, tt)
steady-rows InProjection = (tt, (tt, (tt, tt)))
steady-rows TheOperand = (tt, (tt, (tt, (tt, (tt, tt)))))
steady-rows TheExtend = (tt, tt)
steady-rows TheSummarize = (tt, tt)
steady-rows TheRelPrimary = (tt, (tt, (tt, (tt, (tt, (tt, (tt, tt)))))))
steady-rows TheTerm = (tt, (tt, (tt, (tt, (tt, (tt, (tt, tt)))))))
steady-rows MorePostfix = (tt, (tt, (tt, tt)))
steady-rows TheTerms = (tt, (tt, (tt, (tt, (tt, (tt, (tt, tt)))))))
steady-rows MoreInfix = (tt, (tt, (tt, (tt, (tt, (tt, tt))))))
steady-rows TheUsing = (tt, tt)
steady-rows TheRel = (tt, (tt, (tt, (tt, (tt, (tt, (tt, (tt, tt))))))))
steady-rows TheUsingPart = (tt, (tt, (tt, (tt, (tt, (tt, (tt, tt)))))))
steady-rows AfterOperand = (tt, (tt, (tt, (tt, (tt, (tt, (tt, (tt, tt))))))))
steady-rows TheKey = (tt, tt)
steady-rows TheForeign = (tt, tt)
steady-rows TheUsedConstraint = (tt, (tt, tt))
steady-rows TheConstraint = (tt, (tt, (tt, (tt, (tt, tt)))))
steady-rows MoreConstraints = (tt, (tt, (tt, (tt, (tt, tt)))))
steady-rows InRel = (tt, tt)
steady-rows TheKept = (tt, (tt, tt))
steady-rows AfterKept = (tt, (tt, (tt, (tt, (tt, (tt, (tt, tt)))))))
steady-rows InKept = (tt, tt)
steady-rows TheVarForm = (tt, (tt, (tt, tt)))
steady-rows TheComparison = (tt, (tt, (tt, (tt, (tt, tt)))))
steady-rows AfterLeft = (tt, (tt, (tt, (tt, (tt, (tt, tt))))))
steady-rows TheTest = (tt, (tt, (tt, (tt, (tt, (tt, (tt, (tt, tt))))))))
steady-rows TheUsedDeletion = (tt, (tt, (tt, (tt, (tt, (tt, (tt, (tt, (tt, tt)))))))))
steady-rows TheUsedItem = (tt, (tt, (tt, tt)))
steady-rows TheDeletion = (tt, (tt, (tt, (tt, (tt, (tt, (tt, (tt, (tt, (tt, tt))))))))))
steady-rows TheItem = (tt, (tt, (tt, (tt, (tt, (tt, tt))))))
steady-rows MoreItems = (tt, tt)
steady-rows TheAssign = (tt, (tt, (tt, (tt, (tt, (tt, tt))))))
steady-rows TheStatement = (tt, (tt, (tt, (tt, (tt, (tt, (tt, (tt, (tt, (tt, (tt, (tt, (tt, (tt, (tt, tt)))))))))))))))
steady-rows AfterDrop = (tt, (tt, tt))
steady-rows AfterLog = (tt, (tt, tt))
steady-rows (Just x) = (tt, tt)
steady-rows (Worded w) = (tt, tt)
steady-rows (Shut outer) = tt

pub steady-case : (c : Bool) (y : Terminal) (how how' : Taking) (more more' : List Symbol) (st : List Symbol) → same y (lead ((inner how ++ more) ++ st)) ≡ true → same y (lead ((inner how' ++ more') ++ st)) ≡ false → cond (same y (lead (row (cond c (Takes how more) (Takes how' more')) ++ st))) (Takes how more) (Takes how' more') ≡ cond c (Takes how more) (Takes how' more')
steady-case true y how how' more more' st h g = ap (λ z. cond z (Takes how more) (Takes how' more')) h
steady-case false y how how' more more' st h g = ap (λ z. cond z (Takes how more) (Takes how' more')) g

pub steady-chosen : (r : Row) (n : Terminal) (st : List Symbol) → SteadyRow r → chosen r (lead (row (chosen r n) ++ st)) ≡ chosen r n
steady-chosen (on x how more) n st h = refl
steady-chosen (spelt c more) n st h = refl
steady-chosen (before x y how more how' more') n st h = steady-case (same y n) y how how' more more' st (h.0 st) (h.1 st)

pub steady-pick : (c : Bool) (f g : Terminal → Turn) (n : Terminal) (st : List Symbol) → f (lead (row (f n) ++ st)) ≡ f n → g (lead (row (g n) ++ st)) ≡ g n → cond c (f (lead (row (cond c (f n) (g n)) ++ st))) (g (lead (row (cond c (f n) (g n)) ++ st))) ≡ cond c (f n) (g n)
steady-pick true f g n st h k = h
steady-pick false f g n st h k = k

pub steady-find : (rs : List Row) (e : Bool) (x : Terminal) (b : List ℕ) (n : Terminal) (st : List Symbol) → SteadyRows rs → find rs e x b (lead (row (find rs e x b n) ++ st)) ≡ find rs e x b n
steady-find [] e x b n st h = refl
steady-find (r ∷ rs) e x b n st h = steady-pick (fits r x b) (chosen r) (find rs e x b) n st (steady-chosen r n st h.0) (steady-find rs e x b n st h.1)

pub stable-row : (s : Symbol) (x : Terminal) (b : List ℕ) (n : Terminal) (st : List Symbol) → turn s x b (lead (row (turn s x b n) ++ st)) ≡ turn s x b n
stable-row s x b n st = steady-find (rows s) (may_end s) x b n st (steady-rows s)

-- one token on a bare stack
abbrev pub on_stack : Turn → List Symbol → Option (List Symbol) → Option (List Symbol)
on_stack Never st beyond = None
on_stack Ends st beyond = beyond
on_stack (Takes how more) st beyond = Some ((inner how ++ more) ++ st)

abbrev pub step : List Symbol → Terminal → List ℕ → Terminal → Option (List Symbol)
step [] x b n = None
step (s ∷ st) x b n = on_stack (turn s x b n) st (step st x b n)

pub stack_or : List Symbol → Option (List Symbol) → List Symbol
stack_or d None = d
stack_or d (Some st) = st

pub some-inside : (a b : List Symbol) → Some a ≡ Some b → a ≡ b
unfolding stack_or
some-inside a b e = ap (stack_or a) e

pub none-some : (a : List Symbol) → None ≡ Some a → ⊥
none-some a e = cc

-- where the token cannot stand, it cannot whatever comes behind it
pub none-go : (s : Symbol) (x : Terminal) (b : List ℕ) (n m : Terminal) (st : List Symbol) (r : Turn) → turn s x b n ≡ r → (step st x b n ≡ None → step st x b m ≡ None) → on_stack r st (step st x b n) ≡ None → on_stack (turn s x b m) st (step st x b m) ≡ None
none-go s x b n m st Never e ih h = ap (λ q. on_stack q st (step st x b m)) (is-never (turn s x b m) (kind-row s x b m n ∙ ap kind e))
none-go s x b n m st Ends e ih h = ap (λ q. on_stack q st (step st x b m)) (is-ends (turn s x b m) (kind-row s x b m n ∙ ap kind e)) ∙ ih h
none-go s x b n m st (Takes how more) e ih h = absurd (none-some _ (sym h))

pub step-none : (st : List Symbol) (x : Terminal) (b : List ℕ) (n m : Terminal) → step st x b n ≡ None → step st x b m ≡ None
step-none [] x b n m h = refl
step-none (s ∷ st) x b n m h = none-go s x b n m st (turn s x b n) refl (step-none st x b n m) h

-- the token stays taken so before a completion
pub stable-go : (s : Symbol) (x : Terminal) (b : List ℕ) (n : Terminal) (st st' : List Symbol) (r : Turn) → turn s x b n ≡ r → (step st x b n ≡ Some st' → step st x b (lead st') ≡ Some st') → on_stack r st (step st x b n) ≡ Some st' → on_stack (turn s x b (lead st')) st (step st x b (lead st')) ≡ Some st'
stable-go s x b n st st' Never e ih h = absurd (none-some _ h)
stable-go s x b n st st' Ends e ih h = ap (λ q. on_stack q st (step st x b (lead st'))) (is-ends (turn s x b (lead st')) (kind-row s x b (lead st') n ∙ ap kind e)) ∙ ih h
stable-go s x b n st st' (Takes how more) e ih h =
    let same : turn s x b (lead st') ≡ Takes how more = ap (λ z. turn s x b (lead z)) (sym (some-inside _ st' h)) ∙ ap (λ q. turn s x b (lead (row q ++ st))) (sym e) ∙ stable-row s x b n st ∙ e in
    ap (λ q. on_stack q st (step st x b (lead st'))) same ∙ h

pub step-stable : (st : List Symbol) (x : Terminal) (b : List ℕ) (n : Terminal) (st' : List Symbol) → step st x b n ≡ Some st' → step st x b (lead st') ≡ Some st'
step-stable [] x b n st' h = absurd (none-some _ h)
step-stable (s ∷ st) x b n st' h = stable-go s x b n st st' (turn s x b n) refl (step-stable st x b n st') h

pub good-go : (r : Turn) (st st' : List Symbol) (beyond : Option (List Symbol)) → Good (row r ++ st) → (beyond ≡ Some st' → Good st') → on_stack r st beyond ≡ Some st' → Good st'
good-go Never st st' beyond g ih h = absurd (none-some _ h)
good-go Ends st st' beyond g ih h = ih h
good-go (Takes how more) st st' beyond g ih h = subst Good (some-inside _ st' h) g

pub step-good : (st : List Symbol) (x : Terminal) (b : List ℕ) (n : Terminal) (st' : List Symbol) → Good st → step st x b n ≡ Some st' → Good st'
step-good [] x b n st' g h = absurd (none-some _ h)
step-good (s ∷ st) x b n st' g h = good-go (turn s x b n) st st' (step st x b n) (good-row s x b n st g) (step-good st x b n st' g.1) h

-- what is read over one token
pub none-read : (s : Symbol) (r : Turn) (v : Built s r) (st : List Symbol) (next : (z : List Symbol) → Go z → Option StatementP) (beyond : Go st → Option StatementP) (k : Go (s ∷ st)) (o : Option (List Symbol)) → (o ≡ None → (g : Go st) → beyond g ≡ None) → on_stack r st o ≡ None → on_turn s r v st next beyond k ≡ None
none-read s Never v st next beyond k o ih h = refl
none-read s Ends v st next beyond k o ih h = ih h _
none-read s (Takes how more) v st next beyond k o ih h = absurd (none-some _ (sym h))

pub step-unread : (st : List Symbol) (x : Terminal) (b : List ℕ) (n : Terminal) (p : Place) (next : (z : List Symbol) → Go z → Option StatementP) → step st x b n ≡ None → (k : Go st) → read_at x n p b next st k ≡ None
step-unread [] x b n p next h k = refl
step-unread (s ∷ st) x b n p next h k = none-read s (turn s x b n) (build s x b n p) st next (read_at x n p b next st) k (step st x b n) (step-unread st x b n p next) h

abbrev pub Goes : Option StatementP → ((z : List Symbol) → Go z → Option StatementP) → List Symbol → Type 0
Goes o next st' = (k : Go st') × (o ≡ next st' k)

pub some-read : (s : Symbol) (r : Turn) (v : Built s r) (st st' : List Symbol) (next : (z : List Symbol) → Go z → Option StatementP) (beyond : Go st → Option StatementP) (k : Go (s ∷ st)) (o : Option (List Symbol)) → (o ≡ Some st' → (g : Go st) → Goes (beyond g) next st') → on_stack r st o ≡ Some st' → Goes (on_turn s r v st next beyond k) next st'
some-read s Never v st st' next beyond k o ih h = absurd (none-some _ h)
some-read s Ends v st st' next beyond k o ih h = ih h _
some-read s (Takes how more) v st st' next beyond k o ih h = subst (Goes (on_turn s (Takes how more) v st next beyond k) next) (some-inside _ st' h) (_, refl)

pub step-read : (st : List Symbol) (x : Terminal) (b : List ℕ) (n : Terminal) (p : Place) (next : (z : List Symbol) → Go z → Option StatementP) (st' : List Symbol) → step st x b n ≡ Some st' → (k : Go st) → Goes (read_at x n p b next st k) next st'
step-read [] x b n p next st' h k = absurd (none-some _ h)
step-read (s ∷ st) x b n p next st' h k = some-read s (turn s x b n) (build s x b n p) st st' next (read_at x n p b next st) k (step st x b n) (step-read st x b n p next st') h

-- the table's own step
abbrev pub ReachIs : Reach → Option (List Symbol) → Type 0
ReachIs Over o = o ≡ None
ReachIs Stuck o = o ≡ None
ReachIs (Reaches how stack load) o = o ≡ Some (bare (stack_after how load stack))

pub reach-on : (r : Turn) → bare (row r) ≡ row r → (stack : List Symbol) (load : Load) (reached : Reach) (o : Option (List Symbol)) → ReachIs reached o → ReachIs (at_form r stack load reached) (on_stack r (bare stack) o)
reach-on Never plain_row stack load reached o h = refl
reach-on Ends plain_row stack load reached o h = h
reach-on (Takes how more) plain_row stack load reached o h = ap Some (sym (bare-after how load more stack plain_row))

pub reach-step : (stack : List Symbol) (load : Load) (x : Terminal) (b : List ℕ) (n : Terminal) → ReachIs (reach stack load x b n) (step (bare stack) x b n)
unfolding reach
reach-step [] load x b n = refl
reach-step (Shut outer ∷ stack) load x b n = reach-step stack outer x b n
reach-step (s ∷ stack) load x b n = reach-on (turn s x b n) (plain s x b n) stack load _ _ (reach-step stack load x b n)

-- a refusal with E01, over the stack
pub record Refusal (st : List Symbol) (ts : List Piece) (place : Place) : Type 0 where
  pub before : List Piece
  pub after : List Piece
  pub parts : ts ≡ before ++ after
  pub there : place_of after ≡ place
  pub more : List Piece
  pub real : AreTokens more
  pub can : (k : Go st) → Reads (read (before ++ more) st k)
  pub leads : (first (before ++ more) ≡ first ts) ⊎ (first (before ++ more) ≡ lead st)
  pub cannot : (others : List Piece) (k : Go st) → read (before ++ again after others) st k ≡ None

pub place_in : Place → Verdict → Place
place_in p Whole = p
place_in p (Refused code q) = q

pub refused-place : (code code' : Code) (p q : Place) → Refused code p ≡ Refused code' q → p ≡ q
unfolding place_in
refused-place code code' p q e = ap (place_in p) e

pub ended-place : (r : Reach) (place : Place) → ended r ≡ Refused E01 place → place_of [] ≡ place
ended-place Over place e = cc
ended-place Stuck place e = refused-place _ _ _ _ e
ended-place (Reaches how stack load) place e = refused-place _ _ _ _ e

pub unread : (o : Option StatementP) (v : Verdict) (place : Place) → Agree o v → v ≡ Refused E01 place → o ≡ None
unread None v place a e = refl
unread (Some x) v place a e = cc

pub again-first : (earlier after others : List Piece) → first (earlier ++ again after others) ≡ first (earlier ++ after)
again-first [] [] others = refl
again-first [] (x ∷ after) others = refl
again-first (x ∷ earlier) after others = refl

-- a refusal further on
pub further : (st st' : List Symbol) (x : Piece) (ts : List Piece) (place : Place) → step st x.terminal x.bytes (first ts) ≡ Some st' → Refusal st' ts place → Refusal st (x ∷ ts) place
further st st' x ts place h r =
    let leads : step st x.terminal x.bytes (first (r.before ++ r.more)) ≡ Some st' = elim r.leads [ inl e ↦ ap (step st x.terminal x.bytes) e ∙ h | inr e ↦ ap (step st x.terminal x.bytes) e ∙ step-stable st x.terminal x.bytes (first ts) st' h ] in
    record {
      before = x ∷ r.before;
      after = r.after;
      parts = ap (λ z. x ∷ z) r.parts;
      there = r.there;
      more = r.more;
      real = r.real;
      can = λ k. let g = step-read st x.terminal x.bytes (first (r.before ++ r.more)) x.place (read (r.before ++ r.more)) st' leads k in by _ _ g.1 (r.can g.0);
      leads = inl refl;
      cannot = λ others k.
          let same : step st x.terminal x.bytes (first (r.before ++ again r.after others)) ≡ Some st' = ap (step st x.terminal x.bytes) (again-first r.before r.after others ∙ ap first (sym r.parts)) ∙ h in
          let g = step-read st x.terminal x.bytes (first (r.before ++ again r.after others)) x.place (read (r.before ++ again r.after others)) st' same k in
          g.1 ∙ r.cannot others g.0;
    }

-- a refusal here
pub here : (st : List Symbol) (x : Piece) (ts : List Piece) (place : Place) → Good st → step st x.terminal x.bytes (first ts) ≡ None → x.place ≡ place → Refusal st (x ∷ ts) place
here st x ts place g h e = record {
  before = [];
  after = x ∷ ts;
  parts = refl;
  there = e;
  more = complete st;
  real = complete-tokens st g;
  can = complete-reads st g;
  leads = inr refl;
  cannot = λ others k. step-unread st x.terminal x.bytes (first others) x.place (read others) (step-none st x.terminal x.bytes (first ts) (first others) h) k;
}

pub go_on : (deep off : Bool) (x : Piece) (ts : List Piece) (st st' : List Symbol) (v : Verdict) (place : Place) → step st x.terminal x.bytes (first ts) ≡ Some st' → (v ≡ Refused E01 place → Refusal st' ts place) → cond deep (Refused E05 x.place) (cond off (Refused E06 x.place) v) ≡ Refused E01 place → Refusal st (x ∷ ts) place
go_on true off x ts st st' v place h ih e = cc
go_on false true x ts st st' v place h ih e = cc
go_on false false x ts st st' v place h ih e = further st st' x ts place h (ih e)

pub reached : (limits : Limits) (r : Reach) (x : Piece) (ts : List Piece) (st : List Symbol) (place : Place) → Good st → ReachIs r (step st x.terminal x.bytes (first ts)) → ((stack : List Symbol) (load : Load) → Good (bare stack) → verdict limits ts stack load ≡ Refused E01 place → Refusal (bare stack) ts place) → taken limits r x (verdict limits ts) ≡ Refused E01 place → Refusal st (x ∷ ts) place
reached limits Over x ts st place g h ih e = here st x ts place g h (refused-place _ _ _ _ e)
reached limits Stuck x ts st place g h ih e = here st x ts place g h (refused-place _ _ _ _ e)
reached limits (Reaches how stack load) x ts st place g h ih e = go_on _ _ x ts st (bare (stack_after how load stack)) _ place h (ih (stack_after how load stack) (load_after how load) (step-good st x.terminal x.bytes (first ts) _ g h)) e

pub refusal : (limits : Limits) (place : Place) (ts : List Piece) (stack : List Symbol) (load : Load) → Good (bare stack) → verdict limits ts stack load ≡ Refused E01 place → Refusal (bare stack) ts place
unfolding verdict
refusal limits place [] stack load g e = record {
  before = [];
  after = [];
  parts = refl;
  there = ended-place (reach stack load t.Finish [] t.Finish) place e;
  more = complete (bare stack);
  real = complete-tokens (bare stack) g;
  can = complete-reads (bare stack) g;
  leads = inr refl;
  cannot = λ others k. unread _ _ place (agrees-end stack load k) e;
}
refusal limits place (x ∷ ts) stack load g e = reached limits (reach stack load x.terminal x.bytes (first ts)) x ts (bare stack) place g (reach-step stack load x.terminal x.bytes (first ts)) (refusal limits place ts) e

pub some-not-none : (x : StatementP) (o : Option StatementP) → o ≡ Some x → o ≡ None → ⊥
some-not-none x o a b = cc

pub starts_from : (ts more : List Piece) (o : Option StatementP) → AreTokens more → Reads o → SoundAt (TheStatement ∷ []) (λ v. v.0) (ts ++ more) o → Starts ts
starts_from ts more None real r h = cc r.1
starts_from ts more (Some x) real r h = (more, real, h.0.0, subst (λ z. Spells (of_statement h.0.0) (ts ++ more) z) h.2.2 h.2.1)

-- E01, under any limits, is that no statement continues so
pub refused-no_statement : (limits : Limits) (ts : List Piece) (load : Load) (place : Place) → verdict limits ts (TheStatement ∷ []) load ≡ Refused E01 place → NoStatement ts place
refused-no_statement limits ts load place e =
    let r : Refusal (TheStatement ∷ []) ts place = refusal limits place ts (TheStatement ∷ []) load (tt, tt) e in
    record {
      before = r.before;
      after = r.after;
      parts = r.parts;
      there = r.there;
      starts = starts_from r.before r.more _ r.real (r.can (λ v. v.0)) (sound (r.before ++ r.more) (TheStatement ∷ []) (λ v. v.0));
      stuck = λ others x h. some-not-none x _ (statement-reads x (r.before ++ again r.after others) [] h [] (λ v. v.0)) (r.cannot others (λ v. v.0));
    }
