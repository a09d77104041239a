-- A text without a token out of a range is the writing of a tree whose names and literals are in it.
use Rattle.std.proofs.Common.{◌≡◌, ℕ, List, [], ◌∷◌, ◌++◌, Bool, true, false, ◌||◌, cond, Option, Some, None, refl, sym, ◌∙◌, ap, subst}
use Rattle.utd_syntax.specs.declared.terminal.Terminal.{Terminal}
use Rattle.utd_syntax.specs.declared.terminal.Terminal.TheVariants as t
use Rattle.point_core.specs.declared.fault.Place.{Place}
use Rattle.point_core.specs.declared.fault.Code.TheVariants.{E05, E06}
use Rattle.utd_syntax.specs.Pieces.{Piece, first, place_of}
use Rattle.utd_syntax.specs.Plain.{StatementP}
use Rattle.utd_syntax.specs.Written.{Spells, of_statement}
use Rattle.utd_syntax.specs.Table.{Load, Symbol, AfterName, MoreProd, MoreSum, MoreCmp, MoreAnd, MoreOr, MoreAttributes, MoreNames, MoreElements, MoreTuples, MoreSetItems, MoreAggregates, MoreRenamings, MaybePortion, MaybeWhere, MorePostfix, MoreInfix, MoreConstraints, MoreItems, TheStatement, Shut, Taking, Plain, Turn, Never, Ends, Takes, Row, on, spelt, before, rows, may_end, same, same_bytes, fits, chosen, find, turn}
use Rattle.utd_syntax.specs.Verdict.{Verdict, Whole, Refused, Limits, verdict, reach, taken, at_form, at_start, Reach, Over, Stuck, Reaches, stack_after, load_after}
use Rattle.utd_syntax.proofs.FormValues.{Vals, inner, Case, Make, Makes}
use Rattle.utd_syntax.proofs.Reader.{Ended, Built, Go, makes, end_value, by_case, made, pick, found_end, found, build, split, on_turn, read_at, on_end, read_end, read}
use Rattle.utd_syntax.proofs.Accepted.{bare, row, plain, bare-after}
use Rattle.utd_syntax.proofs.Complete.{statement-reads}
use Rattle.utd_syntax.proofs.FormEnds.{both-left, both-right, bytes-same}
use Rattle.utd_syntax.proofs.Sound.{number-same}
use Rattle.utd_ranges.specs.Limits.{is_too_deep, is_out_of_range, limits, verdict_on}
use Rattle.utd_ranges.specs.Ranges.{Range, IsIn, StatementIn, HasLiteralsInRange, is_unwritten, AreWritten, has_no_value, HasValues}
use Rattle.utd_ranges.proofs.RangeForms.{Good, AllGood, CaseIn, RowIn, RowsIn}
use Rattle.utd_ranges.proofs.StatementRows.{rows-in}

-- the token is in the range, as the turn takes it
abbrev Fit : Range → Terminal → List ℕ → Turn → Type 0
Fit out x b (Takes how more) = IsIn out how x b
Fit out x b _ = Unit {0}

-- what a turn makes is in the range
abbrev BuiltIn : Range → (s : Symbol) (r : Turn) → Built s r → Type 0
BuiltIn out s Never v = Unit {0}
BuiltIn out s Ends v = Good out s v
BuiltIn out s (Takes how more) v = (vs : Vals (inner how ++ more)) → AllGood out (inner how ++ more) vs → Good out s (v vs)

case-in : (out : Range) (s : Symbol) (x y : Terminal) (b : List ℕ) (p : Place) (how : Taking) (more : List Symbol) (f : Case s how more) → y ≡ x → CaseIn out y s how more f → IsIn out how x b → BuiltIn out s (Takes how more) (f p b)
case-in out s x y b p how more f e h o = h p b (subst (λ z. IsIn out how z b) (sym e) o)

by-case-in : (out : Range) (s : Symbol) (x y : Terminal) (b : List ℕ) (p : Place) (how : Taking) (more : List Symbol) (how' : Taking) (more' : List Symbol) (c : Bool) (f : Case s how more) (g : Case s how' more') → y ≡ x → CaseIn out y s how more f → CaseIn out y s how' more' g → Fit out x b (cond c (Takes how more) (Takes how' more')) → BuiltIn out s (cond c (Takes how more) (Takes how' more')) (by_case s how more how' more' c f g p b)
by-case-in out s x y b p how more how' more' true f g e h k o = case-in out s x y b p how more f e h o
by-case-in out s x y b p how more how' more' false f g e h k o = case-in out s x y b p how' more' g e k o

made-in : (out : Range) (s : Symbol) (r : Row) (m : Make s r) → RowIn out s r m → (x n : Terminal) (p : Place) (b : List ℕ) → fits r x b ≡ true → Fit out x b (chosen r n) → BuiltIn out s (chosen r n) (made s r m n p b)
made-in out s (on y how more) m h x n p b e o = case-in out s x y b p how more m (number-same y x e) h o
made-in out s (spelt c more) m h x n p b e o =
    let is : t.Name ≡ x = number-same t.Name x (both-left (same t.Name x) (same_bytes c b) e) in
    let spelled : c ≡ b = bytes-same c b (both-right (same t.Name x) (same_bytes c b) e) in
    h p b (subst (λ z. IsIn out Plain t.Name z) (sym spelled) (subst (λ z. IsIn out Plain z b) (sym is) o))
made-in out s (before y z how more how' more') m h x n p b e o = by-case-in out s x y b p how more how' more' (same z n) m.0 m.1 (number-same y x e) h.0 h.1 o

pick-in : (out : Range) (s : Symbol) (x : Terminal) (b : List ℕ) (c : Bool) (r r' : Turn) (v : Built s r) (w : Built s r') → (c ≡ true → Fit out x b r → BuiltIn out s r v) → (Fit out x b r' → BuiltIn out s r' w) → Fit out x b (cond c r r') → BuiltIn out s (cond c r r') (pick s c r r' v w)
pick-in out s x b true r r' v w h g o = h refl o
pick-in out s x b false r r' v w h g o = g o

-- what a form gives that ends before its first token
abbrev EndedIn : Range → (s : Symbol) (e : Bool) → Ended s e → Type 0
EndedIn out s true v = Good out s v
EndedIn out s false v = Unit {0}

end-in : (out : Range) (s : Symbol) → EndedIn out s (may_end s) (end_value s)
end-in out AfterName = λ w h. h
end-in out MoreProd = λ x h. h
end-in out MoreSum = λ x h. h
end-in out MoreCmp = λ x h. h
end-in out MoreAnd = λ x h. h
end-in out MoreOr = λ x h. h
end-in out MoreAttributes = tt
end-in out MoreNames = tt
end-in out MoreElements = tt
end-in out MoreTuples = tt
end-in out MoreSetItems = tt
end-in out MoreAggregates = tt
end-in out MoreRenamings = tt
end-in out MaybePortion = tt
end-in out MaybeWhere = tt
end-in out MorePostfix = λ x h. h
end-in out MoreInfix = λ x h. h
end-in out MoreConstraints = tt
end-in out MoreItems = tt
end-in out (Shut outer) = tt
end-in out _ = tt

found-end-in : (out : Range) (s : Symbol) (x : Terminal) (b : List ℕ) (e : Bool) (v : Ended s e) → EndedIn out s e v → Fit out x b (cond e Ends Never) → BuiltIn out s (cond e Ends Never) (found_end s e v)
found-end-in out s x b true v h o = h
found-end-in out s x b false v h o = tt

found-in : (out : Range) (s : Symbol) (rs : List Row) (ms : Makes s rs) → RowsIn out s rs ms → (e : Bool) (v : Ended s e) → EndedIn out s e v → (x : Terminal) (b : List ℕ) (n : Terminal) (p : Place) → Fit out x b (find rs e x b n) → BuiltIn out s (find rs e x b n) (found s rs ms e v x b n p)
found-in out s [] ms h e v g x b n p o = found-end-in out s x b e v g o
found-in out s (r ∷ rs) ms h e v g x b n p o = pick-in out s x b (fits r x b) (chosen r n) (find rs e x b n) (made s r ms.0 n p b) (found s rs ms.1 e v x b n p) (made-in out s r ms.0 h.0 x n p b) (found-in out s rs ms.1 h.1 e v g x b n p) o

build-in : (out : Range) (s : Symbol) (x : Terminal) (b : List ℕ) (n : Terminal) (p : Place) → Fit out x b (turn s x b n) → BuiltIn out s (turn s x b n) (build s x b n p)
build-in out s x b n p o = found-in out s (rows s) (makes s) (rows-in out s) (may_end s) (end_value s) (end-in out s) x b n p o

split-in : (out : Range) (xs ys : List Symbol) (vs : Vals (xs ++ ys)) → AllGood out (xs ++ ys) vs → AllGood out xs (split xs ys vs).0 × AllGood out ys (split xs ys vs).1
split-in out [] ys vs h = (tt, h)
split-in out (x ∷ xs) ys vs h = let r : AllGood out xs (split xs ys vs.1).0 × AllGood out ys (split xs ys vs.1).1 = split-in out xs ys vs.1 h.1 in ((h.0, r.0), r.1)

-- what is done with values in the range gives a statement in it
abbrev GoesIn : Range → (stack : List Symbol) → Go stack → Type 0
GoesIn out stack k = (vs : Vals stack) → AllGood out stack vs → StatementIn out (k vs)

abbrev SomeIn : Range → Option StatementP → Type 0
SomeIn out None = Unit {0}
SomeIn out (Some x) = StatementIn out x

on-end-in : (out : Range) (s : Symbol) (x : Terminal) (b : List ℕ) (r : Turn) (v : Built s r) → (Fit out x b r → BuiltIn out s r v) → (stack : List Symbol) (beyond : Go stack → Option StatementP) → ((g : Go stack) → GoesIn out stack g → SomeIn out (beyond g)) → (k : Go (s ∷ stack)) → GoesIn out (s ∷ stack) k → SomeIn out (on_end s r v stack beyond k)
on-end-in out s x b Never v h stack beyond g k goes = tt
on-end-in out s x b Ends v h stack beyond g k goes = g (λ vs. k (v, vs)) (λ vs q. goes (v, vs) (h tt, q))
on-end-in out s x b (Takes how more) v h stack beyond g k goes = tt

read-end-in : (out : Range) (stack : List Symbol) (k : Go stack) → GoesIn out stack k → SomeIn out (read_end stack k)
read-end-in out [] k goes = goes tt tt
read-end-in out (s ∷ stack) k goes = on-end-in out s t.Finish [] (turn s t.Finish [] t.Finish) (build s t.Finish [] t.Finish (place_of [])) (build-in out s t.Finish [] t.Finish (place_of [])) stack (read_end stack) (read-end-in out stack) k goes

-- a token that is not refused is in the range, and the rest is whole
taken-in : (deep off : Bool) (place : Place) (v : Verdict) → cond deep (Refused E05 place) (cond off (Refused E06 place) v) ≡ Whole → off ≡ false
taken-in true off place v e = cc
taken-in false true place v e = cc
taken-in false false place v e = refl

taken-whole : (deep off : Bool) (place : Place) (v : Verdict) → cond deep (Refused E05 place) (cond off (Refused E06 place) v) ≡ Whole → v ≡ Whole
taken-whole true off place v e = cc
taken-whole false true place v e = cc
taken-whole false false place v e = e

-- the rest of a text is read in the range where it is whole
abbrev Rest : Limits → List Piece → Type 0
Rest by ts = (stack : List Symbol) (load : Load) (k : Go (bare stack)) → GoesIn by.out_of_range (bare stack) k → verdict by ts stack load ≡ Whole → SomeIn by.out_of_range (read ts (bare stack) k)

on-turn-in : (by : Limits) (s : Symbol) (r : Turn) (v : Built s r) (x : Piece) (ts : List Piece) → (Fit by.out_of_range x.terminal x.bytes r → BuiltIn by.out_of_range s r v) → bare (row r) ≡ row r → Rest by ts → (stack : List Symbol) (load : Load) (beyond : Go (bare stack) → Option StatementP) (reached : Reach) → ((g : Go (bare stack)) → GoesIn by.out_of_range (bare stack) g → taken by reached x (verdict by ts) ≡ Whole → SomeIn by.out_of_range (beyond g)) → (k : Go (s ∷ bare stack)) → GoesIn by.out_of_range (s ∷ bare stack) k → taken by (at_form r stack load reached) x (verdict by ts) ≡ Whole → SomeIn by.out_of_range (on_turn s r v (bare stack) (read ts) beyond k)
on-turn-in by s Never v x ts h plain_row rest stack load beyond reached g k goes e = tt
on-turn-in by s Ends v x ts h plain_row rest stack load beyond reached g k goes e = g (λ vs. k (v, vs)) (λ vs q. goes (v, vs) (h tt, q)) e
on-turn-in by s (Takes how more) v x ts h plain_row rest stack load beyond reached g k goes e =
    let out : Range = by.out_of_range in
    let fit : IsIn out how x.terminal x.bytes = taken-in _ _ x.place _ e in
    let whole : verdict by ts (stack_after how load (more ++ stack)) (load_after how load) ≡ Whole = taken-whole _ _ x.place _ e in
    let P : List Symbol → Type 0 = λ xs. (f : Go xs) → GoesIn out xs f → SomeIn out (read ts xs f) in
    subst P (bare-after how load more stack plain_row) (λ f q. rest (stack_after how load (more ++ stack)) (load_after how load) f q whole) _
    (λ vs q. let parts : AllGood out (inner how ++ more) (split (inner how ++ more) (bare stack) vs).0 × AllGood out (bare stack) (split (inner how ++ more) (bare stack) vs).1 = split-in out (inner how ++ more) (bare stack) vs q in
    goes _ (h fit (split (inner how ++ more) (bare stack) vs).0 parts.0, parts.1))

read-at-in : (by : Limits) (x : Piece) (ts : List Piece) → Rest by ts → (stack : List Symbol) (load : Load) (k : Go (bare stack)) → GoesIn by.out_of_range (bare stack) k → taken by (reach stack load x.terminal x.bytes (first ts)) x (verdict by ts) ≡ Whole → SomeIn by.out_of_range (read_at x.terminal (first ts) x.place x.bytes (read ts) (bare stack) k)
unfolding reach
read-at-in by x ts rest [] load k goes e = tt
read-at-in by x ts rest (Shut outer ∷ stack) load k goes e = read-at-in by x ts rest stack outer k goes e
read-at-in by x ts rest (s ∷ stack) load k goes e = on-turn-in by s (turn s x.terminal x.bytes (first ts)) (build s x.terminal x.bytes (first ts) x.place) x ts (build-in by.out_of_range s x.terminal x.bytes (first ts) x.place) (plain s x.terminal x.bytes (first ts)) rest stack load _ (reach stack load x.terminal x.bytes (first ts)) (read-at-in by x ts rest stack load) k goes e

read-in : (by : Limits) (ts : List Piece) → Rest by ts
unfolding verdict
read-in by [] stack load k goes e = read-end-in by.out_of_range (bare stack) k goes
read-in by (x ∷ ts) stack load k goes e = read-at-in by x ts (read-in by ts) stack load k goes e

-- under any limits
pub whole-in : (by : Limits) (ts : List Piece) (load : Load) (x : StatementP) → Spells (of_statement x) ts [] → verdict by ts (TheStatement ∷ []) load ≡ Whole → StatementIn by.out_of_range x
whole-in by ts load x h e = subst (SomeIn by.out_of_range) (statement-reads x ts [] h [] (λ v. v.0)) (read-in by ts (TheStatement ∷ []) load (λ v. v.0) (λ vs q. q.0) e)

-- a text that no limit refuses is written by a statement whose names and literals are in range
pub in-range : (ts : List Piece) (x : StatementP) → Spells (of_statement x) ts [] → verdict_on ts ≡ Whole → HasLiteralsInRange x
in-range ts x h e = whole-in limits ts at_start x h e

-- of tokens that a text writes, those without a value are those out of range
abbrev by_value : Limits
by_value = record { too_deep = is_too_deep; out_of_range = has_no_value }

same-taken : (deep off none : Bool) (place : Place) (v w : Verdict) → none ≡ false → v ≡ w → cond deep (Refused E05 place) (cond (off || none) (Refused E06 place) v) ≡ cond deep (Refused E05 place) (cond off (Refused E06 place) w)
same-taken true off none place v w n e = refl
same-taken false true none place v w n e = refl
same-taken false false true place v w n e = cc
same-taken false false false place v w n e = e

same-reached : (r : Reach) (x : Piece) (ts : List Piece) → is_unwritten x.terminal x.bytes ≡ false → ((stack : List Symbol) (load : Load) → verdict by_value ts stack load ≡ verdict limits ts stack load) → taken by_value r x (verdict by_value ts) ≡ taken limits r x (verdict limits ts)
same-reached Over x ts n h = refl
same-reached Stuck x ts n h = refl
same-reached (Reaches how stack load) x ts n h = same-taken (is_too_deep how load) (is_out_of_range how x.terminal x.bytes) (is_unwritten x.terminal x.bytes) x.place _ _ n (h (stack_after how load stack) (load_after how load))

same-verdict : (ts : List Piece) → AreWritten ts → (stack : List Symbol) (load : Load) → verdict by_value ts stack load ≡ verdict limits ts stack load
unfolding verdict
same-verdict [] h stack load = refl
same-verdict (x ∷ ts) h stack load = same-reached (reach stack load x.terminal x.bytes (first ts)) x ts h.0 (same-verdict ts h.1)

-- and each name and literal then stands for a name or a value
pub has-values : (ts : List Piece) (x : StatementP) → AreWritten ts → Spells (of_statement x) ts [] → verdict_on ts ≡ Whole → HasValues x
has-values ts x written h e = whole-in by_value ts at_start x h (same-verdict ts written _ at_start ∙ e)
