-- Written by tools/grammar; change it there.
-- What the table is: the laws that make it trustworthy.
use Rattle.std.proofs.Common.{◌≡◌, ◌↔◌, ℕ, List, [], ◌∷◌, ◌++◌, Bool, true, false, cond, Option, Some, None, refl, sym, ◌∙◌, ap, subst, append_assoc}
use Rattle.utd_syntax.specs.declared.terminal.Terminal.{Terminal}
use Rattle.utd_syntax.specs.declared.terminal.Terminal.TheVariants as t
use Rattle.point_core.specs.declared.fault.Place.{Place}
use Rattle.point_core.specs.declared.fault.Code.{Code}
use Rattle.point_core.specs.declared.fault.Code.TheVariants.{E01, E05, E06}
use Rattle.utd_syntax.specs.Pieces.{Piece, first}
use Rattle.utd_syntax.specs.Plain.{StatementP, Nothing}
use Rattle.utd_syntax.specs.Written.{Spells, of_statement}
use Rattle.utd_syntax.specs.Continues.{Continues, NoStatement}
use Rattle.utd_syntax.specs.Terminals.{AreTokens}
use Rattle.utd_syntax.specs.Table.{Load, Symbol, TheStatement, Taking}
use Rattle.utd_syntax.specs.Verdict.{Verdict, Whole, Refused, Limits, no_limits, verdict, reach, taken, ended, Reach, Over, Stuck, Reaches, stack_after, load_after}
use Rattle.utd_syntax.proofs.Reader.{Go, read}
use Rattle.utd_syntax.proofs.Complete.{written-once}
use Rattle.utd_syntax.proofs.Accepted.{bare, Agree, agrees, written-accepted}
use Rattle.utd_syntax.proofs.Sound.{accepted-written}
use Rattle.utd_syntax.proofs.Completions.{Good, Reads, by, complete, complete-reads, complete-tokens, lead}
use Rattle.utd_syntax.proofs.Refused.{step, step-stable, step-good, step-read, ReachIs, reach-step, refused-place, refused-no_statement}

-- A: the table accepts what a tree writes, and nothing else
pub law_a : (ts : List Piece) (load : Load) → ((x : StatementP) × Spells (of_statement x) ts []) ↔ (verdict no_limits ts (TheStatement ∷ []) load ≡ Whole)
law_a ts load = (λ h. written-accepted h.0 ts load h.1, accepted-written ts load)

-- the stacks that the table reaches from the statement
pub data Reached : List Symbol → Load → Type 0 where
  begins : (load : Load) → Reached (TheStatement ∷ []) load
  goes_on : (stack : List Symbol) (load : Load) → Reached stack load → (x : Terminal) (b : List ℕ) (n : Terminal) (how : Taking) (next : List Symbol) (now : Load) → reach stack load x b n ≡ Reaches how next now → Reached (stack_after how now next) (load_after how now)

reached-good : (stack : List Symbol) (load : Load) → Reached stack load → Good (bare stack)
reached-good stack load (begins start) = (tt, tt)
reached-good stack load (goes_on old before h x b n how next now e) = step-good (bare old) x b n _ (reached-good old before h) (subst (λ r. ReachIs r (step (bare old) x b n)) e (reach-step old before x b n))

agree-whole : (o : Option StatementP) (v : Verdict) → Reads o → Agree o v → v ≡ Whole
agree-whole None v r a = cc r.1
agree-whole (Some x) v r a = a

-- B: each of them can be completed
pub law_b : (stack : List Symbol) (load : Load) → Reached stack load → (ts : List Piece) × AreTokens ts × (verdict no_limits ts stack load ≡ Whole)
law_b stack load h =
    let k : Go (bare stack) = λ v. Nothing in
    (complete (bare stack), complete-tokens (bare stack) (reached-good stack load h), agree-whole _ _ (complete-reads (bare stack) (reached-good stack load h) k) (agrees (complete (bare stack)) stack load k))

-- C: a token list is written by at most one tree
pub law_c : (x y : StatementP) (ts : List Piece) → Spells (of_statement x) ts [] → Spells (of_statement y) ts [] → x ≡ y
law_c = written-once

-- E01, under any limits, is that no statement continues so
pub e01 : (lim : Limits) (ts : List Piece) (load : Load) (place : Place) → verdict lim ts (TheStatement ∷ []) load ≡ Refused E01 place → NoStatement ts place
e01 = refused-no_statement

-- what is whole under limits is so without
whole-taken : (deep off : Bool) (x : Piece) (v w : Verdict) → (v ≡ Whole → w ≡ Whole) → cond deep (Refused E05 x.place) (cond off (Refused E06 x.place) v) ≡ Whole → w ≡ Whole
whole-taken true off x v w h e = cc
whole-taken false true x v w h e = cc
whole-taken false false x v w h e = h e

whole-reached : (lim : Limits) (r : Reach) (x : Piece) (ts : List Piece) → ((stack : List Symbol) (load : Load) → verdict lim ts stack load ≡ Whole → verdict no_limits ts stack load ≡ Whole) → taken lim r x (verdict lim ts) ≡ Whole → taken no_limits r x (verdict no_limits ts) ≡ Whole
whole-reached lim Over x ts h e = cc
whole-reached lim Stuck x ts h e = cc
whole-reached lim (Reaches how stack load) x ts h e = whole-taken _ _ x _ _ (h (stack_after how load stack) (load_after how load)) e

pub whole-without : (lim : Limits) (ts : List Piece) (stack : List Symbol) (load : Load) → verdict lim ts stack load ≡ Whole → verdict no_limits ts stack load ≡ Whole
unfolding verdict
whole-without lim [] stack load e = e
whole-without lim (x ∷ ts) stack load e = whole-reached lim (reach stack load x.terminal x.bytes (first ts)) x ts (whole-without lim ts) e

-- a refusal by a limit stands where a statement could go on
record Met (st : List Symbol) (ts : List Piece) (place : Place) : Type 0 where
  before : List Piece
  token : Piece
  after : List Piece
  parts : ts ≡ before ++ (token ∷ after)
  there : token.place ≡ place
  more : List Piece
  real : AreTokens more
  can : (k : Go st) → Reads (read (before ++ (token ∷ more)) st k)

first-same : (before : List Piece) (x : Piece) (a b : List Piece) → first (before ++ (x ∷ a)) ≡ first (before ++ (x ∷ b))
first-same [] x a b = refl
first-same (y ∷ before) x a b = refl

met-further : (st st' : List Symbol) (x : Piece) (ts : List Piece) (place : Place) → step st x.terminal x.bytes (first ts) ≡ Some st' → Met st' ts place → Met st (x ∷ ts) place
met-further st st' x ts place h r =
    let same : step st x.terminal x.bytes (first (r.before ++ (r.token ∷ r.more))) ≡ Some st' = ap (step st x.terminal x.bytes) (first-same r.before r.token r.more r.after ∙ ap first (sym r.parts)) ∙ h in
    record {
      before = x ∷ r.before;
      token = r.token;
      after = r.after;
      parts = ap (λ z. x ∷ z) r.parts;
      there = r.there;
      more = r.more;
      real = r.real;
      can = λ k. let g = step-read st x.terminal x.bytes (first (r.before ++ (r.token ∷ r.more))) x.place (read (r.before ++ (r.token ∷ r.more))) st' same k in by _ _ g.1 (r.can g.0);
    }

met-here : (st st' : List Symbol) (x : Piece) (ts : List Piece) (place : Place) → Good st → step st x.terminal x.bytes (first ts) ≡ Some st' → x.place ≡ place → Met st (x ∷ ts) place
met-here st st' x ts place g h e = record {
  before = [];
  token = x;
  after = ts;
  parts = refl;
  there = e;
  more = complete st';
  real = complete-tokens st' (step-good st x.terminal x.bytes (first ts) st' g h);
  can = λ k. let r = step-read st x.terminal x.bytes (lead st') x.place (read (complete st')) st' (step-stable st x.terminal x.bytes (first ts) st' h) k in by _ _ r.1 (complete-reads st' (step-good st x.terminal x.bytes (first ts) st' g h) r.0);
}

code_in : Verdict → Code
code_in Whole = E01
code_in (Refused code q) = code

refused-code : (code code' : Code) (p q : Place) → Refused code p ≡ Refused code' q → code ≡ code'
unfolding code_in
refused-code code code' p q e = ap code_in e

ended-code : (r : Reach) (code : Code) (place : Place) → ended r ≡ Refused code place → E01 ≡ code
ended-code Over code place e = cc
ended-code Stuck code place e = refused-code _ _ _ _ e
ended-code (Reaches how stack load) code place e = refused-code _ _ _ _ e

met-taken : (deep off : Bool) (x : Piece) (ts : List Piece) (st st' : List Symbol) (v : Verdict) (code : Code) (place : Place) → Good st → step st x.terminal x.bytes (first ts) ≡ Some st' → (v ≡ Refused code place → Met st' ts place) → cond deep (Refused E05 x.place) (cond off (Refused E06 x.place) v) ≡ Refused code place → Met st (x ∷ ts) place
met-taken true off x ts st st' v code place g h ih e = met-here st st' x ts place g h (refused-place _ _ _ _ e)
met-taken false true x ts st st' v code place g h ih e = met-here st st' x ts place g h (refused-place _ _ _ _ e)
met-taken false false x ts st st' v code place g h ih e = met-further st st' x ts place h (ih e)

met-reached : (lim : Limits) (r : Reach) (x : Piece) (ts : List Piece) (st : List Symbol) (code : Code) (place : Place) → (E01 ≡ code → ⊥) → Good st → ReachIs r (step st x.terminal x.bytes (first ts)) → ((stack : List Symbol) (load : Load) → Good (bare stack) → verdict lim ts stack load ≡ Refused code place → Met (bare stack) ts place) → taken lim r x (verdict lim ts) ≡ Refused code place → Met st (x ∷ ts) place
met-reached lim Over x ts st code place not g h ih e = absurd (not (refused-code _ _ _ _ e))
met-reached lim Stuck x ts st code place not g h ih e = absurd (not (refused-code _ _ _ _ e))
met-reached lim (Reaches how stack load) x ts st code place not g h ih e = met-taken _ _ x ts st (bare (stack_after how load stack)) _ code place g h (ih (stack_after how load stack) (load_after how load) (step-good st x.terminal x.bytes (first ts) _ g h)) e

met : (lim : Limits) (code : Code) (place : Place) → (E01 ≡ code → ⊥) → (ts : List Piece) (stack : List Symbol) (load : Load) → Good (bare stack) → verdict lim ts stack load ≡ Refused code place → Met (bare stack) ts place
unfolding verdict
met lim code place not [] stack load g e = absurd (not (ended-code (reach stack load t.Finish [] t.Finish) code place e))
met lim code place not (x ∷ ts) stack load g e = met-reached lim (reach stack load x.terminal x.bytes (first ts)) x ts (bare stack) code place not g (reach-step stack load x.terminal x.bytes (first ts)) (met lim code place not ts) e

-- the other codes, under any limits, stand at a token with which a statement continues
pub limit : (lim : Limits) (ts : List Piece) (load : Load) (code : Code) (place : Place) → (E01 ≡ code → ⊥) → verdict lim ts (TheStatement ∷ []) load ≡ Refused code place → Continues ts place
limit lim ts load code place not e =
    let r : Met (TheStatement ∷ []) ts place = met lim code place not ts (TheStatement ∷ []) load (tt, tt) e in
    let w : (x : StatementP) × Spells (of_statement x) (r.before ++ (r.token ∷ r.more)) [] = accepted-written (r.before ++ (r.token ∷ r.more)) load (agree-whole _ _ (r.can (λ v. v.0)) (agrees (r.before ++ (r.token ∷ r.more)) (TheStatement ∷ []) load (λ v. v.0))) in
    record {
      before = r.before;
      token = r.token;
      after = r.after;
      parts = r.parts;
      there = r.there;
      starts = (r.more, r.real, w.0, subst (λ z. Spells (of_statement w.0) z []) (sym (append_assoc r.before (r.token ∷ []) r.more)) w.1);
    }
