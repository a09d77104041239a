-- A text that stands elsewhere: its tokens spell the moved tree, and are judged alike.
--     first-moved      what the next token is
--     spells-moved      tokens with given marks, at other places
--     statement-spells      the tokens of a statement, at other places, spell the moved statement
--     verdict-moved      what is whole under any limits is whole elsewhere
--     whole-moved      the same for a statement under the limits of the language
use Rattle.std.proofs.Common.{◌≡◌, List, [], ◌∷◌, Bool, true, false, map, cond, refl, sym, ap, subst}
use Rattle.point_core.specs.declared.fault.Place.{Place}
use Rattle.point_core.specs.declared.fault.Code.TheVariants.{E05, E06}
use Rattle.utd_syntax.specs.declared.terminal.Terminal.{Terminal}
use Rattle.utd_syntax.specs.Pieces.{Piece, first}
use Rattle.utd_syntax.specs.Plain.{StatementP}
use Rattle.utd_syntax.specs.Written.{Mark, fixed, at, spelled, worded, apart, IsMark, Spells, of_statement}
use Rattle.utd_syntax.specs.Table.{Load, Symbol, TheStatement}
use Rattle.utd_syntax.specs.Verdict.{Verdict, Whole, Refused, Limits, verdict, reach, taken, at_start, Reach, Over, Stuck, Reaches, stack_after, load_after}
use Rattle.utd_ranges.specs.Limits.{limits, verdict_on}
use Rattle.place_laws.specs.Moved.{moved_statement}
use Rattle.place_laws.specs.MovedPieces.{moved_piece, moved_mark}
use Rattle.place_laws.proofs.MovedMarks.{AreMoved, statement-marks}

module _ (f : Place → Place) where
  pub first-moved : (ts : List Piece) → first ts ≡ first (map (moved_piece f) ts)
  first-moved [] = refl
  first-moved (t ∷ ts) = refl

  -- ---- spelling

  mark-moved : (m : Mark) (t : Piece) (behind : Terminal) → IsMark m t behind → IsMark (moved_mark f m) (moved_piece f t) behind
  mark-moved (fixed x) t behind h = h
  mark-moved (at x p) t behind h = (h.0, ap f h.1)
  mark-moved (spelled x p bytes) t behind h = (h.0, ap f h.1, h.2)
  mark-moved (worded bytes) t behind h = h
  mark-moved (apart x p barred) t behind h = (h.0, ap f h.1, h.2)

  pub spells-moved : (ms : List Mark) (ts rest : List Piece) → Spells ms ts rest → Spells (map (moved_mark f) ms) (map (moved_piece f) ts) (map (moved_piece f) rest)
  unfolding Spells
  spells-moved [] ts rest h = ap (map (moved_piece f)) h
  spells-moved (m ∷ ms) [] rest h = absurd h
  spells-moved (m ∷ ms) (t ∷ ts) rest h = (subst (IsMark (moved_mark f m) (moved_piece f t)) (first-moved ts) (mark-moved m t (first ts) h.0), spells-moved ms ts rest h.1)

  pub statement-spells : (x : StatementP) (ts rest : List Piece) → Spells (of_statement x) ts rest
      → Spells (of_statement (moved_statement f x)) (map (moved_piece f) ts) (map (moved_piece f) rest)
  statement-spells x ts rest h =
      let marks : AreMoved f (of_statement (moved_statement f x)) (of_statement x) = statement-marks f x in
      subst (λ (ms : List Mark). Spells ms (map (moved_piece f) ts) (map (moved_piece f) rest)) (sym marks.same) (spells-moved (of_statement x) ts rest h)

  -- ---- the verdict

  -- a token that is not refused is not refused elsewhere
  moved-taken : (deep off : Bool) (p q : Place) (v w : Verdict) → (v ≡ Whole → w ≡ Whole) → cond deep (Refused E05 p) (cond off (Refused E06 p) v) ≡ Whole
      → cond deep (Refused E05 q) (cond off (Refused E06 q) w) ≡ Whole
  moved-taken true off p q v w h e = cc
  moved-taken false true p q v w h e = cc
  moved-taken false false p q v w h e = h e

  moved-reached : (by : Limits) (r : Reach) (t : Piece) (v w : List Symbol → Load → Verdict) → ((stack : List Symbol) (load : Load) → v stack load ≡ Whole → w stack load ≡ Whole)
      → taken by r t v ≡ Whole → taken by r (moved_piece f t) w ≡ Whole
  moved-reached by Over t v w h e = cc
  moved-reached by Stuck t v w h e = cc
  moved-reached by (Reaches how stack load) t v w h e =
      moved-taken (by.too_deep how load) (by.out_of_range how t.terminal t.bytes) t.place (f t.place) _ _ (h (stack_after how load stack) (load_after how load)) e

  pub verdict-moved : (by : Limits) (ts : List Piece) (stack : List Symbol) (load : Load) → verdict by ts stack load ≡ Whole → verdict by (map (moved_piece f) ts) stack load ≡ Whole
  unfolding verdict
  verdict-moved by [] stack load e = e
  verdict-moved by (t ∷ ts) stack load e =
      subst (λ (n : Terminal). taken by (reach stack load t.terminal t.bytes n) (moved_piece f t) (verdict by (map (moved_piece f) ts)) ≡ Whole) (first-moved ts)
      (moved-reached by (reach stack load t.terminal t.bytes (first ts)) t (verdict by ts) (verdict by (map (moved_piece f) ts)) (verdict-moved by ts) e)

  pub whole-moved : (ts : List Piece) → verdict_on ts ≡ Whole → verdict_on (map (moved_piece f) ts) ≡ Whole
  whole-moved ts e = verdict-moved limits ts (TheStatement ∷ []) at_start e
