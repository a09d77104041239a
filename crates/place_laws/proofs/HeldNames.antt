-- Where something holds of each name among the tokens of a statement, it holds of each name that its tree has.
--     names-hold      the law
--     names-hold-each      the same, where it is told token by token
use Rattle.std.proofs.Common.{◌≡◌, ℕ, List, [], ◌∷◌, Bool, true, false, not, cond, refl, ap, suc, arith}
use Rattle.std.specs.List.{All}
use Rattle.point_core.specs.declared.fault.Place.{Place}
use Rattle.point_core.specs.declared.fault.Code.TheVariants.{E05, E06}
use Rattle.utd_syntax.specs.declared.terminal.Terminal.{Terminal}
use Rattle.utd_syntax.specs.declared.terminal.Terminal.TheVariants.{Name}
use Rattle.utd_syntax.specs.Pieces.{Piece, first}
use Rattle.utd_syntax.specs.Plain.{StatementP}
use Rattle.utd_syntax.specs.Written.{Spells, of_statement}
use Rattle.utd_syntax.specs.Table.{Load, Symbol, TheStatement, Taking}
use Rattle.utd_syntax.specs.Verdict.{Verdict, Whole, Refused, Limits, verdict, reach, taken, at_start, Reach, Over, Stuck, Reaches, stack_after, load_after}
use Rattle.utd_ranges.specs.Limits.{is_too_deep, is_out_of_range, limits, verdict_on}
use Rattle.utd_ranges.specs.Ranges.{Each, StatementIn}
use Rattle.utd_ranges.proofs.RangeLaws.{whole-in}
use Rattle.place_laws.specs.Held.{unheld}

module _ (holds : List ℕ → Bool) where
  -- of a token: where it is a name, it holds of it
  abbrev HoldsAt : Piece → Type 0
  HoldsAt t = t.terminal ≡ Name → holds t.bytes ≡ true

  -- limits that refuse the names of which it does not hold, and no other token for its bytes
  abbrev by_names : Limits
  by_names = record { too_deep = is_too_deep; out_of_range = unheld holds }

  holds-in : (how : Taking) (x : Terminal) (b : List ℕ) → (x ≡ Name → holds b ≡ true) → unheld holds how x b ≡ false
  holds-in how Name b h = ap not (h refl)
  holds-in how _ b h = refl

  held-taken : (deep off gone : Bool) (p : Place) (v w : Verdict) → gone ≡ false → (v ≡ Whole → w ≡ Whole) → cond deep (Refused E05 p) (cond off (Refused E06 p) v) ≡ Whole
      → cond deep (Refused E05 p) (cond gone (Refused E06 p) w) ≡ Whole
  held-taken true off gone p v w n h e = cc
  held-taken false true gone p v w n h e = cc
  held-taken false false true p v w n h e = cc
  held-taken false false false p v w n h e = h e

  held-reached : (r : Reach) (t : Piece) (ts : List Piece) → HoldsAt t
      → ((stack : List Symbol) (load : Load) → verdict limits ts stack load ≡ Whole → verdict by_names ts stack load ≡ Whole)
      → taken limits r t (verdict limits ts) ≡ Whole → taken by_names r t (verdict by_names ts) ≡ Whole
  held-reached Over t ts n h e = cc
  held-reached Stuck t ts n h e = cc
  held-reached (Reaches how stack load) t ts n h e =
      held-taken (is_too_deep how load) (is_out_of_range how t.terminal t.bytes) (unheld holds how t.terminal t.bytes) t.place _ _ (holds-in how t.terminal t.bytes n)
      (h (stack_after how load stack) (load_after how load)) e

  held-verdict : (ts : List Piece) → Each HoldsAt ts → (stack : List Symbol) (load : Load) → verdict limits ts stack load ≡ Whole → verdict by_names ts stack load ≡ Whole
  unfolding verdict
  held-verdict [] n stack load e = e
  held-verdict (t ∷ ts) n stack load e = held-reached (reach stack load t.terminal t.bytes (first ts)) t ts n.0 (held-verdict ts n.1) e

  pub names-hold-each : (ts : List Piece) (x : StatementP) → Each (λ t. t.terminal ≡ Name → holds t.bytes ≡ true) ts → Spells (of_statement x) ts [] → verdict_on ts ≡ Whole
      → StatementIn (unheld holds) x
  names-hold-each ts x n h e = whole-in by_names ts at_start x h (held-verdict ts n (TheStatement ∷ []) at_start e)

  each-of : (P : Piece → Type 0) (ts : List Piece) → All P ts → Each P ts
  each-of P [] h = tt
  each-of P (t ∷ ts) h = (h 0 t (omega arith), each-of P ts (λ i d l. h (suc i) d (omega arith)))

  pub names-hold : (ts : List Piece) (x : StatementP) → All (λ t. t.terminal ≡ Name → holds t.bytes ≡ true) ts → Spells (of_statement x) ts [] → verdict_on ts ≡ Whole
      → StatementIn (unheld holds) x
  names-hold ts x n h e = names-hold-each ts x (each-of (λ t. t.terminal ≡ Name → holds t.bytes ≡ true) ts n) h e
