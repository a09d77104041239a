-- The verdict on tokens, token by token.
--     stepped      past a token that is taken
--     shut      past the end of a level
--     closed      past what may still follow a scalar, before a token that closes it
use Rattle.std.proofs.Common.{◌≡◌, ◌⊎◌, inl, inr, ℕ, Bool, true, false, List, [], ◌∷◌, refl, sym, ap, ◌∙◌, subst}
use Rattle.std.specs.Prelude.{if◌then◌else◌}
use Rattle.point_core.specs.declared.fault.Code.TheVariants.{E05, E06}
use Rattle.utd_syntax.specs.declared.terminal.Terminal.{Terminal}
use Rattle.utd_syntax.specs.declared.terminal.Terminal.TheVariants as t
use Rattle.utd_syntax.specs.Pieces.{Piece, first}
use Rattle.utd_syntax.specs.Table.{Symbol, Load, Taking, Shut, MoreProd, MoreSum, MoreCmp, MoreAnd, MoreOr}
use Rattle.utd_syntax.specs.Verdict.{Verdict, Refused, Reach, Reaches, reach, taken, verdict, stack_after, load_after}
use Rattle.utd_syntax.specs.Written.{Mark}
use Rattle.utd_syntax.proofs.Marks.{seen, One}
use Rattle.utd_ranges.specs.Limits.{limits, is_out_of_range, is_too_deep}

-- ---- a token

unlimited : (deep off : Bool) (x : Piece) (v : Verdict) → deep ≡ false → off ≡ false → (if deep then Refused E05 x.place else (if off then Refused E06 x.place else v)) ≡ v
unlimited true off x v d o = absurd cc
unlimited false true x v d o = absurd cc
unlimited false false x v d o = refl

step : (x : Piece) (ts : List Piece) (stack more : List Symbol) (load inner : Load) (how : Taking) → reach stack load x.terminal x.bytes (first ts) ≡ Reaches how more inner → is_too_deep how inner ≡ false
    → is_out_of_range how x.terminal x.bytes ≡ false → verdict limits (x ∷ ts) stack load ≡ verdict limits ts (stack_after how inner more) (load_after how inner)
unfolding verdict
step x ts stack more load inner how h deep off =
    ap (λ (r : Reach). taken limits r x (verdict limits ts)) h
    ∙ unlimited (is_too_deep how inner) (is_out_of_range how x.terminal x.bytes) x (verdict limits ts (stack_after how inner more) (load_after how inner)) deep off

-- a token that is taken so, where these forms are to come
pub stepped : (how : Taking) (more stack : List Symbol) (inner load : Load) (m : Mark) (ms : List Mark) (ts rest : List Piece) (r : One m ms ts rest)
    → reach stack load (seen m r.place r.bytes).terminal (seen m r.place r.bytes).bytes (first r.left) ≡ Reaches how more inner → is_too_deep how inner ≡ false
    → is_out_of_range how (seen m r.place r.bytes).terminal (seen m r.place r.bytes).bytes ≡ false
    → verdict limits ts stack load ≡ verdict limits r.left (stack_after how inner more) (load_after how inner)
stepped how more stack inner load m ms ts rest r h deep off =
    ap (λ (l : List Piece). verdict limits l stack load) r.is ∙ step (seen m r.place r.bytes) r.left stack more load inner how h deep off

-- ---- the end of a level

pub shut : (ts : List Piece) (stack : List Symbol) (load outer : Load) → verdict limits ts (Shut outer ∷ stack) load ≡ verdict limits ts stack outer
unfolding verdict reach
shut [] stack load outer = refl
shut (x ∷ ts) stack load outer = refl

-- ---- behind a scalar

-- a token that no scalar goes on with
abbrev pub IsCloser : Terminal → Type 0
IsCloser c = (c ≡ t.Comma) ⊎ (c ≡ t.CloseBrace) ⊎ (c ≡ t.Colon) ⊎ (c ≡ t.CloseBracket) ⊎ (c ≡ t.Close)

-- what may follow an integer in a scalar
abbrev pub behind_sign : List Symbol → List Symbol
behind_sign stack = MoreProd ∷ MoreSum ∷ MoreCmp ∷ MoreAnd ∷ MoreOr ∷ stack

passed-at : (c : Terminal) (x : Piece) (ts : List Piece) (from to : List Symbol) (load : Load) → ((b : List ℕ) (n : Terminal) → reach from load c b n ≡ reach to load c b n) → x.terminal ≡ c
    → verdict limits (x ∷ ts) from load ≡ verdict limits (x ∷ ts) to load
unfolding verdict
passed-at c x ts from to load h e =
    ap (λ (r : Reach). taken limits r x (verdict limits ts)) (subst (λ (d : Terminal). reach from load d x.bytes (first ts) ≡ reach to load d x.bytes (first ts)) (sym e) (h x.bytes (first ts)))

closed-end : (stack : List Symbol) (load : Load) → verdict limits [] (behind_sign stack) load ≡ verdict limits [] stack load
unfolding verdict reach
closed-end stack load = refl

pub closed : (ts : List Piece) (stack : List Symbol) (load : Load) → IsCloser (first ts) → verdict limits ts (behind_sign stack) load ≡ verdict limits ts stack load
unfolding reach
closed [] stack load h = closed-end stack load
closed (x ∷ ts) stack load h = elim h [
  | inl e ↦ passed-at t.Comma x ts (behind_sign stack) stack load (λ b n. refl) e
  | inr g ↦ elim g [
    | inl e ↦ passed-at t.CloseBrace x ts (behind_sign stack) stack load (λ b n. refl) e
    | inr g' ↦ elim g' [
      | inl e ↦ passed-at t.Colon x ts (behind_sign stack) stack load (λ b n. refl) e
      | inr g'' ↦ elim g'' [
        | inl e ↦ passed-at t.CloseBracket x ts (behind_sign stack) stack load (λ b n. refl) e
        | inr e ↦ passed-at t.Close x ts (behind_sign stack) stack load (λ b n. refl) e
      ]
    ]
  ]
]
