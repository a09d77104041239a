-- Scalars of one token.
use Rattle.std.proofs.Common.{◌≡◌, ℕ, List, ◌∷◌, true, false, Option, Some, refl, sym, ◌∙◌}
use Rattle.point_core.specs.declared.fault.Place.{Place}
use Rattle.utd_syntax.specs.declared.terminal.Terminal.{Terminal}
use Rattle.utd_syntax.specs.declared.terminal.Terminal.TheVariants as t
use Rattle.utd_syntax.specs.Pieces.{Piece, first, place_of, bytes_of}
use Rattle.utd_syntax.specs.Plain.{StatementP, ScalarP, PrimaryP, OneConj, OneNeg, OneCmp, OneSum, OneProd, OneSign, OnePrimary, IntegerLiteral}
use Rattle.utd_syntax.specs.Table.{Symbol, same, ThePrimary, MoreProd, MoreSum, MoreCmp, MoreAnd, MoreOr, TheScalar}
use Rattle.utd_syntax.proofs.Reader.{Go, read}
use Rattle.utd_builder.specs.Building.{behind}
use Rattle.utd_builder.specs.Closing.{closes}
use Rattle.utd_builder.proofs.Closed.{closed-comparison, closed-sum, closed-product, closed-and, closed-or}
use Rattle.utd_builder.proofs.ScalarRows.{done-MoreOr, done-MoreAnd, done-MoreCmp, done-MoreSum, done-MoreProd, scalar-to-conj, conj-to-neg, neg-to-cmp, cmp-to-sum, sum-to-prod, prod-to-sign, sign-to-primary}
use Rattle.utd_builder.proofs.Steps.{at}

-- a primary as a scalar
abbrev pub whole : PrimaryP → ScalarP
whole x = OneConj (OneNeg (OneCmp (OneSum (OneProd (OneSign (OnePrimary x))))))

-- down to the primary, where neither NOT nor "-" stands first
pub to-primary : (old : List Piece) (stack : List Symbol) (k : Go (TheScalar ∷ stack)) (s : StatementP) → (first old ≡ t.Not → ⊥) → (first old ≡ t.Dash → ⊥) → read old (TheScalar ∷ stack) k ≡ Some s → read old (ThePrimary ∷ MoreProd ∷ MoreSum ∷ MoreCmp ∷ MoreAnd ∷ MoreOr ∷ stack) (λ v. k (v.1.1.1.1.1.0 (OneConj (v.1.1.1.1.0 (OneNeg (OneCmp (v.1.1.1.0 (v.1.1.0 (OneProd (v.1.0 (OneSign (OnePrimary v.0)))))))))), v.1.1.1.1.1.1)) ≡ Some s
to-primary old stack k s not dash h =
    let h1 = scalar-to-conj old stack k s h in
    let h2 = conj-to-neg old _ _ s h1 in
    let h3 = neg-to-cmp old _ _ s not h2 in
    let h4 = cmp-to-sum old _ _ s h3 in
    let h5 = sum-to-prod old _ _ s h4 in
    let h6 = prod-to-sign old _ _ s h5 in
    sign-to-primary old _ _ s dash h6

-- up from it, where a token stands behind it that closes
pub from-primary : (x : PrimaryP) (new : List Piece) (stack : List Symbol) (k : Go (TheScalar ∷ stack)) (s : StatementP) → closes (first new) ≡ true → read new (MoreProd ∷ MoreSum ∷ MoreCmp ∷ MoreAnd ∷ MoreOr ∷ stack) (λ v. k (v.1.1.1.1.0 (OneConj (v.1.1.1.0 (OneNeg (OneCmp (v.1.1.0 (v.1.0 (OneProd (v.0 (OneSign (OnePrimary x)))))))))), v.1.1.1.1.1)) ≡ Some s → read new stack (λ v. k (whole x, v)) ≡ Some s
from-primary x new stack k s closing h =
    let h1 = done-MoreProd new _ _ s (closed-product (first new) closing) h in
    let h2 = done-MoreSum new _ _ s (closed-sum (first new) closing) h1 in
    let h3 = done-MoreCmp new _ _ s (closed-comparison (first new) closing) h2 in
    let h4 = done-MoreAnd new _ _ s (closed-and (first new) closing) h3 in
    done-MoreOr new _ _ s (closed-or (first new) closing) h4

pub lone-integer : (p : Place) (b : List ℕ) (old new : List Piece) (stack : List Symbol) (k : Go (TheScalar ∷ stack)) (s : StatementP) → first old ≡ t.Digits → p ≡ place_of old → b ≡ bytes_of old → new ≡ behind old → closes (first new) ≡ true → read old (TheScalar ∷ stack) k ≡ Some s → read new stack (λ v. k (whole (IntegerLiteral p b), v)) ≡ Some s
lone-integer p b old new stack k s is hp hb hn closing h =
    let h1 = to-primary old stack k s (λ e. not-digits (sym is ∙ e)) (λ e. dash-digits (sym is ∙ e)) h in
    let h2 = at t.Digits p b old new _ _ s is refl hp hb hn h1 in
    from-primary (IntegerLiteral p b) new stack k s closing h2
  where
    not-digits : t.Digits ≡ t.Not → ⊥
    not-digits e = cc

    dash-digits : t.Digits ≡ t.Dash → ⊥
    dash-digits e = cc
