-- Parts of an interval and the runs that they make.
use Rattle.std.proofs.Common.{◌≡◌, ◌↔◌, ◌⊎◌, inl, inr, ℕ, zero, suc, ◌+◌, ◌<◌, ℤ, pos, ◌+ℤ◌, ◌≤ℤ◌, Bool, true, List, [], ◌∷◌, ◌++◌, set, take, length, get_or, Ok, Err, Option, Some, refl, sym, ap, ◌∙◌, subst, arith}
use Rattle.std.specs.List.{All}
use Rattle.std.proofs.lemmas.Int.{ints}
use Rattle.std.proofs.lemmas.List.{map-append, map_more}
use Rattle.base_core.proofs.IntLemmas.{le_itself}
use Rattle.point_core.specs.Faults.{OrFault}
use Rattle.point_core.specs.Points.{number, IsPointOf}
use Rattle.point_core.specs.declared.any_type.AnyPoint.{AnyPoint}
use Rattle.point_core.specs.declared.any_type.AnyType.{AnyType}
use Rattle.point_core.specs.declared.fault.Fault.{Fault}
use Rattle.interval_core.specs.Members.{Span, HasEndsIn}
use Rattle.cell_packing.specs.Covering.{Among}
use Rattle.cell_packing.proofs.AmongLemmas.{among_append}
use Rattle.value_core.specs.Values.{Row}
use Rattle.scalar_core.specs.AtPlaces.{IsWithin}
use Rattle.scalar_core.specs.Cuts.{IsBeside}
use Rattle.scalar_core.specs.Expressions.{Expr}
use Rattle.point_core.specs.LeastFault.{IsLeast}
use Rattle.cell_core.specs.Cells.{box_numbers}
use Rattle.cell_core.specs.Numbering.{numbers_of}
use Rattle.u_row.specs.Cutting.{AreCuts, pieces}
use Rattle.u_row.proofs.CuttingLemmas.{in_piece, piece_in, piece_some}
use Rattle.u_row.proofs.RuleLemmas.{least_chain}
use Rattle.meaning_core.specs.Meanings.{condition}
use Rattle.cell_sweep.proofs.Turns.{least_iff}
use Rattle.eval_using.specs.Holding.{at_number, InSpans, HoldsIn, FailsIn}
use Rattle.eval_using.specs.SteadyLaws.{piece_beside}

abbrev Ends : Type 0
Ends = AnyPoint × AnyPoint

-- ---- runs

spans_append : (xs ys : List Span) (p : ℤ) → InSpans (xs ++ ys) p ↔ InSpans xs p ⊎ InSpans ys p
spans_append [] ys p = (λ h. inr h, λ h. elim h [ inl a ↦ absurd a | inr b ↦ b ])
spans_append (x ∷ xs) ys p =
    let ih = spans_append xs ys p in (
      λ h. elim h [ inl a ↦ inl (inl a) | inr b ↦ elim (ih.0 b) [ inl u ↦ inl (inr u) | inr v ↦ inr v ] ],
      λ h. elim h [ inl a ↦ elim a [ inl u ↦ inl u | inr v ↦ inr (ih.1 (inl v)) ] | inr b ↦ inr (ih.1 (inr b)) ],
    )

-- a run more
pub spans_pushed : (out new : List Ends) (part : Ends) → new ≡ out ++ part ∷ [] → (p : ℤ)
    → InSpans (box_numbers number new) p ↔ InSpans (box_numbers number out) p ⊎ IsWithin (numbers_of number part) p
spans_pushed out new part e p =
    let same : box_numbers number new ≡ box_numbers number out ++ numbers_of number part ∷ [] = ap (box_numbers number) e ∙ map-append (numbers_of number) out (part ∷ []) in
    let both = spans_append (box_numbers number out) (numbers_of number part ∷ []) p in (
      λ h. elim (both.0 (subst (λ (is : List Span). InSpans is p) same h)) [ inl a ↦ inl a | inr b ↦ elim b [ inl u ↦ inr u | inr v ↦ absurd v ] ],
      λ h. subst (λ (is : List Span). InSpans is p) (sym same) (both.1 (elim h [ inl a ↦ inl a | inr b ↦ inr (inl b) ])),
    )

-- a run that is made longer
pub spans_longer : (runs : List Ends) (i : ℕ) (x y part : Ends) → i < length runs → x ≡ get_or runs i x
    → ((p : ℤ) → IsWithin (numbers_of number y) p ↔ IsWithin (numbers_of number x) p ⊎ IsWithin (numbers_of number part) p) → (p : ℤ)
    → InSpans (box_numbers number (set runs i y)) p ↔ InSpans (box_numbers number runs) p ⊎ IsWithin (numbers_of number part) p
spans_longer [] i x y part l e h p = absurd (omega arith)
spans_longer (r ∷ runs) zero x y part l e h p = (
  λ w. elim w [
    | inl a ↦ elim ((h p).0 a) [ inl u ↦ inl (inl (subst (λ (z : Ends). IsWithin (numbers_of number z) p) e u)) | inr v ↦ inr v ]
    | inr b ↦ inl (inr b)
  ],
  λ w. elim w [
    | inl a ↦ elim a [ inl u ↦ inl ((h p).1 (inl (subst (λ (z : Ends). IsWithin (numbers_of number z) p) (sym e) u))) | inr v ↦ inr v ]
    | inr b ↦ inl ((h p).1 (inr b))
  ],
)
spans_longer (r ∷ runs) (suc i) x y part l e h p =
    let ih = spans_longer runs i x y part (omega (arith, l)) e h p in (
      λ w. elim w [ inl a ↦ inl (inl a) | inr b ↦ elim (ih.0 b) [ inl u ↦ inl (inr u) | inr v ↦ inr v ] ],
      λ w. elim w [ inl a ↦ elim a [ inl u ↦ inl u | inr v ↦ inr (ih.1 (inl v)) ] | inr b ↦ inr (ih.1 (inr b)) ],
    )

-- an interval and one that follows it
pub joined_numbers : (x part y : Ends) → number x.0 ≤ℤ number x.1 → number part.0 ≤ℤ number part.1 → number x.1 +ℤ pos 1 ≡ number part.0 → y ≡ (x.0, part.1) → (p : ℤ)
    → IsWithin (numbers_of number y) p ↔ IsWithin (numbers_of number x) p ⊎ IsWithin (numbers_of number part) p
joined_numbers x part y o q next e p =
    subst (λ (z : Ends). IsWithin (numbers_of number z) p ↔ IsWithin (numbers_of number x) p ⊎ IsWithin (numbers_of number part) p) (sym e) (go (number x.0) (number x.1) (number part.0) (number part.1) o q next)
  where
    go : (a b c d : ℤ) → a ≤ℤ b → c ≤ℤ d → b +ℤ pos 1 ≡ c → ((a ≤ℤ p) × (p ≤ℤ d)) ↔ (((a ≤ℤ p) × (p ≤ℤ b)) ⊎ ((c ≤ℤ p) × (p ≤ℤ d)))
    go a b c d u v n = (λ w. grind (arith, ints), λ w. grind (arith, ints))

all_cons : (Q : Ends → Type 0) (x : Ends) (xs : List Ends) → Q x → All Q xs → All Q (x ∷ xs)
all_cons Q x xs h hs zero d l = h
all_cons Q x xs h hs (suc k) d l = hs k d (omega (arith, l))

all_set : (Q : Ends → Type 0) (xs : List Ends) (j : ℕ) (z : Ends) → Q z → All Q xs → All Q (set xs j z)
all_set Q [] j z h hs = hs
all_set Q (x ∷ xs) zero z h hs = all_cons Q z xs h (λ k d l. hs (suc k) d (omega (arith, l)))
all_set Q (x ∷ xs) (suc j) z h hs = all_cons Q x (set xs j z) (hs 0 x (omega arith)) (all_set Q xs j z h (λ k d l. hs (suc k) d (omega (arith, l))))

pub points_longer : (t : AnyType) (runs : List Ends) (i : ℕ) (x y part : Ends) → i < length runs → x ≡ get_or runs i x → y ≡ (x.0, part.1) → HasEndsIn IsPointOf t part
    → All (HasEndsIn IsPointOf t) runs → All (HasEndsIn IsPointOf t) (set runs i y)
points_longer t runs i x y part l e is h all =
    let first : IsPointOf t x.0 = subst (λ (z : Ends). IsPointOf t z.0) (sym e) (all i x l).0 in
    let ends : HasEndsIn IsPointOf t (x.0, part.1) = (first, h.1) in
    all_set (HasEndsIn IsPointOf t) runs i y (subst (HasEndsIn IsPointOf t) (sym is) ends) all

-- ---- one part after the other

module _ (c : Expr) (at : ℕ) (row : Row) where
  abbrev here : Span → OrFault Bool
  here i = condition c (at_number at row i.0)

  holds_more : (parts : List Span) (i : Span) (p : ℤ) → HoldsIn c at row (parts ++ i ∷ []) p ↔ HoldsIn c at row parts p ⊎ (IsWithin i p × (here i ≡ Ok true))
  holds_more parts i p = (
    λ w. elim ((among_append w.0 parts (i ∷ [])).0 w.1) [
      | inl m ↦ inl (w.0, m, w.2, w.3)
      | inr m ↦ elim m [
        | inl e ↦ inr (subst (λ (s : Span). IsWithin s p) (sym e) w.2, subst (λ (s : Span). here s ≡ Ok true) (sym e) w.3)
        | inr n ↦ absurd n
      ]
    ],
    λ w. elim w [
      | inl v ↦ (v.0, (among_append v.0 parts (i ∷ [])).1 (inl v.1), v.2, v.3)
      | inr v ↦ (i, (among_append i parts (i ∷ [])).1 (inr (inl refl)), v.0, v.1)
    ],
  )

  fails_more : (parts : List Span) (i : Span) (e : Fault) → FailsIn c at row parts e ⊎ (here i ≡ Err e) ↔ FailsIn c at row (parts ++ i ∷ []) e
  fails_more parts i e = (
    λ w. elim w [
      | inl v ↦ (v.0, (among_append v.0 parts (i ∷ [])).1 (inl v.1), v.2)
      | inr v ↦ (i, (among_append i parts (i ∷ [])).1 (inr (inl refl)), v)
    ],
    λ w. elim ((among_append w.0 parts (i ∷ [])).0 w.1) [
      | inl m ↦ inl (w.0, m, w.2)
      | inr m ↦ elim m [ inl q ↦ inr (subst (λ (s : Span). here s ≡ Err e) (sym q) w.2) | inr n ↦ absurd n ]
    ],
  )

  module _ (parts : List Ends) (k : ℕ) (part : Ends) (l : k < length parts) (e : part ≡ get_or parts k part) where
    one_more : box_numbers number (take (k + 1) parts) ≡ box_numbers number (take k parts) ++ numbers_of number part ∷ []
    one_more = map_more (numbers_of number) parts k part l ∙ (λ t. box_numbers number (take k parts) ++ numbers_of number (sym e t) ∷ [])

    pub runs_step : (old new : List Span) → ((p : ℤ) → InSpans old p ↔ HoldsIn c at row (box_numbers number (take k parts)) p)
        → ((p : ℤ) → InSpans new p ↔ InSpans old p ⊎ (IsWithin (numbers_of number part) p × (here (numbers_of number part) ≡ Ok true)))
        → (p : ℤ) → InSpans new p ↔ HoldsIn c at row (box_numbers number (take (k + 1) parts)) p
    runs_step old new ho hn p =
        let more = holds_more (box_numbers number (take k parts)) (numbers_of number part) p in
        subst (λ (is : List Span). InSpans new p ↔ HoldsIn c at row is p) (sym one_more) (
          λ w. more.1 (elim ((hn p).0 w) [ inl a ↦ inl ((ho p).0 a) | inr b ↦ inr b ]),
          λ w. (hn p).1 (elim (more.0 w) [ inl a ↦ inl ((ho p).1 a) | inr b ↦ inr b ]),
        )

    pub least_step : (o a b : Option Fault) → IsLeast (λ d. (o ≡ Some d) ⊎ FailsIn c at row (box_numbers number (take k parts)) d) a
        → IsLeast (λ d. (a ≡ Some d) ⊎ (here (numbers_of number part) ≡ Err d)) b → IsLeast (λ d. (o ≡ Some d) ⊎ FailsIn c at row (box_numbers number (take (k + 1) parts)) d) b
    least_step o a b ha hb =
        let Q : Fault → Type 0 = λ d. (o ≡ Some d) ⊎ FailsIn c at row (box_numbers number (take k parts)) d in
        let M : Fault → Type 0 = λ d. here (numbers_of number part) ≡ Err d in
        let more = fails_more (box_numbers number (take k parts)) (numbers_of number part) in
        subst (λ (is : List Span). IsLeast (λ d. (o ≡ Some d) ⊎ FailsIn c at row is d) b) (sym one_more)
        (least_iff (λ d. Q d ⊎ M d) (λ d. (o ≡ Some d) ⊎ FailsIn c at row (box_numbers number (take k parts) ++ numbers_of number part ∷ []) d) b (λ d. (
          λ w. elim w [ inl q ↦ elim q [ inl u ↦ inl u | inr v ↦ inr ((more d).0 (inl v)) ] | inr m ↦ inr ((more d).0 (inr m)) ],
          λ w. elim w [ inl u ↦ inl (inl u) | inr v ↦ elim ((more d).1 v) [ inl x ↦ inl (inr x) | inr y ↦ inr y ] ],
        )) (least_chain Q M a b ha hb))

  -- ---- all parts

  module _ (b e : ℤ) (cs : List ℤ) (o : b ≤ℤ e) (are : AreCuts b e cs)
      (steady : (p q : ℤ) → IsWithin (b, e) p → IsWithin (b, e) q → IsBeside cs p q → condition c (at_number at row p) ≡ condition c (at_number at row q)) where
    first_in : (i : Span) → Among i (pieces b e cs) → i.0 ≤ℤ i.1
    first_in i m = piece_some b e cs o are i m

    pub first_within : (i : Span) → Among i (pieces b e cs) → IsWithin (b, e) i.0
    first_within i m = piece_in b e cs are i m i.0 (le_itself i.0) (first_in i m)

    same_there : (i : Span) → Among i (pieces b e cs) → (p : ℤ) → IsWithin i p → here i ≡ condition c (at_number at row p)
    same_there i m p h =
        steady i.0 p (first_within i m) (piece_in b e cs are i m p h.0 h.1)
        (piece_beside b e cs are i m i.0 p (le_itself i.0) (first_in i m) h.0 h.1)

    pub holds_at_all : (p : ℤ) → HoldsIn c at row (pieces b e cs) p ↔ (IsWithin (b, e) p × (condition c (at_number at row p) ≡ Ok true))
    holds_at_all p = (
      λ w. (piece_in b e cs are w.0 w.1 p w.2.0 w.2.1, sym (same_there w.0 w.1 p w.2) ∙ w.3),
      λ w. let v = in_piece b e cs are p w.0.0 w.0.1 in (v.0, v.1, (v.2, v.3), same_there v.0 v.1 p (v.2, v.3) ∙ w.1),
    )

    pub fails_at_all : (d : Fault) → FailsIn c at row (pieces b e cs) d ↔ ((p : ℤ) × IsWithin (b, e) p × (condition c (at_number at row p) ≡ Err d))
    fails_at_all d = (
      λ w. ((w.0).0, first_within w.0 w.1, w.2),
      λ w. let v = in_piece b e cs are w.0 w.1.0 w.1.1 in (v.0, v.1, same_there v.0 v.1 w.0 (v.2, v.3) ∙ w.2),
    )
