-- What a sweepable condition gives is the same at all places of a cell.
use Rattle.std.proofs.Common.{◌≡◌, inl, inr, ℕ, suc, ◌+◌, ◌<◌, ℤ, pos, ◌-ℤ◌, ◌≤ℤ◌, ◌<ℤ◌, Bool, true, false, List, [], ◌∷◌, map, length, get_or, Ok, Err, Option, Some, None, refl, sym, ap, ◌∙◌, subst, arith}
use Rattle.std.specs.Prelude.{slice_index, if◌then◌else◌}
use Rattle.std.specs.List.{filter}
use Rattle.std.specs.Ordering.{int_cmp}
use Rattle.std.proofs.lemmas.Int.{ints}
use Rattle.std.proofs.lemmas.List.{append-nil}
use Rattle.base_core.specs.Outcomes.{then_give}
use Rattle.base_core.specs.Sets.{in_order}
use Rattle.point_core.specs.Faults.{OrFault}
use Rattle.interval_core.specs.Members.{Span}
use Rattle.cell_packing.specs.Covering.{Among}
use Rattle.cell_packing.specs.Packed.{Has}
use Rattle.cell_packing.proofs.AmongLemmas.{among_map, among_flat}
use Rattle.value_core.specs.Attributes.{value_at, span_of}
use Rattle.value_core.specs.Values.{Row}
use Rattle.scalar_core.specs.AtPlaces.{at_place, AreBeside}
use Rattle.scalar_core.specs.Cuts.{IsBeside, inner_cuts, cuts, is_inside}
use Rattle.scalar_core.specs.Expressions.{Expr}
use Rattle.scalar_core.specs.Kinds.{IsTypedOver}
use Rattle.scalar_core.specs.Operations.{is_true}
use Rattle.scalar_core.specs.ScalarValues.{value}
use Rattle.scalar_core.specs.Sweeping.{IsSweepable}
use Rattle.scalar_core.proofs.SweepLemmas.{swept-alike_within}
use Rattle.u_set.specs.Boxes.{others, spans_at}
use Rattle.u_row.specs.Cutting.{AreCuts, AreCutsFrom, pieces, cells_from, cells_of}
use Rattle.u_row.proofs.CellLemmas.{cell_in}
use Rattle.meaning_core.specs.Meanings.{condition}
use Rattle.eval_using.specs.Cells.{cuts_of_all}
use Rattle.eval_using.specs.Swept.{labelled_if, met, swept}
use Rattle.eval_using.specs.PlaceRows.{at_place_others, within_has}

-- ---- no cut parts a cell

-- numbers before the first cut are before all
before_all : (b e : ℤ) (cs : List ℤ) (p q : ℤ) → AreCuts b e cs → p ≤ℤ b → q ≤ℤ b → IsBeside cs p q
before_all b e [] p q h l m = tt
before_all b e (c ∷ cs) p q h l m =
    let k : b <ℤ c = h.0 in (
      (λ t. absurd (omega (arith, ints, k, l, t)), λ t. absurd (omega (arith, ints, k, m, t))),
      before_all c e cs p q h.2 (omega (arith, ints, k, l)) (omega (arith, ints, k, m)),
    )

itself : (n : ℤ) → n ≤ℤ n
itself n = omega (arith, ints)

pub piece_beside : (b e : ℤ) (cs : List ℤ) → AreCuts b e cs → (s : Span) → Among s (pieces b e cs) → (p q : ℤ) → s.0 ≤ℤ p → p ≤ℤ s.1 → s.0 ≤ℤ q → q ≤ℤ s.1 → IsBeside cs p q
piece_beside b e [] h s m p q p0 p1 q0 q1 = tt
piece_beside b e (c ∷ cs) h s m p q p0 p1 q0 q1 = elim m [
  | inl t ↦
      let a : p ≤ℤ (c -ℤ pos 1) = subst (λ (i : Span). p ≤ℤ i.1) (sym t) p1 in
      let d : q ≤ℤ (c -ℤ pos 1) = subst (λ (i : Span). q ≤ℤ i.1) (sym t) q1 in (
        (λ u. absurd (omega (arith, ints, a, u)), λ u. absurd (omega (arith, ints, d, u))),
        before_all c e cs p q h.2 (omega (arith, ints, a)) (omega (arith, ints, d)),
      )
  | inr n ↦
      let first : c ≤ℤ s.0 = from_first c e cs h.2 s n in (
        (λ u. omega (arith, ints, first, q0), λ u. omega (arith, ints, first, p0)),
        piece_beside c e cs h.2 s n p q p0 p1 q0 q1,
      )
]
  where
    from_first : (b e : ℤ) (cs : List ℤ) → AreCuts b e cs → (s : Span) → Among s (pieces b e cs) → b ≤ℤ s.0
    from_first b e [] h s m = elim m [ inl t ↦ subst (λ (i : Span). b ≤ℤ i.0) t (itself b) | inr n ↦ absurd n ]
    from_first b e (c ∷ cs) h s m = elim m [
      | inl t ↦ subst (λ (i : Span). b ≤ℤ i.0) t (itself b)
      | inr n ↦ let k : b <ℤ c = h.0 in let r : c ≤ℤ s.0 = from_first c e cs h.2 s n in omega (arith, ints, k, r)
    ]

-- two places of a cell have no cut between them on any side
pub cell_beside : (cuts : ℕ → List ℤ) (own : ℕ → List ℤ) (s : ℕ → Span) (j : ℕ) (commalist : List ℕ) → ((i : ℕ) → i < length commalist → cuts (j + i) ≡ own (get_or commalist i 0)) → AreCutsFrom cuts j (map s commalist)
    → (cell : List Span) → Among cell (cells_from cuts j (map s commalist)) → (ps qs : List ℤ) → Has cell ps → Has cell qs → AreBeside own commalist ps qs
cell_beside cuts own s j [] same h cell m ps qs hp hq = tt
cell_beside cuts own s j (a ∷ commalist) same h cell m ps qs hp hq =
    let rest = map s commalist in
    let w = (among_flat (λ (i : Span). map (λ is. i ∷ is) (cells_from cuts (suc j) rest)) cell (pieces (s a).0 (s a).1 (cuts j))).0 m in
    let v = (among_map (λ is. w.0 ∷ is) cell (cells_from cuts (suc j) rest)).0 w.2 in
    let z : j + 0 ≡ j = omega arith in
    let here : cuts j ≡ own a = subst (λ k. cuts k ≡ own a) z (same 0 (omega arith)) in
    go w.0 v.0 (λ p q p0 p1 q0 q1. subst (λ cs. IsBeside cs p q) here (piece_beside (s a).0 (s a).1 (cuts j) h.0.1 w.0 w.1 p q p0 p1 q0 q1))
    (λ xs ys hx hy. cell_beside cuts own s (suc j) commalist (λ i l. let e : j + suc i ≡ suc j + i = omega arith in subst (λ k. cuts k ≡ own (get_or commalist i 0)) e (same (suc i) (omega (arith, l)))) h.1 v.0 v.1 xs ys hx hy)
    ps qs (subst (λ (c : List Span). Has c ps) (sym v.2) hp) (subst (λ (c : List Span). Has c qs) (sym v.2) hq)
  where
    go : (i : Span) (is : List Span) → ((p q : ℤ) → i.0 ≤ℤ p → p ≤ℤ i.1 → i.0 ≤ℤ q → q ≤ℤ i.1 → IsBeside (own a) p q) → ((xs ys : List ℤ) → Has is xs → Has is ys → AreBeside own commalist xs ys)
        → (xs ys : List ℤ) → Has (i ∷ is) xs → Has (i ∷ is) ys → AreBeside own (a ∷ commalist) xs ys
    go i is one all [] ys hx hy = absurd hx
    go i is one all (x ∷ xs) [] hx hy = absurd hy
    go i is one all (x ∷ xs) (y ∷ ys) hx hy = (one x y hx.0 hx.1 hy.0 hy.1, all xs ys hx.2 hy.2)

-- ---- of one condition

-- the cuts of one expression alone
pub one_cuts : (commalist : List ℕ) (c : Expr) (row : Row) (a : ℕ) → cuts_of_all commalist (c ∷ []) row a ≡ inner_cuts commalist a c row
one_cuts commalist c row a = ap (λ (cs : List ℤ). in_order int_cmp (filter (is_inside (span_of (value_at row a))) cs)) (append-nil (cuts commalist a c row))

abbrev pub kept_label : Row → Bool → OrFault (Option Row)
kept_label l true = Ok (Some l)
kept_label l false = Ok None

pub label_from : (commalist : List ℕ) (x : Row) (r : OrFault Bool) → then_give (then_give r (λ b. Ok (if b then Some x else None))) (labelled_if commalist) ≡ then_give r (kept_label (others commalist x))
label_from commalist x (Ok true) = refl
label_from commalist x (Ok false) = refl
label_from commalist x (Err e) = refl

pub swept_steady : (commalist : List ℕ) (c : Expr) (row : Row) → IsTypedOver row c → IsSweepable commalist c → AreCutsFrom (λ side. cuts_of_all commalist (c ∷ []) row (slice_index commalist side)) 0 (spans_at commalist row)
    → (cell : List Span) (ps qs : List ℤ) → Among cell (cells_of (λ side. cuts_of_all commalist (c ∷ []) row (slice_index commalist side)) (spans_at commalist row)) → Has cell ps → Has cell qs
    → swept commalist commalist (met c) row ps ≡ swept commalist commalist (met c) row qs
swept_steady commalist c row typed sweepable inside cell ps qs m hp hq =
    let cuts : ℕ → List ℤ = λ side. cuts_of_all commalist (c ∷ []) row (slice_index commalist side) in
    let x : Row = at_place commalist ps row in
    let y : Row = at_place commalist qs row in
    let wp = within_has commalist row ps (cell_in cuts 0 (spans_at commalist row) inside cell m ps hp) in
    let wq = within_has commalist row qs (cell_in cuts 0 (spans_at commalist row) inside cell m qs hq) in
    let beside : AreBeside (λ a. inner_cuts commalist a c row) commalist ps qs = cell_beside cuts (λ a. inner_cuts commalist a c row) (λ i. span_of (value_at row i)) 0 commalist (λ i l.
    let z : 0 + i ≡ i = omega arith in
    ap cuts z ∙ one_cuts commalist c row (get_or commalist i 0)) inside cell m ps qs hp hq in
    let same : value c x ≡ value c y = swept-alike_within c row commalist ps qs typed sweepable wp wq beside in
    let truths : condition c x ≡ condition c y = ap (λ r. then_give r (λ v. Ok (is_true v))) same in
    let labels : others commalist x ≡ others commalist y = at_place_others commalist ps row ∙ sym (at_place_others commalist qs row) in
    label_from commalist x (condition c x) ∙ (λ t. then_give (truths t) (kept_label (labels t))) ∙ sym (label_from commalist y (condition c y))
