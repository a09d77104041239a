-- The cuts of rows part their boxes.
use Rattle.std.proofs.Common.{◌≡◌, inl, inr, ℕ, ◌<◌, ℤ, ◌≤ℤ◌, ◌<ℤ◌, true, List, [], ◌∷◌, length, get_or, refl, sym, ap, ◌∙◌, subst, arith, Less}
use Rattle.std.specs.Prelude.{slice_index, int_lt, int_le, ◌&&◌}
use Rattle.std.specs.Bool.{IsTrue}
use Rattle.std.specs.Cmp.{int_cmp_total}
use Rattle.std.specs.FinMap.{int_cmp-IsAntisymmetric}
use Rattle.std.specs.List.{filter, flat_map}
use Rattle.std.specs.Ordering.{int_cmp}
use Rattle.std.proofs.lemmas.Bool.{and_parts}
use Rattle.std.proofs.lemmas.Int.{ints}
use Rattle.std.proofs.lemmas.List.{length-map, get_or-map}
use Rattle.base_core.proofs.MemberLemmas.{In-filter}
use Rattle.base_core.proofs.SetLemmas.{In, Ascends, In-in_order, Ascends-in_order}
use Rattle.base_core.proofs.SetOperatorLemmas.{AllAfter-In}
use Rattle.base_core.proofs.IntLemmas.{int_lt-lt}
use Rattle.point_core.specs.Points.{number, is_number}
use Rattle.point_core.specs.declared.any_type.AnyPoint.{AnyPoint}
use Rattle.point_core.specs.declared.any_type.AnyType.{AnyType}
use Rattle.interval_core.specs.Members.{Span}
use Rattle.value_core.specs.Attributes.{value_at, span_of, among}
use Rattle.value_core.specs.Values.{Value, Row, truth, text, point, interval, fits, fits_heading, is_interval, same_line}
use Rattle.value_core.specs.declared.kind.Kind.TheVariants.{Span as SpanOf}
use Rattle.scalar_core.specs.Cuts.{cuts, is_inside}
use Rattle.scalar_core.specs.Expressions.{Expr}
use Rattle.relation_core.specs.Parts.{kind_at}
use Rattle.cell_packing.specs.Boxed.{Boxed}
use Rattle.cell_core.specs.Cells.{box_numbers, row_numbers}
use Rattle.cell_core.specs.Numbering.{numbers_of}
use Rattle.u_set.specs.Boxes.{type_of, spans_at, boxed}
use Rattle.u_set.proofs.BoxLemmas.{span_fits, place_listed}
use Rattle.u_row.specs.Cutting.{AreCuts, AreCutsFrom}
use Rattle.u_row.proofs.CellLemmas.{are_cuts}
use Rattle.eval_using.specs.Cells.{cuts_of_all}
use Rattle.eval_using.specs.Swept.{AreBoxed, swept_cuts}

-- ---- cuts inside an interval

inside_less : (i : Span) (c : ℤ) → IsTrue (is_inside i c) → (i.0 <ℤ c) × (c ≤ℤ i.1)
inside_less i c h =
    let w = and_parts (int_lt i.0 c) (int_le c i.1) h in
    (int_lt-lt i.0 c w.0, int_le-le c i.1 w.1)
  where
    int_le-le : (a b : ℤ) → int_le a b ≡ true → a ≤ℤ b
    int_le-le a b e = grind (arith, ints)

after_less : (a b : ℤ) → int_cmp a b ≡ Less → a <ℤ b
after_less a b e = grind (arith, ints)

ascending_cuts : (b e : ℤ) (cs : List ℤ) → Ascends int_cmp cs → ((c : ℤ) → In c cs → (b <ℤ c) × (c ≤ℤ e)) → AreCuts b e cs
ascending_cuts b e [] up h = tt
ascending_cuts b e (c ∷ cs) up h =
    let here = h c (inl refl) in
    (here.0, here.1, ascending_cuts c e cs up.1 (λ d m. (after_less c d ((AllAfter-In int_cmp c cs).0 up.0 d m), (h d (inr m)).1)))

pub cuts_inside : (commalist : List ℕ) (scalars : List Expr) (row : Row) (a : ℕ) → AreCuts (span_of (value_at row a)).0 (span_of (value_at row a)).1 (cuts_of_all commalist scalars row a)
cuts_inside commalist scalars row a =
    let i : Span = span_of (value_at row a) in
    let all : List ℤ = flat_map (λ e. cuts commalist a e row) scalars in
    ascending_cuts i.0 i.1 (cuts_of_all commalist scalars row a) (Ascends-in_order int_cmp int_cmp_total int_cmp-IsAntisymmetric (filter (is_inside i) all)) (λ c m.
    inside_less i c ((In-filter (is_inside i) c all).0 ((In-in_order int_cmp int_cmp_total int_cmp-IsAntisymmetric c (filter (is_inside i) all)).0 m)).1)

-- ---- an interval has a point

pub some_point : (t : AnyType) (v : Value) → IsTrue (fits (SpanOf t) v) → (span_of v).0 ≤ℤ (span_of v).1
some_point t (truth b) h = absurd cc
some_point t (text bytes) h = absurd cc
some_point t (point l p) h = absurd cc
some_point t (interval l i) h =
    let w = and_parts (same_line l _) (is_interval t i) h in
    let v = and_parts (is_number t i.0) (is_number t i.1 && int_le i.0 i.1) w.1 in
    let u = and_parts (is_number t i.1) (int_le i.0 i.1) v.1 in
    int_le-le i.0 i.1 u.1
  where
    int_le-le : (a b : ℤ) → int_le a b ≡ true → a ≤ℤ b
    int_le-le a b e = grind (arith, ints)

-- ---- the row of a number and its sides

module _ (commalist : List ℕ) (rows : List Row) (boxes : List (Row × List (AnyPoint × AnyPoint))) (row : ℕ) (h : AreBoxed commalist rows boxes row) where
  abbrev pub own : Row
  own = get_or rows row []

  abbrev pub sides : List (AnyPoint × AnyPoint)
  sides = (get_or boxes row ([], [])).1

  pub sides_there : box_numbers number sides ≡ spans_at commalist own
  sides_there =
      let many : length boxes ≡ length rows = sym (length-map boxes (row_numbers number)) ∙ ap length h.same ∙ length-map rows (boxed commalist) in
      let below = h.below in
      let one : row_numbers number (get_or boxes row ([], [])) ≡ boxed commalist own =
      sym (get_or-map (row_numbers number) boxes row ([], []) ([], []) (omega (arith, many, below))) ∙ ap (λ (xs : List (Boxed Row)). get_or xs row ([], [])) h.same ∙ get_or-map (boxed commalist) rows row [] ([], []) below in
      ap (λ (x : Boxed Row). x.1) one

  pub side_there : (side : ℕ) (d : AnyPoint × AnyPoint) → side < length sides → numbers_of number (get_or sides side d) ≡ span_of (value_at own (slice_index commalist side))
  side_there side d l =
      let e = sides_there in
      let count : length sides ≡ length commalist = sym (length-map sides (numbers_of number)) ∙ ap length e ∙ length-map commalist (λ i. span_of (value_at own i)) in
      let z : Span = numbers_of number d in
      sym (get_or-map (numbers_of number) sides side d z l) ∙ ap (λ (is : List Span). get_or is side z) e ∙ get_or-map (λ i. span_of (value_at own i)) commalist side 0 z (omega (arith, l, count))

  pub own_fits : IsTrue (fits_heading h.heading own)
  own_fits = h.fitting row [] h.below

  some_there : (a : ℕ) → IsTrue (among commalist a) → (span_of (value_at own a)).0 ≤ℤ (span_of (value_at own a)).1
  some_there a m = some_point (type_of (kind_at h.heading a)) (value_at own a) (span_fits h.heading commalist h.intervals own own_fits a m)

  pub ordered_there : (side : ℕ) (d : AnyPoint × AnyPoint) → side < length sides → number (get_or sides side d).0 ≤ℤ number (get_or sides side d).1
  ordered_there side d l =
      let e = sides_there in
      let count : length sides ≡ length commalist = sym (length-map sides (numbers_of number)) ∙ ap length e ∙ length-map commalist (λ i. span_of (value_at own i)) in
      subst (λ (i : Span). i.0 ≤ℤ i.1) (sym (side_there side d l)) (some_there (slice_index commalist side) (place_listed commalist side (omega (arith, l, count))))

  pub inside_there : (scalars : List Expr) (side : ℕ) (d : AnyPoint × AnyPoint) → side < length sides
      → AreCuts (number (get_or sides side d).0) (number (get_or sides side d).1) (swept_cuts commalist scalars rows row side)
  inside_there scalars side d l =
      subst (λ (i : Span). AreCuts i.0 i.1 (swept_cuts commalist scalars rows row side)) (sym (side_there side d l)) (cuts_inside commalist scalars own (slice_index commalist side))

  pub inside_from : (scalars : List Expr) → AreCutsFrom (swept_cuts commalist scalars rows row) 0 (box_numbers number sides)
  inside_from scalars = are_cuts number (swept_cuts commalist scalars rows row) sides 0 (λ i r d l z.
      let q : i ≡ r = omega (arith, z) in
      (ordered_there i d l, subst (λ k. AreCuts (number (get_or sides i d).0) (number (get_or sides i d).1) (swept_cuts commalist scalars rows row k)) q (inside_there scalars i d l)))
